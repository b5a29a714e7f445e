-- Tags: the bytes that begin one, the tables' tags by computation, and the tag at an offset by the code's tests. Assumes nothing.
use Prim.Native.Nat.{ℕ, ◌+◌, ◌≤◌, ◌<◌}
use mathlib.Core.Path.{◌≡◌, refl, sym, ap, ap₂, ◌∙◌}
use mathlib.Core.Bool.{Bool, true, false, cond, not, ◌&&◌, ◌||◌, and-false, true≢false}
use mathlib.Core.Logic.{inl, inr}
use mathlib.Core.List.{List, [], ◌∷◌, ◌++◌}
use native.Mathlib.Omega.{arith}
use lib.ListN.{length, get_or, drop, drop_of_length-le}
use lib.Seq.{drop-append_seam}
use lib.Dec.{ltb, eqb}
use borrow.Author.Tests.{lt-ltb, ne_eqb, eqb-true, eqb-false, ltb-true, not-true}
use Rattle.laws.specs.Tests.{all_below}
use Rattle.laws.proofs.Cases.{which, and-true, either, or_right}
use Rattle.laws.proofs.Turns.{from_one}
use Rattle.kinds.specs.Tables.{Table, table}
use Rattle.kinds.proofs.Every.{of-every, of-every-kind}
use Rattle.container.specs.Container.{tag_bytes, long, has}
use Rattle.container.specs.Reading.{tag_here}
use Rattle.container.specs.InOrder.{IsTag, of_table, a_byte}
use Rattle.container.proofs.Walking.{Distinct}

-- no table has a tag twice
abbrev apart : Table → Bool
apart [] = true
apart (r ∷ rs) = cond (has r.tag rs) false (apart rs)

apart_distinct : (rs : Table) → apart rs ≡ true → Distinct rs
apart_distinct [] p = tt
apart_distinct (r ∷ rs) p =
    elim (which (has r.tag rs)) [
      | inl e ↦ absurd (true≢false (sym (rw e at p)))
      | inr e ↦ (e, apart_distinct rs (rw e at p))
    ]

pub distinct : (kind : ℕ) → Distinct (table kind)
unfolding all_below
distinct kind = apart_distinct (table kind) (of-every apart refl kind)

-- ---- a tag that a table may have: one byte but 5F, or 5F2F

pub data Plain (all : Table) (u : ℕ) : Type 0 where
  short : u < 256 → (u ≡ 0x5F → ⊥) → Plain all u
  double : u ≡ 0x5F2F → has 0x5F2F all ≡ true → Plain all u

pub plain-small : {all : Table} {t : ℕ} → Plain all t → t < 65536
plain-small (short h k) = omega arith
plain-small (double e h) = omega arith

abbrev pub Tags : Table → Table → Type 0
Tags all [] = Unit {0}
Tags all (r ∷ rs) = Plain all r.tag × Tags all rs

abbrev plain_tag : Table → ℕ → Bool
plain_tag all u = (ltb u 256 && not (eqb u 0x5F)) || (eqb u 0x5F2F && has 0x5F2F all)

abbrev plain : Table → Table → Bool
plain all [] = true
plain all (r ∷ rs) = plain_tag all r.tag && plain all rs

plain-tag : (all : Table) (u : ℕ) → plain_tag all u ≡ true → Plain all u
plain-tag all u e =
    either (ltb u 256 && not (eqb u 0x5F)) (eqb u 0x5F2F && has 0x5F2F all)
    (λ a. let b = and-true (ltb u 256) (not (eqb u 0x5F)) a in short (ltb-true _ _ b.0) (eqb-false _ _ (not-true _ b.1)))
    (λ a. let b = and-true (eqb u 0x5F2F) (has 0x5F2F all) a in double (eqb-true _ _ b.0) b.1)
    e

plain-tags : (all rs : Table) → plain all rs ≡ true → Tags all rs
plain-tags all [] p = tt
plain-tags all (r ∷ rs) p =
    let q = and-true (plain_tag all r.tag) (plain all rs) p in
    (plain-tag all r.tag q.0, plain-tags all rs q.1)

pub tags : (kind : ℕ) → Tags (table kind) (table kind)
unfolding all_below
tags kind = plain-tags (table kind) (table kind) (of-every (λ rs. plain rs rs) refl kind)

-- ---- bytes that begin a tag

-- a byte is the front of its tag's bytes
one_byte : (b : ℕ) (s : List ℕ) → b < 256 → b ∷ s ≡ tag_bytes b ++ drop (long b) (b ∷ s)
one_byte b s h = simp (lt-ltb b 256 h)

pub tag_is : (all : Table) (b : ℕ) (s : List ℕ) → b < 256 → b ∷ s ≡ tag_bytes (tag_here all b s) ++ drop (long (tag_here all b s)) (b ∷ s)
tag_is all b [] h = one_byte b [] h
tag_is all b (x ∷ s) h =
    elim (which (has 0x5F2F all)) [
      | inl p ↦
          elim (which (eqb b 0x5F)) [
            | inl q ↦
                elim (which (eqb x 0x2F)) [
                  | inl r ↦ rw (p, q, r) (ap₂ (λ (y z : ℕ). y ∷ (z ∷ s)) (eqb-true b 0x5F q) (eqb-true x 0x2F r))
                  | inr r ↦ rw (p, q, r) (one_byte b (x ∷ s) h)
                ]
            | inr q ↦ rw (p, q) (one_byte b (x ∷ s) h)
          ]
      | inr p ↦ rw p (one_byte b (x ∷ s) h)
    ]

-- a tag's bytes begin with a byte that begins it
pub record Begins (all : Table) (u : ℕ) (s : List ℕ) : Type 0 where
  pub first : ℕ
  pub then : List ℕ
  pub bytes : tag_bytes u ++ s ≡ first ∷ then
  pub tag : tag_here all first then ≡ u

alone-here : (all : Table) (u : ℕ) (s : List ℕ) → (u ≡ 0x5F → ⊥) → tag_here all u s ≡ u
alone-here all u [] h = refl
alone-here all u (x ∷ s) h = simp (ne_eqb u 0x5F h, and-false)

pub begins : (all : Table) (u : ℕ) (s : List ℕ) → Plain all u → Begins all u s
begins all u s (short h k) = record { first = u; then = s; bytes = simp (lt-ltb u 256 h); tag = alone-here all u s k }
begins all u s (double e h) = record { first = 0x5F; then = 0x2F ∷ s; bytes = rw e; tag = rw h (sym e) }

-- ---- the tag that stands at the front of some bytes is the one that is read there

pub has-plain : (all rs : Table) (t : ℕ) → Tags all rs → has t rs ≡ true → Plain all t
has-plain all [] t p h = absurd (true≢false (sym h))
has-plain all (r ∷ rs) t p h =
    elim (which (eqb t r.tag)) [
      | inl q ↦ rw (eqb-true t r.tag q) p.0
      | inr q ↦ has-plain all rs t p.1 (rw q at h)
    ]

-- what the table has not is one byte
lone : (all : Table) (b : ℕ) (s : List ℕ) → has (tag_here all b s) all ≡ false → tag_here all b s ≡ b
lone all b [] h = refl
lone all b (x ∷ s) h =
    elim (which (has 0x5F2F all && (eqb b 0x5F && eqb x 0x2F))) [
      | inl q ↦ absurd (true≢false (sym (and-true (has 0x5F2F all) _ q).0 ∙ rw q at h))
      | inr q ↦ rw q
    ]

pub no-tag : (all : Table) (t : ℕ) (r : List ℕ) → Tags all all → IsTag all [] t r → ⊥
no-tag all t r p (of_table h e) =
    let z : ◌≡◌ {A = ℕ} 0 1 = (let g = e ∙ (begins all t r (has-plain all all t p h)).bytes in cc) in
    omega arith
no-tag all t r p (a_byte e n) = let z : ◌≡◌ {A = ℕ} 0 1 = cc in omega arith

module _ (all : Table) (p : Tags all all) (b : ℕ) (s : List ℕ) (k : b < 256) where
  abbrev here : ℕ
  here = tag_here all b s

  in_table : (t : ℕ) (r : List ℕ) → has t all ≡ true → b ∷ s ≡ tag_bytes t ++ r → here ≡ t
  in_table t r h e =
      let g = begins all t r (has-plain all all t p h) in
      let q : b ∷ s ≡ g.first ∷ g.then = e ∙ g.bytes in
      let x : b ≡ g.first = cc in
      let y : s ≡ g.then = cc in
      ap₂ (tag_here all) x y ∙ g.tag

  pub tag_read : (t : ℕ) (r : List ℕ) → IsTag all (b ∷ s) t r → (t ≡ here) × (r ≡ drop (long here) (b ∷ s))
  tag_read t r (of_table h e) =
      let q = in_table t r h e in
      (sym q, sym (ap (λ (u : ℕ). drop (long u) (b ∷ s)) q ∙ ap (drop (long t)) e ∙ drop-append_seam (tag_bytes t) r))
  tag_read t r (a_byte e n) =
      elim (which (has here all)) [
        | inl h ↦ absurd (n here _ h (tag_is all b s k))
        | inr h ↦
            let q = lone all b s h in
            let x : b ≡ t = cc in
            let y : s ≡ r = cc in
            (sym x ∙ sym q, rw q (simp (lt-ltb b 256 k) (sym y)))
      ]

  pub tag-stands : IsTag all (b ∷ s) here (drop (long here) (b ∷ s))
  tag-stands =
      elim (which (has here all)) [
        | inl h ↦ of_table h (tag_is all b s k)
        | inr h ↦
            let q = lone all b s h in
            a_byte (rw q (simp (lt-ltb b 256 k) refl)) (λ u r g e. true≢false (sym g ∙ rw (in_table u r g e) at h))
      ]

-- ---- the tag at an offset, by the tests that the code makes

-- one table alone has the long tag
no-long : (kind : ℕ) → (kind ≡ 3 → ⊥) → has 0x5F2F (table kind) ≡ false
unfolding all_below
no-long kind h =
    let t = of-every-kind (λ k rs. eqb k 3 || not (has 0x5F2F rs)) refl (λ k. or_right (eqb k 3) true refl) kind in
    not-true _ (rw (ne_eqb kind 3 h) at t)

module _ (kind : ℕ) (c : List ℕ) (at : ℕ) {one : ℕ} (e : one ≡ get_or c at 0) where
  pub other-kind : (kind ≡ 3 → ⊥) → one ≡ tag_here (table kind) (get_or c at 0) (drop (at + 1) c)
  other-kind h = go (drop (at + 1) c)
    where
      go : (s : List ℕ) → one ≡ tag_here (table kind) (get_or c at 0) s
      go [] = e
      go (x ∷ s) = rw (no-long kind h) e

  pub other-first : (one ≡ 0x5F → ⊥) → one ≡ tag_here (table kind) (get_or c at 0) (drop (at + 1) c)
  other-first h = e ∙ sym (alone-here (table kind) (get_or c at 0) (drop (at + 1) c) (λ q. h (e ∙ q)))

  pub alone : length c ≤ at + 1 → one ≡ tag_here (table kind) (get_or c at 0) (drop (at + 1) c)
  alone h = rw (drop_of_length-le c h) e

  pub other-second : at + 1 < length c → (get_or c (at + 1) 0 ≡ 0x2F → ⊥) → one ≡ tag_here (table kind) (get_or c at 0) (drop (at + 1) c)
  other-second h k = rw (from_one c (at + 1) h) (simp (ne_eqb _ 0x2F k, and-false) e)

  pub long-tag : kind ≡ 3 → one ≡ 0x5F → at + 1 < length c → get_or c (at + 1) 0 ≡ 0x2F → 0x5F2F ≡ tag_here (table kind) (get_or c at 0) (drop (at + 1) c)
  long-tag p q h k = rw (from_one c (at + 1) h, p, k, ← e, q)
