-- 2026-02: the tag of the first broken rule is the one that stands at its place; there is none exactly where the place is 0 or the container's end; and a
-- tag has one byte or two. Assumes nothing.
use Prim.Native.Nat.{ℕ, ◌+◌, ◌<◌}
use mathlib.Core.Logic.{◌⊎◌, inl, inr, ◌↔◌}
use mathlib.Core.Path.{◌≡◌, sym, ap, ◌∙◌}
use mathlib.Core.List.{List, [], ◌∷◌, ◌++◌}
use native.Mathlib.Omega.{arith}
use lib.ListN.{length, take, drop, length-append, length-take, length-drop}
use lib.Seq.{drop-drop, drop-append_seam, take-append_seam}
use borrow.Author.Tests.{lt-ltb}
use Rattle.laws.specs.Bytes.{Bytes}
use Rattle.laws.proofs.Bases.{below-drop}
use Rattle.kinds.specs.Tables.{Table, table}
use Rattle.verdicts.specs.Verdicts.{outright}
use Rattle.verdicts.proofs.Apart.{not-both, untagged}
use Rattle.verdicts.specs.declared.Fault.{Fault}
use Rattle.verdicts.specs.declared.Finding.{Finding}
use Rattle.container.specs.Container.{tag_bytes, long, spelled}
use Rattle.container.specs.InOrder.{IsTag, of_table, a_byte, at_end, at_element, First, Named, no_kind, no_date, too_large, at_outer_tag, at_outer_length, at_outer_end, in_element}
use Rattle.container.proofs.Tags.{Tags, tags, plain-small, has-plain, no-tag}
use Rattle.std.specs.Prelude.{Some, None}

-- ---- a tag that stands at the front of some bytes

stands_at : {all : Table} {s : List ℕ} {t : ℕ} {r : List ℕ} → Bytes s → IsTag all s t r → s ≡ tag_bytes t ++ r
stands_at b (of_table h e) = e
stands_at {t = t} {r} b (a_byte e n) = let k : t < 256 = (rw e at b).0 in e ∙ simp (lt-ltb t 256 k)

small : (all : Table) → Tags all all → {s : List ℕ} {t : ℕ} {r : List ℕ} → Bytes s → IsTag all s t r → t < 65536
small all p {t = t} b (of_table h e) = plain-small (has-plain all all t p h)
small all p {t = t} b (a_byte e n) = let k : t < 256 = (rw e at b).0 in omega arith

not-empty : (all : Table) → Tags all all → (s : List ℕ) {t : ℕ} {r : List ℕ} → IsTag all s t r → 0 < length s
not-empty all p [] {t} {r} i = absurd (no-tag all t r p i)
not-empty all p (x ∷ s) i = omega arith

-- ---- in the bytes of a container, whose elements are the bytes r

module _ (c p r : List ℕ) (i : drop 1 c ≡ p ++ r) where
  behind : (k : ℕ) → drop (1 + length p + k) c ≡ drop k r
  behind k = sym (drop-drop k (1 + length p) c) ∙ ap (drop k) (sym (drop-drop (length p) 1 c) ∙ ap (drop (length p)) i ∙ drop-append_seam p r)

  whole_length : 0 < length c → length c ≡ 1 + length p + length r
  whole_length h = omega (arith, ap length i, length-drop 1 c, length-append p r)

module _ (kind today : ℕ) (c p r : List ℕ) (i : drop 1 c ≡ p ++ r) {f : Finding} (w : First today (table kind) (table kind) (1 + length p) r f) where
  abbrev front : ℕ
  front = length (spelled w.rows w.vs w.ps)

  here : drop f.place c ≡ drop front r
  here = ap (λ (k : ℕ). drop k c) w.place_is ∙ behind c p r i front

  there : {t : ℕ} → f.tag ≡ Some t → (q : List ℕ) × IsTag (table kind) (drop front r) t q
  there {t} e = elim w.wrong [
    | at_end x o m z ↦ absurd (not-both (sym z ∙ e))
    | at_element u q s v z ↦ let y : u ≡ t = (let z' = sym z ∙ e in cc) in (q, rw y at s)
  ]

  tag-here : Bytes c → {t : ℕ} → f.tag ≡ Some t → (take (long t) (drop f.place c) ≡ tag_bytes t) × (t < 65536)
  tag-here b {t} e =
      let (q, s) = there e in
      let y : Bytes (drop front r) = rw here at (below-drop 256 f.place c b) in (
        ap (take (long t)) (here ∙ stands_at y s) ∙ take-append_seam (tag_bytes t) q,
        small (table kind) (tags kind) y s,
      )

  none_here : 0 < length c → (f.tag ≡ None) ↔ ((f.place ≡ 0) ⊎ (f.place ≡ length c))
  none_here h =
      let k = length-take front r in
      let j = ap length w.written in
      let m = whole_length c p r i h in
      elim w.wrong [
        | at_end x o g z ↦ (λ y. inr (omega (arith, ap length x, length-drop front r, w.place_is, k, j, m)), λ y. z)
        | at_element u q s v z ↦
            let l = not-empty (table kind) (tags kind) (drop front r) s in (
              λ y. absurd (not-both (sym y ∙ z)),
              λ y. elim y [
                | inl x ↦ absurd (omega (arith, w.place_is))
                | inr x ↦ absurd (omega (arith, l, length-drop front r, w.place_is, m))
              ],
            )
      ]

-- ---- the theorems

bytes-there : (c : List ℕ) {t : ℕ} → take 1 c ≡ t ∷ [] → 0 < length c
bytes-there [] e = let z : ◌≡◌ {A = ℕ} 0 1 = cc in absurd (omega arith)
bytes-there (x ∷ c) e = omega arith

module _ (kind today : ℕ) (c : List ℕ) (f : Finding) where
  -- the bytes at the place begin with the tag's bytes, of which there are one or two
  pub at_place : Bytes c → Named kind today c f → (t : ℕ) → f.tag ≡ Some t → (take (long t) (drop f.place c) ≡ tag_bytes t) × (t < 65536)
  at_place b (no_kind h e) t g = absurd (untagged e g)
  at_place b (no_date k h e) t g = absurd (untagged e g)
  at_place b (too_large k d l e) t g = absurd (untagged e g)
  at_place b (at_outer_tag k d l h e) t g = absurd (untagged e g)
  at_place b (at_outer_length k d l h n e) t g = absurd (untagged e g)
  at_place b (at_outer_end k d l h p n r i m e) t g = absurd (untagged e g)
  at_place b (in_element k d l h p n r i m w) t g = tag-here kind today c p r i.1 w b g

  -- no tag exactly where the place is 0, or where there is nothing more
  abbrev Tagless : Type 0
  Tagless = (f.tag ≡ None) ↔ ((f.place ≡ 0) ⊎ (f.place ≡ length c))

  whole : {g : Fault} → f ≡ outright g → Tagless
  whole e = (λ y. inl (ap (λ (x : Finding). x.place) e), λ y. ap (λ (x : Finding). x.tag) e)

  pub none-when : Named kind today c f → (f.tag ≡ None) ↔ ((f.place ≡ 0) ⊎ (f.place ≡ length c))
  none-when (no_kind h e) = whole e
  none-when (no_date k h e) = whole e
  none-when (too_large k d l e) = whole e
  none-when (at_outer_tag k d l h e) = whole e
  none-when (at_outer_length k d l h n e) = whole e
  none-when (at_outer_end k d l h p n r i m e) = whole e
  none-when (in_element k d l h p n r i m w) = none_here kind today c p r i.1 w (bytes-there c h)
