-- The first broken rule is the only one that can be named: bytes of which it is the first are read as that fault, at that place and with that tag. Assumes nothing.
use Prim.Native.Nat.{ℕ, ◌+◌, ◌≤◌}
use mathlib.Core.Logic.{◌⊎◌, inl, inr, ◌↔◌}
use mathlib.Core.Path.{◌≡◌, refl, sym, ap, subst, ◌∙◌}
use mathlib.Core.Bool.{true, false, cond, true≢false}
use mathlib.Core.Option.{Option, none, some}
use mathlib.Core.List.{List, [], ◌∷◌, ◌++◌, append_assoc}
use native.Mathlib.Omega.{arith}
use lib.ListN.{length, take, drop, length-append, take-append-drop}
use lib.Dec.{eqb}
use borrow.Author.Tests.{lt-leb, le-leb, eq-eqb, ne_eqb, eqb-true, eqb-false}
use Rattle.laws.specs.Bytes.{Bytes}
use Rattle.laws.proofs.Bases.{below-drop}
use Rattle.laws.proofs.Cases.{which, not_so}
use Rattle.dates.specs.Date.{IsDate, is_date}
use Rattle.dates.proofs.Dates.{date-exact}
use Rattle.kinds.specs.Tables.{Entry, Table, table, IsKind, is_kind}
use Rattle.verdicts.specs.Verdicts.{Tag, found}
use Rattle.verdicts.specs.declared.Finding.{Finding}
use Rattle.verdicts.specs.declared.Fault.{Fault}
use Rattle.verdicts.specs.declared.Fault.TheVariants.{UnknownTag, TagOrder, MissingRow}
use Rattle.container.specs.Container.{Values, Spellings, tag_bytes, long, has, spelled, outer_tag, Allowed, Formed, Conforms, largest}
use Rattle.container.specs.Reading.{Parsed, fault, prepend, broken, element, tag_here, parse, outer, located, parsed}
use Rattle.container.specs.InOrder.{Owed, AtFault, not_in_table, not_to_come, passed_over, in_row, Wrong, at_end, at_element, LastThere, First, Named, no_kind, no_date, too_large, at_outer_tag, at_outer_length, at_outer_end, in_element}
use Rattle.container.proofs.Walking.{Distinct, gone}
use Rattle.container.proofs.Tags.{Tags, tags, distinct, begins, no-tag, tag_read}
use Rattle.container.proofs.One.{fits-good}
use Rattle.container.proofs.Exact.{Apart, skips, part_at, takes, bytes-front, bytes_back, element-length, no-values}
use Rattle.container.proofs.Faults.{length-read, none_read, faulty-exact}
use Rattle.container.proofs.Promise.{kind-exact, exact, named}
use Rattle.std.specs.Prelude.{Some, None}

-- a mandatory row is not the optional one
pub later : (r : Entry) (rs : Table) → r.optional ≡ true → Owed (r ∷ rs) → Owed rs
later r rs o (inl n) = absurd (true≢false (sym o ∙ n))
later r rs o (inr h) = h

pub has-mid : (before : Table) (r : Entry) (after : Table) → has r.tag (before ++ (r ∷ after)) ≡ true
has-mid [] r after = rw (eq-eqb r.tag r.tag refl)
has-mid (x ∷ xs) r after = elim (which (eqb r.tag x.tag)) [
  | inl q ↦ rw q
  | inr q ↦ rw q (has-mid xs r after)
]

module _ (today : ℕ) (all : Table) where
  -- at the end of the bytes
  owing : (rest : Table) (at : ℕ) → Owed rest → parse today all rest at [] ≡ fault (found MissingRow at None)
  owing [] at h = absurd h
  owing (r ∷ rs) at h = elim (which r.optional) [
    | inl o ↦ rw o (ap (prepend none) (owing rs at (later r rs o h)))
    | inr o ↦ rw o
  ]

  -- up to the row of an element's tag: a mandatory row is missing there, or the element is at fault
  module _ (f : Fault) (at b : ℕ) (s : List ℕ) (r : Entry) (after : Table) (z : tag_here all b s ≡ r.tag) where
    abbrev Stops : Table → Type 0
    Stops before = (Owed before × (f ≡ MissingRow)) ⊎ ((Owed before → ⊥) × (element r.lengths r.rule today (drop (long r.tag) (b ∷ s)) ≡ broken f))

    onward : (x : Entry) (xs : Table) → x.optional ≡ true → Stops (x ∷ xs) → Stops xs
    onward x xs o (inl (w, e)) = inl (later x xs o w, e)
    onward x xs o (inr (n, e)) = inr (λ w. n (inr w), e)

    owed : (x : Entry) (xs : Table) → x.optional ≡ false → Stops (x ∷ xs) → f ≡ MissingRow
    owed x xs o (inl (w, e)) = e
    owed x xs o (inr (n, e)) = absurd (n (inl o))

    to_row : (before : Table) → Distinct (before ++ (r ∷ after)) → Stops before
        → parse today all (before ++ (r ∷ after)) at (b ∷ s) ≡ fault (found f at (Some (tag_here all b s)))
    to_row [] d (inl (w, e)) = absurd w
    to_row [] d (inr (n, e)) = rw (eq-eqb _ _ z, e, z)
    to_row (x ∷ xs) d c =
        let h : has (tag_here all b s) (xs ++ (r ∷ after)) ≡ true = rw z (has-mid xs r after) in
        elim (which (eqb (tag_here all b s) x.tag)) [
          | inl q ↦ absurd (true≢false (sym h ∙ rw (eqb-true (tag_here all b s) x.tag q) d.0))
          | inr q ↦
              elim (which x.optional) [
                | inl o ↦ rw (q, o) (ap (prepend none) (to_row xs d.1 (onward x xs o c)))
                | inr o ↦ rw (q, o, h, owed x xs o c)
              ]
        ]

  module _ (f : Fault) where
    none-to-come : (rest : Table) (at b : ℕ) (s : List ℕ) → has (tag_here all b s) rest ≡ false → f ≡ cond (has (tag_here all b s) all) TagOrder UnknownTag
        → parse today all rest at (b ∷ s) ≡ fault (found f at (Some (tag_here all b s)))
    none-to-come rest at b s h e = gone today all at b s rest h ∙ ap (λ (g : Fault). fault (found g at (Some (tag_here all b s)))) (sym e)

    faulted : (rest : Table) (at b : ℕ) (s : List ℕ) → Bytes (b ∷ s) → Distinct rest → ((t : ℕ) → has t all ≡ false → has t rest ≡ false)
        → AtFault today all rest (tag_here all b s) (drop (long (tag_here all b s)) (b ∷ s)) f → parse today all rest at (b ∷ s) ≡ fault (found f at (Some (tag_here all b s)))
    faulted rest at b s u d k (not_in_table h e) = none-to-come rest at b s (k _ h) (rw h e)
    faulted rest at b s u d k (not_to_come h g e) = none-to-come rest at b s g (rw h e)
    faulted rest at b s u d k (passed_over before r after q z w e) =
        rw q (to_row f at b s r after z before (rw q at d) (inl (w, e)))
    faulted rest at b s u d k (in_row before r after q z n w) =
        let g = (faulty-exact r.lengths r.rule today (drop (long r.tag) (b ∷ s)) (below-drop 256 (long r.tag) (b ∷ s) u) f).1 (rw z at w) in
        rw q (to_row f at b s r after z before (rw q at d) (inr (n, g)))

    here : (p : Tags all all) (rest : Table) (at : ℕ) (s : List ℕ) → Bytes s → Distinct rest → ((t : ℕ) → has t all ≡ false → has t rest ≡ false)
        → {tag : Tag} → Wrong today all rest s f tag → parse today all rest at s ≡ fault (found f at tag)
    here p rest at s u d k (at_end e w m z) = rw (e, m, z) (owing rest at w)
    here p rest at [] u d k (at_element t r i w z) = absurd (no-tag all t r p i)
    here p rest at (b ∷ s) u d k (at_element t r i w z) =
        let x = tag_read all p b s u.0 t r i in
        rw (z, x.0) (faulted rest at b s u d k (rw (x.1, x.0) at w))

    -- elements of other rows begin with another tag
    other : (u : ℕ) (rows later : Table) (o : Option (List ℕ)) (vs : Values) (ps : Spellings) (t : List ℕ) → Tags all rows → has u (rows ++ later) ≡ false
        → Allowed today rows (o ∷ vs) → Formed (o ∷ vs) ps → LastThere (o ∷ vs) → Apart today all u (spelled rows (o ∷ vs) ps ++ t)
    other u rows later o vs [] t p h a g l = absurd g
    other u [] later o vs (f ∷ ps) t p h a g l = absurd a
    other u (r ∷ rs) later none [] (f ∷ ps) t p h a g l = absurd l
    other u (r ∷ rs) later none (o ∷ vs) (f ∷ ps) t p h a g l =
        elim (which (eqb u r.tag)) [
          | inl q ↦ absurd (true≢false (rw q at h))
          | inr q ↦ other u rs later o vs ps t p.1 (rw q at h) a.1 g.1 l
        ]
    other u (r ∷ rs) later (some v) vs (f ∷ ps) t p h a g l =
        elim (which (eqb u r.tag)) [
          | inl q ↦ absurd (true≢false (rw q at h))
          | inr q ↦
              let x = f ++ (v ++ spelled rs vs ps) in
              let g = begins all r.tag (x ++ t) p.0 in
              rw (append_assoc (tag_bytes r.tag) x t, g.bytes, g.tag) (ne_eqb r.tag u (λ e. eqb-false _ _ q (sym e)))
        ]

    back : (all-tags : Tags all all) (rows later : Table) (vs : Values) (ps : Spellings) (at : ℕ) (t : List ℕ) {tag : Tag} → Tags all rows → Distinct (rows ++ later)
        → ((t : ℕ) → has t all ≡ false → has t later ≡ false) → Allowed today rows vs → Formed vs ps → LastThere vs → Bytes (spelled rows vs ps ++ t) → Wrong today all later t f tag
        → parse today all (rows ++ later) at (spelled rows vs ps ++ t) ≡ fault (found f (at + length (spelled rows vs ps)) tag)
    back all-tags [] later [] ps at t p d k a g l b w =
        let z : at + 0 ≡ at = omega arith in
        rw z (here all-tags later at t b d k w)
    back all-tags [] later (o ∷ vs) ps at t p d k a g l b w = absurd a
    back all-tags (r ∷ rs) later [] ps at t p d k a g l b w = absurd a
    back all-tags (r ∷ rs) later (o ∷ vs) [] at t p d k a g l b w = absurd g
    back all-tags (r ∷ rs) later (none ∷ []) (q ∷ ps) at t p d k a g l b w = absurd l
    back all-tags (r ∷ rs) later (none ∷ o ∷ vs) (q ∷ ps) at t p d k a g l b w =
        skips today all r (rs ++ later) at (spelled rs (o ∷ vs) ps ++ t) a.0 (other r.tag rs later o vs ps t p.1 d.0 a.1 g.1 l)
        ∙ ap (prepend none) (back all-tags rs later (o ∷ vs) ps at t p.1 d.1 k a.1 g.1 l b w)
    back all-tags (r ∷ rs) later (some v ∷ vs) (q ∷ ps) at t p d k a g l b w =
        let rest = spelled rs vs ps in
        let e : (tag_bytes r.tag ++ (q ++ (v ++ rest))) ++ t ≡ tag_bytes r.tag ++ (q ++ (v ++ (rest ++ t))) =
        append_assoc (tag_bytes r.tag) (q ++ (v ++ rest)) t ∙ rw (append_assoc q (v ++ rest) t, append_assoc v rest t) in
        let b₁ : Bytes (v ++ (rest ++ t)) = bytes_back q (v ++ (rest ++ t)) (bytes_back (tag_bytes r.tag) (q ++ (v ++ (rest ++ t))) (rw e at b)) in
        let z : at + length (tag_bytes r.tag ++ (q ++ (v ++ rest))) ≡ at + long r.tag + (length q + length v) + length rest = omega (arith, element-length r.tag q v rest) in
        rw (e, z)
        (takes today all r (rs ++ later) at q v (rest ++ t) p.0 g.0 (fits-good today r v (bytes-front v (rest ++ t) b₁) a.0)
        ∙ ap (prepend (part_at (at + long r.tag) q v)) (back all-tags rs later vs ps (at + long r.tag + (length q + length v)) t p.1 d.1 k a.1 g.1 l (bytes_back v (rest ++ t) b₁) w))

-- ---- rows before and after

tags-front : (all rows later : Table) → Tags all (rows ++ later) → Tags all rows
tags-front all [] later p = tt
tags-front all (r ∷ rs) later p = (p.0, tags-front all rs later p.1)

has-later : (t : ℕ) (rows later : Table) → has t (rows ++ later) ≡ false → has t later ≡ false
has-later t [] later h = h
has-later t (r ∷ rs) later h =
    elim (which (eqb t r.tag)) [
      | inl q ↦ absurd (true≢false (rw q at h))
      | inr q ↦ has-later t rs later (rw q at h)
    ]

-- ---- the theorem

module _ (kind today : ℕ) (f : Finding) where
  in-elements : (at : ℕ) (s : List ℕ) → Bytes s → First today (table kind) (table kind) at s f → parse today (table kind) (table kind) at s ≡ fault f
  in-elements at s b h =
      let e = spelled h.rows h.vs h.ps in
      let t = drop (length e) s in
      let q : s ≡ e ++ t = sym (take-append-drop (length e) s) ∙ ap (λ (x : List ℕ). x ++ t) h.written in
      let d : Distinct (h.rows ++ h.later) = rw h.split at (distinct kind) in
      let g : Tags (table kind) h.rows = tags-front (table kind) h.rows h.later (subst (Tags (table kind)) h.split (tags kind)) in
      ap (λ (x : Table). parse today (table kind) x at s) h.split
      ∙ ap (parse today (table kind) (h.rows ++ h.later) at) q
      ∙ back today (table kind) f.fault (tags kind) h.rows h.later h.vs h.ps at t g d (λ u z. has-later u h.rows h.later (sym (ap (has u) h.split) ∙ z)) h.allowed h.formed h.last
      (rw q at b) h.wrong
      ∙ ap (λ (p : ℕ). fault (found f.fault p f.tag)) (sym h.place_is)

  passed : (c : List ℕ) → IsKind kind → IsDate today → length c ≤ largest → outer kind today c ≡ fault f → parsed kind today c ≡ fault f
  unfolding parsed located
  passed c k d l e = rw ((kind-exact kind).1 k, (date-exact today).1 d, le-leb _ _ l, e)

  no_start : {x : ℕ} → [] ≡ x ∷ [] → ⊥
  no_start e = let z : ◌≡◌ {A = ℕ} 0 1 = cc in omega arith

  tag_of : (t : ℕ) (s : List ℕ) → take 1 (t ∷ s) ≡ outer_tag kind ∷ [] → t ≡ outer_tag kind
  tag_of t s e = cc

  pub named_back : (c : List ℕ) → Bytes c → Named kind today c f → parsed kind today c ≡ fault f
  unfolding parsed located
  named_back c b (no_kind h e) = rw (not_so (is_kind kind) (λ k. h ((kind-exact kind).0 k)), e)
  named_back c b (no_date k h e) = rw ((kind-exact kind).1 k, not_so (is_date today) (λ d. h ((date-exact today).0 d)), e)
  named_back c b (too_large k d l e) = rw ((kind-exact kind).1 k, (date-exact today).1 d, lt-leb _ _ l, e)
  named_back [] b (at_outer_tag k d l h e) = passed [] k d l (rw e)
  named_back (t ∷ s) b (at_outer_tag k d l h e) = passed (t ∷ s) k d l (rw (ne_eqb t (outer_tag kind) (λ q. h (ap (λ (x : ℕ). x ∷ []) q)), e))
  named_back [] b (at_outer_length k d l h r e) = absurd (no_start h)
  named_back (t ∷ s) b (at_outer_length k d l h r e) = passed (t ∷ s) k d l (rw (eq-eqb t (outer_tag kind) (tag_of t s h), (none_read s b.1).1 r, e))
  named_back [] b (at_outer_end k d l h p n r c m e) = absurd (no_start h)
  named_back (t ∷ s) b (at_outer_end k d l h p n r c m e) =
      passed (t ∷ s) k d l (rw (eq-eqb t (outer_tag kind) (tag_of t s h), (length-read p n r c).0, ne_eqb (length s) (length p + n) (λ q. m (omega (arith, q, ap length c.1, length-append p r))), e))
  named_back [] b (in_element k d l h p n r c m w) = absurd (no_start h)
  named_back (t ∷ s) b (in_element k d l h p n r c m w) =
      let y = length-read p n r c in
      passed (t ∷ s) k d l
      (rw (eq-eqb t (outer_tag kind) (tag_of t s h), y.0, eq-eqb (length s) (length p + n) (omega (arith, ap length c.1, length-append p r)), y.1)
      (in-elements (1 + length p) r (bytes_back p r (rw c.1 at b.1)) w))

-- a fault is read exactly where it is the first that is broken
pub named-exact : (kind today : ℕ) (c : List ℕ) → Bytes c → (f : Finding) → (parsed kind today c ≡ fault f) ↔ Named kind today c f
named-exact kind today c b f = (named kind today c b f, named_back kind today f c b)

-- so there is only one, and none where the container conforms
module _ {kind today : ℕ} {c : List ℕ} (b : Bytes c) where
  pub one-finding : {f g : Finding} → Named kind today c f → Named kind today c g → f ≡ g
  one-finding {f} {g} n m = go (sym (named_back kind today f c b n) ∙ named_back kind today g c b m)
    where
      go : {f g : Finding} → ◌≡◌ {A = Parsed (List ℕ)} (fault f) (fault g) → f ≡ g
      go e = cc

  pub not_named : {f : Finding} {vs : Values} → Named kind today c f → Conforms kind today vs c → ⊥
  not_named {f} {vs} n h = no-values (sym (named_back kind today f c b n) ∙ (exact kind today c b vs).1 h)
