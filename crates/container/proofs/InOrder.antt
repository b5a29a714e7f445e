-- The fault that is read is the first broken rule: the elements before its place keep their rules, and the one there is at fault in 01's order and named by
-- its tag. Assumes nothing.
use Prim.Native.Nat.{ℕ, ◌+◌}
use mathlib.Core.Logic.{inl, inr, ⊎_elim}
use mathlib.Core.Path.{◌≡◌, refl, sym, ap, ◌∙◌}
use mathlib.Core.Bool.{true, false, cond, true≢false}
use mathlib.Core.Option.{Option, none, some}
use mathlib.Core.List.{List, [], ◌∷◌, ◌++◌}
use native.Mathlib.Omega.{arith}
use lib.ListN.{length, take, drop}
use lib.Seq.{drop-drop, take-append-add}
use lib.Dec.{eqb}
use borrow.Author.Tests.{eqb-true}
use Rattle.laws.specs.Bytes.{Bytes}
use Rattle.laws.proofs.Bases.{below-drop}
use Rattle.laws.proofs.Cases.{which}
use Rattle.kinds.specs.Tables.{Entry, Table}
use Rattle.verdicts.specs.Verdicts.{Tag, found}
use Rattle.verdicts.specs.declared.Finding.{Finding}
use Rattle.verdicts.specs.declared.Fault.{Fault}
use Rattle.verdicts.specs.declared.Fault.TheVariants.{UnknownTag, TagOrder, MissingRow}
use Rattle.container.specs.Container.{Values, tag_bytes, long, has, spelled, Allowed}
use Rattle.container.specs.Reading.{Parsed, values, fault, Part, prepend, Element, whole, broken, element, tag_here, misplaced, follow, parse}
use Rattle.container.specs.InOrder.{Owed, AtFault, not_in_table, not_to_come, passed_over, in_row, Wrong, at_end, at_element, First}
use Rattle.container.proofs.Tags.{Tags, tag_is, tag_read, tag-stands}
use Rattle.container.proofs.One.{element-is, good-fits}
use Rattle.container.proofs.Exact.{bytes-front, bytes_back, element-length}
use Rattle.container.proofs.Faults.{faulty-exact}
use Rattle.std.specs.Prelude.{Some, None}

-- ---- what is wrong where the walk over the rows stops

-- a row with this tag is among some rows
split : (t : ℕ) (rs : Table) → has t rs ≡ true → (before : Table) × (r : Entry) × (after : Table) × (rs ≡ before ++ (r ∷ after)) × (t ≡ r.tag)
split t [] h = absurd (true≢false (sym h))
split t (r ∷ rs) h =
    elim (which (eqb t r.tag)) [
      | inl q ↦ ([], r, rs, refl, eqb-true t r.tag q)
      | inr q ↦ let (before, x, after, e, z) = split t rs (rw q at h) in (r ∷ before, x, after, ap (λ (l : Table). r ∷ l) e, z)
    ]

module _ (today : ℕ) (all : Table) (t : ℕ) (s : List ℕ) where
  -- no row to come has the tag
  gone-wrong : (rest : Table) → has t rest ≡ false → AtFault today all rest t s (cond (has t all) TagOrder UnknownTag)
  gone-wrong rest h = elim (which (has t all)) [
    | inl g ↦ not_to_come g h (rw g)
    | inr g ↦ not_in_table g (rw g)
  ]

  module _ (r : Entry) (rs : Table) (q : eqb t r.tag ≡ false) where
    -- a mandatory row is passed over, or no row to come has the tag
    missing : r.optional ≡ false → AtFault today all (r ∷ rs) t s (misplaced all rs t)
    missing o = elim (which (has t rs)) [
      | inl h ↦ let (before, x, after, e, z) = split t rs h in passed_over (r ∷ before) x after (ap (λ (l : Table). r ∷ l) e) z (inl o) (rw h)
      | inr h ↦ rw h (gone-wrong (r ∷ rs) (rw q h))
    ]

    -- an optional row without an element changes nothing
    passing : r.optional ≡ true → {f : Fault} → AtFault today all rs t s f → AtFault today all (r ∷ rs) t s f
    passing o (not_in_table h e) = not_in_table h e
    passing o (not_to_come h g e) = not_to_come h (rw q g) e
    passing o (passed_over before x after e z w f) = passed_over (r ∷ before) x after (ap (λ (l : Table). r ∷ l) e) z (inr w) f
    passing o (in_row before x after e z n w) = in_row (r ∷ before) x after (ap (λ (l : Table). r ∷ l) e) z (⊎_elim (λ m. true≢false (sym o ∙ m)) n) w

-- ---- the first broken rule

fault-of : (o : Option Part) (x : Parsed Part) {f : Finding} → prepend o x ≡ fault f → x ≡ fault f
fault-of o (values vs) e = let z : ◌≡◌ {A = ℕ} 0 1 = cc in absurd (omega arith)
fault-of o (fault g) e = e

pub finding-is : {A : Type 0} {f g : Finding} → ◌≡◌ {A = Parsed A} (fault f) (fault g) → g ≡ f
finding-is e = cc

-- the fault of what stands at once
at_once : (today : ℕ) (all rest : Table) (at : ℕ) (s : List ℕ) {f : Finding} {g : Fault} {tag : Tag} → f ≡ found g at tag → Wrong today all rest s g tag
    → First today all rest at s f
at_once today all rest at s {f} {g} {tag} e w =
    let z : f.place ≡ at = ap (λ (x : Finding). x.place) e in
    let q : f.fault ≡ g = ap (λ (x : Finding). x.fault) e in
    let u : f.tag ≡ tag = ap (λ (x : Finding). x.tag) e in
    record { rows = []; later = rest; vs = []; ps = []; split = refl; allowed = tt; formed = tt; last = tt; place_is = z ∙ omega arith; written = refl; wrong = rw (q, u) w }

-- an optional row without an element
skip : (today : ℕ) (all : Table) (r : Entry) (rs : Table) (at : ℕ) (s : List ℕ) (f : Finding) → r.optional ≡ true
    → (Wrong today all rs s f.fault f.tag → Wrong today all (r ∷ rs) s f.fault f.tag) → First today all rs at s f → First today all (r ∷ rs) at s f
skip today all r rs at s f o k b = go b.rows b.vs refl refl b.allowed
  where
    go : (rows : Table) (vs : Values) → b.rows ≡ rows → b.vs ≡ vs → Allowed today rows vs → First today all (r ∷ rs) at s f
    go [] [] m n a =
        let z : f.place ≡ at + length (spelled [] [] []) = b.place_is ∙ rw m in
        let y : f.place ≡ at = omega (arith, z) in
        let e : b.later ≡ rs = sym (b.split ∙ rw m) in
        at_once today all (r ∷ rs) at s (ap (λ (n : ℕ). found f.fault n f.tag) y) (k (rw (m, e) at b.wrong))
    go [] (v ∷ vs) m n a = absurd a
    go (y ∷ ys) [] m n a = absurd a
    go (y ∷ ys) (v ∷ vs) m n a =
        record {
          rows = r ∷ b.rows;
          later = b.later;
          vs = none ∷ b.vs;
          ps = [] ∷ b.ps;
          split = ap (λ (l : Table). r ∷ l) b.split;
          allowed = (o, b.allowed);
          formed = (refl, b.formed);
          last = rw n (rw n at b.last);
          place_is = b.place_is;
          written = b.written;
          wrong = b.wrong;
        }

-- the end of the bytes
owes : (today : ℕ) (all : Table) (at : ℕ) (rest : Table) {f : Finding} → parse today all rest at [] ≡ fault f → Owed rest × (f ≡ found MissingRow at None)
owes today all at [] e = let z : ◌≡◌ {A = ℕ} 0 1 = cc in absurd (omega arith)
owes today all at (r ∷ rs) {f} e =
    elim (which r.optional) [
      | inl o ↦ let h = owes today all at rs (fault-of none (parse today all rs at []) (rw o at e)) in (inr h.0, h.1)
      | inr o ↦ (inl o, finding-is (rw o at e))
    ]

module _ (today : ℕ) (all : Table) where
  after-element : (r : Entry) (rs : Table) (at x : ℕ) (s : List ℕ) → Bytes (x ∷ s) → tag_here all x s ≡ r.tag → (w : ℕ) (v : List ℕ)
      → element r.lengths r.rule today (drop (long r.tag) (x ∷ s)) ≡ whole w v
      → (f : Finding) → First today all rs (at + long r.tag + (w + length v)) (drop (long r.tag + (w + length v)) (x ∷ s)) f → First today all (r ∷ rs) at (x ∷ s) f
  after-element r rs at x s b q u v e f w =
      let n = u + length v in
      let body = drop (long r.tag) (x ∷ s) in
      let bb : Bytes body = below-drop 256 (long r.tag) (x ∷ s) b in
      let g = element-is r.lengths r.rule today body bb u v e in
      let t : x ∷ s ≡ tag_bytes r.tag ++ body = rw q at (tag_is all x s b.0) in
      let p = g.form in
      let bv : Bytes v = bytes-front v (drop n body) (bytes_back p (v ++ drop n body) (rw g.bytes at bb)) in
      let y : List ℕ = drop n body in
      let z : drop (long r.tag + n) (x ∷ s) ≡ y = sym (drop-drop n (long r.tag) (x ∷ s)) in
      let rest = spelled w.rows w.vs w.ps in
      let m = length rest in
      let a : long r.tag + n + m ≡ long r.tag + (n + m) = omega arith in
      let q : length (tag_bytes r.tag ++ (p ++ (v ++ rest))) ≡ long r.tag + (n + m) =
      omega (arith, g.width, element-length r.tag p v rest) in
      let h : take m y ≡ rest = rw z at w.written in
      let k : take (length v + m) (v ++ y) ≡ v ++ rest = take-append-add v y m ∙ rw h in
      let l : take (length p + (length v + m)) (p ++ (v ++ y)) ≡ p ++ (v ++ rest) = take-append-add p (v ++ y) (length v + m) ∙ rw k in
      let i : length p + (length v + m) ≡ n + m = omega (arith, g.width) in
      let j : take (n + m) body ≡ p ++ (v ++ rest) = ap (take (n + m)) g.bytes ∙ rw (← i) l in
      record {
        rows = r ∷ w.rows;
        later = w.later;
        vs = some v ∷ w.vs;
        ps = p ∷ w.ps;
        split = ap (λ (l : Table). r ∷ l) w.split;
        allowed = (good-fits today r v bv g.good, w.allowed);
        formed = (g.spelt, w.formed);
        last = w.last;
        place_is = omega (arith, w.place_is, q);
        written = rw q (ap (take (long r.tag + (n + m))) t ∙ take-append-add (tag_bytes r.tag) body (n + m) ∙ rw j);
        wrong = rw q (rw (drop-drop m (long r.tag + n) (x ∷ s), a) at w.wrong);
      }

  own : (r : Entry) (rs : Table) (x : ℕ) (s : List ℕ) → Bytes (x ∷ s) → tag_here all x s ≡ r.tag → {f : Fault}
      → element r.lengths r.rule today (drop (long r.tag) (x ∷ s)) ≡ broken f
      → AtFault today all (r ∷ rs) (tag_here all x s) (drop (long (tag_here all x s)) (x ∷ s)) f
  own r rs x s b q {f} e =
      in_row [] r rs refl q (λ h. h) (rw q ((faulty-exact r.lengths r.rule today (drop (long r.tag) (x ∷ s)) (below-drop 256 (long r.tag) (x ∷ s) b) f).0 e))

  follow-fault : (at t : ℕ) (x : Element) (k : ℕ → Parsed Part) {f : Finding} → follow at t x k ≡ fault f
      → {P : Type 0} → ((g : Fault) → x ≡ broken g → f ≡ found g at (Some t) → P) → ((w : ℕ) (v : List ℕ) → x ≡ whole w v → k (w + length v) ≡ fault f → P) → P
  follow-fault at t (whole w v) k e here on = on w v refl (fault-of (some (record { offset = at + long t + w; bytes = v })) (k (w + length v)) e)
  follow-fault at t (broken g) k e here on = here g refl (finding-is e)

  ended : (rest : Table) (at : ℕ) (f : Finding) → parse today all rest at [] ≡ fault f → First today all rest at [] f
  ended rest at f e = let h = owes today all at rest e in at_once today all rest at [] h.1 (at_end refl h.0 refl refl)

-- the fault that is read is the first one, and its tag is the one that stands there
module _ (today : ℕ) (all : Table) (p : Tags all all) where
  here : (rest : Table) (at x : ℕ) (s : List ℕ) → Bytes (x ∷ s) → {f : Finding} {g : Fault} → f ≡ found g at (Some (tag_here all x s))
      → AtFault today all rest (tag_here all x s) (drop (long (tag_here all x s)) (x ∷ s)) g → First today all rest at (x ∷ s) f
  here rest at x s b e w = at_once today all rest at (x ∷ s) e (at_element (tag_here all x s) _ (tag-stands all p x s b.0) w refl)

  passing-wrong : (r : Entry) (rs : Table) (x : ℕ) (s : List ℕ) → Bytes (x ∷ s) → eqb (tag_here all x s) r.tag ≡ false → r.optional ≡ true → {f : Fault} {tag : Tag}
      → Wrong today all rs (x ∷ s) f tag → Wrong today all (r ∷ rs) (x ∷ s) f tag
  passing-wrong r rs x s b q o (at_end e w m z) = let y : ◌≡◌ {A = ℕ} 0 1 = cc in absurd (omega arith)
  passing-wrong r rs x s b q o (at_element t y i w z) =
      at_element t y i (passing today all t y r rs (rw (tag_read all p x s b.0 t y i).0 q) o w) z

  pub first : (rest : Table) (at : ℕ) (s : List ℕ) → Bytes s → (f : Finding) → parse today all rest at s ≡ fault f → First today all rest at s f
  first [] at [] b f e = ended today all [] at f e
  first [] at (x ∷ s) b f e = here [] at x s b (finding-is e) (gone-wrong today all (tag_here all x s) _ [] refl)
  first (r ∷ rs) at [] b f e = ended today all (r ∷ rs) at f e
  first (r ∷ rs) at (x ∷ s) b f e =
      elim (which (eqb (tag_here all x s) r.tag)) [
        | inl q ↦
            follow-fault today all at r.tag (element r.lengths r.rule today (drop (long r.tag) (x ∷ s))) (λ n. parse today all rs (at + long r.tag + n) (drop (long r.tag + n) (x ∷ s))) (rw q at e)
            (λ g w z. here (r ∷ rs) at x s b (rw (eqb-true (tag_here all x s) r.tag q) z) (own today all r rs x s b (eqb-true _ _ q) w))
            (λ w v z m. after-element today all r rs at x s b (eqb-true _ _ q) w v z f (first rs (at + long r.tag + (w + length v)) (drop (long r.tag + (w + length v)) (x ∷ s)) (below-drop 256 (long r.tag + (w + length v)) (x ∷ s) b) f m))
        | inr q ↦
            elim (which r.optional) [
              | inl o ↦ skip today all r rs at (x ∷ s) f o (passing-wrong r rs x s b q o) (first rs at (x ∷ s) b f (fault-of none (parse today all rs at (x ∷ s)) (rw (q, o) at e)))
              | inr o ↦
                  let z : fault (found (misplaced all rs (tag_here all x s)) at (Some (tag_here all x s))) ≡ fault f = rw (q, o) at e in
                  here (r ∷ rs) at x s b (finding-is z) (missing today all (tag_here all x s) _ r rs q o)
            ]
      ]
