-- The reader and the writer are inverse: bytes come to values exactly where the values are allowed and the bytes are how they are written. Assumes nothing.
use Prim.Native.Nat.{ℕ, ◌+◌}
use mathlib.Core.Logic.{inl, inr}
use mathlib.Core.Path.{◌≡◌, refl, sym, ap, ◌∙◌}
use mathlib.Core.Bool.{true, false, true≢false}
use mathlib.Core.Option.{Option, none, some}
use mathlib.Core.List.{List, [], ◌∷◌, ◌++◌}
use native.Mathlib.Omega.{arith}
use lib.ListN.{length, drop, length-append}
use lib.Seq.{drop-drop, drop-append_seam, take-append_seam}
use lib.Dec.{eqb}
use borrow.Author.Tests.{eq-eqb, ne_eqb, eqb-true, eqb-false}
use Rattle.laws.specs.Bytes.{Bytes}
use Rattle.laws.proofs.Bases.{below-take, below-drop}
use Rattle.laws.proofs.Cases.{which}
use Rattle.lengths.specs.Length.{Spells}
use Rattle.kinds.specs.Tables.{Entry, Table}
use Rattle.verdicts.specs.declared.Finding.{Finding}
use Rattle.container.specs.Container.{Values, Spellings, tag_bytes, long, has, spelled, Allowed, Formed}
use Rattle.container.specs.Reading.{Parsed, values, fault, Part, values_of, prepend, Element, whole, broken, element, tag_here, follow, parse}
use Rattle.container.proofs.Walking.{Distinct}
use Rattle.container.proofs.Tags.{Plain, Tags, tag_is, begins}
use Rattle.container.proofs.One.{Good, element-is, element-of, good-fits, fits-good}

pub no-values : {A : Type 0} {f : Finding} {vs : List (Option A)} → fault f ≡ values vs → ⊥
no-values e = let z : ◌≡◌ {A = ℕ} 0 1 = cc in omega arith

prepended : {A : Type 0} (o : Option A) (p : Parsed A) (vs : List (Option A)) → prepend o p ≡ values vs → (ws : List (Option A)) × (p ≡ values ws) × (vs ≡ o ∷ ws)
prepended o (values ws) vs e = (ws, refl, cc)
prepended o (fault f) vs e = absurd (no-values e)

followed : (at t : ℕ) (x : Element) (k : ℕ → Parsed Part) (ps : List (Option Part)) → follow at t x k ≡ values ps
    → (w : ℕ) × (v : List ℕ) × (x ≡ whole w v) × (prepend (some (record { offset = at + long t + w; bytes = v })) (k (w + length v)) ≡ values ps)
followed at t (whole w v) k ps e = (w, v, refl, e)
followed at t (broken f) k ps e = absurd (no-values e)

pub bytes-front : (xs ys : List ℕ) → Bytes (xs ++ ys) → Bytes xs
bytes-front xs ys b = rw (take-append_seam xs ys) at (below-take 256 (length xs) (xs ++ ys) b)

pub bytes_back : (xs ys : List ℕ) → Bytes (xs ++ ys) → Bytes ys
bytes_back xs ys b = rw (drop-append_seam xs ys) at (below-drop 256 (length xs) (xs ++ ys) b)

-- how long an element is, and what follows it
pub element-length : (t : ℕ) (p v rest : List ℕ) → length (tag_bytes t ++ (p ++ (v ++ rest))) ≡ long t + length p + length v + length rest
element-length t p v rest = omega (arith, length-append (tag_bytes t) (p ++ (v ++ rest)), length-append p (v ++ rest), length-append v rest)

-- ---- what is read was written

module _ (today : ℕ) (all : Table) where
  -- these bytes are read as the values of these parts
  pub record Of (rs : Table) (s : List ℕ) (parts : List (Option Part)) : Type 0 where
    pub ps : Spellings
    pub allowed : Allowed today rs (values_of parts)
    pub formed : Formed (values_of parts) ps
    pub written : s ≡ spelled rs (values_of parts) ps

  -- past an optional row
  skipped : (r : Entry) (rs : Table) (s : List ℕ) (p : Parsed Part) (parts : List (Option Part)) → r.optional ≡ true
      → ((qs : List (Option Part)) → p ≡ values qs → Of rs s qs) → prepend none p ≡ values parts → Of (r ∷ rs) s parts
  skipped r rs s p parts o k e =
      let w = prepended none p parts e in
      let ih = k w.0 w.1 in
      rw w.2 (record { ps = [] ∷ ih.ps; allowed = (o, ih.allowed); formed = (refl, ih.formed); written = ih.written })

  -- the bytes from the tag on, by the size of an element
  abbrev from : Entry → ℕ → List ℕ → List ℕ
  from r n s = drop (long r.tag + n) s

  hit : (r : Entry) (rs : Table) (at x : ℕ) (s : List ℕ) → Bytes (x ∷ s) → (parts : List (Option Part)) → tag_here all x s ≡ r.tag
      → ((n : ℕ) (qs : List (Option Part)) → parse today all rs (at + long r.tag + n) (from r n (x ∷ s)) ≡ values qs → Of rs (from r n (x ∷ s)) qs)
      → follow at r.tag (element r.lengths r.rule today (drop (long r.tag) (x ∷ s))) (λ n. parse today all rs (at + long r.tag + n) (from r n (x ∷ s))) ≡ values parts
      → Of (r ∷ rs) (x ∷ s) parts
  hit r rs at x s b parts q k e =
      let body = drop (long r.tag) (x ∷ s) in
      let (w, v, is, f) = followed at r.tag (element r.lengths r.rule today body) (λ n. parse today all rs (at + long r.tag + n) (from r n (x ∷ s))) parts e in
      let n = w + length v in
      let bb : Bytes body = below-drop 256 (long r.tag) (x ∷ s) b in
      let g = element-is r.lengths r.rule today body bb w v is in
      let (qs, p, z) = prepended (some (record { offset = at + long r.tag + w; bytes = v })) (parse today all rs (at + long r.tag + n) (from r n (x ∷ s))) parts f in
      let ih = k n qs p in
      let t : x ∷ s ≡ tag_bytes r.tag ++ body = rw q at (tag_is all x s b.0) in
      let bv : Bytes v = bytes-front v (drop n body) (bytes_back g.form (v ++ drop n body) (rw g.bytes at bb)) in
      let y : drop n body ≡ spelled rs (values_of qs) ih.ps = drop-drop n (long r.tag) (x ∷ s) ∙ ih.written in
      rw z
      (record {
        ps = g.form ∷ ih.ps;
        allowed = (good-fits today r v bv g.good, ih.allowed);
        formed = (g.spelt, ih.formed);
        written = t ∙ ap (λ (y : List ℕ). tag_bytes r.tag ++ y) (g.bytes ∙ ap (λ (y : List ℕ). g.form ++ (v ++ y)) y);
      })

  pub sound : (rest : Table) (at : ℕ) (s : List ℕ) → Bytes s → (parts : List (Option Part)) → parse today all rest at s ≡ values parts → Of rest s parts
  sound [] at [] b parts e = let p : [] ≡ parts = cc in rw (← p) (record { ps = []; allowed = tt; formed = tt; written = refl })
  sound [] at (x ∷ s) b parts e = absurd (no-values e)
  sound (r ∷ rs) at [] b parts e =
      elim (which r.optional) [
        | inl o ↦ skipped r rs [] (parse today all rs at []) parts o (sound rs at [] b) (rw o at e)
        | inr o ↦ absurd (no-values (rw o at e))
      ]
  sound (r ∷ rs) at (x ∷ s) b parts e =
      elim (which (eqb (tag_here all x s) r.tag)) [
        | inl q ↦ hit r rs at x s b parts (eqb-true _ _ q) (λ n. sound rs (at + long r.tag + n) (from r n (x ∷ s)) (below-drop 256 (long r.tag + n) (x ∷ s) b)) (rw q at e)
        | inr q ↦
            elim (which r.optional) [
              | inl o ↦ skipped r rs (x ∷ s) (parse today all rs at (x ∷ s)) parts o (sound rs at (x ∷ s) b) (rw (q, o) at e)
              | inr o ↦ absurd (no-values (rw (q, o) at e))
            ]
      ]

-- ---- what is written is read

-- an element that starts behind its tag at an offset: where its value stands
abbrev pub part_at : ℕ → List ℕ → List ℕ → Option Part
part_at start p v = some (record { offset = start + length p; bytes = v })

-- where the values of some rows stand, whose elements start at an offset
abbrev pub parts_from : ℕ → Table → Values → Spellings → List (Option Part)
parts_from at [] vs ps = []
parts_from at (r ∷ rs) [] ps = []
parts_from at (r ∷ rs) (o ∷ vs) [] = []
parts_from at (r ∷ rs) (none ∷ vs) (p ∷ ps) = none ∷ parts_from at rs vs ps
parts_from at (r ∷ rs) (some v ∷ vs) (p ∷ ps) = part_at (at + long r.tag) p v ∷ parts_from (at + long r.tag + (length p + length v)) rs vs ps

module _ (today : ℕ) (all : Table) where
  -- the bytes do not begin with a tag
  abbrev pub Apart : ℕ → List ℕ → Type 0
  Apart u [] = Unit {0}
  Apart u (b ∷ s) = eqb (tag_here all b s) u ≡ false

  no_start : (u : ℕ) (rs : Table) (vs : Values) (ps : Spellings) → Tags all rs → has u rs ≡ false → Apart u (spelled rs vs ps)
  no_start u [] vs ps p h = tt
  no_start u (r ∷ rs) [] ps p h = tt
  no_start u (r ∷ rs) (o ∷ vs) [] p h = tt
  no_start u (r ∷ rs) (none ∷ vs) (q ∷ ps) p h =
      elim (which (eqb u r.tag)) [
        | inl q ↦ absurd (true≢false (rw q at h))
        | inr q ↦ no_start u rs vs ps p.1 (rw q at h)
      ]
  no_start u (r ∷ rs) (some v ∷ vs) (q ∷ ps) p h =
      elim (which (eqb u r.tag)) [
        | inl n ↦ absurd (true≢false (rw n at h))
        | inr n ↦
            let g = begins all r.tag (q ++ (v ++ spelled rs vs ps)) p.0 in
            rw (g.bytes, g.tag) (ne_eqb r.tag u (λ e. eqb-false _ _ n (sym e)))
      ]

  pub skips : (r : Entry) (rs : Table) (at : ℕ) (s : List ℕ) → r.optional ≡ true → Apart r.tag s → parse today all (r ∷ rs) at s ≡ prepend none (parse today all rs at s)
  skips r rs at [] o h = rw o
  skips r rs at (b ∷ s) o h = rw (h, o)

  -- past an element
  after : (u : ℕ) (p v r : List ℕ) → drop (long u + (length p + length v)) (tag_bytes u ++ (p ++ (v ++ r))) ≡ r
  after u p v r =
      sym (drop-drop (length p + length v) (long u) (tag_bytes u ++ (p ++ (v ++ r))))
      ∙ (ap (drop (length p + length v)) (drop-append_seam (tag_bytes u) (p ++ (v ++ r)))
      ∙ (sym (drop-drop (length v) (length p) (p ++ (v ++ r))) ∙ (ap (drop (length v)) (drop-append_seam p (v ++ r)) ∙ drop-append_seam v r)))

  taken : (r : Entry) (rs : Table) (at b : ℕ) (s : List ℕ) (w : ℕ) (v : List ℕ) → tag_here all b s ≡ r.tag → element r.lengths r.rule today (drop (long r.tag) (b ∷ s)) ≡ whole w v
      → parse today all (r ∷ rs) at (b ∷ s)
      ≡ prepend (some (record { offset = at + long r.tag + w; bytes = v })) (parse today all rs (at + long r.tag + (w + length v)) (drop (long r.tag + (w + length v)) (b ∷ s)))
  taken r rs at b s w v t e = rw (eq-eqb (tag_here all b s) r.tag t, e)

  pub takes : (r : Entry) (rs : Table) (at : ℕ) (p v s : List ℕ) → Plain all r.tag → Spells p (length v) → Good r.lengths r.rule today v
      → parse today all (r ∷ rs) at (tag_bytes r.tag ++ (p ++ (v ++ s))) ≡ prepend (part_at (at + long r.tag) p v) (parse today all rs (at + long r.tag + (length p + length v)) s)
  takes r rs at p v s plain h g =
      let x = p ++ (v ++ s) in
      let n = length p + length v in
      let b = begins all r.tag x plain in
      let e : element r.lengths r.rule today (drop (long r.tag) (b.first ∷ b.then)) ≡ whole (length p) v =
      rw (← b.bytes, drop-append_seam (tag_bytes r.tag) x) (element-of r.lengths r.rule today p v s h g) in
      ap (parse today all (r ∷ rs) at) b.bytes
      ∙ (taken r rs at b.first b.then (length p) v b.tag e
      ∙ ap (λ (y : List ℕ). prepend (part_at (at + long r.tag) p v) (parse today all rs (at + long r.tag + n) y)) (ap (drop (long r.tag + n)) (sym b.bytes) ∙ after r.tag p v s))

  pub complete : (rest : Table) (at : ℕ) (vs : Values) (ps : Spellings) → Tags all rest → Distinct rest → Allowed today rest vs → Formed vs ps → Bytes (spelled rest vs ps)
      → parse today all rest at (spelled rest vs ps) ≡ values (parts_from at rest vs ps)
  complete [] at [] ps p u a f b = refl
  complete [] at (o ∷ vs) ps p u a f b = absurd a
  complete (r ∷ rs) at [] ps p u a f b = absurd a
  complete (r ∷ rs) at (o ∷ vs) [] p u a f b = absurd f
  complete (r ∷ rs) at (none ∷ vs) (q ∷ ps) p u a f b =
      skips r rs at (spelled rs vs ps) a.0 (no_start r.tag rs vs ps p.1 u.0) ∙ ap (prepend none) (complete rs at vs ps p.1 u.1 a.1 f.1 b)
  complete (r ∷ rs) at (some v ∷ vs) (q ∷ ps) p u a f b =
      let rest = spelled rs vs ps in
      let b₁ : Bytes (v ++ rest) = bytes_back q (v ++ rest) (bytes_back (tag_bytes r.tag) (q ++ (v ++ rest)) b) in
      takes r rs at q v rest p.0 f.0 (fits-good today r v (bytes-front v rest b₁) a.0)
      ∙ ap (prepend (part_at (at + long r.tag) q v)) (complete rs (at + long r.tag + (length q + length v)) vs ps p.1 u.1 a.1 f.1 (bytes_back v rest b₁))

-- and these are their values
pub parts-values : (today : ℕ) (rs : Table) (at : ℕ) (vs : Values) (ps : Spellings) → Allowed today rs vs → Formed vs ps → values_of (parts_from at rs vs ps) ≡ vs
parts-values today [] at [] ps a f = refl
parts-values today [] at (o ∷ vs) ps a f = absurd a
parts-values today (r ∷ rs) at [] ps a f = absurd a
parts-values today (r ∷ rs) at (o ∷ vs) [] a f = absurd f
parts-values today (r ∷ rs) at (none ∷ vs) (p ∷ ps) a f = ap (λ (l : Values). none ∷ l) (parts-values today rs at vs ps a.1 f.1)
parts-values today (r ∷ rs) at (some v ∷ vs) (p ∷ ps) a f =
    ap (λ (l : Values). some v ∷ l) (parts-values today rs (at + long r.tag + (length p + length v)) vs ps a.1 f.1)
