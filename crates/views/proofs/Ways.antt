-- The ways out of `locate`. Assumes nothing.
use Prim.Native.Nat.{ℕ, zero, suc, ◌+◌, ◌-◌, ◌≤◌}
use mathlib.Core.Path.{◌≡◌, refl, sym, ap, ◌∙◌}
use mathlib.Core.Logic.{inl, inr}
use mathlib.Core.Bool.{cond}
use mathlib.Core.Option.{Option, none, some}
use mathlib.Core.List.{List, [], ◌∷◌}
use native.Mathlib.Nat.{add-sub_cancel_left}
use native.Mathlib.Omega.{arith}
use lib.Dec.{eqb}
use lib.ListN.{length, take, drop, get_or, get_or-eq_default}
use borrow.Author.Tests.{ne_eqb}
use Rattle.laws.specs.Bytes.{Bytes}
use Rattle.laws.proofs.Cases.{which, no-some, none-at}
use Rattle.verdicts.specs.declared.Verdict.{Verdict}
use Rattle.verdicts.specs.declared.Finding.{Finding}
use Rattle.kinds.specs.Tables.{Table, table, find, row_of}
use Rattle.kinds.specs.declared.Row.{Row}
use Rattle.kinds.proofs.Every.{found-row}
use Rattle.container.specs.Reading.{values, Part, located}
use Rattle.container.specs.Map.{map_of, laid}
use Rattle.container.proofs.Lying.{Stands, All, stands, span_of, told-broken, told-fine, rows_are, lies}
use Rattle.verdicts.specs.Verdicts.{outright}
use Rattle.verdicts.specs.declared.Fault.TheVariants.{NoElement}
use Rattle.container.specs.Spans.{no_rows}
use Rattle.std.specs.declared.ops.Range.{Range}
use Rattle.container.specs.declared.rows.Span.{Span}
use Rattle.views.specs.Views.{View, part_of, shown, viewed, located as located_by, Locates}
use Rattle.views.specs.ByMap.{range_of, by_map}
use Rattle.std.specs.Prelude.{Option as Maybe, Some, None, Result, Ok, Err}

-- a part that lies so
located-so : {v : View} (c : List ℕ) {w : Verdict} {from to : ℕ} {s : List ℕ} → v ≡ record { verdict = w; part = record { offset = from; bytes = s } }
    → to ≡ from + length s → to ≤ length c → take (to - from) (drop from c) ≡ s → Locates v c (record { verdict = w; from = from; to = to })
located-so c e t i b =
    record {
      verdict_is = ap (λ (v : View). v.verdict) (sym e);
      from_is = ap (λ (v : View). v.part.offset) (sym e);
      to_is = t ∙ ap (λ (v : View). v.part.offset + length v.part.bytes) (sym e);
      inside = i;
      bytes_are = b ∙ ap (λ (v : View). v.part.bytes) (sym e);
    }

-- ---- the row that a tag has

-- what a row's number says of the parts: the part of that row
tagged : Maybe Row → ℕ → List (Option Part) → Option Part
tagged None i ps = none
tagged (Some row) i ps = get_or ps (row.index - (i + 1)) none

by_row : (rs : Table) (ps : List (Option Part)) (i from t : ℕ) → part_of rs ps t ≡ tagged (find i from rs t) i ps
unfolding tagged
by_row [] ps i from t = refl
by_row (r ∷ rs) [] i from t = go (find i from (r ∷ rs) t)
  where
    go : (x : Maybe Row) → none ≡ tagged x i []
    go None = refl
    go (Some row) = sym (get_or-eq_default [] none {n = row.index - (i + 1)} (omega arith))
by_row (r ∷ rs) (o ∷ ps) i from t =
    elim (which (eqb t r.tag)) [
      | inl q ↦ let z : i + 1 - (i + 1) ≡ 0 = omega arith in rw (q, z)
      | inr q ↦ rw q (by_row rs ps (i + 1) (cond r.optional from (i + 1)) t ∙ go (find (i + 1) (cond r.optional from (i + 1)) rs t) refl)
    ]
  where
    go : (x : Maybe Row) → find (i + 1) (cond r.optional from (i + 1)) rs t ≡ x → tagged x (i + 1) ps ≡ tagged x i (o ∷ ps)
    go None e = refl
    go (Some row) e =
        let h = found-row rs (i + 1) (cond r.optional from (i + 1)) t e in
        let z : row.index - (i + 1) ≡ suc (row.index - (i + 1 + 1)) = omega (arith, h.0) in
        rw z

-- a part of some that stand stands
pub picked : (c : List ℕ) (ps : List (Option Part)) → All c ps → (i : ℕ) (p : Part) → get_or ps i none ≡ some p → Stands c p
picked c [] a i p e = absurd (none-at i e)
picked c (none ∷ ps) a zero p e = absurd (no-some e)
picked c (none ∷ ps) a (suc i) p e = picked c ps a i p e
picked c (some q ∷ ps) a zero p e = let z : q ≡ p = cc in rw z at a.0
picked c (some q ∷ ps) a (suc i) p e = picked c ps a.1 i p e

-- ---- the ways out

-- 6, where there is none
abbrev pub answered : Maybe (Range ℕ) → Result (Range ℕ) Finding
answered None = Err (outright NoElement)
answered (Some r) = Ok r

module _ (kind today : ℕ) (c : List ℕ) (tag : ℕ) where
  -- the check refuses
  pub out_broken : {f : Finding} → Err f ≡ map_of (located kind today c) → Locates (viewed kind today c tag) c (located_by (Err f))
  unfolding viewed
  out_broken o = located-so c (rw (told-broken kind today c o)) refl (omega arith) refl

  module _ (b : Bytes c) (ps : List (Option Part)) (e : located kind today c ≡ values ps) where
    -- the view of what was read
    pub by_parts : viewed kind today c tag ≡ shown (part_of (table kind) ps tag)
    unfolding viewed
    by_parts = rw e

    -- where a row's value lies, or 6
    abbrev Says : Maybe (Range ℕ) → Type 0
    Says r = Locates (viewed kind today c tag) c (located_by (answered r))

    -- a row of the table: what the map has of it
    in_row : (i : ℕ) (o : Option Part) → part_of (table kind) ps tag ≡ o → get_or ps i none ≡ o → {s : Span} → s ≡ span_of o → Says (range_of s)
    in_row i none q g t = rw t (located-so c (by_parts ∙ ap shown q) refl (omega arith) refl)
    in_row i (some p) q g t =
        let s = picked c ps (stands kind today c b ps e) i p g in
        let n : p.offset + length p.bytes ≡ 0 → ⊥ = λ z. omega (arith, s.behind) in
        rw (t, ne_eqb _ _ n) (located-so c (by_parts ∙ ap shown q) refl s.within (rw add-sub_cancel_left s.bytes))

    by_table : (x : Maybe Row) → row_of kind tag ≡ x → Says (by_map x (laid ps 0 no_rows))
    unfolding tagged
    by_table None x =
        let n : part_of (table kind) ps tag ≡ none = by_row (table kind) ps 0 0 tag ∙ rw x in
        located-so c (by_parts ∙ ap shown n) refl (omega arith) refl
    by_table (Some row) x =
        let h = found-row (table kind) 0 0 tag x in
        let l = lies kind today c b ps e (row.index - 1) (omega (arith, h.0, h.1, rows_are kind today c b ps e)) in
        in_row (row.index - 1) (get_or ps (row.index - 1) none) (by_row (table kind) ps 0 0 tag ∙ rw x) refl l

  -- "View: check, then 6"
  pub out_fine : Bytes c → {rows : List Span} → Ok rows ≡ map_of (located kind today c)
      → Locates (viewed kind today c tag) c (located_by (answered (by_map (row_of kind tag) rows)))
  out_fine b {rows} o =
      let (ps, e, z) = told-fine kind today c o in
      rw z (by_table b ps e (row_of kind tag) refl)
