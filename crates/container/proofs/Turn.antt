-- One element, by the tests that the code makes: each way out of `element` has the map that the walk has there. Assumes nothing.
use Prim.Native.Nat.{ℕ, suc, ◌+◌, ◌-◌, ◌≤◌, ◌<◌}
use mathlib.Core.Path.{◌≡◌, refl, sym, ap, ◌∙◌}
use mathlib.Core.List.{List, ◌∷◌}
use native.Mathlib.Omega.{arith}
use lib.ListN.{length, get_or, drop, set, length-append, length-drop, drop_of_length-le}
use lib.Seq.{drop-drop}
use borrow.Author.Tests.{lt-ltb, le-ltb, le-leb, lt-leb}
use Rattle.laws.specs.Bytes.{Bytes}
use Rattle.laws.proofs.Bases.{below-drop}
use Rattle.laws.proofs.Turns.{from_one}
use Rattle.lengths.proofs.Spellings.{spelt-some}
use Rattle.kinds.specs.Tables.{table, row_of, last_row}
use Rattle.kinds.specs.declared.Row.{Row}
use Rattle.kinds.proofs.Every.{row_number}
use Rattle.verdicts.specs.Verdicts.{found}
use Rattle.verdicts.specs.declared.Fault.{Fault}
use Rattle.verdicts.specs.declared.Fault.TheVariants.{UnknownTag, TagOrder, MissingRow}
use Rattle.container.specs.Container.{long}
use Rattle.container.specs.Reading.{Parsed, Part, Element, whole, broken, element, tag_here, follow, parse}
use Rattle.container.specs.Map.{noted, map_from, Steps, value_at}
use Rattle.container.specs.declared.rows.Span.{Span}
use Rattle.container.proofs.One.{element-is}
use Rattle.container.proofs.Walking.{past-part, by_row, by_row_lem, by_last, by_last_lem}
use Rattle.container.proofs.Tags.{distinct}
use Rattle.std.specs.Prelude.{Some, None, Result, Ok, Err}
use Rattle.std.specs.declared.ops.Range.{Range}
use Rattle.verdicts.specs.declared.Finding.{Finding}

-- the code's answer, taken back
broken-value : (at : ℕ) (x : Element) {f : Fault} → value_at at x ≡ Err f → x ≡ broken f
unfolding value_at
broken-value at (whole w v) e = let z : ◌≡◌ {A = ℕ} 0 1 = cc in absurd (omega arith)
broken-value at (broken f) e = cc

whole-value : (at : ℕ) (x : Element) {r : Range ℕ} → value_at at x ≡ Ok r → (w : ℕ) × (v : List ℕ) × (x ≡ whole w v) × (r.start ≡ at + w) × (r.end ≡ at + w + length v)
unfolding value_at
whole-value at (whole w v) {r} e =
    let q : record { start = at + w; end = at + w + length v } ≡ r = cc in
    (w, v, refl, sym (ap (λ (r : Range ℕ). r.start) q), sym (ap (λ (r : Range ℕ). r.end) q))
whole-value at (broken f) e = let z : ◌≡◌ {A = ℕ} 0 1 = cc in absurd (omega arith)

module _ (kind today : ℕ) (c : List ℕ) (at done : ℕ) (h : at < length c) where
  abbrev byte : ℕ
  byte = get_or c at 0

  abbrev rest : List ℕ
  rest = drop (at + 1) c

  abbrev tag : ℕ
  tag = tag_here (table kind) byte rest

  -- what the step leaves as it is, over whatever is noted
  abbrev Same : (List Span → Result (List Span) Finding) → Type 0
  Same m = (rows : List Span) → m rows ≡ map_from kind today c at done rows

  by-tag : Same (λ rows. by_row today (table kind) at byte rest rows done (row_of kind tag))
  unfolding map_from
  by-tag rows = rw (from_one c at h) (by_row_lem today (table kind) at byte rest rows done (distinct kind))

  pub unknown : row_of kind tag ≡ None → Same (λ rows. Err (found UnknownTag at (Some tag)))
  unknown e rows = ap (by_row today (table kind) at byte rest rows done) (sym e) ∙ by-tag rows

  module _ {r : Row} (e : row_of kind tag ≡ Some r) where
    by-its-row : Same (λ rows. by_row today (table kind) at byte rest rows done (Some r))
    by-its-row rows = ap (by_row today (table kind) at byte rest rows done) (sym e) ∙ by-tag rows

    pub earlier : r.index ≤ done → Same (λ rows. Err (found TagOrder at (Some tag)))
    earlier l rows = simp (le-leb _ _ l) at (by-its-row rows)

    pub missed : done < r.index → done < r.after → Same (λ rows. Err (found MissingRow at (Some tag)))
    missed l m rows = simp (lt-leb _ _ l, lt-ltb _ _ m) at (by-its-row rows)

    module _ (l : done < r.index) (m : r.after ≤ done) {begin : ℕ} (s : begin ≡ at + long tag) where
      -- the bytes after the tag
      left : (k : ℕ) → drop k (byte ∷ rest) ≡ drop (at + k) c
      left k = ap (drop k) (sym (from_one c at h)) ∙ drop-drop k at c

      body : drop (long tag) (byte ∷ rest) ≡ drop begin c
      body = left (long tag) ∙ ap (λ (k : ℕ). drop k c) (sym s)

      abbrev after : ℕ → Parsed Part
      after n = parse today (table kind) (drop r.index (table kind)) (at + long tag + n) (drop (long tag + n) (byte ∷ rest))

      here : Same (λ rows. noted (r.index - 1) rows (follow at tag (element r.lengths r.rule today (drop begin c)) after))
      here rows =
          ap (λ (x : List ℕ). noted (r.index - 1) rows (follow at tag (element r.lengths r.rule today x) after)) (sym body)
          ∙ simp (lt-leb _ _ l, le-ltb _ _ m) at (by-its-row rows)

      pub breaks : {f : Fault} → value_at begin (element r.lengths r.rule today (drop begin c)) ≡ Err f → Same (λ rows. Err (found f at (Some tag)))
      unfolding noted
      breaks f rows = rw (broken-value begin (element r.lengths r.rule today (drop begin c)) f) at (here rows)

      module _ (w : ℕ) (v : List ℕ) (is : element r.lengths r.rule today (drop begin c) ≡ whole w v) {start end : ℕ} (y : start ≡ begin + w) (z : end ≡ begin + w + length v) where
        passes : Same (λ rows. map_from kind today c end r.index (set rows (r.index - 1) (record { from = start; to = end })))
        unfolding map_from
        passes rows =
            let o : at + long tag + w ≡ start = omega (arith, s) in
            let p : start + length v ≡ end = omega arith in
            let q : at + long tag + (w + length v) ≡ end = omega (arith, s) in
            let u : at + (long tag + (w + length v)) ≡ end = omega (arith, s) in
            let d : drop (long tag + (w + length v)) (byte ∷ rest) ≡ drop end c = left (long tag + (w + length v)) ∙ ap (λ (k : ℕ). drop k c) u in
            let n : suc (r.index - 1) ≡ r.index = omega arith in
            sym (past-part (r.index - 1) rows (record { offset = at + long tag + w; bytes = v }) (after (w + length v)) ∙ rw (n, o, p, q, d)) ∙ rw is at (here rows)

        moves : Bytes c → (at < start) × (start ≤ end) × (end ≤ length c)
        moves b =
            let g = element-is r.lengths r.rule today (drop begin c) (below-drop 256 begin c b) w v is in
            let k = simp length-append at (ap length g.bytes) in
            omega (arith, k, g.width, length-drop begin c, spelt-some g.form (length v) g.spelt, length-drop (w + length v) (drop begin c))

      pub goes_on : {value : Range ℕ} → Bytes c → value_at begin (element r.lengths r.rule today (drop begin c)) ≡ Ok value → Steps kind today c at done (Ok (record { row = r.index; value = value }))
      goes_on {value} b f =
          let (w, v, is, y, z) = whole-value begin (element r.lengths r.rule today (drop begin c)) f in
          let (p, q, n) = moves w v is y z b in
          (passes w v is y z, (p, q, n, omega arith, omega (arith, row_number kind tag e)))

-- at the end of the bytes
module _ (kind today : ℕ) (c : List ℕ) (at done : ℕ) (rows : List Span) (h : length c ≤ at) {last : ℕ} (e : last ≡ last_row kind) where
  ended : by_last today (table kind) at done rows last ≡ map_from kind today c at done rows
  unfolding map_from
  ended = rw (e, drop_of_length-le c h) (by_last_lem today (table kind) at done rows)

  pub cut_off : done < last → Err (found MissingRow at None) ≡ map_from kind today c at done rows
  cut_off l = simp (lt-ltb _ _ l) at ended

  pub complete : last ≤ done → Ok rows ≡ map_from kind today c at done rows
  complete l = simp (le-ltb _ _ l) at ended
