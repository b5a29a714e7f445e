-- Sheets: how long they are, what they say of rows, and that the values of a container that conforms have one. Assumes nothing.
use Prim.Native.Nat.{ℕ, zero, suc, ◌+◌, ◌-◌, ◌≤◌, ◌<◌}
use mathlib.Core.Path.{◌≡◌, refl, ap, ◌∙◌}
use mathlib.Core.Option.{Option, none, some}
use mathlib.Core.List.{List, [], ◌∷◌, ◌++◌}
use native.Mathlib.Omega.{arith}
use lib.Dec.{eqb}
use mathlib.Core.Logic.{inl, inr}
use Rattle.laws.proofs.Cases.{which}
use lib.ListN.{length, drop, get_or, length-append, length-take, length-drop}
use Rattle.laws.specs.Bytes.{Bytes}
use Rattle.laws.specs.Layout.{part}
use Rattle.laws.proofs.Bases.{below-append}
use Rattle.lengths.specs.Length.{length_bytes}
use Rattle.kinds.specs.Tables.{Table, table}
use Rattle.kinds.proofs.Every.{some-rows}
use Rattle.container.specs.Container.{Values, encode, Allowed, Conforms}
use Rattle.container.proofs.Exact.{element-length}
use Rattle.container.proofs.Forms.{never-longer, AllBytes, conforming-bytes}
use Rattle.container.specs.Spans.{absent, shown}
use Rattle.container.specs.Map.{row_value, row_values}
use Rattle.container.specs.declared.rows.Span.{Span}
use Rattle.container.proofs.Lying.{next_row}
use Rattle.sheet.specs.Sheet.{count, section, sheet_of, Sheeted, IsSheet}

-- ---- how long: two bytes for each row, and the values

abbrev pub sized : Option (List ℕ) → ℕ
sized none = 2
sized (some v) = 2 + length v

section-length : (o : Option (List ℕ)) → length (section o) ≡ sized o
section-length none = refl
section-length (some v) = length-append (count (length v + 1)) v

pub sheet-length : (o : Option (List ℕ)) (vs : Values) → length (sheet_of (o ∷ vs)) ≡ sized o + length (sheet_of vs)
unfolding sheet_of
sheet-length o vs = length-append (section o) (sheet_of vs) ∙ ap (λ (n : ℕ). n + length (sheet_of vs)) (section-length o)

-- no sheet of a row is empty
pub some-sheet : (o : Option (List ℕ)) (vs : Values) → 0 < length (sheet_of (o ∷ vs))
some-sheet none vs = omega (arith, sheet-length none vs)
some-sheet (some v) vs = omega (arith, sheet-length (some v) vs)

-- ---- the sheet of what rows show, by the row that is next

module _ (rows : List Span) (c : List ℕ) (n i : ℕ) (h : i < n) where
  abbrev rest : Values
  rest = row_values rows c (n - (i + 1)) (i + 1)

  pub absent_next : row_value rows c i ≡ none → sheet_of (row_values rows c (n - i) i) ≡ count 0 ++ sheet_of rest
  unfolding sheet_of
  absent_next e = rw (next_row rows c n i h, e)

  pub value_next : {v : List ℕ} → row_value rows c i ≡ some v → sheet_of (row_values rows c (n - i) i) ≡ section (some v) ++ sheet_of rest
  unfolding sheet_of
  value_next e = rw (next_row rows c n i h, e)

  pub absent_length : row_value rows c i ≡ none → length (sheet_of (row_values rows c (n - i) i)) ≡ 2 + length (sheet_of rest)
  absent_length e = ap length (absent_next e) ∙ length-append (count 0) (sheet_of rest)

  pub value_length : {v : List ℕ} → row_value rows c i ≡ some v → length (sheet_of (row_values rows c (n - i) i)) ≡ 2 + length v + length (sheet_of rest)
  value_length {v} e = ap length (value_next e) ∙ length-append (section (some v)) (sheet_of rest) ∙ ap (λ (k : ℕ). k + length (sheet_of rest)) (section-length (some v))

-- a value that is shown is a part of the bytes
pub value_within : (rows : List Span) (c : List ℕ) (i : ℕ) {v : List ℕ} → row_value rows c i ≡ some v → length v ≤ length c
value_within rows c i {v} e = go (get_or rows i absent) e
  where
    go : (s : Span) → shown c s ≡ some v → length v ≤ length c
    go s e =
        elim (which (eqb s.to 0)) [
          | inl q ↦ let z : none ≡ some v = rw q at e in let z : ◌≡◌ {A = ℕ} 0 1 = cc in absurd (omega arith)
          | inr q ↦
              let z : some (part c s.from (s.to - s.from)) ≡ some v = rw q at e in
              let w : part c s.from (s.to - s.from) ≡ v = cc in
              rw (← w) (omega (arith, length-take (s.to - s.from) (drop s.from c), length-drop s.from c))
        ]

-- no room of no bytes takes the sheet of a row or more
pub some_shown : (rows : List Span) (c : List ℕ) (n : ℕ) → 0 < n → 0 < length (sheet_of (row_values rows c n 0))
unfolding row_values
some_shown rows c zero h = absurd (omega arith)
some_shown rows c (suc n) h = some-sheet (row_value rows c 0) (row_values rows c n 1)

-- no row is left, or all are
pub none_left : (rows : List Span) (c : List ℕ) (n i : ℕ) → n ≤ i → sheet_of (row_values rows c (n - i) i) ≡ []
unfolding sheet_of row_values
none_left rows c n i h = let z : n - i ≡ 0 = omega arith in rw z

-- ---- the values of a container that conforms

module _ (today : ℕ) where
  sheeted : (rs : Table) (vs : Values) → Allowed today rs vs → length (encode rs vs) < 65535 → Sheeted rs vs
  sheeted [] [] a h = tt
  sheeted [] (o ∷ vs) a h = absurd a
  sheeted (r ∷ rs) [] a h = absurd a
  sheeted (r ∷ rs) (none ∷ vs) a h = (tt, sheeted rs vs a.1 h)
  sheeted (r ∷ rs) (some v ∷ vs) a h =
      let l = element-length r.tag (length_bytes (length v)) v (encode rs vs) in
      (omega (arith, l), sheeted rs vs a.1 (omega (arith, l)))

section-bytes : (v : List ℕ) → Bytes v → Bytes (section (some v))
section-bytes v b = (omega arith, (omega arith, b))

sheet-bytes : (vs : Values) → AllBytes vs → Bytes (sheet_of vs)
unfolding sheet_of
sheet-bytes [] b = tt
sheet-bytes (none ∷ vs) b = (omega arith, (omega arith, sheet-bytes vs b))
sheet-bytes (some v ∷ vs) b = below-append 256 (section (some v)) (sheet_of vs) (section-bytes v b.0) (sheet-bytes vs b.1)

module _ (kind today : ℕ) (vs : Values) (c : List ℕ) (h : Conforms kind today vs c) where
  -- they have a sheet
  pub conforming-sheeted : Sheeted (table kind) vs
  conforming-sheeted =
      let body = encode (table kind) vs in
      let l = length-append (length_bytes (length body)) body in
      sheeted today (table kind) vs h.allowed (omega (arith, l, never-longer kind today vs c h, h.size_is))

  pub conforming-sheet : IsSheet (table kind) vs (sheet_of vs)
  conforming-sheet = record { sections = conforming-sheeted; written = refl }

  -- which is not empty: a kind has rows
  pub conforming-some : 0 < length (sheet_of vs)
  conforming-some = go (table kind) vs h.allowed (some-rows kind h.kind_is)
    where
      go : (rs : Table) (vs : Values) → Allowed today rs vs → 0 < length rs → 0 < length (sheet_of vs)
      go [] vs a l = absurd (omega arith)
      go (r ∷ rs) [] a l = absurd a
      go (r ∷ rs) (o ∷ vs) a l = some-sheet o vs

  -- and it is bytes
  pub conforming-sheet-bytes : Bytes c → Bytes (sheet_of vs)
  conforming-sheet-bytes b = sheet-bytes vs (conforming-bytes kind today vs c h b)
