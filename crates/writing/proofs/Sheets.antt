-- A sheet is taken apart into values exactly where it is the sheet of these values; and the bytes of sheets and of containers. Assumes nothing.
use Prim.Native.Nat.{ℕ, ◌+◌, ◌-◌, ◌*◌, ◌/◌, ◌%◌, ◌≤◌, ◌<◌}
use mathlib.Core.Path.{◌≡◌, refl, sym, ap, ◌∙◌}
use mathlib.Core.Logic.{inl, inr, ◌↔◌}
use mathlib.Core.Option.{Option, none, some}
use mathlib.Core.List.{List, [], ◌∷◌, ◌++◌}
use native.Mathlib.Omega.{arith}
use lib.Dec.{ltb, eqb}
use lib.ListN.{length, take, drop, length-append, take-append-drop}
use lib.Seq.{length-take-le, take-append_seam, drop-append_seam}
use borrow.Author.Tests.{lt-ltb, le-ltb, ltb-false, eqb-true, eqb-false, ne_eqb}
use Rattle.laws.specs.Bytes.{Bytes}
use Rattle.laws.proofs.Bases.{below-append, below-drop}
use Rattle.laws.proofs.Cases.{which, no-some}
use Rattle.kinds.specs.Tables.{Entry, Table, table}
use Rattle.lengths.specs.Length.{length_bytes}
use Rattle.lengths.proofs.Writing.{length-bytes}
use Rattle.container.specs.Container.{Values, tag_bytes, encode, outer_tag, container}
use Rattle.container.proofs.Forms.{AllBytes}
use Rattle.container.proofs.Tags.{Plain, Tags, short, double, tags}
use Rattle.container.proofs.Exact.{bytes-front, bytes_back}
use Rattle.sheet.specs.Sheet.{sheet_of, Sheeted, IsSheet}
use Rattle.sections.specs.Opened.{ahead, opened}

-- ---- what is taken apart was a sheet

ahead-some : (o : Option (List ℕ)) (x : Option Values) (vs : Values) → ahead o x ≡ some vs → (ws : Values) × (x ≡ some ws) × (vs ≡ o ∷ ws)
ahead-some o none vs e = absurd (no-some e)
ahead-some o (some ws) vs e = (ws, refl, cc)

module _ (r : Entry) (rs : Table) (x y : ℕ) (ws : Values) (h : Sheeted rs ws) where
  none_first : (s : List ℕ) → x * 256 + y ≡ 0 → s ≡ sheet_of ws → Sheeted (r ∷ rs) (none ∷ ws) × (x ∷ y ∷ s ≡ sheet_of (none ∷ ws))
  unfolding sheet_of
  none_first s z e =
      let i : x ≡ 0 = omega arith in
      let j : y ≡ 0 = omega arith in
      ((tt, h), rw (i, j, e))

  some_first : (v rest : List ℕ) → x < 256 → y < 256 → length v + 1 ≡ x * 256 + y → rest ≡ sheet_of ws → Sheeted (r ∷ rs) (some v ∷ ws) × (x ∷ y ∷ (v ++ rest) ≡ sheet_of (some v ∷ ws))
  unfolding sheet_of
  some_first v rest f g n e =
      let i : (length v + 1) / 256 % 256 ≡ x = omega arith in
      let j : (length v + 1) % 256 ≡ y = omega arith in
      ((omega arith, h), rw (i, j, e))

opened-is : (rows : Table) (s : List ℕ) → Bytes s → (vs : Values) → opened rows s ≡ some vs → Sheeted rows vs × (s ≡ sheet_of vs)
unfolding sheet_of
opened-is [] [] b vs e = let q : [] ≡ vs = cc in rw (← q) (tt, refl)
opened-is [] (x ∷ s) b vs e = absurd (no-some e)
opened-is (r ∷ rs) [] b vs e = absurd (no-some e)
opened-is (r ∷ rs) (x ∷ []) b vs e = absurd (no-some e)
opened-is (r ∷ rs) (x ∷ y ∷ s) b vs e =
    elim (which (eqb (x * 256 + y) 0)) [
      | inl q ↦
          let w = ahead-some none (opened rs s) vs (rw q at e) in
          let ih = opened-is rs s b.1.1 w.0 w.1 in
          rw w.2 (none_first r rs x y w.0 ih.0 s (eqb-true _ _ q) ih.1)
      | inr q ↦
          elim (which (ltb (length s) (x * 256 + y - 1))) [
            | inl l ↦ absurd (no-some (rw (q, l) at e))
            | inr l ↦
                let v = take (x * 256 + y - 1) s in
                let rest = drop (x * 256 + y - 1) s in
                let w = ahead-some (some v) (opened rs rest) vs (rw (q, l) at e) in
                let ih = opened-is rs rest (below-drop 256 (x * 256 + y - 1) s b.1.1) w.0 w.1 in
                let z = eqb-false (x * 256 + y) 0 q in
                let m : length v ≡ x * 256 + y - 1 = length-take-le (x * 256 + y - 1) s (ltb-false _ _ l) in
                let k = some_first r rs x y w.0 ih.0 v rest b.0 b.1.0 (omega (arith, m, z)) ih.1 in
                rw w.2 (k.0, ap (λ (t : List ℕ). x ∷ y ∷ t) (sym (take-append-drop (x * 256 + y - 1) s)) ∙ k.1)
          ]
    ]

-- ---- and a sheet is taken apart

is-opened : (rows : Table) (vs : Values) → Sheeted rows vs → opened rows (sheet_of vs) ≡ some vs
unfolding sheet_of
is-opened [] [] h = refl
is-opened [] (o ∷ vs) h = absurd h
is-opened (r ∷ rs) [] h = absurd h
is-opened (r ∷ rs) (none ∷ vs) h = rw (is-opened rs vs h.1)
is-opened (r ∷ rs) (some v ∷ vs) h =
    let n : (length v + 1) / 256 % 256 * 256 + (length v + 1) % 256 ≡ length v + 1 = omega (arith, h.0) in
    let z : length v + 1 ≡ 0 → ⊥ = λ q. omega arith in
    let l : length v + 1 - 1 ≡ length v = omega arith in
    let k : length v ≤ length (v ++ sheet_of vs) = rw length-append (omega arith) in
    rw (n, ne_eqb (length v + 1) 0 z, l, le-ltb _ _ k, take-append_seam v (sheet_of vs), drop-append_seam v (sheet_of vs), is-opened rs vs h.1)

pub opened-exact : (rows : Table) (s : List ℕ) → Bytes s → (vs : Values) → (opened rows s ≡ some vs) ↔ IsSheet rows vs s
opened-exact rows s b vs = (
  λ e. let k = opened-is rows s b vs e in record { sections = k.0; written = k.1 },
  λ h. ap (opened rows) h.written ∙ is-opened rows vs h.sections,
)

-- ---- bytes

-- each value is of bytes
-- the values of a sheet of bytes are of bytes
pub sheet_values : (vs : Values) → Bytes (sheet_of vs) → AllBytes vs
unfolding sheet_of
sheet_values [] b = tt
sheet_values (none ∷ vs) b = sheet_values vs b.1.1
sheet_values (some v ∷ vs) b = (bytes-front v (sheet_of vs) b.1.1, sheet_values vs (bytes_back v (sheet_of vs) b.1.1))

-- and so is a container of such values
tag-bytes : (all : Table) (t : ℕ) → Plain all t → Bytes (tag_bytes t)
tag-bytes all t (short h k) = rw (lt-ltb t 256 h) (h, tt)
tag-bytes all t (double e h) = rw e (omega arith, (omega arith, tt))

element-bytes : (all rows : Table) (vs : Values) → Tags all rows → AllBytes vs → Bytes (encode rows vs)
element-bytes all [] vs p b = tt
element-bytes all (r ∷ rs) [] p b = tt
element-bytes all (r ∷ rs) (none ∷ vs) p b = element-bytes all rs vs p.1 b
element-bytes all (r ∷ rs) (some v ∷ vs) p b =
    below-append 256 (tag_bytes r.tag) _ (tag-bytes all r.tag p.0)
    (below-append 256 (length_bytes (length v)) _ (length-bytes (length v)) (below-append 256 v (encode rs vs) b.0 (element-bytes all rs vs p.1 b.1)))

outer-byte : (kind : ℕ) → outer_tag kind < 256
outer-byte kind =
    elim (which (eqb kind 3)) [
      | inl q ↦ rw q (omega arith)
      | inr q ↦ rw q (omega arith)
    ]

pub container-bytes : (kind : ℕ) (vs : Values) → AllBytes vs → Bytes (container kind vs)
container-bytes kind vs b =
    let body = encode (table kind) vs in
    (outer-byte kind, below-append 256 (length_bytes (length body)) body (length-bytes (length body)) (element-bytes (table kind) (table kind) vs (tags kind) b))
