-- A sheet has at most six bytes more than its container: a room of 32,774 bytes takes every sheet. Assumes nothing.
use Prim.Native.Nat.{ℕ, ◌+◌, ◌*◌, ◌≤◌}
use mathlib.Core.Path.{refl}
use mathlib.Core.Bool.{cond}
use mathlib.Core.Logic.{inl, inr}
use mathlib.Core.Option.{none, some}
use mathlib.Core.List.{List, [], ◌∷◌}
use native.Mathlib.Omega.{arith}
use lib.Dec.{leb, ltb}
use lib.ListN.{length, length-append}
use borrow.Author.Tests.{leb-true}
use Rattle.laws.specs.Tests.{all_below}
use Rattle.laws.proofs.Cases.{which}
use Rattle.lengths.specs.Length.{length_bytes}
use Rattle.lengths.proofs.Writing.{some_bytes}
use Rattle.kinds.specs.Tables.{Table, table}
use Rattle.kinds.proofs.Every.{of-every}
use Rattle.container.specs.Container.{Values, tag_bytes, encode, Allowed, Conforms}
use Rattle.container.proofs.Exact.{element-length}
use Rattle.container.proofs.Forms.{never-longer}
use Rattle.sheet.specs.Sheet.{sheet_of}
use Rattle.sheet.proofs.Sheets.{sheet-length}

-- how many rows may be absent
abbrev optionals : Table → ℕ
optionals [] = 0
optionals (r ∷ rs) = cond r.optional 1 0 + optionals rs

-- in no kind more than four
few : (kind : ℕ) → optionals (table kind) ≤ 4
unfolding all_below
few kind = leb-true _ _ (of-every (λ rows. leb (optionals rows) 4) refl kind)

tag-long : (t : ℕ) → 1 ≤ length (tag_bytes t)
tag-long t = elim (which (ltb t 256)) [
  | inl q ↦ rw q (omega arith)
  | inr q ↦ rw q (omega arith)
]

-- an element takes two bytes or more beside its value, as a section does; an absent row takes two bytes of the sheet alone
rows_bound : (today : ℕ) (rs : Table) (vs : Values) → Allowed today rs vs → length (sheet_of vs) ≤ length (encode rs vs) + 2 * optionals rs
unfolding sheet_of
rows_bound today [] [] a = omega arith
rows_bound today [] (o ∷ vs) a = absurd a
rows_bound today (r ∷ rs) [] a = absurd a
rows_bound today (r ∷ rs) (none ∷ vs) a =
    let h = rows_bound today rs vs a.1 in
    let l = sheet-length none vs in
    rw a.0 (omega (arith, h, l))
rows_bound today (r ∷ rs) (some v ∷ vs) a =
    let h = rows_bound today rs vs a.1 in
    let l = sheet-length (some v) vs in
    let k = element-length r.tag (length_bytes (length v)) v (encode rs vs) in
    omega (arith, h, l, k, tag-long r.tag, some_bytes (length v))

pub sheet-bound : (kind today : ℕ) (vs : Values) (c : List ℕ) → Conforms kind today vs c → length (sheet_of vs) ≤ length c + 6
sheet-bound kind today vs c h =
    let body = encode (table kind) vs in
    let b = rows_bound today (table kind) vs h.allowed in
    let l = length-append (length_bytes (length body)) body in
    omega (arith, b, few kind, never-longer kind today vs c h, l, some_bytes (length body))
