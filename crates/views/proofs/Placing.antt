-- "Its place and length are fixed": a value stands behind the outer tag and length, the elements of the rows before it, and its own tag and length, each
-- length in the form that it has. Assumes nothing.
use Prim.Native.Nat.{ℕ, zero, suc, ◌+◌}
use mathlib.Core.Path.{◌≡◌, ap}
use mathlib.Core.Bool.{Bool}
use mathlib.Core.Option.{none, some}
use mathlib.Core.List.{List, [], ◌∷◌}
use native.Mathlib.Omega.{arith}
use lib.ListN.{length, take, drop, get_or}
use Rattle.laws.proofs.Cases.{no-some, none-at}
use Rattle.kinds.specs.Tables.{Table, table, first, row_at}
use Rattle.kinds.specs.declared.Slot.{Slot}
use Rattle.container.specs.Container.{Values, Spellings, long, spelled, Allowed, Formed, Conforms}
use Rattle.container.specs.Reading.{Part}
use Rattle.container.proofs.Exact.{element-length, parts_from}
use Rattle.container.proofs.Promise.{parts_of}
use Rattle.views.specs.Views.{place_of}
use Rattle.std.specs.Prelude.{Some}

-- a row's tag
pub same_tag : {s u : Slot} → Some s ≡ Some u → s.tag ≡ u.tag
same_tag {s} {u} e = let q : s ≡ u = cc in ap (λ (x : Slot). x.tag) q

-- of some rows, whose elements start at an offset
rows-placed : (today at : ℕ) (rs : Table) (vs : Values) (ps : Spellings) → Allowed today rs vs → Formed vs ps → (i : ℕ) (p : Part) → get_or (parts_from at rs vs ps) i none ≡ some p
    → (t : ℕ) (o : Bool) → first (drop i rs) ≡ Some (record { tag = t; optional = o }) → p.offset ≡ at + length (spelled (take i rs) (take i vs) (take i ps)) + long t + length (get_or ps i [])
rows-placed today at [] [] ps a f i p e t o q = absurd (none-at i e)
rows-placed today at [] (v ∷ vs) ps a f i p e t o q = absurd a
rows-placed today at (r ∷ rs) [] ps a f i p e t o q = absurd a
rows-placed today at (r ∷ rs) (v ∷ vs) [] a f i p e t o q = absurd f
rows-placed today at (r ∷ rs) (none ∷ vs) (x ∷ ps) a f zero p e t o q = absurd (no-some e)
rows-placed today at (r ∷ rs) (none ∷ vs) (x ∷ ps) a f (suc i) p e t o q = rows-placed today at rs vs ps a.1 f.1 i p e t o q
rows-placed today at (r ∷ rs) (some v ∷ vs) (x ∷ ps) a f zero p e t o q =
    let z : record { offset = at + long r.tag + length x; bytes = v } ≡ p = cc in
    let u : r.tag ≡ t = same_tag q in
    rw (← z, ← u) (omega arith)
rows-placed today at (r ∷ rs) (some v ∷ vs) (x ∷ ps) a f (suc i) p e t o q =
    let rest = spelled (take i rs) (take i vs) (take i ps) in
    let h = rows-placed today (at + long r.tag + (length x + length v)) rs vs ps a.1 f.1 i p e t o q in
    omega (arith, h, element-length r.tag x v rest)

pub placed : (kind today : ℕ) (c : List ℕ) (vs : Values) (h : Conforms kind today vs c) → (i t : ℕ) (o : Bool) → row_at kind i ≡ Some (record { tag = t; optional = o })
    → (p : Part) → get_or (parts_of kind vs h.forms) i none ≡ some p → p.offset ≡ place_of kind vs h.forms i t
placed kind today c vs h i t o q p g =
    rows-placed today (1 + length h.forms.outer) (table kind) vs h.forms.rows h.allowed h.rows_formed i p g t o q
