-- The table's judge keeps a value exactly where it is one of this format; where the FASC-N and the data lie in it. Assumes nothing.
use Prim.Native.Nat.{ℕ, ◌+◌, ◌≤◌}
use mathlib.Core.Path.{◌≡◌, sym, ◌∙◌}
use mathlib.Core.Logic.{◌↔◌}
use mathlib.Core.Bool.{true}
use mathlib.Core.List.{List}
use native.Mathlib.Omega.{arith}
use lib.Dec.{eqb}
use lib.ListN.{length, take, drop}
use borrow.Author.Tests.{eqb-true}
use Rattle.laws.specs.Bytes.{Bytes}
use Rattle.laws.specs.Layout.{field, part}
use Rattle.laws.specs.Format.{FirstBroken, kept, breaks, judge}
use Rattle.laws.proofs.Bases.{below-take, below-drop}
use Rattle.laws.proofs.Formats.{format-exact, first-exact, kept_if, laid-long}
use Rattle.verdicts.specs.declared.Fault.{Fault}
use Rattle.verdicts.specs.declared.Fault.TheVariants.{BadHeader, BadFascn}
use Rattle.fascn.specs.Fascn.{IsFascn}
use Rattle.fascn.specs.Reading.{is_fascn}
use Rattle.fascn.proofs.Codec.{fascn-exact}
use Rattle.cbeff.specs.Header.{data_part, header, IsBiometric}
use Rattle.cbeff.specs.Judged.{opens}
use Rattle.cbeff.specs.declared.Biometric.{Biometric}
use Rattle.cbeff.proofs.Agreed.{header-agrees}
use Rattle.cbeff.proofs.Told.{after, header-told}

-- of any format
pub biometric-exact : (b : Biometric) → (v : List ℕ) → Bytes v → (judge (header b (length v)) 0 v ≡ kept) ↔ IsBiometric b v
biometric-exact b v h = format-exact (header b (length v)) (header-agrees b (length v)) v h

-- and it names the first rule that a value breaks
pub first-broken-exact : (b : Biometric) (v : List ℕ) → Bytes v → (f : Fault) → (judge (header b (length v)) 0 v ≡ breaks f) ↔ FirstBroken (header b (length v)) v f
first-broken-exact b v h f = first-exact (header b (length v)) (header-agrees b (length v)) v h f

-- a value has the header's 88 bytes, at least one of data and at least one of signature
pub least : (b : Biometric) (v : List ℕ) → IsBiometric b v → 90 ≤ length v
least b v l = let h = laid-long (header b (length v)) v l in omega arith

-- the fields before the FASC-N are as they should be, and so are those after it
inside : (b : Biometric) (v : List ℕ) → Bytes v → IsBiometric b v → (opens b v ≡ true) × (after b v ≡ kept)
inside b v h l =
    let n : 88 ≤ length v = omega (arith, least b v l) in
    let j : judge (header b (length v)) 0 v ≡ kept = (biometric-exact b v h).1 l in
    kept_if (opens b v) (after b v) BadHeader (sym (header-told b v n) ∙ j)

-- the FASC-N stands at 59
pub fascn-inside : (b : Biometric) (v : List ℕ) → Bytes v → IsBiometric b v → IsFascn (take 25 (drop 59 v))
fascn-inside b v h l =
    (fascn-exact (take 25 (drop 59 v)) (below-take 256 25 (drop 59 v) (below-drop 256 59 v h))).0 (kept_if _ _ BadFascn (inside b v h l).1).0

-- the data stand at 88, as many as the header says, and behind them the signature
pub data-inside : (b : Biometric) (v : List ℕ) → Bytes v → IsBiometric b v
    → ((data_part b.body).test (part v 88 (field v 2 4)) ≡ true) × (88 + field v 2 4 + field v 6 2 ≡ length v)
data-inside b v h l =
    let f = (kept_if (is_fascn (part v 59 25)) _ BadFascn (inside b v h l).1).1 in
    let r = (kept_if (eqb (field v 84 4) 0) _ BadHeader f).1 in
    let d = kept_if ((data_part b.body).test (part v 88 (field v 2 4))) _ b.broken r in
    (d.0, eqb-true _ _ (kept_if (eqb (88 + field v 2 4 + field v 6 2) (length v)) kept BadHeader d.1).0)
