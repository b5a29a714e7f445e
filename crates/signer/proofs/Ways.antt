-- The two blocks, the two FASC-N and the two containers, by the tests that the code makes: a law for each way out. Assumes nothing.
use Prim.Native.Nat.{ℕ, ◌+◌, ◌≤◌}
use mathlib.Core.Path.{◌≡◌, refl, sym, ◌∙◌}
use mathlib.Core.Logic.{inl, inr, ◌↔◌}
use mathlib.Core.Bool.{true, false, false≢true}
use mathlib.Core.List.{List}
use native.Mathlib.Omega.{arith}
use native.Mathlib.Nat.{add_assoc}
use lib.ListN.{length, drop}
use borrow.Author.Tests.{eqb-true}
use Rattle.laws.specs.Layout.{field, part}
use Rattle.laws.specs.Tests.{same}
use Rattle.laws.proofs.Cases.{either, same-exact}
use Rattle.verdicts.specs.Verdicts.{outright, verdict_of}
use Rattle.verdicts.specs.declared.Fault.TheVariants.{FascnDiffer, BiometricBlock, ChuidBlock, NeitherHolds}
use Rattle.der.specs.Der.{Item, der_bytes}
use Rattle.blocks.specs.Block.{SignedData, place}
use Rattle.blocks.specs.Reading.{Reads, no_block, no_certificate, found as found-one}
use Rattle.blocks.specs.Reading.{Block}
use Rattle.blocks.specs.declared.Part.{Part}
use Rattle.blocks.specs.declared.Unsigned.{Unsigned}
use Rattle.blocks.proofs.Exact.{stands}
use Rattle.signer.specs.Signer.{IsBiometric, refusal, found, NoBlock, HoldsNone, Holding, InBlocks, own_none, own_holds, block_none, neither, block_holds, other}
use Rattle.signer.specs.Signer as spec
use Rattle.container.specs.Container.{largest}
use Rattle.signer.specs.Locating.{is_biometric, Located, of_neither, Tells, InValue}
use Rattle.signer.specs.declared.Holder.TheVariants.{Chuid, Biometric}
use Rattle.signer.specs.declared.Certificate.{Certificate}
use Rattle.signer.specs.declared.Refusal.{Refusal}
use Rattle.std.specs.Prelude.{Some, None, Result, Ok, Err}

-- ---- the kind

pub kind-exact : (kind : ℕ) → (is_biometric kind ≡ true) ↔ IsBiometric kind
kind-exact kind = (to, from)
  where
    to : is_biometric kind ≡ true → IsBiometric kind
    to e = either _ _ (λ f. either _ _ (λ g. inl (eqb-true kind 6 g)) (λ g. inr (inl (eqb-true kind 7 g))) f) (λ f. inr (inr (eqb-true kind 12 f))) e

    from : IsBiometric kind → is_biometric kind ≡ true
    from (inl e) = rw e
    from (inr (inl e)) = rw e
    from (inr (inr e)) = rw e

-- ---- a block that was read, by its answer

abbrev Told : List ℕ → Block → Type 0
Told v (Err u) = NoBlock v
Told v (Ok None) = HoldsNone v
Told v (Ok (Some p)) = (s : SignedData) × (c : Item) × Holding v s c × (p.from ≡ place s) × (p.to ≡ place s + length (der_bytes c))

pub told : (v : List ℕ) (r : Block) → Reads v r → Told v r
told v r (no_block n e) = rw e n
told v r (no_certificate s b z e) = rw e (s, b, z)
told v r (found-one s c b z e) = rw e (s, c, (b, z), refl, refl)

-- a certificate ends within its block
pub within : (v : List ℕ) (at : ℕ) {p : Part} → at + length v ≤ largest → Reads v (Ok (Some p)) → (p.from ≤ p.to) × (at + p.to ≤ largest)
within v at {p} l h = let (s, c, k, e, f) = told v (Ok (Some p)) h in let x = stands v s c k.0 k.1 in (omega arith, omega (arith, x.0))

-- ---- the two blocks

moved : (which k from to p n : ℕ) → from ≡ p → to ≡ p + n
    → ◌≡◌ {A = Located} (record { verdict = verdict_of (Ok tt); which = which; from = k + from; to = k + to }) (record { verdict = verdict_of (Ok tt); which = which; from = k + p; to = k + p + n })
moved which k from to p n e f = rw (e, f, add_assoc)

module _ (own : List ℕ) (start : ℕ) (block : List ℕ) (at : ℕ) where
  abbrev Say : Result Certificate Refusal → Type 0
  Say r = Tells (InBlocks own start block at) r

  pub out_29 : {u : Unsigned} → Reads own (Err u) → Say (Err (of_neither BiometricBlock))
  out_29 {u} h = record { signed = refusal 0 (outright BiometricBlock); says = own_none (told own (Err u) h) refl; is = refl }

  pub out_own : {p : Part} → Reads own (Ok (Some p)) → Say (Ok (record { holder = Biometric; from = start + p.from; to = start + p.to }))
  out_own {p} h =
      let (s, c, k, e, f) = told own (Ok (Some p)) h in
      record { signed = found 2 (start + place s) c; says = own_holds s c k refl; is = moved 2 start p.from p.to (place s) (length (der_bytes c)) e f }

  module _ (n : Reads own (Ok None)) where
    pub out_30 : {u : Unsigned} → Reads block (Err u) → Say (Err (of_neither ChuidBlock))
    out_30 {u} h = record { signed = refusal 0 (outright ChuidBlock); says = block_none (told own (Ok None) n) (told block (Err u) h) refl; is = refl }

    pub out_31 : Reads block (Ok None) → Say (Err (of_neither NeitherHolds))
    out_31 h = record { signed = refusal 0 (outright NeitherHolds); says = neither (told own (Ok None) n) (told block (Ok None) h) refl; is = refl }

    pub out_block : {p : Part} → Reads block (Ok (Some p)) → Say (Ok (record { holder = Chuid; from = at + p.from; to = at + p.to }))
    out_block {p} h =
        let (s, c, k, e, f) = told block (Ok (Some p)) h in
        record { signed = found 1 (at + place s) c; says = block_holds (told own (Ok None) n) s c k refl; is = moved 1 at p.from p.to (place s) (length (der_bytes c)) e f }

-- ---- the two FASC-N

module _ (fascn block : List ℕ) (at : ℕ) (value : List ℕ) (from : ℕ) where
  pub out_28 : same fascn (part value 59 25) ≡ false → Tells (InValue fascn block at value from) (Err (of_neither FascnDiffer))
  out_28 e = record {
    signed = refusal 0 (outright FascnDiffer);
    says = other (λ q. false≢true (sym e ∙ (same-exact fascn (part value 59 25)).1 q)) refl;
    is = refl;
  }

  pub out_same : same fascn (part value 59 25) ≡ true → {r : Result Certificate Refusal} → Tells (InBlocks (drop (88 + field value 2 4) value) (from + (88 + field value 2 4)) block at) r → Tells (InValue fascn block at value from) r
  out_same e t = record { signed = t.signed; says = spec.same ((same-exact fascn (part value 59 25)).0 e) t.says; is = t.is }
