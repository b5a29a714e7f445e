-- The same in numbers, as the code goes: from where to where the part lies. Nothing of the request is said here.
use Rattle.std.specs.Prelude.{ℕ, ◌+◌, ◌-◌, ◌≤◌, ◌≡◌, Bool, ◌||◌, List, eqb, length, take, drop, Option, Some, None, Result, Ok, Err}
use Rattle.laws.specs.Layout.{field, part}
use Rattle.verdicts.specs.Verdicts.{outright, verdict_of}
use Rattle.verdicts.specs.declared.Fault.{Fault}
use Rattle.verdicts.specs.declared.Finding.{Finding}
use Rattle.verdicts.specs.declared.Verdict.{Verdict}
use Rattle.container.specs.InOrder.{Named}
use Rattle.signer.specs.Signer.{Biometric, Signed, refusal, Compared, Says, holder}
use Rattle.signer.specs.declared.Holder.{Holder}
use Rattle.signer.specs.declared.Holder.TheVariants.{Chuid as InChuid, Biometric as InBiometric}
use Rattle.signer.specs.declared.Certificate.{Certificate}
use Rattle.signer.specs.declared.Refusal.{Refusal}

abbrev pub is_biometric : ℕ → Bool
is_biometric kind = eqb kind 6 || eqb kind 7 || eqb kind 12

-- ---- the code's answer in the numbers of a call: the verdict; 1 the CHUID, 2 the biometric, 0 neither; from where to where the part lies

pub record Located : Type 0 where
  pub verdict : Verdict
  pub which : ℕ
  pub from : ℕ
  pub to : ℕ

abbrev pub number_of : Holder → ℕ
number_of InChuid = 1
number_of InBiometric = 2

abbrev pub about : Option Holder → ℕ
about None = 0
about (Some h) = number_of h

-- "others say neither"
abbrev pub of_neither : Fault → Refusal
of_neither f = record { of = None; finding = outright f }

abbrev pub nowhere : ℕ → Verdict → Located
nowhere which v = record { verdict = v; which = which; from = 0; to = 0 }

abbrev pub in_numbers : Result Certificate Refusal → Located
in_numbers (Ok c) = record { verdict = verdict_of (Ok tt); which = number_of c.holder; from = c.from; to = c.to }
in_numbers (Err r) = nowhere (about r.of) (verdict_of (Err r.finding))

-- which container the part is of
abbrev pub lies_in : Result Certificate Refusal → Holder
lies_in (Ok c) = c.holder
lies_in (Err r) = InBiometric

-- ---- what it has to be

abbrev pub located : Signed → Located
located a = record { verdict = a.verdict; which = a.which; from = a.offset; to = a.offset + length a.bytes }

-- an answer that is said
pub record Tells (Say : Signed → Type 0) (r : Result Certificate Refusal) : Type 0 where
  pub signed : Signed
  pub says : Say signed
  pub is : in_numbers r ≡ located signed

-- the header's FASC-N and the block in a value of BC
abbrev pub InValue : List ℕ → List ℕ → ℕ → List ℕ → ℕ → Signed → Type 0
InValue fascn block block_at value value-at a =
    Compared fascn (part value 59 25) (drop (88 + field value 2 4) value) (value-at + (88 + field value 2 4)) block block_at a

-- the biometric, once the CHUID is judged
pub data Second (kind today : ℕ) (biometric fascn block : List ℕ) (block_at : ℕ) (a : Signed) : Type 0 where
  breaks : (f : Finding) → Named kind today biometric f → a ≡ refusal 2 f → Second kind today biometric fascn block block_at a
  conforms : (own-fascn own : List ℕ) (own_at : ℕ) → Biometric kind today biometric own-fascn own own_at → Compared fascn own-fascn own own_at block block_at a
      → Second kind today biometric fascn block block_at a

-- both. The last two follow from the others; they stand here so that a caller finds them
pub record Locates (kind today : ℕ) (chuid biometric : List ℕ) (r : Result Certificate Refusal) : Type 0 where
  pub signed : Signed
  pub says : Says kind today chuid biometric signed
  pub is : in_numbers r ≡ located signed
  pub inside : (in_numbers r).to ≤ length (holder (in_numbers r).verdict (in_numbers r).which chuid biometric)
  pub bytes_are : take ((in_numbers r).to - (in_numbers r).from) (drop (in_numbers r).from (holder (in_numbers r).verdict (in_numbers r).which chuid biometric)) ≡ signed.bytes
