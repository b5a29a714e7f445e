-- The part that is handed out, of the container that it lies in. Assumes nothing.
use Prim.Native.Nat.{ℕ, ◌+◌, ◌-◌, ◌≤◌}
use mathlib.Core.Path.{◌≡◌, refl, sym, ap, ◌∙◌}
use mathlib.Core.Bool.{Bool, false, cond, ◌&&◌}
use mathlib.Core.List.{List}
use native.Mathlib.Omega.{arith}
use lib.ListN.{length, take, drop}
use borrow.Author.Tests.{ne_eqb}
use lib.Dec.{eqb}
use Rattle.verdicts.specs.Verdicts.{number_of, tag_number}
use Rattle.verdicts.proofs.Apart.{never-zero}
use Rattle.signer.specs.Signer.{holder, Signs}
use Rattle.signer.specs.Locating.{Locates}
use Rattle.signer.specs.Locating.{Located, in_numbers, lies_in}
use Rattle.signer.specs.declared.Holder.{Holder}
use Rattle.signer.specs.declared.Holder.TheVariants.{Chuid, Biometric}
use Rattle.signer.specs.declared.Certificate.{Certificate}
use Rattle.signer.specs.declared.Refusal.{Refusal}
use Rattle.std.specs.Prelude.{Result, Ok, Err}

-- which container the part is of, by the numbers
abbrev in_chuid : Located → Bool
in_chuid r = eqb r.verdict.number 0 && eqb r.which 1

by_holder : {A : Type 0} (x y : A) → Holder → A
by_holder x y Chuid = x
by_holder x y Biometric = y

is_holder : {A : Type 0} (x y : A) (a : Result Certificate Refusal) → by_holder x y (lies_in a) ≡ cond (in_chuid (in_numbers a)) x y
unfolding by_holder
is_holder x y (Ok c) = each c.holder
  where
    each : (h : Holder) → by_holder x y h ≡ cond (in_chuid (in_numbers (Ok (record { holder = h; from = c.from; to = c.to })))) x y
    each Chuid = refl
    each Biometric = refl
is_holder x y (Err r) = let n : eqb (number_of r.finding.fault) 0 ≡ false = ne_eqb _ _ (never-zero r.finding.fault) in rw n

module _ {kind today : ℕ} {chuid biometric : List ℕ} {a : Result Certificate Refusal} (l : Locates kind today chuid biometric a) where
  abbrev r : Located
  r = in_numbers a

  pub ordered : r.from ≤ r.to
  ordered = rw l.is (omega arith)

  from_is : r.from ≡ l.signed.offset
  from_is = ap (λ (x : Located). x.from) l.is

  holder-is : {A : Type 0} (x y : A) → by_holder x y (lies_in a) ≡ holder l.signed.verdict l.signed.which x y
  holder-is x y = is_holder x y a ∙ ap (λ (z : Located). holder z.verdict z.which x y) l.is

  -- it is in the container that it is taken from
  inside : r.to ≤ length (by_holder chuid biometric (lies_in a))
  inside = rw (is_holder chuid biometric a) l.inside

  module _ (p q : ℕ × ℕ) where
    handed : (w : ℕ × ℕ) (c : List ℕ) → by_holder p q (lies_in a) ≡ w → by_holder chuid biometric (lies_in a) ≡ c → (o : ℕ) → o ≡ w.1 + r.from
        → Signs kind today chuid biometric p q r.verdict.number r.verdict.place (tag_number r.verdict.tag) r.which (w.0, o) (take (r.to - r.from) (drop r.from c))
    handed w c i j o e = record {
      signed = l.signed;
      says = l.says;
      answers = record {
        number_is = ap (λ (x : Located). x.verdict.number) l.is;
        place_is = ap (λ (x : Located). x.verdict.place) l.is;
        tag_is = ap (λ (x : Located). tag_number x.verdict.tag) l.is;
        which_is = ap (λ (x : Located). x.which) l.is;
        block_is = ap (λ (x : ℕ × ℕ). x.0) (sym i ∙ holder-is p q);
        offset_is = rw (← holder-is p q, i, ← from_is) e;
        bytes_are = rw (← is_holder chuid biometric a, j) at l.bytes_are;
      };
    }

    pub of_chuid : lies_in a ≡ Chuid → (o : ℕ) → o ≡ p.1 + r.from
        → Signs kind today chuid biometric p q r.verdict.number r.verdict.place (tag_number r.verdict.tag) r.which (p.0, o) (take (r.to - r.from) (drop r.from chuid))
    unfolding by_holder
    of_chuid h o e = handed p chuid (rw h) (rw h) o e

    pub of_biometric : lies_in a ≡ Biometric → (o : ℕ) → o ≡ q.1 + r.from
        → Signs kind today chuid biometric p q r.verdict.number r.verdict.place (tag_number r.verdict.tag) r.which (q.0, o) (take (r.to - r.from) (drop r.from biometric))
    unfolding by_holder
    of_biometric h o e = handed q biometric (rw h) (rw h) o e

  pub in_chuid_inside : lies_in a ≡ Chuid → r.to ≤ length chuid
  unfolding by_holder
  in_chuid_inside h = rw h at inside

  pub in_biometric_inside : lies_in a ≡ Biometric → r.to ≤ length biometric
  unfolding by_holder
  in_biometric_inside h = rw h at inside
