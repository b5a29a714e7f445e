-- 2026-09: the second reader of a FASC-N answers what the first does. Assumes nothing.
use Prim.Native.Nat.{ℕ, zero, suc, ◌+◌, ◌*◌, ◌/◌, ◌%◌, ◌<◌, ◌≤◌}
use mathlib.Core.Logic.{◌⊎◌, inl, inr}
use mathlib.Core.Path.{◌≡◌, refl, sym, ap, ◌∙◌}
use mathlib.Core.List.{List, [], ◌∷◌, ◌++◌, append-nil}
use native.Mathlib.Omega.{arith}
use native.Mathlib.Decide.{dec_lt}
use native.Mathlib.Nat.{le_of_suc-le-suc, not-suc-le-zero}
use lib.ListN.{length, get_or}
use Rattle.std.specs.Prelude.{Option, Some, None}
use Rattle.fascn.specs.Fascn.{symbol}
use Rattle.fascn.specs.Calls.{decoded_by}
use Rattle.fascn.specs.Reading.{value_of}
use Rattle.fascn.specs.declared.Decoded.{Decoded}
use Rattle.fascn.specs.declared.Numbers.{Numbers}
use Rattle.fascn.proofs.Characters.{symbol-lt, value-symbol, symbol-value}
use Rattle.fascn.proofs.Packing.{fascn-long}
use Rattle.verdicts.specs.Verdicts.{number_of}
use Rattle.verdicts.specs.declared.Fault.TheVariants.{SmallRoom, BadFascn}
use Rattle.pairs.specs.Pairs.{entry}
use Rattle.by_table.specs.Calls.{AreStrings, no_answer, listed}
use Rattle.by_table.proofs.Agree.{value_lt}
use Rattle.by_table.proofs.Strings.{cut_from, are_strings, only_strings as strings-are, one_list, no_list}
use Rattle.prosianek.specs.Calls.{Decodes, DecodesEach, Reads, left_over, too_short, fits, DecodesByTable}
use Rattle.prosianek.proofs.Decoding.{decoded-once, decoded-0, decoded-else}
use Rattle.promises.specs.Demands.{TwoReaders}

-- ---- the table

table_values : (v w : ℕ) → v < 16 → w < 16 → ((entry (symbol v * 32 + symbol w)).first ≡ v) × ((entry (symbol v * 32 + symbol w)).second ≡ w)
unfolding entry
table_values v w h k =
    let l : symbol w < 32 = symbol-lt w in
    let a : (symbol v * 32 + symbol w) / 32 ≡ symbol v = omega arith in
    let b : (symbol v * 32 + symbol w) % 32 ≡ symbol w = omega arith in
    (ap value_of a ∙ value-symbol v h, ap value_of b ∙ value-symbol w k)

value-or-bad : (c : ℕ) → c < 32 → (value_of c ≡ 16) ⊎ (value_of c < 16 × (symbol (value_of c) ≡ c))
value-or-bad c h =
    elim (dec_lt (value_of c) 16) [
      | yes k ↦ inr (k, symbol-value c h k)
      | no k ↦ let b = value_lt c in inl (omega arith)
    ]

table_or_bad : (x : ℕ) → x < 1024
    → (((entry x).first ≡ 16) ⊎ ((entry x).first < 16 × (symbol (entry x).first ≡ x / 32))) × (((entry x).second ≡ 16) ⊎ ((entry x).second < 16 × (symbol (entry x).second ≡ x % 32)))
unfolding entry
table_or_bad x h = (value-or-bad (x / 32) (omega arith), value-or-bad (x % 32) (omega arith))

-- ---- one contract

by-once : (x y : Option Numbers) → decoded_by x ≡ decoded_by y → x ≡ y
by-once (Some n) (Some m) e = ap (λ (d : Decoded). Some d.numbers) e
by-once (Some n) None e = let z : ◌≡◌ {A = ℕ} 0 17 = ap (λ (d : Decoded). d.number) e in absurd (omega arith)
by-once None (Some m) e = let z : ◌≡◌ {A = ℕ} 17 0 = ap (λ (d : Decoded). d.number) e in absurd (omega arith)
by-once None None e = refl

-- ---- what is read of strings that fit

module _ {bytes : List ℕ} {ss : List (List ℕ)} (a : AreStrings bytes ss) {room number : ℕ} where
  all-read : length ss ≤ room → {answers : List Decoded} → Reads bytes room number answers → (number ≡ 0) × DecodesEach ss answers
  all-read h (left_over x e n) = absurd (x ss a)
  all-read h (too_short ts x l e n) = let z : length ss ≡ length ts = ap length (one_list a x) in absurd (omega arith)
  all-read h (fits ts x l e d) = (e, rw (sym (one_list a x)) at d)

  all-there : number ≡ 0 → {answers : List Decoded} → Reads bytes room number answers → DecodesEach ss answers
  all-there z (left_over x e n) = absurd (x ss a)
  all-there z (too_short ts x l e n) = let y : ◌≡◌ {A = ℕ} 3 0 = sym e ∙ z in absurd (omega arith)
  all-there z (fits ts x l e d) = rw (sym (one_list a x)) at d

at-each : (ss : List (List ℕ)) (rs more : List Decoded) → DecodesEach ss rs → (i : ℕ) → i < length ss → (r : Decoded) → Decodes (get_or ss i []) r → get_or (rs ++ more) i no_answer ≡ r
at-each [] rs more d i h r e = absurd (not-suc-le-zero h)
at-each (s ∷ ss) [] more d i h r e = absurd d
at-each (s ∷ ss) (q ∷ rs) more d zero h r e = decoded-once s d.0 e
at-each (s ∷ ss) (q ∷ rs) more d (suc i) h r e = at-each ss rs more d.1 i (le_of_suc-le-suc h) r e

one-alone : (s : List ℕ) (r : Decoded) → Decodes s r → (rs : List Decoded) → DecodesEach (s ∷ []) rs → rs ≡ r ∷ []
one-alone s r e [] d = absurd d
one-alone s r e (q ∷ []) d = ap (λ (x : Decoded). x ∷ []) (decoded-once s d.0 e)
one-alone s r e (q ∷ p ∷ rs) d = absurd d.1

string-alone : (s : List ℕ) → length s ≡ 25 → AreStrings s (s ∷ [])
string-alone s l = record { of_25 = (l, tt); bytes_are = sym (append-nil s) }

each_string : (bytes : List ℕ) (strings : List (List ℕ)) → AreStrings bytes strings → (before after : List Decoded) → DecodesByTable bytes before after 0
    → (i : ℕ) → i < length strings → (r : Decoded) → Decodes (get_or strings i []) r → get_or after i no_answer ≡ r
unfolding listed
each_string bytes strings a before after d i h r e = rw d.left (at-each strings d.answers _ (all-there a refl d.reads) i h r e)

-- ---- the numbers, each in its turn

refused_17 : {bytes : List ℕ} {room number : ℕ} {answers : List Decoded} → (length bytes % 25 ≡ 0 → ⊥) → Reads bytes room number answers → number ≡ number_of BadFascn
refused_17 h (left_over x e n) = e
refused_17 h (too_short ss x l e n) = absurd (no_list h ss x)
refused_17 h (fits ss x l e d) = absurd (no_list h ss x)

whole : (bytes : List ℕ) → length bytes % 25 ≡ 0 → length bytes ≡ 25 * (length bytes / 25)
whole bytes z = omega arith

module _ {bytes : List ℕ} (z : length bytes % 25 ≡ 0) {room number : ℕ} {answers : List Decoded} where
  refused_3 : room < length bytes / 25 → Reads bytes room number answers → number ≡ number_of SmallRoom
  refused_3 h (left_over x e n) = absurd (x _ (are_strings bytes (length bytes / 25) (whole bytes z)))
  refused_3 h (too_short ss x l e n) = e
  refused_3 h (fits ss x l e d) = absurd (omega (arith, whole bytes z, (strings-are x).0))

  done_0 : length bytes / 25 ≤ room → Reads bytes room number answers → number ≡ 0
  done_0 h (left_over x e n) = absurd (x _ (are_strings bytes (length bytes / 25) (whole bytes z)))
  done_0 h (too_short ss x l e n) = absurd (omega (arith, whole bytes z, (strings-are x).0))
  done_0 h (fits ss x l e d) = e

left_17 : (bytes : List ℕ) → (length bytes % 25 ≡ 0 → ⊥) → (r : Decoded) → Decodes bytes r → r.number ≡ number_of BadFascn
left_17 bytes h r d =
    ap (λ (x : Decoded). x.number)
    (decoded-else bytes d (λ z. let l : length bytes ≡ 25 = fascn-long bytes (r.numbers, decoded-0 bytes d z) in h (rw l refl)))

pub two-readers : TwoReaders
two-readers = record {
  table_values = table_values;
  table_or_bad = table_or_bad;
  one_contract = λ s x y a b. by-once x y (a ∙ sym b);
  one_string = λ s l r e before after number h d.
      let a = all-read (string-alone s l) h d.reads in (a.0, rw (one-alone s r e d.answers a.1) at d.left);
  each_string = each_string;
  has_strings = λ bytes. (
    λ z. (cut_from bytes 0 (length bytes / 25), are_strings bytes (length bytes / 25) (whole bytes z)),
    λ x. let l = (strings-are x.1).0 in omega (arith, l),
  );
  how_many = λ bytes strings a. let l = (strings-are a).0 in omega (arith, l);
  only_strings = λ bytes strings others a b. one_list a b;
  left_over = λ bytes h before after number d r e. (refused_17 h d.reads, left_17 bytes h r e);
  too_short = λ bytes z before after number h d. refused_3 z h d.reads;
  long_enough = λ bytes z before after number h d. done_0 z h d.reads;
}
