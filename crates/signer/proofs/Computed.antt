-- What is said of two containers, computed: so there is an answer of every two. Assumes nothing.
use Prim.Native.Nat.{ℕ, ◌+◌, ◌-◌}
use mathlib.Core.Path.{◌≡◌, refl, sym, ◌∙◌}
use mathlib.Core.Bool.{cond, false≢true}
use mathlib.Core.List.{List}
use native.Mathlib.Nat.{add-sub_cancel_left}
use lib.ListN.{length, take, drop}
use Rattle.laws.specs.Bytes.{Bytes}
use Rattle.laws.specs.Layout.{field, part}
use Rattle.laws.specs.Tests.{same}
use Rattle.laws.proofs.Bases.{below-take, below-drop}
use Rattle.laws.proofs.Cases.{test, same-exact}
use Rattle.verdicts.specs.Verdicts.{Outcome, outright, verdict_of}
use Rattle.verdicts.specs.declared.Fault.TheVariants.{UnknownKind, FascnDiffer, BiometricBlock, ChuidBlock, NeitherHolds}
use Rattle.der.specs.Der.{Item, der_bytes}
use Rattle.blocks.specs.Block.{place}
use Rattle.blocks.specs.Reading.{Reads}
use Rattle.blocks.specs.Reading.{Block}
use Rattle.blocks.proofs.Exact.{stands}
use Rattle.blocks.proofs.Computed.{block_of, reads}
use Rattle.container.specs.Container.{Values, Conforms}
use Rattle.container.specs.Reading.{Parsed, values, fault, parsed, outcome_of, outcome}
use Rattle.container.proofs.Promise.{exact, named}
use Rattle.views.specs.Views.{viewed}
use Rattle.signer.specs.Signer.{Signed, refusal, found, IsBiometric, InBlocks, own_none, own_holds, block_none, neither, block_holds, Compared, other, Says, no_biometric, chuid_breaks, biometric_breaks, both_conform}
use Rattle.signer.specs.Signer as spec
use Rattle.signer.specs.Locating.{is_biometric}
use Rattle.signer.proofs.Elements.{element-of, within}
use Rattle.signer.proofs.Ways.{kind-exact, told}
use Rattle.signer.proofs.Both.{bc-row}
use Rattle.std.specs.Prelude.{Some, None, Ok, Err}

-- ---- the two blocks

abbrev held : ℕ → ℕ → List ℕ → ℕ → ℕ → Signed
held which at v from to = record { verdict = verdict_of (Ok tt); which = which; offset = at + from; bytes = take (to - from) (drop from v) }

abbrev in_blocks : Block → List ℕ → ℕ → Block → List ℕ → ℕ → Signed
in_blocks (Err _) own own_at y block at = refusal 0 (outright BiometricBlock)
in_blocks (Ok (Some p)) own own_at y block at = held 2 own_at own p.from p.to
in_blocks (Ok None) own own_at (Err _) block at = refusal 0 (outright ChuidBlock)
in_blocks (Ok None) own own_at (Ok None) block at = refusal 0 (outright NeitherHolds)
in_blocks (Ok None) own own_at (Ok (Some p)) block at = held 1 at block p.from p.to

held-is : (which at : ℕ) (v : List ℕ) (from to p : ℕ) (c : Item) → from ≡ p → to ≡ p + length (der_bytes c) → take (length (der_bytes c)) (drop p v) ≡ der_bytes c
    → held which at v from to ≡ found which (at + p) c
held-is which at v from to p c e f s = rw (e, f, add-sub_cancel_left, s)

in_blocks_lem : (own : List ℕ) (own_at : ℕ) (block : List ℕ) (at : ℕ) (x y : Block) → Reads own x → Reads block y → InBlocks own own_at block at (in_blocks x own own_at y block at)
in_blocks_lem own own_at block at (Err u) y r q = own_none (told own (Err u) r) refl
in_blocks_lem own own_at block at (Ok (Some p)) y r q =
    let (s, c, k, e, f) = told own (Ok (Some p)) r in
    own_holds s c k (held-is 2 own_at own p.from p.to (place s) c e f (stands own s c k.0 k.1).1)
in_blocks_lem own own_at block at (Ok None) (Err u) r q = block_none (told own (Ok None) r) (told block (Err u) q) refl
in_blocks_lem own own_at block at (Ok None) (Ok None) r q = neither (told own (Ok None) r) (told block (Ok None) q) refl
in_blocks_lem own own_at block at (Ok None) (Ok (Some p)) r q =
    let (s, c, k, e, f) = told block (Ok (Some p)) q in
    block_holds (told own (Ok None) r) s c k (held-is 1 at block p.from p.to (place s) c e f (stands block s c k.0 k.1).1)

-- ---- the two containers

module _ (kind today : ℕ) (chuid biometric : List ℕ) where
  abbrev fascn : List ℕ
  fascn = (viewed 2 today chuid 0x30).part.bytes

  abbrev block : List ℕ
  block = (viewed 2 today chuid 0x3E).part.bytes

  abbrev at : ℕ
  at = (viewed 2 today chuid 0x3E).part.offset

  abbrev value : List ℕ
  value = (viewed kind today biometric 0xBC).part.bytes

  abbrev start : ℕ
  start = (viewed kind today biometric 0xBC).part.offset

  abbrev front : ℕ
  front = 88 + field value 2 4

  abbrev compared : Signed
  compared =
      cond (same fascn (part value 59 25)) (in_blocks (block_of (drop front value)) (drop front value) (start + front) (block_of block) block at)
      (refusal 0 (outright FascnDiffer))

  abbrev by_second : Outcome → Signed
  by_second (Err f) = refusal 2 f
  by_second (Ok _) = compared

  abbrev by_first : Outcome → Signed
  by_first (Err f) = refusal 1 f
  by_first (Ok _) = by_second (outcome kind today biometric)

  unfoldable pub signed_of : Signed
  signed_of = cond (is_biometric kind) (by_first (outcome 2 today chuid)) (refusal 0 (outright UnknownKind))

  -- ---- there is an answer

  module _ (b : Bytes chuid) (d : Bytes biometric) where
    abbrev Say : Signed → Type 0
    Say a = Says kind today chuid biometric a

    part_bytes : (c v : List ℕ) (n : ℕ) → Bytes c → take (length v) (drop n c) ≡ v → Bytes v
    part_bytes c v n k e = rw e at (below-take 256 (length v) (drop n c) (below-drop 256 n c k))

    compared-says : (vs ws : Values) → IsBiometric kind → Conforms 2 today vs chuid → Conforms kind today ws biometric → Say compared
    compared-says vs ws k h g =
        let x = element-of 2 today chuid b vs h 7 0x3E refl in
        let y = element-of kind today biometric d ws g 0 0xBC (bc-row kind k) in
        both_conform k fascn block (part value 59 25) (drop front value) at (start + front)
        (record { fascn_at = _; fascn_is = element-of 2 today chuid b vs h 1 0x30 refl; block_is = x })
        (record { value = value; start = start; value_is = y; fascn_is = refl; block_is = refl; at_is = refl })
        (test (same fascn (part value 59 25))
        (λ t. Compared fascn (part value 59 25) (drop front value) (start + front) block at
        (cond t (in_blocks (block_of (drop front value)) (drop front value) (start + front) (block_of block) block at) (refusal 0 (outright FascnDiffer))))
        (λ e.
        spec.same ((same-exact fascn (part value 59 25)).0 e)
        (in_blocks_lem (drop front value) (start + front) block at (block_of (drop front value)) (block_of block)
        (reads (drop front value) (below-drop 256 front value (part_bytes biometric value start d (within d y).1))) (reads block (part_bytes chuid block at b (within b x).1))))
        (λ e. other (λ i. false≢true (sym e ∙ (same-exact fascn (part value 59 25)).1 i)) refl))

    second-says : (vs : Values) → IsBiometric kind → Conforms 2 today vs chuid → Say (by_second (outcome kind today biometric))
    unfolding outcome
    second-says vs k h = go (parsed kind today biometric) refl
      where
        go : (p : Parsed (List ℕ)) → parsed kind today biometric ≡ p → Say (by_second (outcome_of p))
        go (fault f) e = biometric_breaks k vs h f (named kind today biometric d f e) refl
        go (values ws) e = compared-says vs ws k h ((exact kind today biometric d ws).0 e)

    first_says : IsBiometric kind → Say (by_first (outcome 2 today chuid))
    unfolding outcome
    first_says k = go (parsed 2 today chuid) refl
      where
        go : (p : Parsed (List ℕ)) → parsed 2 today chuid ≡ p → Say (by_first (outcome_of p))
        go (fault f) e = chuid_breaks k f (named 2 today chuid b f e) refl
        go (values vs) e = second-says vs k ((exact 2 today chuid b vs).0 e)

    pub says : Say signed_of
    unfolding signed_of
    says =
        test (is_biometric kind) (λ t. Say (cond t (by_first (outcome 2 today chuid)) (refusal 0 (outright UnknownKind))))
        (λ e. first_says ((kind-exact kind).0 e))
        (λ e. no_biometric (λ k. false≢true (sym e ∙ (kind-exact kind).1 k)) refl)
