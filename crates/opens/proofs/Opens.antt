-- OPEN: the values that the map shows of the rows that are open. Assumes nothing.
use Prim.Native.Nat.{ℕ, ◌-◌, ◌<◌, ◌≤◌}
use mathlib.Core.Logic.{inl, inr}
use mathlib.Core.Path.{◌≡◌, refl, sym, ap, ap₂, ◌∙◌}
use mathlib.Core.List.{List, []}
use native.Mathlib.Nat.{zero-sub}
use native.Mathlib.Decide.{ℕ_discrete}
use native.Mathlib.Omega.{arith}
use lib.Dec.{eqb}
use lib.ListN.{length, drop, get_or, length-take, length-drop}
use borrow.Author.Tests.{eqb-true, ne_eqb}
use Rattle.laws.specs.Bytes.{Bytes}
use Rattle.laws.specs.Layout.{part}
use Rattle.laws.proofs.Bases.{below-take, below-drop}
use Rattle.laws.proofs.Cases.{which}
use Rattle.fascn.specs.Reading.{origin_of}
use Rattle.fascn.proofs.Codec.{origin-exact}
use Rattle.cbeff.specs.Header.{fingers, face, iris, IsBiometric}
use Rattle.cbeff.specs.declared.Biometric.{Biometric}
use Rattle.cbeff.proofs.Exact.{fascn-inside}
use Rattle.dates.specs.Date.{date_of, text_number}
use Rattle.dates.proofs.Dates.{text-exact, text-number}
use Rattle.kinds.specs.Tables.{table}
use Rattle.kinds.specs.declared.ValueRule.TheVariants.{Fascn, Expiry, Fingers, Face, Iris}
use Rattle.container.specs.Container.{Values, Allowed}
use Rattle.container.specs.Map.{row_value, row_values}
use Rattle.opens.specs.Open.{Open, bytes_of, holder, card, policy, issuer, agency_of, system_of, in_header, tagged_value, open_of}
use Rattle.container.specs.Spans.{absent}
use Rattle.container.specs.declared.rows.Span.{Span}
use Rattle.container.proofs.Allowing.{allows-exact, shown-bytes}
use Rattle.container.specs.Map.{allows}
use Rattle.std.specs.Prelude.{Option, unwrap_or, IsTrue}
use Rattle.opens.proofs.Openings.{value_keeps}

-- ---- the FASC-N of a record that is too short

pub no_header : (v : List ℕ) → length v < 84 → origin_of [] ≡ origin_of (in_header v)
unfolding origin_of
no_header v h =
    let l : length (in_header v) ≡ 25 → ⊥ = λ e. omega (arith, length-take 25 (drop 59 v), length-drop 59 v) in
    rw (ne_eqb _ _ l)

-- ---- an expiry that is allowed

pub expiry-number : (today : ℕ) (vs : Values) → Allowed today (table 2) vs → let v = tagged_value (table 2) vs 0x35 in unwrap_or (date_of v) 0 ≡ text_number v
expiry-number today vs a =
    let v = tagged_value (table 2) vs 0x35 in
    let (n, r, w) = value_keeps today 0x35 (table 2) vs a Expiry refl in
    ap (λ (d : Option ℕ). unwrap_or d 0) ((text-exact v n).1 r) ∙ sym (text-number v n r)

-- ---- what is open of each kind

abbrev holder_of : List ℕ → Open
holder_of v = holder (origin_of (in_header v)).agency (origin_of (in_header v)).system

module _ (rows : List Span) (c : List ℕ) where
  -- the bytes of row i
  abbrev pub row : ℕ → List ℕ
  row i = part c (get_or rows i absent).from ((get_or rows i absent).to - (get_or rows i absent).from)

  pub row-bytes : (i : ℕ) → bytes_of (row_value rows c i) ≡ row i
  row-bytes i =
      elim (which (eqb (get_or rows i absent).to 0)) [
        | inl q ↦ rw (q, eqb-true (get_or rows i absent).to 0 q, zero-sub)
        | inr q ↦ rw q
      ]

  abbrev pub values : ℕ → Values
  values kind = row_values rows c (length (table kind)) 0

  -- a map's values are allowed where the test says so
  pub are-allowed : (kind today : ℕ) → Bytes c → IsTrue (allows today (table kind) (values kind)) → Allowed today (table kind) (values kind)
  are-allowed kind today b t = (allows-exact today (table kind) (values kind) (shown-bytes rows c (length (table kind)) 0 b)).0 t

  pub card-open : (today : ℕ) → Allowed today (table 2) (values 2)
      → card (origin_of (row 1)).agency (origin_of (row 1)).system (unwrap_or (date_of (row 5)) 0) ≡ open_of 2 (values 2)
  unfolding row_values
  card-open today a =
      let o = origin-exact _ (value_keeps today 0x30 (table 2) (values 2) a Fascn refl) in
      ap₂ (λ (f e : List ℕ). card (origin_of f).agency (origin_of f).system (unwrap_or (date_of e) 0)) (sym (row-bytes 1)) (sym (row-bytes 5))
      ∙ (λ i. card (o.0 i) (o.1 i) (expiry-number today (values 2) a i))

  pub policy-open : policy (row 1) ≡ open_of 3 (values 3)
  unfolding row_values
  policy-open = ap policy (sym (row-bytes 1))

  pub issuer-open : issuer (row 4) ≡ open_of 4 (values 4)
  unfolding row_values
  issuer-open = ap issuer (sym (row-bytes 4))

  -- the first row of three kinds is a biometric record, which has a FASC-N in its header
  module _ (bytes : Bytes c) where
    header-open : (b : Biometric) → IsBiometric b (bytes_of (row_value rows c 0))
        → let f = in_header (bytes_of (row_value rows c 0)) in holder_of (row 0) ≡ holder (agency_of f) (system_of f)
    header-open b k =
        let v : List ℕ = bytes_of (row_value rows c 0) in
        let w : Bytes v = rw (row-bytes 0) (below-take 256 ((get_or rows 0 absent).to - (get_or rows 0 absent).from) (drop (get_or rows 0 absent).from c) (below-drop 256 (get_or rows 0 absent).from c bytes)) in
        let o = origin-exact (in_header v) (fascn-inside b v w k) in
        ap holder_of (sym (row-bytes 0)) ∙ (λ i. holder (o.0 i) (o.1 i))

    module _ (today : ℕ) where
      fingers-open : Allowed today (table 6) (values 6) → holder_of (row 0) ≡ open_of 6 (values 6)
      unfolding row_values
      fingers-open a = header-open fingers (value_keeps today 0xBC (table 6) (values 6) a Fingers refl)

      face-open : Allowed today (table 7) (values 7) → holder_of (row 0) ≡ open_of 7 (values 7)
      unfolding row_values
      face-open a = header-open face (value_keeps today 0xBC (table 7) (values 7) a Face refl)

      iris-open : Allowed today (table 12) (values 12) → holder_of (row 0) ≡ open_of 12 (values 12)
      unfolding row_values
      iris-open a = header-open iris (value_keeps today 0xBC (table 12) (values 12) a Iris refl)

      abbrev pub Shows : ℕ → Type 0
      Shows kind = Allowed today (table kind) (values kind) → holder_of (row 0) ≡ open_of kind (values kind)

      pub twelve : (kind : ℕ) → kind ≡ 12 → Shows kind
      twelve kind e = rw e iris-open

      pub six_or_seven : (kind : ℕ) → 6 ≤ kind → kind < 8 → Shows kind
      six_or_seven kind h l =
          elim (ℕ_discrete kind 6) [
            | yes e ↦ rw e fingers-open
            | no n ↦ let e : kind ≡ 7 = omega arith in rw e face-open
          ]
