-- The FASC-N that a container carries, as its map shows it. Assumes nothing.
use Prim.Native.Nat.{ℕ, ◌-◌, ◌<◌, ◌≤◌}
use mathlib.Core.Path.{◌≡◌, refl, sym, ap, ◌∙◌}
use mathlib.Core.Bool.{true, ◌||◌}
use mathlib.Core.Option.{Option, some}
use mathlib.Core.List.{List}
use native.Mathlib.Decide.{ℕ_discrete}
use native.Mathlib.Omega.{arith}
use lib.Dec.{eqb}
use lib.ListN.{length, drop, get_or, length-take, length-drop}
use borrow.Author.Tests.{eqb-true}
use Rattle.laws.specs.Bytes.{Bytes}
use Rattle.laws.specs.Layout.{part}
use Rattle.laws.proofs.Bases.{below-take, below-drop, below_of}
use Rattle.laws.proofs.Cases.{either}
use Rattle.fascn.proofs.Packing.{fascn-long}
use Rattle.cbeff.specs.Header.{fingers, face, iris, IsBiometric}
use Rattle.cbeff.specs.declared.Biometric.{Biometric}
use Rattle.cbeff.proofs.Exact.{fascn-inside}
use Rattle.kinds.specs.Tables.{table}
use Rattle.kinds.specs.declared.ValueRule.TheVariants.{Fascn, Fingers, Face, Iris}
use Rattle.container.specs.Container.{Allowed}
use Rattle.container.specs.Map.{row_value, row_values}
use Rattle.container.specs.Spans.{absent}
use Rattle.container.specs.Judged.{contents}
use Rattle.container.specs.declared.rows.Span.{Span}
use Rattle.container.specs.declared.conforming.Conforming.{Conforming}
use Rattle.opens.specs.Open.{bytes_of, in_header}
use Rattle.opens.proofs.Openings.{value_keeps}
use Rattle.opens.proofs.Opens.{row, row-bytes, values, are-allowed}
use Rattle.summary.specs.Rows.{carried, one_more, seen, seen_in, counted}
use Rattle.summary.specs.declared.Tally.{Tally}

module _ (rows : List Span) (c : List ℕ) (today : ℕ) where
  -- a CHUID's is its second row
  chuid_carries : Allowed today (table 2) (values rows c 2) → (length (row rows c 1) ≡ 25) × (carried 2 (values rows c 2) ≡ some (row rows c 1))
  unfolding row_values
  chuid_carries a =
      let v = bytes_of (row_value rows c 1) in
      let e : v ≡ row rows c 1 = row-bytes rows c 1 in
      (rw (← e) (fascn-long v (value_keeps today 0x30 (table 2) (values rows c 2) a Fascn refl)), ap some e)

  -- a biometric's stands in the header of its first
  record InFirst (kind : ℕ) : Type 0 where
    pub long : 84 ≤ length (row rows c 0)
    pub carries : carried kind (values rows c kind) ≡ some (part (row rows c 0) 59 25)

  module _ (b : Bytes c) where
    in-first : (kind : ℕ) (f : Biometric) → IsBiometric f (bytes_of (row_value rows c 0)) → carried kind (values rows c kind) ≡ some (in_header (bytes_of (row_value rows c 0))) → InFirst kind
    in-first kind f k e =
        let v : List ℕ = row rows c 0 in
        let same : bytes_of (row_value rows c 0) ≡ v = row-bytes rows c 0 in
        let bytes : Bytes v = below-take 256 ((get_or rows 0 absent).to - (get_or rows 0 absent).from) (drop (get_or rows 0 absent).from c) (below-drop 256 (get_or rows 0 absent).from c b) in
        let l = fascn-long (in_header v) (fascn-inside f v bytes (rw same at k)) in
        record { long = omega (arith, l, length-take 25 (drop 59 v), length-drop 59 v); carries = e ∙ ap (λ (u : List ℕ). some (in_header u)) same }

    biometric_carries : (kind : ℕ) → (eqb kind 6 || eqb kind 7 || eqb kind 12) ≡ true → Allowed today (table kind) (values rows c kind) → InFirst kind
    unfolding row_values
    biometric_carries kind h a =
        either (eqb kind 6 || eqb kind 7) (eqb kind 12)
        (either (eqb kind 6) (eqb kind 7)
        (λ q. let e = eqb-true kind 6 q in rw e (in-first 6 fingers (value_keeps today 0xBC (table 6) (values rows c 6) (rw e at a) Fingers refl) refl))
        (λ q. let e = eqb-true kind 7 q in rw e (in-first 7 face (value_keeps today 0xBC (table 7) (values rows c 7) (rw e at a) Face refl) refl)))
        (λ q. let e = eqb-true kind 12 q in rw e (in-first 12 iris (value_keeps today 0xBC (table 12) (values rows c 12) (rw e at a) Iris refl) refl))
        h

-- so with the FASC-N that the code takes of a container that conforms the state is as it should be
module _ (m : Conforming) (t : Tally) where
  abbrev the_row : ℕ → List ℕ
  the_row i = row m.rows.spans m.rows.bytes.now i

  bytes : Bytes m.rows.bytes.now
  bytes = below_of 256 m.rows.bytes.now m.rows.are_bytes

  allowed : Allowed m.today (table m.kind) (contents m)
  allowed = are-allowed m.rows.spans m.rows.bytes.now m.kind m.today bytes m.allowed

  pub chuid_counted : m.kind ≡ 2 → (length (the_row 1) ≡ 25) × (seen (the_row 1) (one_more t) ≡ counted m.kind (contents m) t)
  chuid_counted k =
      let (l, e) = chuid_carries m.rows.spans m.rows.bytes.now m.today (rw k at allowed) in
      (l, rw k (sym (ap (λ (o : Option (List ℕ)). seen_in o (one_more t)) e)))

  abbrev pub Counts : Type 0
  Counts = (84 ≤ length (the_row 0)) × (seen (part (the_row 0) 59 25) (one_more t) ≡ counted m.kind (contents m) t)

  biometric-counted : (eqb m.kind 6 || eqb m.kind 7 || eqb m.kind 12) ≡ true → Counts
  biometric-counted h =
      let r = biometric_carries m.rows.spans m.rows.bytes.now m.today bytes m.kind h allowed in
      (r.long, sym (ap (λ (o : Option (List ℕ)). seen_in o (one_more t)) r.carries))

  pub twelve : m.kind ≡ 12 → Counts
  twelve e = biometric-counted (rw e refl)

  pub six_or_seven : 6 ≤ m.kind → m.kind < 8 → Counts
  six_or_seven h l =
      elim (ℕ_discrete m.kind 6) [
        | yes e ↦ biometric-counted (rw e refl)
        | no n ↦ let e : m.kind ≡ 7 = omega arith in biometric-counted (rw e refl)
      ]
