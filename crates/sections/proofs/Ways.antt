-- The ways out of the plan, by the tests that the code makes. Assumes nothing.
use Prim.Native.Nat.{ℕ}
use mathlib.Core.Path.{◌≡◌}
use mathlib.Core.Bool.{true, false}
use mathlib.Core.Option.{none, some}
use mathlib.Core.List.{List}
use lib.ListN.{length}
use Rattle.dates.specs.Date.{is_date}
use Rattle.kinds.specs.Tables.{table, is_kind}
use Rattle.verdicts.specs.Verdicts.{outright}
use Rattle.verdicts.specs.declared.Fault.TheVariants.{UnknownKind, NoDate, TornSheet}
use Rattle.container.specs.Container.{Values, encode}
use Rattle.sections.specs.Opened.{opened, judged}
use Rattle.sections.specs.Passes.{lying, Small, plan_of, plan_for}
use Rattle.std.specs.Prelude.{Ok, Err}
use Rattle.std.specs.Borrow.{Bor}
use Rattle.sections.specs.declared.Sheet.{Sheet}
use Rattle.sections.specs.Taken.{Lies}
use native.Mathlib.Omega.{arith}
use Rattle.verdicts.specs.Verdicts.{Outcome}

is-takes : (o : Outcome) (m : ℕ) {n : ℕ} → Ok n ≡ plan_of o m → n ≡ m
is-takes (Ok u) m e = cc
is-takes (Err f) m e = let z : ◌≡◌ {A = ℕ} 0 1 = cc in absurd (omega arith)

module _ (kind today : ℕ) (s : List ℕ) where
  pub bad_kind : is_kind kind ≡ false → Err (outright UnknownKind) ≡ plan_for kind today s
  unfolding plan_for
  bad_kind k = rw k

  module _ (k : is_kind kind ≡ true) where
    pub bad_date : is_date today ≡ false → Err (outright NoDate) ≡ plan_for kind today s
    unfolding plan_for
    bad_date d = rw (k, d)

    module _ (d : is_date today ≡ true) where
      pub torn_sheet : opened (table kind) s ≡ none → Err (outright TornSheet) ≡ plan_for kind today s
      unfolding plan_for
      torn_sheet o = rw (k, d, o)

      pub whole_sheet : {vs : Values} → opened (table kind) s ≡ some vs → plan_of (judged today (table kind) vs 0) (length (encode (table kind) vs)) ≡ plan_for kind today s
      unfolding plan_for
      whole_sheet o = rw (k, d, o)

-- what is handed out of a sheet that is allowed
pub lies_so : (kind today : ℕ) (s : Bor (List ℕ)) (x : Sheet) → x.rows.bytes ≡ s → opened (table kind) s.now ≡ some (lying kind x.rows.spans s.now) → Small (Ok x.size)
    → Ok x.size ≡ plan_of (judged today (table kind) (lying kind x.rows.spans s.now) 0) (length (encode (table kind) (lying kind x.rows.spans s.now))) → Lies kind s x
lies_so kind today s x b o l e = record { bytes_are = b; opens = o; size_is = is-takes (judged today (table kind) (lying kind x.rows.spans s.now) 0) _ e; small = l }
