-- The test of some values is true exactly where they are allowed. Assumes nothing.
use Prim.Native.Nat.{ℕ, zero, suc, ◌-◌}
use mathlib.Core.Path.{◌≡◌, refl}
use mathlib.Core.Logic.{◌↔◌}
use mathlib.Core.Bool.{true, cond, false≢true, ◌&&◌}
use mathlib.Core.Option.{none, some}
use mathlib.Core.List.{List, [], ◌∷◌}
use lib.Dec.{eqb}
use lib.ListN.{length, get_or, drop}
use Rattle.std.specs.Prelude.{Ok, Err, is_ok}
use Rattle.laws.specs.Bytes.{Bytes}
use Rattle.laws.specs.Layout.{part}
use Rattle.laws.proofs.Bases.{below-take, below-drop}
use Rattle.laws.proofs.Cases.{and-true, test}
use Rattle.kinds.specs.Tables.{Entry, Table, permitted}
use Rattle.rules.specs.Rules.{rule_of}
use Rattle.verdicts.specs.Verdicts.{Ruling}
use Rattle.container.specs.Container.{Values, Fits, Allowed}
use Rattle.container.specs.Spans.{absent}
use Rattle.container.specs.Map.{row_values, allows}
use Rattle.container.specs.declared.rows.Span.{Span}
use Rattle.container.proofs.One.{good-fits, fits-good}
use Rattle.container.proofs.Forms.{AllBytes}

ok-is : (r : Ruling) → is_ok r ≡ true → r ≡ Ok tt
ok-is (Ok u) e = refl
ok-is (Err f) e = absurd (false≢true e)

allows-one : (today : ℕ) (r : Entry) (v : List ℕ) → Bytes v → (permitted r.lengths (length v) && is_ok (rule_of r.rule today v) ≡ true) ↔ Fits today r v
allows-one today r v b = (
  λ e. let a = and-true (permitted r.lengths (length v)) (is_ok (rule_of r.rule today v)) e in good-fits today r v b (a.0, ok-is (rule_of r.rule today v) a.1),
  λ f. let g = fits-good today r v b f in rw (g.0, g.1),
)

-- the test is true exactly where the values are allowed
pub allows-exact : (today : ℕ) (rs : Table) (vs : Values) → AllBytes vs → (allows today rs vs ≡ true) ↔ Allowed today rs vs
allows-exact today [] [] b = (λ e. tt, λ a. refl)
allows-exact today [] (o ∷ vs) b = (λ e. absurd (false≢true e), λ a. absurd a)
allows-exact today (r ∷ rs) [] b = (λ e. absurd (false≢true e), λ a. absurd a)
allows-exact today (r ∷ rs) (none ∷ vs) b = (
  λ e. let a = and-true r.optional (allows today rs vs) e in (a.0, (allows-exact today rs vs b).0 a.1),
  λ a. rw (a.0, (allows-exact today rs vs b).1 a.1),
)
allows-exact today (r ∷ rs) (some v ∷ vs) b =
    let t = permitted r.lengths (length v) && is_ok (rule_of r.rule today v) in (
      λ e. let a = and-true t (allows today rs vs) e in ((allows-one today r v b.0).0 a.0, (allows-exact today rs vs b.1).0 a.1),
      λ a. rw ((allows-one today r v b.0).1 a.0, (allows-exact today rs vs b.1).1 a.1),
    )

-- the values that a map shows are bytes
pub shown-bytes : (rows : List Span) (c : List ℕ) (n i : ℕ) → Bytes c → AllBytes (row_values rows c n i)
unfolding row_values
shown-bytes rows c zero i b = tt
shown-bytes rows c (suc n) i b =
    let s = get_or rows i absent in
    test (eqb s.to 0) (λ t. AllBytes (cond t none (some (part c s.from (s.to - s.from))) ∷ row_values rows c n (suc i)))
    (λ e. shown-bytes rows c n (suc i) b)
    (λ e. (below-take 256 (s.to - s.from) (drop s.from c) (below-drop 256 s.from c b), shown-bytes rows c n (suc i) b))
