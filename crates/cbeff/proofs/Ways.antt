-- What the tested form answers on each way out of the code. Assumes nothing.
use Prim.Native.Nat.{ℕ, ◌<◌, ◌≤◌}
use mathlib.Core.Path.{◌≡◌}
use mathlib.Core.Bool.{true, false}
use mathlib.Core.List.{List}
use lib.Dec.{leb}
use lib.ListN.{length}
use borrow.Author.Tests.{le-leb, lt-leb, eq-eqb, ne_eqb}
use Rattle.laws.specs.Layout.{field, part}
use Rattle.verdicts.specs.declared.Fault.TheVariants.{BadHeader, BadFascn}
use Rattle.fascn.specs.Reading.{is_fascn}
use Rattle.dates.specs.Moment.{is_moment}
use Rattle.cbeff.specs.Header.{data_part}
use Rattle.cbeff.specs.Judged.{sizes_hold, dates_hold, form_holds, judged}
use Rattle.cbeff.specs.declared.Biometric.{Biometric}
use Rattle.std.specs.Prelude.{Ok, Err}

-- ---- the dates

module _ (v : List ℕ) where
  pub no-creation : false ≡ is_moment (part v 12 8) → false ≡ dates_hold v
  unfolding dates_hold
  no-creation e = rw (← e)

  module _ (c : true ≡ is_moment (part v 12 8)) where
    pub no-from : false ≡ is_moment (part v 20 8) → false ≡ dates_hold v
    unfolding dates_hold
    no-from e = rw (← c, ← e)

    module _ (f : true ≡ is_moment (part v 20 8)) where
      pub no-to : false ≡ is_moment (part v 28 8) → false ≡ dates_hold v
      unfolding dates_hold
      no-to e = rw (← c, ← f, ← e)

      pub all-dates : true ≡ is_moment (part v 28 8) → {from to : ℕ} → from ≡ field v 20 8 → to ≡ field v 28 8 → leb from to ≡ dates_hold v
      unfolding dates_hold
      all-dates t m n = rw (← c, ← f, ← t, m, n)

-- ---- the value

module _ (b : Biometric) (v : List ℕ) where
  pub too_short : length v < 88 → Err BadHeader ≡ judged b v
  unfolding judged
  too_short h = rw (lt-leb 88 (length v) h)

  module _ (l : 88 ≤ length v) (d : ℕ) (e : d ≡ field v 2 4) where
    pub bad-sizes : false ≡ sizes_hold b d v → Err BadHeader ≡ judged b v
    unfolding judged
    bad-sizes h = rw (le-leb 88 (length v) l, ← e, ← h)

    module _ (s : true ≡ sizes_hold b d v) where
      pub bad-dates : false ≡ dates_hold v → Err BadHeader ≡ judged b v
      unfolding judged
      bad-dates h = rw (le-leb 88 (length v) l, ← e, ← s, ← h)

      module _ (t : true ≡ dates_hold v) where
        pub bad-form : false ≡ form_holds b v → Err BadHeader ≡ judged b v
        unfolding judged
        bad-form h = rw (le-leb 88 (length v) l, ← e, ← s, ← t, ← h)

        module _ (f : true ≡ form_holds b v) where
          pub bad-fascn : false ≡ is_fascn (part v 59 25) → Err BadFascn ≡ judged b v
          unfolding judged
          bad-fascn h = rw (le-leb 88 (length v) l, ← e, ← s, ← t, ← f, ← h)

          module _ (n : true ≡ is_fascn (part v 59 25)) where
            pub bad-reserved : (field v 84 4 ≡ 0 → ⊥) → Err BadHeader ≡ judged b v
            unfolding judged
            bad-reserved z = rw (le-leb 88 (length v) l, ← e, ← s, ← t, ← f, ← n, ne_eqb _ _ z)

            module _ (z : field v 84 4 ≡ 0) where
              pub bad-data : false ≡ (data_part b.body).test (part v 88 d) → Err b.broken ≡ judged b v
              unfolding judged
              bad-data h = rw (le-leb 88 (length v) l, ← e, ← s, ← t, ← f, ← n, eq-eqb _ _ z, ← h)

              pub all-kept : true ≡ (data_part b.body).test (part v 88 d) → (Ok tt) ≡ judged b v
              unfolding judged
              all-kept h = rw (le-leb 88 (length v) l, ← e, ← s, ← t, ← f, ← n, eq-eqb _ _ z, ← h)
