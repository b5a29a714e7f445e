-- The window of an expiry: the test says exactly what the definition says. Assumes nothing.
use Prim.Native.Nat.{ℕ, ◌+◌}
use mathlib.Core.Path.{◌≡◌}
use mathlib.Core.Bool.{true}
use mathlib.Core.Logic.{◌↔◌}
use lib.Dec.{leb}
use borrow.Author.Tests.{le-leb, leb-true}
use Rattle.laws.proofs.Cases.{and-true}
use Rattle.dates.specs.Date.{InWindow, in_window}

-- "t <= e <= t + 60,000": the test is true exactly where today and expiry are so
pub window-exact : (t e : ℕ) → (in_window t e ≡ true) ↔ InWindow t e
window-exact t e = (sound, λ w. rw (le-leb _ _ w.0, le-leb _ _ w.1))
  where
    sound : in_window t e ≡ true → InWindow t e
    sound h = let p = and-true (leb t e) (leb e (t + 60000)) h in (leb-true _ _ p.0, leb-true _ _ p.1)
