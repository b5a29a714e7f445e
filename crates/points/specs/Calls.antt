-- 2026-10: what the two calls answer and leave, the one with five lists of numbers and the one with a list of points.
use Rattle.std.specs.Prelude.{ℕ, zero, suc, ◌≤◌, ◌≡◌, List, [], ◌∷◌, ◌++◌, map, length}
use Rattle.verdicts.specs.Verdicts.{outright, verdict_of}
use Rattle.verdicts.specs.declared.Fault.TheVariants.{SmallRoom}
use Rattle.verdicts.specs.declared.Finding.{Finding}
use Rattle.container.specs.InOrder.{Named}
use Rattle.points.specs.Points.{HasPoints}
use Rattle.points.specs.declared.Point.{Point}
use Rattle.points.specs.declared.Listed.{Listed}
use Rattle.std.specs.Prelude.{Ok, Err}

-- ---- what a list holds

abbrev pub nothing : Point
nothing = record { sort = 0; x = 0; y = 0; angle = 0; quality = 0 }

-- "Entries past the last are all zero": these points in a list of n entries
unfoldable pub entries : List Point → ℕ → List Point
entries ps zero = []
entries [] (suc n) = nothing ∷ entries [] n
entries (p ∷ ps) (suc n) = p ∷ entries ps n

-- "A plain form that fills five number lists": "(type, x, y, angle, quality)"
pub record Five : Type 0 where
  pub types : List ℕ
  pub xs : List ℕ
  pub ys : List ℕ
  pub angles : List ℕ
  pub qualities : List ℕ

abbrev pub five : List ℕ → List ℕ → List ℕ → List ℕ → List ℕ → Five
five t x y a q = record { types = t; xs = x; ys = y; angles = a; qualities = q }

-- the five numbers of each entry, where each list goes to its own end
abbrev pub lists_of : List Point → Five → Five
lists_of ps l =
    five (map (λ p. p.sort) (entries ps (length l.types))) (map (λ p. p.x) (entries ps (length l.xs))) (map (λ p. p.y) (entries ps (length l.ys)))
    (map (λ p. p.angle) (entries ps (length l.angles))) (map (λ p. p.quality) (entries ps (length l.qualities)))

-- there is room for n points: "3 if the list is shorter than the sum of the counts", and of five lists if any is
abbrev pub Holds : List Point → ℕ → Type 0
Holds l n = n ≤ length l

abbrev pub HoldsEach : Five → ℕ → Type 0
HoldsEach l n = (n ≤ length l.types) × (n ≤ length l.xs) × (n ≤ length l.ys) × (n ≤ length l.angles) × (n ≤ length l.qualities)

-- ---- what is answered

-- "a refusal gives both counts as 0"
abbrev pub refused_by : Finding → Listed
refused_by f = record { verdict = verdict_of (Err f); first = 0; second = 0 }

-- "give both counts"
abbrev pub counted : List Point → List Point → Listed
counted first second = record { verdict = verdict_of (Ok tt); first = length first; second = length second }

-- of the bytes c, with room for so many points, and which points are listed: the first broken rule, and none; or "3 .., after the check", and none; or those of
-- the first view and then those of the second
pub data Says (today : ℕ) (c : List ℕ) (Room : ℕ → Type 0) (r : Listed) (listed : List Point) : Type 0 where
  breaks : (f : Finding) → Named 6 today c f → r ≡ refused_by f → listed ≡ [] → Says today c Room r listed
  short : (first second : List Point) → HasPoints today c first second → (Room (length (first ++ second)) → ⊥)
      → r ≡ refused_by (outright SmallRoom) → listed ≡ [] → Says today c Room r listed
  fits : (first second : List Point) → HasPoints today c first second → Room (length (first ++ second))
      → r ≡ counted first second → listed ≡ first ++ second → Says today c Room r listed

-- the five lists that were `before` are left as `after`
pub record FillsLists (today : ℕ) (c : List ℕ) (before after : Five) (r : Listed) : Type 0 where
  pub listed : List Point
  pub says : Says today c (HoldsEach before) r listed
  pub left : after ≡ lists_of listed before

-- the list of points that was `before` is left as `after`
pub record FillsPoints (today : ℕ) (c : List ℕ) (before after : List Point) (r : Listed) : Type 0 where
  pub listed : List Point
  pub says : Says today c (Holds before) r listed
  pub left : after ≡ entries listed (length before)
