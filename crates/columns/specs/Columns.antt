-- Lists of which some entries are replaced, and the shortest of five. Nothing of 01 is said here.
use Rattle.std.specs.Prelude.{ℕ, ◌+◌, ◌*◌, ◌-◌, ◌<◌, ◌≤◌, ◌≡◌, min, List, ◌++◌, length, take, drop, set}
use Rattle.laws.specs.Room.{zeros}
use Rattle.points.specs.Calls.{Five, five}
use Rattle.points.specs.declared.Point.{Point}
use Rattle.columns.specs.declared.Columns.{Columns}
use Rattle.points.specs.Places.{along}

-- a list in which n entries are replaced, from one on
unfoldable pub spliced : {A : Type 0} → (ℕ → A) → ℕ → ℕ → List A → List A
spliced f from n l = take from l ++ along f 0 n ++ drop (from + n) l

-- n points that stand one after the other lie within the bytes
abbrev pub Row : List ℕ → ℕ → ℕ → Type 0
Row c at n = (i : ℕ) → i < n → at + 6 * i + 6 ≤ length c

-- how many entries the shortest of five lists has
abbrev pub shortest : Five → ℕ
shortest l = min (min (min (min (length l.types) (length l.xs)) (length l.ys)) (length l.angles)) (length l.qualities)

-- what the five lists hold, and that they are the same lists
abbrev pub lent : Columns → Five
lent l = five l.types.now l.xs.now l.ys.now l.angles.now l.qualities.now

pub record Same (l m : Columns) : Type 0 where
  pub types : m.types.ghost_name ≡ l.types.ghost_name
  pub xs : m.xs.ghost_name ≡ l.xs.ghost_name
  pub ys : m.ys.ghost_name ≡ l.ys.ghost_name
  pub angles : m.angles.ghost_name ≡ l.angles.ghost_name
  pub qualities : m.qualities.ghost_name ≡ l.qualities.ghost_name

-- a point as one entry of each, so many points as so many entries, and zeros behind some entries
abbrev pub put_at : Point → ℕ → Five → Five
put_at p i l = five (set l.types i p.sort) (set l.xs i p.x) (set l.ys i p.y) (set l.angles i p.angle) (set l.qualities i p.quality)

abbrev pub put_all : (ℕ → Point) → ℕ → ℕ → Five → Five
put_all f from n l =
    five (spliced (λ i. (f i).sort) from n l.types) (spliced (λ i. (f i).x) from n l.xs) (spliced (λ i. (f i).y) from n l.ys)
    (spliced (λ i. (f i).angle) from n l.angles) (spliced (λ i. (f i).quality) from n l.qualities)

abbrev pub zeroed : ℕ → List ℕ → List ℕ
zeroed from l = take from l ++ zeros (length l - from)

abbrev pub zeros_behind : ℕ → Five → Five
zeros_behind from l = five (zeroed from l.types) (zeroed from l.xs) (zeroed from l.ys) (zeroed from l.angles) (zeroed from l.qualities)
