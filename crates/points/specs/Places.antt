-- Where the points stand in a container, as the code goes through them. Nothing of 01 is said here; proofs/Holding.antt ties it to the record.
use Rattle.std.specs.Prelude.{ℕ, zero, suc, ◌+◌, ◌*◌, ◌/◌, ◌%◌, ◌<◌, ◌≤◌, cond, List, [], ◌∷◌, length, ltb}
use Rattle.laws.specs.Layout.{field}
use Rattle.verdicts.specs.Verdicts.{outright, verdict_of}
use Rattle.verdicts.specs.declared.Fault.TheVariants.{SmallRoom}
use Rattle.verdicts.specs.declared.Finding.{Finding}
use Rattle.container.specs.Container.{largest}
use Rattle.points.specs.Calls.{nothing, Says}
use Rattle.points.specs.declared.Point.{Point}
use Rattle.points.specs.declared.Plan.{Plan}
use Rattle.points.specs.declared.Listed.{Listed}
use Rattle.std.specs.Prelude.{Result, Ok, Err}

-- the point that stands at an offset
abbrev pub point_at : List ℕ → ℕ → Point
point_at s k =
    record {
      sort = field s k 2 / 16384;
      x = field s k 2 % 16384;
      y = field s (k + 2) 2;
      angle = field s (k + 4) 1;
      quality = field s (k + 5) 1;
    }

-- where point i stands: six bytes each, and six between the views
abbrev pub place_of : Plan → ℕ → ℕ
place_of plan i = plan.at + 6 * i + cond (ltb i plan.first) 0 6

-- entry i
unfoldable pub entry_of : List ℕ → Plan → ℕ → Point
entry_of c plan i = cond (ltb i (plan.first + plan.second)) (point_at c (place_of plan i)) nothing

-- f i, f (i + 1) and so on, n of them
unfoldable pub along : {A : Type 0} → (ℕ → A) → ℕ → ℕ → List A
along f i zero = []
along f i (suc n) = f i ∷ along f (suc i) n

-- nothing is listed
abbrev pub no_plan : Plan
no_plan = record { at = 0; first = 0; second = 0 }

-- what is listed, which a refusal has nothing of
abbrev pub listed_by : Result Plan Finding → Plan
listed_by (Ok plan) = plan
listed_by (Err f) = no_plan

-- how many points the two views have, where the value of BC starts at an offset
abbrev pub first_of : List ℕ → ℕ → ℕ
first_of c start = field c (start + 117) 1

abbrev pub second_of : List ℕ → ℕ → ℕ
second_of c start = field c (start + 123 + 6 * first_of c start) 1

-- the plan of these
unfoldable pub plan_at : List ℕ → ℕ → ℕ → Result Plan Finding
plan_at c start room =
    cond (ltb room (first_of c start + second_of c start)) (Err (outright SmallRoom))
    (Ok (record { at = start + 118; first = first_of c start; second = second_of c start }))

abbrev pub answer_of : Result Plan Finding → Listed
answer_of (Ok plan) = record { verdict = verdict_of (Ok tt); first = plan.first; second = plan.second }
answer_of (Err f) = record { verdict = verdict_of (Err f); first = 0; second = 0 }

-- each point that is listed stands within so many bytes, and there are no more than two views have
pub record Inside (plan : Plan) (size : ℕ) : Type 0 where
  pub few : plan.first + plan.second ≤ 256
  pub near : plan.at ≤ largest
  pub within : (i : ℕ) → i < plan.first + plan.second → place_of plan i + 6 ≤ size

-- a record with so many points stands there: its counts and its points lie within the bytes
pub record Stands (c : List ℕ) (start : ℕ) : Type 0 where
  pub first_few : first_of c start ≤ 128
  pub second_few : second_of c start ≤ 128
  pub within : start + 126 + 6 * first_of c start + 6 * second_of c start ≤ length c

-- a plan for a room of so many points
pub record Plans (today : ℕ) (c : List ℕ) (room : ℕ) (r : Result Plan Finding) : Type 0 where
  pub says : Says today c (λ n. n ≤ room) (answer_of r) (along (entry_of c (listed_by r)) 0 ((listed_by r).first + (listed_by r).second))
  pub inside : Inside (listed_by r) (length c)
  pub fits : (listed_by r).first + (listed_by r).second ≤ room
