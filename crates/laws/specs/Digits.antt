-- Numbers by their digits in any base, most significant first: decimal fields, five-bit characters and bytes are all of this form.
use Rattle.std.specs.Prelude.{List, [], ◌∷◌, ◌++◌, ℕ, zero, suc, ◌+◌, ◌*◌, ◌/◌, ◌%◌, ◌^◌, take, drop, set}

-- the k lowest digits of n in base b
unfoldable pub digits : ℕ → ℕ → ℕ → List ℕ
digits b zero n = []
digits b (suc k) n = n / b ^ k % b ∷ digits b k n

-- a list of digits read in base b, after what was read before it
abbrev pub read_on : ℕ → ℕ → List ℕ → ℕ
read_on b n [] = n
read_on b n (d ∷ ds) = read_on b (n * b + d) ds

-- a list of digits read in base b
abbrev pub value : ℕ → List ℕ → ℕ
value b ds = read_on b 0 ds

-- the list l with ds stored from index i on
unfoldable pub stored : List ℕ → ℕ → List ℕ → List ℕ
stored l i [] = l
stored l i (d ∷ ds) = set (stored l (suc i) ds) i d

-- g groups of p digits in base b, from index i of l on, each as q digits in base B
unfoldable pub groups : ℕ → ℕ → ℕ → ℕ → ℕ → ℕ → List ℕ → List ℕ
groups b p B q zero i l = []
groups b p B q (suc g) i l = digits B q (value b (take p (drop i l))) ++ groups b p B q g (i + p) l
