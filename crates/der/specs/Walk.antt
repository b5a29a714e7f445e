-- The same as one walk over the bytes, in byte order, with the first fault that it meets.
use Rattle.std.specs.Prelude.{ℕ, zero, suc, ◌+◌, ◌-◌, ◌≤◌, min, ◌≡◌, cond, ◌&&◌, List, [], ◌∷◌, Option, Some, None, Result, Ok, Err, eqb, length, take, drop, get_or}
use Rattle.heads.specs.Head.{head_of}
use Rattle.heads.specs.declared.Head.{Head}
use Rattle.heads.specs.declared.Head.TheVariants.{Leaf, Open}
use Rattle.der.specs.declared.Malformed.{Malformed}
use Rattle.der.specs.declared.Malformed.TheVariants.{Bad, Deep}
use Rattle.verdicts.specs.Verdicts.{Ruling, unless}
use Rattle.verdicts.specs.declared.Fault.{Fault}
use Rattle.verdicts.specs.declared.Fault.TheVariants.{BadDer, TooDeep}

-- what a walk answers: all is good, with the number of the outermost's parts; or the first fault, 24 or 25
abbrev pub Walked : Type 0
Walked = Result ℕ Malformed

-- the first fault wins
infixr 5 ◌thence◌
abbrev pub ◌thence◌ : Walked → Walked → Walked
Ok n thence r = r
Err m thence r = Err m

-- so many parts before these
abbrev pub more : ℕ → Walked → Walked
more k (Ok n) = Ok (k + n)
more k (Err m) = Err m

-- one part, judged by its head; its own parts by `inner`; the bytes behind it by `on`, told how many to pass over
abbrev pub part : (List ℕ → Walked) → Option Head → List ℕ → (ℕ → Walked) → Walked
part inner None s on = Err Bad
part inner (Some (Leaf size)) s on = more 1 (on size)
part inner (Some (Open front size)) s on = inner (take (size - front) (drop front s)) thence more 1 (on size)

-- the parts that fill these bytes, the first so many bytes passed over
abbrev pub level : (List ℕ → Walked) → ℕ → List ℕ → Walked
level inner k [] = Ok 0
level inner (suc k) (b ∷ s) = level inner k s
level inner zero (b ∷ s) = part inner (head_of (b ∷ s)) (b ∷ s) (λ k. level inner (k - 1) s)

-- parts at a level where so many levels may still be opened; the level is judged before anything of an item
unfoldable pub items : ℕ → List ℕ → Walked
items zero [] = Ok 0
items zero (b ∷ s) = Err Deep
items (suc d) s = level (items d) 0 s

-- the same without their number
abbrev pub filled : Walked → Result (Unit {0}) Malformed
filled (Ok n) = Ok tt
filled (Err m) = Err m

-- r is behind items that may be passed over at any level: what is there is good where what is behind them is
pub record PassesOver (s r : List ℕ) : Type 0 where
  pub shorter : length r ≤ length s
  pub on : (d : ℕ) → filled (items (suc d) s) ≡ filled (items (suc d) r)

-- so many parts, where parts fill these bytes at all
abbrev pub Counts : List ℕ → ℕ → Type 0
Counts s k = (d n : ℕ) → items d s ≡ Ok n → k ≡ n

-- nothing behind the outermost item, judged last
abbrev pub ended : ℕ → List ℕ → Walked → Walked
ended size v (Ok n) = cond (eqb size (length v)) (Ok n) (Err Bad)
ended size v (Err m) = Err m

abbrev pub outermost : ℕ → Option Head → List ℕ → Walked
outermost d None v = Err Bad
outermost d (Some (Leaf size)) v = ended size v (Ok 0)
outermost d (Some (Open front size)) v = ended size v (items d (take (size - front) (drop front v)))

-- one item, with the number of its parts
unfoldable pub judged : ℕ → List ℕ → Walked
judged depth [] = Err Bad
judged zero (b ∷ s) = Err Deep
judged (suc d) (b ∷ s) = outermost d (head_of (b ∷ s)) (b ∷ s)

-- ---- the numbers: 24 and 25

abbrev pub fault_of : Malformed → Fault
fault_of Bad = BadDer
fault_of Deep = TooDeep

-- of one item, whatever it is
abbrev pub ruling : Walked → Ruling
ruling (Ok n) = Ok tt
ruling (Err m) = Err (fault_of m)

-- of a SEQUENCE of three parts, "judged when its last part has been read"
abbrev pub certified : ℕ → Walked → Ruling
certified t (Ok n) = unless BadDer (eqb t 0x30 && eqb n 3)
certified t (Err m) = Err (fault_of m)

unfoldable pub certificate : ℕ → List ℕ → Ruling
certificate depth v = certified (get_or v 0 0) (judged depth v)

-- ---- what the code can be asked

-- no request goes deeper than sixteen levels: a greater depth is taken as that
abbrev pub depth_for : ℕ → ℕ
depth_for depth = min depth 16
