-- What stands where an item is due, read: the code's answer. `der` shows by it what an item is.
use Rattle.std.specs.Prelude.{Option as Maybe, Some, None, ℕ, ◌+◌, ◌%◌, ◌≤◌, cond, List, [], ◌∷◌, ltb, leb, eqb, length}
use Rattle.std.proofs.Math.Option.{Option, none, some}
use Rattle.heads.specs.Length.{Spelt, read_length}
use Rattle.heads.specs.Tag.{opens}
use Rattle.heads.specs.declared.Head.{Head}
use Rattle.heads.specs.declared.Head.TheVariants.{Leaf, Open}

-- what stands at the front of the bytes that an item's contents still have: a tag and a length, and contents that fit
abbrev pub sized : ℕ → ℕ → Option Spelt → Maybe Head
sized t room none = None
sized t room (some l) =
    cond (leb (l.width + l.number) room)
    (Some (cond (eqb (opens t) 1) (Open (1 + l.width) (1 + l.width + l.number)) (Leaf (1 + l.width + l.number))))
    None

-- the same of a length that reads n in w bytes, with the tag's test before it
abbrev pub headed : ℕ → ℕ → ℕ → ℕ → Maybe Head
headed t room n w = cond (ltb (t % 32) 31) (sized t room (some (record { number = n; width = w }))) None

unfoldable pub head_of : List ℕ → Maybe Head
head_of [] = None
head_of (t ∷ s) = cond (ltb (t % 32) 31) (sized t (length s) (read_length s)) None

-- an item lies within these many bytes, and its parts within the item
abbrev pub Inside : ℕ → Maybe Head → Type 0
Inside n None = Unit {0}
Inside n (Some (Leaf size)) = (1 ≤ size) × (size ≤ n)
Inside n (Some (Open front size)) = (1 ≤ front) × (front ≤ size) × (size ≤ n)
