-- The smallest record and one with two images, each also with one thing changed, by computation. Assumes nothing.
use Prim.Native.Nat.{ℕ}
use mathlib.Core.Path.{◌≡◌, refl}
use mathlib.Core.Bool.{true, false}
use mathlib.Core.List.{List, [], ◌∷◌, ◌++◌}
use lib.ListN.{length, set, take, replicate}
use Rattle.laws.specs.Digits.{digits}
use Rattle.laws.specs.Layout.{number}
use Rattle.records.specs.Fills.{fills, whole}
use Rattle.facial.specs.Judged.{informed, extent, record_head, is_facial}

-- a block that says it has `size` bytes and p feature points: bytes of the points; image type 1, this data type, 256 x 320, colour space 1, this source
-- type; the pixels
abbrev pub block : ℕ → ℕ → List ℕ → ℕ → ℕ → List ℕ → List ℕ
block size p points form source pixels =
    number 4 size ++ number 2 p ++ replicate 14 0xEE ++ points ++ (1 ∷ form ∷ 1 ∷ 0 ∷ 1 ∷ 64 ∷ 1 ∷ source ∷ 9 ∷ 9 ∷ 9 ∷ 9 ∷ []) ++ pixels

-- a record that says it has `size` bytes and so many images
abbrev pub a-record : ℕ → ℕ → List ℕ → List ℕ
a-record size images blocks = (0x46 ∷ 0x41 ∷ 0x43 ∷ 0x00 ∷ 0x30 ∷ 0x31 ∷ 0x30 ∷ 0x00 ∷ []) ++ number 4 size ++ number 2 images ++ blocks

-- one image without points and without pixels
abbrev pub smallest : List ℕ
smallest = a-record 46 1 (block 32 0 [] 0 2 [])

-- two points and three pixels; then no point, one pixel, the other data type and source
abbrev pub two : List ℕ
two = a-record 98 2 (block 51 2 (replicate 16 0xDD) 0 2 (1 ∷ 2 ∷ 3 ∷ []) ++ block 33 0 [] 1 6 (4 ∷ []))

pub lengths : (length smallest ≡ 46) × (length two ≡ 98)
unfolding digits
lengths = (refl, refl)

pub both-kept : (is_facial smallest ≡ true) × (is_facial two ≡ true)
unfolding is_facial record_head whole fills extent informed digits
both-kept = (refl, refl)

-- what is free: the bytes before the points and these, width and height, device and quality, the pixels
pub free-kept : is_facial (set (set (set (set (set two 20 0) 34 0) 52 0) 61 0) 64 0) ≡ true
unfolding is_facial record_head whole fills extent informed digits
free-kept = refl

-- ---- refused: one byte changed

-- format, version, record length, number of images
pub bad-headers :
    (is_facial (set two 3 0x20) ≡ false)
    × (is_facial (set two 7 0x30) ≡ false)
    × (is_facial (set two 11 97) ≡ false)
    × (is_facial (set two 11 99) ≡ false)
    × (is_facial (set two 13 1) ≡ false)
    × (is_facial (set two 13 3) ≡ false)
unfolding is_facial record_head whole fills extent informed digits
bad-headers = (refl, refl, refl, refl, refl, refl)

-- in the second image: image type, data type, colour space, source type
pub bad-images :
    (is_facial (set two 85 2) ≡ false)
    × (is_facial (set two 86 2) ≡ false)
    × (is_facial (set two 91 0) ≡ false)
    × (is_facial (set two 92 3) ≡ false)
unfolding is_facial record_head whole fills extent informed digits
bad-images = (refl, refl, refl, refl)

-- a block one byte shorter and one longer than it is, and one that its points do not leave room for
pub bad-blocks :
    (is_facial (set two 17 50) ≡ false)
    × (is_facial (set two 17 52) ≡ false)
    × (is_facial (set two 19 3) ≡ false)
unfolding is_facial record_head whole fills extent informed digits
bad-blocks = (refl, refl, refl)

-- ---- refused: no image, one byte too few and one too many, also where the record length says so; and rubbish

pub no-image : is_facial (a-record 14 0 []) ≡ false
unfolding is_facial record_head whole fills extent informed digits
no-image = refl

pub short-block : is_facial (a-record 45 1 (take 31 (block 31 0 [] 0 2 []))) ≡ false
unfolding is_facial record_head whole fills extent informed digits
short-block = refl

pub cut_off : (is_facial (take 45 smallest) ≡ false) × (is_facial (take 45 (a-record 45 1 (block 32 0 [] 0 2 []))) ≡ false)
unfolding is_facial record_head whole fills extent informed digits
cut_off = (refl, refl)

pub appended : is_facial (a-record 47 1 (block 32 0 [] 0 2 [] ++ 0 ∷ [])) ≡ false
unfolding is_facial record_head whole fills extent informed digits
appended = refl

pub rubbish : (is_facial (replicate 46 0xFF) ≡ false) × (is_facial (take 13 smallest) ≡ false) × (is_facial [] ≡ false)
unfolding is_facial record_head whole fills extent informed digits
rubbish = (refl, refl, refl)
