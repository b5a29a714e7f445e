-- 01, "Examples", and the slips that a reader of the standard makes: by computation. Assumes nothing.
use mathlib.Core.Path.{◌≡◌, refl}
use mathlib.Core.Bool.{true, false}
use mathlib.Core.List.{[], ◌∷◌, ◌++◌}
use lib.ListN.{replicate}
use Rattle.laws.specs.Room.{zeros}
use Rattle.plain.specs.Plain.{is_uuid, is_policy, is_text, ended, is_creator}
use Rattle.plain.specs.Quality.{is_quality}

-- "quality FD (refused), FE, FF, 64 hex (kept), 65 (refused)"
pub quality-fd : is_quality true 0xFD ≡ false
quality-fd = refl

pub quality-fe : is_quality true 0xFE ≡ true
quality-fe = refl

pub quality-ff : is_quality true 0xFF ≡ true
quality-ff = refl

pub quality-64 : is_quality true 0x64 ≡ true
quality-64 = refl

pub quality-65 : is_quality true 0x65 ≡ false
quality-65 = refl

-- where none may be missing
pub quality-face : is_quality false 0xFF ≡ false
quality-face = refl

-- P13 ends 40 00, P14 ends 60 00
pub policy-40-00 : is_policy (0x40 ∷ 0x00 ∷ []) ≡ true
unfolding is_policy
policy-40-00 = refl

pub policy-60-00 : is_policy (0x60 ∷ 0x00 ∷ []) ≡ false
unfolding is_policy
policy-60-00 = refl

pub policy-60-10 : is_policy (0x60 ∷ 0x10 ∷ []) ≡ true
unfolding is_policy
policy-60-10 = refl

-- "04 only with 08"
pub policy-44-00 : is_policy (0x44 ∷ 0x00 ∷ []) ≡ false
unfolding is_policy
policy-44-00 = refl

pub policy-4c-00 : is_policy (0x4C ∷ 0x00 ∷ []) ≡ true
unfolding is_policy
policy-4c-00 = refl

-- "All zeros therefore breaks the rule."
pub uuid-zeros : is_uuid (zeros 16) ≡ false
unfolding is_uuid
uuid-zeros = refl

-- 20 and 7E are text, 1F and 7F are not
pub text-ends : is_text (0x20 ∷ 0x7E ∷ []) ≡ true
unfolding is_text
text-ends = refl

pub text-1f : is_text (0x1F ∷ []) ≡ false
unfolding is_text
text-1f = refl

pub text-7f : is_text (0x7F ∷ []) ≡ false
unfolding is_text
text-7f = refl

-- "k at most 17, then 00; bytes after that 00 are kept and not examined"
pub creator-none : is_creator (0x00 ∷ replicate 17 0xFF) ≡ true
unfolding is_creator ended
creator-none = refl

pub creator-17 : is_creator (replicate 17 0x41 ++ 0x00 ∷ []) ≡ true
unfolding is_creator ended
creator-17 = refl

pub creator-18 : is_creator (replicate 18 0x41 ++ 0x00 ∷ []) ≡ false
unfolding is_creator ended
creator-18 = refl
