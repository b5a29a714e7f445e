-- The dates of 01's table of examples, P9 to P12, and the ends of what is a date, by computation. Assumes nothing.
use mathlib.Core.Path.{◌≡◌, refl}
use mathlib.Core.Bool.{true, false}
use mathlib.Core.List.{[], ◌∷◌}
use Rattle.std.specs.Prelude.{Some, None}
use Rattle.dates.specs.Calendar.{days_in, exists}
use Rattle.dates.specs.Date.{is_date, date_of, in_window}
use Rattle.dates.specs.Moment.{is_moment}

-- P9 20000229 yes; P10 21000229 no
pub p9 : is_date 20000229 ≡ true
unfolding is_date exists days_in
p9 = refl

pub p10 : is_date 21000229 ≡ false
unfolding is_date exists days_in
p10 = refl

-- the same as text
pub p9-text : date_of (0x32 ∷ 0x30 ∷ 0x30 ∷ 0x30 ∷ 0x30 ∷ 0x32 ∷ 0x32 ∷ 0x39 ∷ []) ≡ Some 20000229
unfolding date_of is_date exists days_in
p9-text = refl

pub p10-text : date_of (0x32 ∷ 0x31 ∷ 0x30 ∷ 0x30 ∷ 0x30 ∷ 0x32 ∷ 0x32 ∷ 0x39 ∷ []) ≡ None
unfolding date_of is_date exists days_in
p10-text = refl

-- "With today 20260301": P11 20320301 yes; P12 20320302 no
pub p11 : in_window 20260301 20320301 ≡ true
p11 = refl

pub p12 : in_window 20260301 20320302 ≡ false
p12 = refl

-- the window's other end: today itself is in it, the day before is not
pub today-in : in_window 20260301 20260301 ≡ true
today-in = refl

pub yesterday-out : in_window 20260301 20260228 ≡ false
yesterday-out = refl

-- "year 0001 to 9999": the first date and the last, and what lies beyond
pub first : is_date 10101 ≡ true
unfolding is_date exists days_in
first = refl

pub last : is_date 99991231 ≡ true
unfolding is_date exists days_in
last = refl

pub none-is-0 : is_date 0 ≡ false
unfolding is_date exists days_in
none-is-0 = refl

pub none-is-20230229 : is_date 20230229 ≡ false
unfolding is_date exists days_in
none-is-20230229 = refl

pub none-is-99999999 : is_date 99999999 ≡ false
unfolding is_date exists days_in
none-is-99999999 = refl

pub none-is-100000101 : is_date 100000101 ≡ false
unfolding is_date exists days_in
none-is-100000101 = refl

-- a letter among the digits, and seven digits
pub letter : date_of (0x32 ∷ 0x30 ∷ 0x30 ∷ 0x30 ∷ 0x30 ∷ 0x32 ∷ 0x32 ∷ 0x41 ∷ []) ≡ None
unfolding date_of is_date exists days_in
letter = refl

pub seven : date_of (0x32 ∷ 0x30 ∷ 0x30 ∷ 0x30 ∷ 0x32 ∷ 0x32 ∷ 0x39 ∷ []) ≡ None
unfolding date_of is_date exists days_in
seven = refl

-- the last second of the 29th of February 2000; the hour 24; another last byte
pub second : is_moment (20 ∷ 0 ∷ 2 ∷ 29 ∷ 23 ∷ 59 ∷ 59 ∷ 0x5A ∷ []) ≡ true
unfolding is_moment exists days_in
second = refl

pub hour-24 : is_moment (20 ∷ 0 ∷ 2 ∷ 29 ∷ 24 ∷ 0 ∷ 0 ∷ 0x5A ∷ []) ≡ false
unfolding is_moment exists days_in
hour-24 = refl

pub no-5a : is_moment (20 ∷ 0 ∷ 2 ∷ 29 ∷ 23 ∷ 59 ∷ 59 ∷ 0x5B ∷ []) ≡ false
unfolding is_moment exists days_in
no-5a = refl
