-- The printed date: the test says exactly what the definition says, and no two dates have one text. Assumes nothing.
use Prim.Native.Nat.{ℕ, suc, ◌+◌, ◌-◌, ◌*◌, ◌/◌, ◌%◌, ◌≤◌, ◌<◌}
use mathlib.Core.Path.{◌≡◌, refl, sym, ap, ◌∙◌}
use mathlib.Core.Bool.{true}
use mathlib.Core.Logic.{◌↔◌, inl, inr}
use mathlib.Core.List.{List, [], ◌∷◌, ◌++◌, map-append}
use native.Mathlib.Omega.{arith}
use lib.Dec.{eqb}
use lib.ListN.{length, get_or}
use borrow.Author.Tests.{le-leb, eq-eqb, eqb-true}
use Rattle.std.specs.Prelude.{Option, Some, None}
use Rattle.laws.specs.Ascii.{fixed}
use Rattle.laws.specs.Digits.{digits}
use Rattle.laws.specs.Tests.{all_below, same}
use Rattle.laws.proofs.Cases.{which, all_true, agree, same-eq}
use Rattle.laws.proofs.Bases.{digits_append}
use Rattle.laws.proofs.Layouts.{by_entries}
use Rattle.dates.specs.Calendar.{Exists}
use Rattle.dates.specs.Pairs.{two_digits, pair_at, year_of, read_exists}
use Rattle.dates.specs.Printed.{month_names, month_name, printed_text, IsPrintedDate, numbered_from, month_number, is_printed_date}
use Rattle.dates.proofs.Calendars.{exists-exact}
use Rattle.dates.proofs.Dates.{small}
use Rattle.dates.proofs.Texts.{Pair, Year, at, pair, year}

-- ---- a month's letters

-- the month that three letters name has these letters
abbrev Named : List (List ℕ) → ℕ → List ℕ → ℕ → Type 0
Named names i letters m = (k : ℕ) × (m ≡ i + k) × (letters ≡ get_or names k [])

named : (names : List (List ℕ)) (i : ℕ) (letters : List ℕ) (m : ℕ) → numbered_from i names letters ≡ Some m → Named names i letters m
named [] i letters m e = cc
named (name ∷ names) i letters m e =
    elim (which (same letters name)) [
      | inl q ↦
          let f : Some i ≡ Some m = rw q at e in
          let g : i ≡ m = cc in
          (0, omega arith, same-eq letters name q)
      | inr q ↦ let (k, f, g) = named names (suc i) letters m (rw q at e) in (suc k, omega arith, g)
    ]

month-named : (a b c m : ℕ) → month_number a b c ≡ Some m → a ∷ b ∷ c ∷ [] ≡ month_name m
unfolding month_number
month-named a b c m e = let (k, f, g) = named month_names 1 (a ∷ b ∷ c ∷ []) m e in let h : m ≡ suc k = omega arith in rw h g

-- a month's name has three letters, and these name the month
name-long : (month : ℕ) → month < 12 → length (month_name (suc month)) ≡ 3
unfolding all_below
name-long = agree (λ m. length (month_name (suc m))) (λ m. 3) 12 refl

abbrev letters : ℕ → Option ℕ
letters month = month_number (at (month_name month) 0) (at (month_name month) 1) (at (month_name month) 2)

letters-month : (month : ℕ) → month < 12 → letters (suc month) ≡ Some (suc month)
unfolding month_number all_below
letters-month month h = some (letters (suc month)) (agree (λ m. or_none (letters (suc m))) (λ m. suc m) 12 refl month h)
  where
    or_none : Option ℕ → ℕ
    or_none (Some n) = n
    or_none None = 0

    some : (o : Option ℕ) → or_none o ≡ suc month → o ≡ Some (suc month)
    some (Some n) e = ap (λ (x : ℕ). Some x) e
    some None e = absurd (omega arith)

-- ---- nine characters

-- two digits of a number, read again
digit-pair : (q r : ℕ) → q < 10 → r < 10 → two_digits (48 + q) (48 + r) ≡ Some (q * 10 + r)
unfolding two_digits
digit-pair q r g h =
    let a : 48 ≤ 48 + q = omega arith in
    let b : 48 + q ≤ 57 = omega arith in
    let c : 48 ≤ 48 + r = omega arith in
    let d : 48 + r ≤ 57 = omega arith in
    let e : (48 + q - 48) * 10 + (48 + r - 48) ≡ q * 10 + r = omega arith in
    rw (le-leb _ _ a, le-leb _ _ b, le-leb _ _ c, le-leb _ _ d, e)

-- nine characters, of which the middle three are these
abbrev nine : ℕ → ℕ → ℕ → ℕ → ℕ → List ℕ
nine year a b c day = fixed 4 year ++ (a ∷ b ∷ c ∷ []) ++ fixed 2 day

abbrev month_of : List ℕ → Option ℕ
month_of s = month_number (at s 4) (at s 5) (at s 6)

-- the parts that some bytes are read as
record ReadAs (s : List ℕ) (year month day : ℕ) : Type 0 where
  long : length s ≡ 9
  year-is : year_of s ≡ Some year
  month-is : month_of s ≡ Some month
  day-is : pair_at s 7 ≡ Some day

read-nine : (y m d a b c : ℕ) → y < 10000 → d < 100 → month_number a b c ≡ Some m → ReadAs (nine y a b c d) y m d
unfolding fixed digits
read-nine y m d a b c g h e =
    let q : (y / 1000 % 10 * 10 + y / 100 % 10) * 100 + (y / 10 % 10 * 10 + y / 1 % 10) ≡ y = omega arith in
    let r : d / 10 % 10 * 10 + d / 1 % 10 ≡ d = omega arith in
    record {
      long = refl;
      year-is =
          rw (digit-pair (y / 1000 % 10) (y / 100 % 10) (omega arith) (omega arith), digit-pair (y / 10 % 10) (y / 1 % 10) (omega arith) (omega arith), q);
      month-is = e;
      day-is = rw (digit-pair (d / 10 % 10) (d / 1 % 10) (omega arith) (omega arith), r);
    }

-- a date's text is read as its year, month and day
read-text : (y m d : ℕ) → Exists y m d → ReadAs (printed_text y m d) y m d
read-text y m d x =
    let k = small x in
    let e : m ≡ suc (m - 1) = omega arith in
    let l : length (month_name m) ≡ 3 = rw e (name-long (m - 1) (omega arith)) in
    let n = by_entries 3 (month_name m) l in
    let t : printed_text y m d ≡ nine y (at (month_name m) 0) (at (month_name m) 1) (at (month_name m) 2) d
    = ap (λ (name : List ℕ). fixed 4 y ++ name ++ fixed 2 d) n in
    let f : letters m ≡ Some m = rw e (letters-month (m - 1) (omega arith)) in
    rw t (read-nine y m d _ _ _ (omega arith) (omega arith) f)

-- two digits, and four, are the text of the number that they are read as
text-two : (a b n : ℕ) → Pair a b n → fixed 2 n ≡ a ∷ b ∷ []
unfolding fixed digits
text-two a b n p =
    let e : 48 + n / 10 % 10 ≡ a = omega arith in
    let f : 48 + n / 1 % 10 ≡ b = omega arith in
    rw (e, f)

text-four : (s : List ℕ) (n : ℕ) → Year s n → fixed 4 n ≡ at s 0 ∷ at s 1 ∷ at s 2 ∷ at s 3 ∷ []
unfolding fixed
text-four s n y =
    let p = y.first in
    let q = y.second in
    let e = digits_append 10 (omega arith) 2 2 y.high y.low (omega arith) in
    rw (y.is, e, map-append, text-two _ _ _ p, text-two _ _ _ q)

-- a year, a month and a day that exist were read: these
record Read (y m d : Option ℕ) : Type 0 where
  year-read : ℕ
  month-read : ℕ
  day-read : ℕ
  year-is : y ≡ Some year-read
  month-is : m ≡ Some month-read
  day-is : d ≡ Some day-read
  exist : Exists year-read month-read day-read

all-read : (y m d : Option ℕ) → read_exists y m d ≡ true → Read y m d
all-read (Some y) (Some m) (Some d) e =
    record { year-read = y; month-read = m; day-read = d; year-is = refl; month-is = refl; day-is = refl; exist = (exists-exact y m d).0 e }
all-read (Some y) (Some m) None e = cc
all-read (Some y) None d e = cc
all-read None m d e = cc

-- bytes that are read as a date are its text
text-back : (s : List ℕ) → length s ≡ 9 → (y m d : ℕ) → year_of s ≡ Some y → month_of s ≡ Some m → pair_at s 7 ≡ Some d → s ≡ printed_text y m d
text-back s l y m d p q r =
    rw (text-four s y (year s p), ← month-named _ _ _ _ q, text-two _ _ _ (pair r)) (by_entries 9 s l)

-- ---- kept exactly when

pub printed-exact : (s : List ℕ) → (is_printed_date s ≡ true) ↔ IsPrintedDate s
unfolding is_printed_date
printed-exact s = (sound, complete)
  where
    sound : is_printed_date s ≡ true → IsPrintedDate s
    sound e =
        let t = all_true (eqb (length s) 9 ∷ read_exists (year_of s) (month_of s) (pair_at s 7) ∷ []) e in
        let r = all-read (year_of s) (month_of s) (pair_at s 7) (t 1) in
        (r.year-read, r.month-read, r.day-read, r.exist, text-back s (eqb-true _ _ (t 0)) _ _ _ r.year-is r.month-is r.day-is)

    complete : IsPrintedDate s → is_printed_date s ≡ true
    complete (y, m, d, x, e) =
        let r : ReadAs s y m d = rw e (read-text y m d x) in
        rw (eq-eqb _ _ r.long, r.year-is, r.month-is, r.day-is) ((exists-exact y m d).1 x)

-- each text is that of one date only
pub one-printed-date : {y m d z n e : ℕ} → Exists y m d → Exists z n e → printed_text y m d ≡ printed_text z n e → (y ≡ z) × (m ≡ n) × (d ≡ e)
one-printed-date {y} {m} {d} {z} {n} {e} x w p =
    let q = read-text y m d x in
    let r : ReadAs (printed_text y m d) z n e = rw p (read-text z n e w) in
    let f : Some y ≡ Some z = sym q.year-is ∙ r.year-is in
    let g : Some m ≡ Some n = sym q.month-is ∙ r.month-is in
    let h : Some d ≡ Some e = sym q.day-is ∙ r.day-is in
    (cc, cc, cc)
