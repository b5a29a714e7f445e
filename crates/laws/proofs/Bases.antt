-- Digits in any base: reading undoes writing and writing undoes reading, and groups of digits change base one by one. Assumes nothing.
use mathlib.Core.Path.{◌≡◌, refl, sym, ap, ◌∙◌}
use mathlib.Core.List.{List, [], ◌∷◌, ◌++◌}
use Prim.Native.Nat.{ℕ, zero, suc, ◌+◌, ◌-◌, ◌*◌, ◌/◌, ◌%◌, ◌^◌, ◌≤◌, ◌<◌}
use native.Mathlib.Nat.{mul-one, mul_comm, mul_assoc, add-mul, suc-mul, suc-add, zero-add, add-zero, zero-mul, pow-zero, pow-suc, div-div-eq-div-mul, mul-add-div_right, mul-add-mod_self_right, add_comm, mod-one, mod-lt, mod-eq_of_lt, mul-pos}
use native.Mathlib.Omega.{arith}
use lib.Arith.{digits_lt, digits_div, digits_mod, mod-mul}
use lib.Pow.{pow-add}
use lib.ListN.{length, get_or, take, drop, length-drop, take-append-drop}
use lib.Seq.{take-add, drop-drop, length-take-le}
use Rattle.laws.specs.Digits.{digits, read_on, value, groups}
use Rattle.laws.specs.Bytes.{Below}

pub below_of : (b : ℕ) (l : List ℕ) → ((k : ℕ) → get_or l k 0 < b) → Below b l
below_of b [] h = tt
below_of b (d ∷ ds) h = (h zero, below_of b ds (λ k. h (suc k)))

pub below-append : (b : ℕ) (xs ys : List ℕ) → Below b xs → Below b ys → Below b (xs ++ ys)
below-append b [] ys h g = g
below-append b (x ∷ xs) ys h g = (h.0, below-append b xs ys h.1 g)

pub below-take : (b n : ℕ) (l : List ℕ) → Below b l → Below b (take n l)
below-take b zero l h = tt
below-take b (suc n) [] h = tt
below-take b (suc n) (d ∷ ds) h = (h.0, below-take b n ds h.1)

pub below-drop : (b n : ℕ) (l : List ℕ) → Below b l → Below b (drop n l)
below-drop b zero l h = h
below-drop b (suc n) [] h = tt
below-drop b (suc n) (d ∷ ds) h = below-drop b n ds h.1

pub below-join : (b n : ℕ) (l : List ℕ) → Below b (take n l) → Below b (drop n l) → Below b l
below-join b zero l h g = g
below-join b (suc n) [] h g = tt
below-join b (suc n) (d ∷ ds) h g = (h.0, below-join b n ds h.1 g)

module _ (b : ℕ) (pos : 0 < b) where
  pow_pos : (k : ℕ) → 0 < b ^ k
  pow_pos zero = rw pow-zero (omega arith)
  pow_pos (suc k) = rw pow-suc (mul-pos (pow_pos k) pos)

  -- ---- reading

  read-append : (n : ℕ) (xs ys : List ℕ) → read_on b n (xs ++ ys) ≡ read_on b (read_on b n xs) ys
  read-append n [] ys = refl
  read-append n (x ∷ xs) ys = read-append (n * b + x) xs ys

  pub read-split : (n : ℕ) (ds : List ℕ) → read_on b n ds ≡ n * b ^ length ds + value b ds
  read-split n [] = rw (pow-zero, mul-one, add-zero)
  read-split n (d ∷ ds) =
      rw (read-split (n * b + d) ds, read-split (0 * b + d) ds, pow-suc, mul_comm (b ^ length ds) b, ← mul_assoc, add-mul (n * b) d, zero-mul, zero-add)
      (omega arith)

  pub value-lt : (ds : List ℕ) → Below b ds → value b ds < b ^ length ds
  value-lt [] h = rw pow-zero (omega arith)
  value-lt (d ∷ ds) h =
      rw (read-split (0 * b + d) ds, zero-mul, zero-add, pow-suc, mul_comm (b ^ length ds) b) (digits_lt h.0 (value-lt ds h.1))

  pub value-append : (xs ys : List ℕ) → value b (xs ++ ys) ≡ value b xs * b ^ length ys + value b ys
  value-append xs ys = read-append 0 xs ys ∙ read-split (value b xs) ys

  -- ---- writing

  pub length_digits : (k n : ℕ) → length (digits b k n) ≡ k
  unfolding digits
  length_digits zero n = refl
  length_digits (suc k) n = ap suc (length_digits k n)

  pub below-digits : (k n : ℕ) → Below b (digits b k n)
  unfolding digits
  below-digits zero n = tt
  below-digits (suc k) n = (mod-lt (n / b ^ k) pos, below-digits k n)

  digits_low : (m x y : ℕ) → digits b m (x * b ^ m + y) ≡ digits b m y
  unfolding digits
  digits_low zero x y = refl
  digits_low (suc m) x y =
      let e : x * b ^ suc m ≡ x * b * b ^ m = rw (pow-suc, mul_comm (b ^ m) b, mul_assoc) in
      rw (e, mul-add-div_right (pow_pos m) (x * b) y, mul-add-mod_self_right, digits_low m (x * b) y)

  pub digits_append : (k m x y : ℕ) → y < b ^ m → digits b (k + m) (x * b ^ m + y) ≡ digits b k x ++ digits b m y
  unfolding digits
  digits_append zero m x y h = rw zero-add (digits_low m x y)
  digits_append (suc k) m x y h = rw (suc-add, digits_append k m x y h, pow-add b k m, mul_comm (b ^ k) (b ^ m), ← div-div-eq-div-mul, digits_div x h)

  -- ---- there and back

  read-digits : (n k x : ℕ) → read_on b n (digits b k x) ≡ n * b ^ k + x % b ^ k
  unfolding digits
  read-digits n zero x = rw (pow-zero, mul-one, mod-one, add-zero)
  read-digits n (suc k) x =
      rw (read-digits (n * b + x / b ^ k % b) k x, pow-suc, mul_comm (b ^ k) b, mod-mul x pos (pow_pos k), ← mul_assoc, add-mul (n * b))
      (omega arith)

  pub value-digits : (k x : ℕ) → x < b ^ k → value b (digits b k x) ≡ x
  value-digits k x h = read-digits 0 k x ∙ rw (zero-mul, zero-add) (mod-eq_of_lt h)

  pub digits-read : (n : ℕ) (ds : List ℕ) → Below b ds → digits b (length ds) (read_on b n ds) ≡ ds
  unfolding digits
  digits-read n [] h = refl
  digits-read n (d ∷ ds) h =
      rw (digits-read (n * b + d) ds h.1, read-split (n * b + d) ds, digits_div (n * b + d) (value-lt ds h.1), digits_mod n h.0)

  -- ---- a digit, and a run of digits, is a window of the number

  pub window : (p i : ℕ) (l : List ℕ) → Below b l → i + p ≤ length l → value b (take p (drop i l)) ≡ value b l / b ^ (length l - (i + p)) % b ^ p
  window p i l h f =
      let m : List ℕ = take p (drop i l) in
      let r : List ℕ = drop (i + p) l in
      let e : l ≡ take i l ++ m ++ r = sym (ap (λ (x : List ℕ). x ++ r) (sym (take-add i p l)) ∙ take-append-drop (i + p) l) in
      let nr : length r ≡ length l - (i + p) = length-drop (i + p) l in
      let nm : length m ≡ p = length-take-le p (drop i l) (rw length-drop (omega arith)) in
      let hr : value b r < b ^ length r = value-lt r (below-drop b (i + p) l h) in
      let hm : value b m < b ^ p = rw nm at (value-lt m (below-take b p (drop i l) (below-drop b i l h))) in
      rw (← nr, ap (value b) e ∙ value-append (take i l ++ m) r, digits_div (value b (take i l ++ m)) hr, value-append (take i l) m, nm)
      (sym (digits_mod (value b (take i l)) hm))

-- ---- groups of p digits in base b, as groups of q digits in base B

module _ (b B p q : ℕ) (pos : 0 < b) (Pos : 0 < B) (fit : b ^ p ≡ B ^ q) where
  pub powers : (g : ℕ) → b ^ (g * p) ≡ B ^ (g * q)
  powers zero = rw (zero-mul, zero-mul q, pow-zero, pow-zero B)
  powers (suc g) = rw (suc-mul, suc-mul g q, pow-add, pow-add B, powers g, fit)

  pub groups-are : (g i : ℕ) (l : List ℕ) → Below b l → i + g * p ≤ length l → groups b p B q g i l ≡ digits B (g * q) (value b (take (g * p) (drop i l)))
  unfolding groups digits
  groups-are zero i l h f = rw (zero-mul q)
  groups-are (suc g) i l h f =
      let f' : i + p + g * p ≤ length l = omega (arith, suc-mul g p) in
      let ys : List ℕ = take (g * p) (drop (i + p) l) in
      let e : take (suc g * p) (drop i l) ≡ take p (drop i l) ++ ys = rw (suc-mul, add_comm (g * p) p, take-add, drop-drop) in
      let n : length ys ≡ g * p = length-take-le (g * p) (drop (i + p) l) (rw length-drop (omega arith)) in
      let y : value b ys < B ^ (g * q) = rw (n, powers g) at (value-lt b pos ys (below-take b (g * p) (drop (i + p) l) (below-drop b (i + p) l h))) in
      rw (groups-are g (i + p) l h f', e, value-append b pos, n, powers g, suc-mul, add_comm (g * q) q, digits_append B Pos q (g * q) _ _ y)
