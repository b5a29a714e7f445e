-- Bytes that are strings of 25, one after the other: there is one list of them, and each stands where it is read. Assumes nothing.
use mathlib.Core.Path.{◌≡◌, refl, sym, ap, ap₂, ◌∙◌}
use mathlib.Core.List.{List, [], ◌∷◌, ◌++◌, map}
use Prim.Native.Nat.{ℕ, zero, suc, ◌+◌, ◌-◌, ◌*◌, ◌/◌, ◌%◌, ◌<◌, ◌≤◌}
use native.Mathlib.Nat.{zero-add}
use native.Mathlib.Omega.{arith}
use lib.Dec.{ltb, eqb}
use lib.ListN.{length, take, drop, replicate, length-append, length-drop, take-append-drop, length-map}
use lib.Seq.{take-append_seam, drop-append_seam, drop-drop, drop-length, length-take-le}
use borrow.Author.Tests.{le-leb, lt-leb, ltb-true, lt-ltb, eqb-true}
use Rattle.std.specs.List.{range_with_len}
use Rattle.std.specs.Prelude.{Ok, Err}
use Rattle.laws.specs.Layout.{joined}
use Rattle.laws.proofs.Cases.{not_so}
use Rattle.verdicts.specs.declared.Fault.TheVariants.{SmallRoom, BadFascn}
use Rattle.fascn.specs.Reading.{decoded}
use Rattle.fascn.specs.declared.Decoded.{Decoded}
use Rattle.by_table.specs.Calls.{AllOf25, AreStrings, no_answer, listed}
use Rattle.by_table.specs.Each.{planned, count_of, string_at, entry_at, entries}

-- so many strings from place i on
abbrev pub cut_from : List ℕ → ℕ → ℕ → List (List ℕ)
cut_from bytes i n = map (string_at bytes) (range_with_len i n)

-- how many bytes they are
pub size_of : (ss : List (List ℕ)) → AllOf25 ss → length (joined ss) ≡ 25 * length ss
size_of [] h = refl
size_of (s ∷ ss) h = rw (length-append, h.0, size_of ss h.1) (omega arith)

-- where they stand, they are read
found : (bytes : List ℕ) (i : ℕ) (ss : List (List ℕ)) → AllOf25 ss → drop (25 * i) bytes ≡ joined ss → cut_from bytes i (length ss) ≡ ss
found bytes i [] h e = refl
found bytes i (s ∷ ss) h e =
    let a : take 25 (drop (25 * i) bytes) ≡ s = rw (e, ← h.0) (take-append_seam s (joined ss)) in
    let n : 25 * (i + 1) ≡ 25 * i + 25 = omega arith in
    let d : drop (25 * (i + 1)) bytes ≡ joined ss = rw (n, ← drop-drop, e, ← h.0) (drop-append_seam s (joined ss)) in
    ap₂ (λ (x : List ℕ) (y : List (List ℕ)). x ∷ y) a (found bytes (i + 1) ss h.1 d)

-- and what is read are such strings
read : (bytes : List ℕ) (i n : ℕ) → length bytes ≡ 25 * i + 25 * n → AllOf25 (cut_from bytes i n) × (drop (25 * i) bytes ≡ joined (cut_from bytes i n))
read bytes i zero e = let l : length bytes ≡ 25 * i = omega arith in (tt, rw (← l) (drop-length bytes))
read bytes i (suc n) e =
    let l : 25 ≤ length (drop (25 * i) bytes) = rw length-drop (omega arith) in
    let m : 25 * (i + 1) ≡ 25 * i + 25 = omega arith in
    let r = read bytes (i + 1) n (omega arith) in
    let d : drop 25 (drop (25 * i) bytes) ≡ joined (cut_from bytes (i + 1) n) = rw (drop-drop, ← m) r.1 in
    ((length-take-le 25 (drop (25 * i) bytes) l, r.0), sym (take-append-drop 25 (drop (25 * i) bytes)) ∙ ap (λ (x : List ℕ). take 25 (drop (25 * i) bytes) ++ x) d)

pub are_strings : (bytes : List ℕ) (n : ℕ) → length bytes ≡ 25 * n → AreStrings bytes (cut_from bytes 0 n)
are_strings bytes n e = let r = read bytes 0 n (omega arith) in record { of_25 = r.0; bytes_are = r.1 }

pub only_strings : {bytes : List ℕ} {ss : List (List ℕ)} → AreStrings bytes ss → (length bytes ≡ 25 * length ss) × (cut_from bytes 0 (length ss) ≡ ss)
only_strings {bytes} {ss} a = (rw a.bytes_are (size_of ss a.of_25), found bytes 0 ss a.of_25 a.bytes_are)

-- ---- what is planned of so many strings, and of bytes left over

pub left_over : (size room : ℕ) → (size % 25 ≡ 0 → ⊥) → planned size room ≡ Err BadFascn
unfolding planned
left_over size room h = rw (not_so (eqb (size % 25) 0) (λ e. h (eqb-true _ _ e)))

module _ (n room : ℕ) where
  whole : (25 * n % 25 ≡ 0) × (25 * n / 25 ≡ n)
  whole = (omega arith, omega arith)

  pub too_short : room < n → planned (25 * n) room ≡ Err SmallRoom
  unfolding planned
  too_short h = rw (whole.0, whole.1, lt-ltb room n h)

  pub fitting : n ≤ room → planned (25 * n) room ≡ Ok n
  unfolding planned
  fitting h = rw (whole.0, whole.1, not_so (ltb room n) (λ e. absurd (below (ltb-true room n e))))
    where
      below : room < n → ⊥
      below k = absurd (omega arith)

-- ---- the entries: what is read of the strings, and empty ones

behind : (bytes : List ℕ) (count i n : ℕ) → count ≤ i → map (entry_at bytes count) (range_with_len i n) ≡ replicate n no_answer
unfolding entry_at
behind bytes count i zero h = refl
behind bytes count i (suc n) h = ap₂ (λ (x : Decoded) (y : List Decoded). x ∷ y) (rw (le-leb count i h)) (behind bytes count (i + 1) n (omega arith))

filled : (bytes : List ℕ) (count i k n : ℕ) → i + k ≡ count → k ≤ n
    → map (entry_at bytes count) (range_with_len i n) ≡ map decoded (cut_from bytes i k) ++ replicate (n - k) no_answer
unfolding entry_at
filled bytes count i zero n e h = let z : n - 0 ≡ n = omega arith in rw z (behind bytes count i n (omega arith))
filled bytes count i (suc k) zero e h = absurd (omega arith)
filled bytes count i (suc k) (suc n) e h =
    let z : suc n - suc k ≡ n - k = omega arith in
    rw z (ap₂ (λ (x : Decoded) (y : List Decoded). x ∷ y) (rw (lt-leb count i (omega arith))) (filled bytes count (i + 1) k n (omega arith) (omega arith)))

pub none-listed : (bytes : List ℕ) (room : ℕ) → count_of (planned (length bytes) room) ≡ 0 → entries bytes room ≡ listed [] room
unfolding entries listed
none-listed bytes room e = let z : room - 0 ≡ room = omega arith in rw (e, z) (behind bytes 0 0 room (omega arith))

pub all-listed : {bytes : List ℕ} {ss : List (List ℕ)} (room : ℕ) → AreStrings bytes ss → length ss ≤ room → entries bytes room ≡ listed (map decoded ss) room
unfolding entries listed
all-listed {bytes} {ss} room a h =
    let o = only_strings a in
    let c : count_of (planned (length bytes) room) ≡ length ss = rw (o.0, fitting (length ss) room h) in
    rw (c, length-map ss) (filled bytes (length ss) 0 (length ss) room (zero-add (length ss)) h ∙ rw o.1)

-- ---- there is only one such list, and none where bytes are left over

pub one_list : {bytes : List ℕ} {ss ts : List (List ℕ)} → AreStrings bytes ss → AreStrings bytes ts → ss ≡ ts
one_list {bytes} {ss} {ts} a b =
    let o = only_strings a in
    let p = only_strings b in
    let n : length ss ≡ length ts = omega (arith, o.0, p.0) in
    sym o.1 ∙ ap (cut_from bytes 0) n ∙ p.1

pub no_list : {bytes : List ℕ} → (length bytes % 25 ≡ 0 → ⊥) → (ss : List (List ℕ)) → AreStrings bytes ss → ⊥
no_list h ss a = let o = only_strings a in h (rw o.0 (whole (length ss) 0).0)
