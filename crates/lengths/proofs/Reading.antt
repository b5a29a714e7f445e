-- What `length_at` is, by the tests that the code makes: a law for each way out. And the code's answer, taken back. Assumes nothing.
use Prim.Native.Nat.{ℕ, suc, ◌+◌, ◌-◌, ◌^◌, ◌<◌, ◌≤◌}
use mathlib.Core.Path.{◌≡◌, refl, ap}
use mathlib.Core.List.{List}
use mathlib.Core.Option.{Option, none, some}
use Rattle.std.specs.Prelude.{Option as Maybe, Some, None}
use native.Mathlib.Nat.{pow-le-pow_right}
use native.Mathlib.Omega.{arith}
use lib.ListN.{length, get_or, drop, drop_of_length-le, length-drop}
use borrow.Author.Tests.{lt-ltb, le-ltb, le-leb, lt-leb}
use Rattle.laws.specs.Layout.{field}
use Rattle.laws.proofs.Turns.{from_one}
use Rattle.lengths.specs.Length.{Spelt, after_count, read_length, told, length_at}
use Rattle.lengths.specs.declared.Length.{Length}

module _ (s : List ℕ) (at : ℕ) where
  pub cut : length s ≤ at → None ≡ length_at at (drop at s)
  unfolding length_at read_length
  cut h = rw (drop_of_length-le s h)

  module _ (h : at < length s) where
    pub one : (a : ℕ) → a ≡ get_or s at 0 → a < 128 → Some (record { number = a; next = at + 1 }) ≡ length_at at (drop at s)
    unfolding length_at read_length
    one a e l = rw (from_one s at h, ← e) (simp (lt-ltb _ _ l))

    pub other : 0x84 < get_or s at 0 → None ≡ length_at at (drop at s)
    unfolding length_at read_length
    other l = rw (from_one s at h) (simp (le-ltb (get_or s at 0) 128 (omega arith), lt-leb _ _ l))

    -- up to 84: as many bytes as it counts
    module _ (l : 128 ≤ get_or s at 0) (m : get_or s at 0 ≤ 0x84) (count : ℕ) (e : count ≡ get_or s at 0 - 0x80) where
      counts : length_at at (drop at s) ≡ told at (after_count count (drop (at + 1) s))
      unfolding length_at read_length
      counts = rw (from_one s at h) (simp (le-ltb (get_or s at 0) 128 l, le-leb _ _ m, ← e))

      pub short : length s ≤ at + count → None ≡ length_at at (drop at s)
      short k = let z : length (drop (at + 1) s) < count = rw length-drop (omega arith) in rw counts (simp (lt-ltb _ _ z))

      module _ (k : at + count < length s) where
        enough : count ≤ length (drop (at + 1) s)
        enough = rw length-drop (omega arith)

        pub small : field s (at + 1) count < 128 → None ≡ length_at at (drop at s)
        small f = rw counts (simp (le-ltb _ _ enough, lt-ltb _ _ f))

        pub several : (n next : ℕ) → n ≡ field s (at + 1) count → next ≡ at + 1 + count → 128 ≤ n → Some (record { number = n; next = next }) ≡ length_at at (drop at s)
        several n next f e g =
            let g' : 128 ≤ field s (at + 1) count = rw (← f) g in
            let z : next ≡ at + suc count = omega arith in
            rw (counts, z) (simp (le-ltb _ _ enough, le-ltb _ _ g') (ap (λ (x : ℕ). Some (record { number = x; next = at + suc count })) f))

-- no more than four bytes hold
pub four_bytes : (count : ℕ) → count ≤ 4 → 256 ^ count ≤ 4294967296
four_bytes count h = pow-le-pow_right (omega arith) h

-- the ways out of the code
pub ruleset counting = (short, small, several, four_bytes)

pub ruleset reading = (cut, one, other)

-- ---- the code's answer, taken back

-- a length that was told was read, and what follows it starts where its bytes end
pub some_read : (at : ℕ) (s : List ℕ) {l : Length} → Some l ≡ length_at at s → (w : ℕ) × (read_length s ≡ some (record { number = l.number; width = w })) × (l.next ≡ at + w)
unfolding length_at
some_read at s {l} e = go (read_length s) refl
  where
    go : (o : Option Spelt) → read_length s ≡ o → (w : ℕ) × (read_length s ≡ some (record { number = l.number; width = w })) × (l.next ≡ at + w)
    go none f =
        let e' : ◌≡◌ {A = Maybe Length} (Some l) None = rw f at e in
        cc
    go (some m) f =
        let other : Length = record { number = m.number; next = at + m.width } in
        let e' : Some l ≡ Some other = rw f at e in
        let q : l ≡ other = cc in
        rw q (m.width, f, refl)

pub none_read : (at : ℕ) (s : List ℕ) → None ≡ length_at at s → read_length s ≡ none
unfolding length_at
none_read at s e = go (read_length s) refl
  where
    go : (o : Option Spelt) → read_length s ≡ o → read_length s ≡ none
    go none f = f
    go (some l) f =
        let e' : ◌≡◌ {A = Maybe Length} None (Some (record { number = l.number; next = at + l.width })) = rw f at e in
        cc
