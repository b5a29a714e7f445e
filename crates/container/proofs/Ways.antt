-- The outer form and what comes before it, by the tests that the code makes. Assumes nothing.
use Prim.Native.Nat.{ℕ, ◌+◌, ◌-◌, ◌≤◌, ◌<◌}
use mathlib.Core.Path.{◌≡◌, refl}
use mathlib.Core.Bool.{true, false}
use mathlib.Core.Option.{some}
use mathlib.Core.List.{List, [], ◌∷◌}
use native.Mathlib.Omega.{arith}
use lib.ListN.{length, get_or, drop}
use lib.Seq.{drop-drop}
use borrow.Author.Tests.{le-leb, lt-leb, eq-eqb, ne_eqb}
use Rattle.lengths.specs.Length.{read_length, length_at}
use Rattle.lengths.specs.declared.Length.{Length}
use Rattle.lengths.proofs.Reading.{some_read, none_read}
use Rattle.lengths.proofs.Spellings.{inside as spelling-inside}
use Rattle.dates.specs.Date.{is_date}
use Rattle.kinds.specs.Tables.{is_kind}
use Rattle.verdicts.specs.Verdicts.{outright}
use Rattle.verdicts.specs.declared.Fault.TheVariants.{UnknownKind, NoDate, LargeContainer, OuterTag, LengthForm, Overrun}
use Rattle.std.specs.Prelude.{Some, None, Err}
use Rattle.container.specs.Container.{outer_tag, largest}
use Rattle.container.specs.Reading.{outer, located}
use Rattle.container.specs.Spans.{no_rows}
use Rattle.container.specs.Map.{noted, map_of, map_from}

-- ---- 1, 2, 4

module _ (kind today : ℕ) (c : List ℕ) where
  pub bad_kind : is_kind kind ≡ false → Err (outright UnknownKind) ≡ map_of (located kind today c)
  unfolding located noted
  bad_kind k = rw k

  module _ (k : is_kind kind ≡ true) where
    pub bad_date : is_date today ≡ false → Err (outright NoDate) ≡ map_of (located kind today c)
    unfolding located noted
    bad_date d = rw (k, d)

    module _ (d : is_date today ≡ true) where
      pub too_large : largest < length c → Err (outright LargeContainer) ≡ map_of (located kind today c)
      unfolding located noted
      too_large l = rw (k, d, lt-leb _ _ l)

      pub goes_in : length c ≤ largest → map_of (outer kind today c) ≡ map_of (located kind today c)
      unfolding located noted
      goes_in l = rw (k, d, le-leb _ _ l)

-- ---- 10, 11, 12

pub no_bytes : (kind today : ℕ) (c : List ℕ) → length c ≡ 0 → Err (outright OuterTag) ≡ map_of (outer kind today c)
unfolding noted
no_bytes kind today [] h = refl
no_bytes kind today (t ∷ s) h = absurd (omega arith)

pub wrong_tag : (kind today : ℕ) (c : List ℕ) → (get_or c 0 0 ≡ outer_tag kind → ⊥) → Err (outright OuterTag) ≡ map_of (outer kind today c)
unfolding noted
wrong_tag kind today [] h = refl
wrong_tag kind today (t ∷ s) h = rw (ne_eqb t (outer_tag kind) h)

pub no_length : (kind today : ℕ) (c : List ℕ) → (length c ≡ 0 → ⊥) → get_or c 0 0 ≡ outer_tag kind → None ≡ length_at 1 (drop 1 c) → Err (outright LengthForm) ≡ map_of (outer kind today c)
unfolding noted
no_length kind today [] z h f = absurd (z refl)
no_length kind today (t ∷ s) z h f = rw (eq-eqb t (outer_tag kind) h, none_read 1 s f)

-- what a length of the outer form says of the place after it
pub within_outer : (c : List ℕ) {l : Length} → (length c ≡ 0 → ⊥) → Some l ≡ length_at 1 (drop 1 c) → l.next ≤ length c
within_outer [] z f = absurd (z refl)
within_outer (t ∷ s) {l} z f =
    let m = some_read 1 s f in
    omega (arith, m.2, (spelling-inside s (record { number = l.number; width = m.0 }) m.1).2)

pub off_end : (kind today : ℕ) (c : List ℕ) {l : Length} → (length c ≡ 0 → ⊥) → get_or c 0 0 ≡ outer_tag kind → Some l ≡ length_at 1 (drop 1 c) → (length c - l.next ≡ l.number → ⊥)
    → Err (outright Overrun) ≡ map_of (outer kind today c)
unfolding noted
off_end kind today [] z h f k = absurd (z refl)
off_end kind today (t ∷ s) {l} z h f k =
    let m = some_read 1 s f in
    let k' : length s ≡ m.0 + l.number → ⊥ = λ q. k (omega (arith, m.2)) in
    rw (eq-eqb t (outer_tag kind) h, m.1, ne_eqb _ _ k')

fitted : (kind today t : ℕ) (s : List ℕ) (n w next : ℕ) → t ≡ outer_tag kind → read_length s ≡ some (record { number = n; width = w }) → next ≡ 1 + w → length s ≡ w + n
    → map_from kind today (t ∷ s) next 0 no_rows ≡ map_of (outer kind today (t ∷ s))
unfolding map_from
fitted kind today t s n w next h r e k = rw (eq-eqb t (outer_tag kind) h, r, eq-eqb _ _ k, e, ← drop-drop w 1 (t ∷ s))

pub fits_outer : (kind today : ℕ) (c : List ℕ) {l : Length} → (length c ≡ 0 → ⊥) → get_or c 0 0 ≡ outer_tag kind → Some l ≡ length_at 1 (drop 1 c) → length c - l.next ≡ l.number
    → map_from kind today c l.next 0 no_rows ≡ map_of (outer kind today c)
fits_outer kind today [] z h f k = absurd (z refl)
fits_outer kind today (t ∷ s) {l} z h f k =
    let m = some_read 1 s f in
    let n = within_outer (t ∷ s) z f in
    fitted kind today t s l.number m.0 l.next h m.1 m.2 (omega (arith, m.2))
