-- Going over a folder ends well exactly where some entries spell its bytes, and there is only one such list. Assumes nothing.
use Prim.Native.Nat.{ℕ, zero, suc, ◌-◌, ◌^◌, ◌<◌, ◌≤◌}
use mathlib.Core.Path.{◌≡◌, refl, sym, ap, ap₂, ◌∙◌}
use mathlib.Core.Logic.{◌↔◌}
use mathlib.Core.List.{List, [], ◌∷◌, ◌++◌, append_assoc}
use native.Mathlib.Decide.{dec_le}
use native.Mathlib.Omega.{arith}
use lib.ListN.{length, take, drop, get_or, take-append-drop}
use lib.Seq.{length-take-le}
use borrow.Author.Tests.{ne_eqb, lt-leb, lt-ltb, le-ltb}
use Rattle.laws.specs.Bytes.{Bytes}
use Rattle.laws.specs.Digits.{value}
use Rattle.laws.specs.Layout.{number}
use Rattle.laws.proofs.Bases.{value-digits, value-lt, digits-read, length_digits, below-digits, below-take, below-drop}
use Rattle.texts.proofs.Reading.{Reads, long-reads, and_then, and, so, given, read}
use Rattle.pieces.specs.Folder.{Entry, entry_bytes, entries_bytes, IsEntry, AreEntries, IsFolder}
use Rattle.pieces.specs.Pieces.{at, first, passed, counted, long, more, one, over}
use Rattle.pieces.specs.declared.State.{State}
use Rattle.pieces.proofs.Laws.{head}

-- ---- a number read byte by byte

count : (p t : List ℕ) → Bytes p → length p ≡ 2 → over first (p ++ t) ≡ over (counted (value 256 p)) t
unfolding over one
count [] t b e = absurd (omega arith)
count (x ∷ []) t b e = absurd (omega arith)
count (x ∷ y ∷ []) t b e = ap (λ (n : ℕ). over (counted n) t) two
  where
    two : more (more 0 x) y ≡ value 256 (x ∷ y ∷ [])
    two = omega (arith, b.0, b.1.0)
count (x ∷ y ∷ z ∷ p) t b e = absurd (omega arith)

-- ---- a container passed over

still : (n left : ℕ) → long (suc n) left ≡ at 7 n left
still n left = rw (ne_eqb (suc n) 0 (λ e. omega arith)) (ap (λ (m : ℕ). at 7 m left) less)
  where
    less : suc n - 1 ≡ n
    less = omega arith

-- whole
through : (n left : ℕ) (v t : List ℕ) → length v ≡ n → over (long n left) (v ++ t) ≡ over (passed left) t
unfolding over one
through zero left [] t e = refl
through zero left (x ∷ v) t e = absurd (omega arith)
through (suc n) left [] t e = absurd (omega arith)
through (suc n) left (x ∷ v) t e = ap (λ (s : State). over s (x ∷ (v ++ t))) (still n left) ∙ through n left v t (omega arith)

-- or the bytes end within it
cut_off : (n left : ℕ) (t : List ℕ) → length t < n → (over (long n left) t).phase ≡ 7
unfolding over one
cut_off zero left t h = absurd (omega arith)
cut_off (suc n) left [] h = rw (still n left)
cut_off (suc n) left (x ∷ t) h = ap (λ (s : State). (over s (x ∷ t)).phase) (still n left) ∙ cut_off n left t (omega arith)

-- behind the last entry nothing may follow
torn : (t : List ℕ) → (over (at 9 0 0) t).phase ≡ 9
unfolding over one
torn [] = refl
torn (x ∷ t) = torn t

after-end : (t : List ℕ) → (over (at 8 0 0) t).phase ≡ 8 → t ≡ []
unfolding over one
after-end [] h = refl
after-end (x ∷ t) h = absurd (omega (arith, sym h ∙ torn t))

-- ---- entries that are spelt are gone over

four_bytes : (n : ℕ) → n < 256 ^ 4 → value 256 (number 4 n) ≡ n
four_bytes n h = value-digits 256 (omega arith) 4 n h

one-through : (left : ℕ) (e : Entry) (t : List ℕ) → IsEntry e → over (at 2 0 left) (entry_bytes e ++ t) ≡ over (passed left) t
one-through left e t h =
    let n = length e.bytes in
    rw (append_assoc)
    (head left 0 e.kind (number 4 n) (e.bytes ++ t) (below-digits 256 (omega arith) 4 n) (length_digits 256 (omega arith) 4 n)
    ∙ ap (λ (m : ℕ). over (long m left) (e.bytes ++ t)) (four_bytes n h.length_is)
    ∙ through n left e.bytes t refl)

all-through : (k : ℕ) (es : List Entry) → AreEntries es → length es ≡ suc k → over (at 2 0 (suc k)) (entries_bytes es) ≡ at 8 0 0
unfolding over
all-through k [] h e = absurd (omega arith)
all-through zero (e ∷ []) h l = one-through 1 e [] h.0
all-through zero (e ∷ f ∷ es) h l = absurd (omega arith)
all-through (suc k) (e ∷ es) h l =
    one-through (suc (suc k)) e (entries_bytes es) h.0
    ∙ rw (lt-leb (suc (suc k)) 1 (omega arith), less) (all-through k es h.1 (omega arith))
  where
    less : suc (suc k) - 1 ≡ suc k
    less = omega arith

spelt-counted : (es : List Entry) → AreEntries es → length es ≤ 256 → over (counted (length es)) (entries_bytes es) ≡ at 8 0 0
unfolding over
spelt-counted [] h few = refl
spelt-counted (e ∷ es) h few = rw (le-ltb 256 (suc (length es)) few, ne_eqb (suc (length es)) 0 (λ z. omega arith)) (all-through (length es) (e ∷ es) h refl)

spelt : (s : List ℕ) (es : List Entry) → IsFolder s es → over first s ≡ at 8 0 0
spelt s es h =
    let n = length es in
    ap (over first) h.bytes_are
    ∙ count (number 2 n) (entries_bytes es) (below-digits 256 (omega arith) 2 n) (length_digits 256 (omega arith) 2 n)
    ∙ ap (λ (m : ℕ). over (counted m) (entries_bytes es)) (value-digits 256 (omega arith) 2 n (omega (arith, h.few)))
    ∙ spelt-counted es h.entries h.few

-- ---- and what is gone over to a good end is spelt by some

-- these bytes are so many entries
record Entries (k : ℕ) (s : List ℕ) : Type 0 where
  es : List Entry
  many : length es ≡ k
  are : AreEntries es
  spell : s ≡ entries_bytes es

none_left : (s : List ℕ) → s ≡ [] → Entries 0 s
none_left s e = record { es = []; many = refl; are = tt; spell = e }

-- one at the front, and others behind it
entry_first : (k b n : ℕ) (p t : List ℕ) → b < 256 → Bytes p → Bytes t → length p ≡ 4 → n ≡ value 256 p → n ≤ length t → Entries k (drop n t) → Entries (suc k) (b ∷ (p ++ t))
entry_first k b n p t small bytes others four e inside rest =
    record {
      es = record { kind = b; bytes = take n t } ∷ rest.es;
      many = ap suc rest.many;
      are = (record { kind_is = small; length_is = rw taken fits; bytes_are = below-take 256 n t others }, rest.are);
      spell = ap (λ (l : List ℕ). b ∷ l) joins;
    }
  where
    taken : length (take n t) ≡ n
    taken = length-take-le n t inside

    fits : n < 256 ^ 4
    fits = rw e (rw four at (value-lt 256 (omega arith) p bytes))

    whole : number 4 n ≡ p
    whole = rw e (rw four at (digits-read 256 (omega arith) 0 p bytes))

    joins : p ++ t ≡ (number 4 (length (take n t)) ++ take n t) ++ entries_bytes rest.es
    joins = rw (taken, whole, ← rest.spell) (ap (λ (l : List ℕ). p ++ l) (sym (take-append-drop n t)) ∙ sym (append_assoc p (take n t) (drop n t)))

one_more : (k : ℕ) → ((t : List ℕ) → Bytes t → (over (passed (suc k)) t).phase ≡ 8 → Entries k t) → (s : List ℕ) → Bytes s → (over (at 2 0 (suc k)) s).phase ≡ 8 → Entries (suc k) s
unfolding over one
one_more k more_of [] b h = absurd (omega arith)
one_more k more_of (x ∷ []) b h = absurd (omega arith)
one_more k more_of (x ∷ y ∷ []) b h = absurd (omega arith)
one_more k more_of (x ∷ y ∷ z ∷ []) b h = absurd (omega arith)
one_more k more_of (x ∷ y ∷ z ∷ u ∷ []) b h = absurd (omega arith)
one_more k more_of (x ∷ y ∷ z ∷ u ∷ w ∷ t) b h =
    let p : List ℕ = y ∷ z ∷ u ∷ w ∷ [] in
    let n : ℕ = value 256 p in
    let bytes : Bytes p = (b.1.0, (b.1.1.0, (b.1.1.1.0, (b.1.1.1.1.0, tt)))) in
    let rest : Bytes t = b.1.1.1.1.1 in
    let gone = ap (λ (s : State). s.phase) (head (suc k) 0 x p t bytes refl) in
    elim (dec_le n (length t)) [
      | yes inside ↦
          let passed_over = ap (λ (l : List ℕ). (over (long n (suc k)) l).phase) (sym (take-append-drop n t)) ∙ ap (λ (s : State). s.phase) (through n (suc k) (take n t) (drop n t) (length-take-le n t inside)) in
          entry_first k x n p t b.0 bytes rest refl refl inside (more_of (drop n t) (below-drop 256 n t rest) (sym passed_over ∙ sym gone ∙ h))
      | no outside ↦ absurd (omega (arith, sym (cut_off n (suc k) t (omega arith)) ∙ sym gone ∙ h))
    ]

from : (k : ℕ) (s : List ℕ) → Bytes s → (over (passed (suc k)) s).phase ≡ 8 → Entries k s
from zero s b h = none_left s (after-end s h)
from (suc k) s b h = one_more k (from k) s b (ap (λ (t : State). (over t s).phase) (sym next) ∙ h)
  where
    less : suc (suc k) - 1 ≡ suc k
    less = omega arith

    next : passed (suc (suc k)) ≡ at 2 0 (suc k)
    next = rw (lt-leb (suc (suc k)) 1 (omega arith), less)

from-count : (n : ℕ) (s : List ℕ) → n ≤ 256 → Bytes s → (over (counted n) s).phase ≡ 8 → Entries n s
from-count zero s few b h = none_left s (after-end s h)
from-count (suc k) s few b h = one_more k (from k) s b (rw (le-ltb 256 (suc k) few, ne_eqb (suc k) 0 (λ z. omega arith)) at h)

whole : (s : List ℕ) → Bytes s → (over first s).phase ≡ 8 → (es : List Entry) × IsFolder s es
unfolding over one
whole [] b h = absurd (omega arith)
whole (x ∷ []) b h = absurd (omega arith)
whole (x ∷ y ∷ t) b h =
    let p : List ℕ = x ∷ y ∷ [] in
    let n : ℕ = value 256 p in
    let bytes : Bytes p = (b.0, (b.1.0, tt)) in
    let gone = ap (λ (s : State). s.phase) (count p t bytes refl) in
    elim (dec_le n 256) [
      | yes few ↦
          let r = from-count n t few b.1.1 (sym gone ∙ h) in
          (r.es, record { few = rw r.many few; entries = r.are; bytes_are = rw (r.many, digits-read 256 (omega arith) 0 p bytes, ← r.spell) })
      | no many ↦ absurd (omega (arith, sym (ap (λ (s : State). (over s t).phase) (too_many n (omega arith)) ∙ torn t) ∙ sym gone ∙ h))
    ]
  where
    too_many : (n : ℕ) → 256 < n → counted n ≡ at 9 0 0
    too_many n l = rw (lt-ltb 256 n l)

-- "32 exactly when there is no such list"
pub exact : (s : List ℕ) → Bytes s → ((over first s).phase ≡ 8) ↔ ((es : List Entry) × IsFolder s es)
exact s b = (whole s b, λ h. ap (λ (t : State). t.phase) (spelt s h.0 h.1))

-- ---- there is only one

entry-reads : (e f : Entry) → IsEntry e → IsEntry f → Reads (entry_bytes e) (entry_bytes f) (e ≡ f)
entry-reads e f h k =
    so (λ r. ap₂ (λ (b : ℕ) (v : List ℕ). record { kind = b; bytes = v }) (ap (λ (l : List ℕ). get_or l 0 0) r.0) r.1.1)
    (and_then (long-reads (e.kind ∷ []) (f.kind ∷ []) refl)
    (λ _. and_then (long-reads (number 4 n) (number 4 m) (length_digits 256 (omega arith) 4 n ∙ sym (length_digits 256 (omega arith) 4 m)))
    (λ same. long-reads e.bytes f.bytes (sym (four_bytes n h.length_is) ∙ ap (value 256) same ∙ four_bytes m k.length_is))))
  where
    n : ℕ
    n = length e.bytes

    m : ℕ
    m = length f.bytes

entries-read : (es fs : List Entry) → AreEntries es → AreEntries fs → length es ≡ length fs → Reads (entries_bytes es) (entries_bytes fs) (es ≡ fs)
entries-read [] [] h k e = so (λ _. refl) (given [])
entries-read [] (f ∷ fs) h k e = absurd (omega arith)
entries-read (e ∷ es) [] h k l = absurd (omega arith)
entries-read (e ∷ es) (f ∷ fs) h k l =
    so (λ r. ap₂ (λ (x : Entry) (xs : List Entry). x ∷ xs) r.0 r.1) (and (entry-reads e f h.0 k.0) (entries-read es fs h.1 k.1 (omega arith)))

pub one_list : (s : List ℕ) (es fs : List Entry) → IsFolder s es → IsFolder s fs → es ≡ fs
one_list s es fs h k =
    read
    (so (λ r. r.1)
    (and_then (long-reads (number 2 n) (number 2 m) (length_digits 256 (omega arith) 2 n ∙ sym (length_digits 256 (omega arith) 2 m)))
    (λ same. entries-read es fs h.entries k.entries (sym (two n h.few) ∙ ap (value 256) same ∙ two m k.few))))
    (sym h.bytes_are ∙ k.bytes_are)
  where
    n : ℕ
    n = length es

    m : ℕ
    m = length fs

    two : (n : ℕ) → n ≤ 256 → value 256 (number 2 n) ≡ n
    two n l = value-digits 256 (omega arith) 2 n (omega arith)
