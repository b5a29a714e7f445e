-- What the program prints, seen from outside. Assumes nothing.
--     text-fits        it is never longer than the room for the report
--     printed-asked    for a kind, a date and a container it is what the report call gives
--     kind-refused, date-refused    for every other input it is a refusal
use Prim.Native.Nat.{ℕ, ◌+◌, ◌-◌, ◌*◌, ◌/◌, ◌%◌, ◌≤◌, ◌<◌}
use mathlib.Core.Logic.{inl, inr}
use mathlib.Core.Path.{◌≡◌, refl, sym, ap, ap₂, ◌∙◌}
use mathlib.Core.Bool.{true, false, ◌&&◌, true≢false}
use mathlib.Core.List.{List, [], ◌∷◌, ◌++◌}
use native.Mathlib.Omega.{arith}
use lib.Dec.{leb}
use lib.ListN.{length, take, drop, length-append}
use lib.Seq.{take_all, take_at, drop_at, take-append-add, length-take-le, take-take}
use borrow.Author.Tests.{leb-true, leb-false, le-leb, lt-leb}
use Rattle.laws.proofs.Cases.{which, not_so, and_is, and-true}
use Rattle.texts.specs.Text.{ascii, digit}
use Rattle.texts.proofs.Bounds.{decimal-length}
use Rattle.dates.specs.Date.{IsTextDate, is_digit, date_of}
use Rattle.dates.proofs.Dates.{digit as digit-bounds, text-exact, text-not, date-long}
use Rattle.kinds.specs.Tables.{IsKind, is_kind}
use Rattle.verdicts.specs.Verdicts.{number_of}
use Rattle.verdicts.specs.declared.Fault.{Fault}
use Rattle.verdicts.proofs.Apart.{number_small}
use Rattle.verdicts.specs.declared.Fault.TheVariants.{UnknownKind, NoDate}
use Rattle.container.specs.Container.{largest}
use Rattle.container.proofs.Promise.{kind-exact}
use Rattle.report.specs.Calls.{report_room, report_output}
use Rattle.report.proofs.Answers.{report-1, report-cases}
use Rattle.printout.specs.Printout.{kind_of, kind_text, dated, desk_output, refused_text, shown, desk_text, input_size, printed, Asks}
use Rattle.printout.proofs.Ways.{bad_kind, no_date}
use Rattle.std.specs.Prelude.{Option, Some, None}

-- ---- it fits

refused-short : (f : Fault) → length (refused_text (number_of f)) ≤ report_room
unfolding refused_text
refused-short f = simp length-append (omega (arith, decimal-length 2 (number_of f) (omega arith) (number_small f)))

shown-short : (kind today : ℕ) (c : List ℕ) (room : ℕ) → length (shown (report_output kind today c room)) ≤ report_room
shown-short kind today c room = report-cases kind today c room (λ o. length (shown o) ≤ report_room) refused-short (λ t l s. s)

pub text-fits : (s : List ℕ) (room : ℕ) → length (desk_text s room) ≤ report_room
unfolding desk_text desk_output
text-fits s room =
    elim (which (is_kind (kind_of s))) [
      | inl k ↦ rw k (go (date_of (take 8 (drop 2 s))))
      | inr k ↦ rw k (refused-short UnknownKind)
    ]
  where
    go : (d : Option ℕ) → length (shown (dated (kind_of s) d (drop 10 s) room)) ≤ report_room
    go None = refused-short NoDate
    go (Some today) = shown-short (kind_of s) today (drop 10 s) room

-- ---- an input that asks for a container of a kind under a date

as_written : (kind_text 2 ≡ ascii "02") × (kind_text 12 ≡ ascii "12")
as_written = (refl, refl)

-- a kind is below 100
two-places : (kind : ℕ) → IsKind kind → kind < 100
two-places kind k = omega (arith, k.1)

a-digit : (d : ℕ) → d < 10 → is_digit (digit d) ≡ true
a-digit d h = and_is (leb 48 (digit d)) (leb (digit d) 57) (le-leb 48 (digit d) (omega arith)) (le-leb (digit d) 57 (omega arith))

-- its two digits are read back
kind-text : (kind : ℕ) (s : List ℕ) → IsKind kind → kind_of (kind_text kind ++ s) ≡ kind
kind-text kind s k = let h = two-places kind k in rw (a-digit (kind / 10) (omega arith), a-digit (kind % 10) (omega arith)) (omega arith)

-- and what is read as a kind are its two digits
text-kind : (s : List ℕ) → IsKind (kind_of s) → take 2 s ≡ kind_text (kind_of s)
text-kind [] k = absurd (omega (arith, k.0))
text-kind (a ∷ []) k = absurd (omega (arith, k.0))
text-kind (a ∷ b ∷ s) k =
    elim (which (is_digit a && is_digit b)) [
      | inl q ↦
          let d = and-true (is_digit a) (is_digit b) q in
          let x = digit-bounds a d.0 in
          let y = digit-bounds b d.1 in
          let e : a ≡ digit (((a - 48) * 10 + (b - 48)) / 10) = omega (arith, x.0, x.1, y.0, y.1) in
          let f : b ≡ digit (((a - 48) * 10 + (b - 48)) % 10) = omega (arith, x.0, x.1, y.0, y.1) in
          rw q (ap₂ (λ (m n : ℕ). m ∷ n ∷ []) e f)
      | inr q ↦ absurd (omega (arith, (rw q at k).0))
    ]

-- no two numbers have the same
same_digits : (k l : ℕ) → kind_text k ≡ kind_text l → k ≡ l
same_digits k l e =
    let p : digit (k / 10) ≡ digit (l / 10) = cc in
    let q : digit (k % 10) ≡ digit (l % 10) = cc in
    omega arith

-- so no kind is read off those of a number that is none
no_kind : (kind : ℕ) (s : List ℕ) → is_kind kind ≡ false → is_kind (kind_of (kind_text kind ++ s)) ≡ false
no_kind kind s n =
    let m = kind_of (kind_text kind ++ s) in
    not_so (is_kind m) (λ t. true≢false (sym t ∙ ap is_kind (sym (same_digits kind m (text-kind (kind_text kind ++ s) ((kind-exact m).0 t)))) ∙ n))

asked-output : {s : List ℕ} {kind today : ℕ} {c : List ℕ} → Asks s kind today c → (room : ℕ) → desk_output s room ≡ report_output kind today c room
unfolding desk_output
asked-output {s} {kind} {today} {c} a room =
    let l = date-long a.date_is in
    let d : date_of a.date ≡ Some today = (text-exact a.date today).1 a.date_is in
    rw (a.written, take_at a.date c 8 l, drop_at a.date c 8 l, d)
    (elim (which (is_kind kind)) [
      | inl k ↦ rw (kind-text kind (a.date ++ c) ((kind-exact kind).0 k), k)
      | inr k ↦ rw (no_kind kind (a.date ++ c) k) (sym (report-1 kind today c room k))
    ])

-- the program's buffer cuts only containers that are too long by then
cut-asks : {s : List ℕ} {kind today : ℕ} {c : List ℕ} → Asks s kind today c → Asks (take input_size s) kind today (take (largest + 1) c)
cut-asks {s} {kind} {today} {c} a =
    let l : length a.date + (largest + 1) ≡ 32777 = omega (arith, date-long a.date_is) in
    let t : take 32777 (a.date ++ c) ≡ a.date ++ take (largest + 1) c = rw l at (take-append-add a.date c (largest + 1)) in
    record { date = a.date; date_is = a.date_is; written = rw a.written (ap (λ (x : List ℕ). kind_text kind ++ x) t) }

cut-output : (kind today : ℕ) (c : List ℕ) (room : ℕ) → report_output kind today (take (largest + 1) c) room ≡ report_output kind today c room
unfolding report_output
cut-output kind today c room =
    elim (which (leb (length c) largest)) [
      | inl l ↦ rw (take_all (largest + 1) c (omega (arith, leb-true (length c) largest l)))
      | inr l ↦
          let n : length (take (largest + 1) c) ≡ largest + 1 = length-take-le (largest + 1) c (omega (arith, leb-false (length c) largest l)) in
          rw (lt-leb (length (take (largest + 1) c)) largest (omega (arith, n)), l)
    ]

pub printed-asked : {s : List ℕ} {kind today : ℕ} {c : List ℕ} → Asks s kind today c → printed s ≡ shown (report_output kind today c report_room)
unfolding desk_text
printed-asked {s} {kind} {today} {c} a = ap shown (asked-output (cut-asks a) report_room ∙ cut-output kind today c report_room)

-- ---- every other input is refused

-- the first two bytes are not those of a kind, or not both there
pub kind_refused : (s : List ℕ) → ((kind : ℕ) → IsKind kind → take 2 s ≡ kind_text kind → ⊥) → printed s ≡ refused_text 1
kind_refused s none = sym (bad_kind (take input_size s) report_room (not_so (is_kind (kind_of (take input_size s))) (λ k. go ((kind-exact _).0 k))))
  where
    go : IsKind (kind_of (take input_size s)) → ⊥
    go i = none _ i (sym (take-take 2 input_size s (omega arith)) ∙ text-kind (take input_size s) i)

-- the eight bytes after them are no date, or not all there
pub date_refused : (s : List ℕ) (kind : ℕ) → IsKind kind → take 2 s ≡ kind_text kind → (IsTextDate (take 8 (drop 2 s)) → ⊥) → printed s ≡ refused_text 2
date_refused [] kind k h none = absurd (omega (arith, ap length h))
date_refused (a ∷ []) kind k h none = absurd (omega (arith, ap length h))
date_refused (a ∷ b ∷ t) kind k h none =
    let e : a ≡ digit (kind / 10) = cc in
    let f : b ≡ digit (kind % 10) = cc in
    let i : is_kind (kind_of (a ∷ b ∷ take 32777 t)) ≡ true = rw (e, f, kind-text kind (take 32777 t) k) ((kind-exact kind).1 k) in
    sym (no_date (take input_size (a ∷ b ∷ t)) report_room i (rw (take-take 8 32777 t (omega arith)) ((text-not (take 8 t)).1 none)))
