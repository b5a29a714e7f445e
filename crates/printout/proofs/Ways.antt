-- What the desk program prints, on each way out of the code. Assumes nothing.
use Prim.Native.Nat.{ℕ, ◌+◌, ◌-◌, ◌*◌, ◌≤◌, ◌<◌}
use mathlib.Core.Path.{◌≡◌, refl, sym, ap, ◌∙◌}
use mathlib.Core.Bool.{Bool, true, false, cond, ◌&&◌, and_assoc}
use mathlib.Core.List.{List, [], ◌∷◌}
use native.Mathlib.Omega.{arith}
use lib.Dec.{leb}
use lib.ListN.{length, get_or, take, drop, length-take, length-drop}
use borrow.Author.Tests.{leb-true}
use Rattle.laws.specs.Room.{zeros, Put}
use Rattle.laws.proofs.Cases.{and-true}
use Rattle.laws.proofs.Rooms.{filled_put, filled_none, same_text}
use Rattle.dates.specs.Date.{date_of}
use Rattle.dates.proofs.Texts.{text-long}
use Rattle.kinds.specs.Tables.{is_kind}
use Rattle.verdicts.specs.Output.{Output, refusal, text, Leaves}
use Rattle.verdicts.specs.declared.Done.{Done}
use Rattle.verdicts.proofs.Apart.{never-zero}
use Rattle.report.specs.Calls.{report_output}
use Rattle.report.proofs.Answers.{report-cases}
use Rattle.printout.specs.Printout.{kind_of, desk_output, refused_text, shown, desk_text}
use Rattle.std.specs.Prelude.{Some, None}

-- ---- the kind's two digits

pub no-pair : (s : List ℕ) → length s < 2 → 0 ≡ kind_of s
no-pair [] h = refl
no-pair (a ∷ []) h = refl
no-pair (a ∷ b ∷ s) h = absurd (omega arith)

-- both bytes are digits, as the code tests it
abbrev both_digits : ℕ → ℕ → Bool
both_digits a b = ((leb 48 a && leb a 57) && leb 48 b) && leb b 57

pub lows : (a b : ℕ) → both_digits a b ≡ true → (48 ≤ a) × (48 ≤ b)
lows a b e =
    let p = and-true ((leb 48 a && leb a 57) && leb 48 b) _ e in
    let q = and-true (leb 48 a && leb a 57) _ p.0 in
    (leb-true _ _ (and-true (leb 48 a) _ q.0).0, leb-true _ _ q.1)

pub pair_is : (s : List ℕ) {a b : ℕ} → 2 ≤ length s → a ≡ get_or s 0 0 → b ≡ get_or s 1 0 → cond (both_digits a b) ((a - 48) * 10 + (b - 48)) 0 ≡ kind_of s
pair_is [] h p q = absurd (omega arith)
pair_is (x ∷ []) h p q = absurd (omega arith)
pair_is (x ∷ y ∷ s) h p q = rw (p, q, and_assoc (leb 48 x && leb x 57) (leb 48 y) (leb y 57))

take_short : (n : ℕ) (l : List ℕ) → length (take n l) ≤ length l
take_short n l = rw length-take (omega arith)

-- ---- what is printed

module _ (s : List ℕ) (room : ℕ) where
  pub bad_kind : is_kind (kind_of s) ≡ false → refused_text 1 ≡ desk_text s room
  unfolding desk_text desk_output
  bad_kind k = rw k

  module _ (k : is_kind (kind_of s) ≡ true) where
    pub no_date : date_of (take 8 (drop 2 s)) ≡ None → refused_text 2 ≡ desk_text s room
    unfolding desk_text desk_output
    no_date d = rw (k, d)

    -- a date that is cut short
    pub cut-date : length s < 10 → refused_text 2 ≡ desk_text s room
    cut-date h =
        let n : length (take 8 (drop 2 s)) ≡ 8 → ⊥ = λ e. omega (arith, take_short 8 (drop 2 s), length-drop 2 s) in
        no_date (sym (text-long (take 8 (drop 2 s)) n))

    pub dated-text : {today : ℕ} → date_of (take 8 (drop 2 s)) ≡ Some today → shown (report_output (kind_of s) today (drop 10 s) room) ≡ desk_text s room
    unfolding desk_text desk_output
    dated-text d = rw (k, d)

-- ---- after the report call

-- what the report call leaves is what is printed; or its number is printed, into the zeros that it left
shows : (o : Output) (d : List ℕ) {e : List ℕ} {r : Done} → ((t : List ℕ) → o ≡ text t → length t ≤ length d) → Leaves o d e r → r.number ≡ 0 → Put (shown o) (zeros (length d)) e r.length
shows (refusal f) d fit l z = absurd (never-zero f.fault (sym (ap (λ (x : Done). x.number) l.answer) ∙ z))
shows (text t) d fit l z = rw (l.room, ap (λ (x : Done). x.length) l.answer) (filled_put t (length d) (fit t refl))

tells : (o : Output) (d : List ℕ) {e : List ℕ} {r : Done} → Leaves o d e r → (r.number ≡ 0 → ⊥) → (shown o ≡ refused_text r.number) × (e ≡ zeros (length d))
tells (refusal f) d l z = (ap refused_text (sym (ap (λ (x : Done). x.number) l.answer)), l.room ∙ sym (filled_none (length d)))
tells (text t) d l z = absurd (z (ap (λ (x : Done). x.number) l.answer))

-- a report that was written fits its room
fits : (kind today : ℕ) (c : List ℕ) (room : ℕ) (t : List ℕ) → report_output kind today c room ≡ text t → length t ≤ room
fits kind today c room t =
    report-cases kind today c room (λ o. o ≡ text t → length t ≤ room) (λ f e. let z : ◌≡◌ {A = ℕ} 0 1 = cc in absurd (omega arith))
    (λ u l s e. let q : u ≡ t = cc in rw (← q) (omega arith))

module _ (s d : List ℕ) {kind today : ℕ} {e : List ℕ} {r : Done} (k : is_kind (kind_of s) ≡ true) (t : date_of (take 8 (drop 2 s)) ≡ Some today) (q : kind ≡ kind_of s)
    (l : Leaves (report_output kind today (drop 10 s) (length d)) d e r) where
  says : shown (report_output kind today (drop 10 s) (length d)) ≡ desk_text s (length d)
  says = rw q (dated-text s (length d) k t)

  pub reported-refused : {e' : List ℕ} {n : ℕ} → (r.number ≡ 0 → ⊥) → Put (refused_text r.number) e e' n → Put (desk_text s (length d)) (zeros (length d)) e' n
  reported-refused h w =
      let u = tells (report_output kind today (drop 10 s) (length d)) d l h in
      same_text (sym u.0 ∙ says) (rw u.1 at w)

  pub reported-shown : r.number ≡ 0 → Put (desk_text s (length d)) (zeros (length d)) e r.length
  reported-shown h = same_text says (shows (report_output kind today (drop 10 s) (length d)) d (fits kind today (drop 10 s) (length d)) l h)
