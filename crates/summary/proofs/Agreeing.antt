-- "whether all FASC-N in conforming CHUID, FINGERS, FACE and iris containers agree (yes when fewer than two)": the state says so. Assumes nothing.
use Prim.Native.Nat.{ℕ, ◌≤◌}
use mathlib.Core.Path.{◌≡◌, refl, sym, ap, ◌∙◌}
use mathlib.Core.Logic.{inl, inr, ◌↔◌}
use mathlib.Core.Bool.{Bool, true, false, true≢false}
use mathlib.Core.Option.{Option, none, some}
use mathlib.Core.List.{List, [], ◌∷◌}
use native.Mathlib.Omega.{arith}
use borrow.Author.Tests.{eq-eqb, ne_eqb, le-ltb}
use Rattle.laws.specs.Bytes.{Bytes}
use Rattle.laws.specs.Tests.{same}
use Rattle.laws.proofs.Cases.{no-some, same-exact}
use Rattle.pieces.specs.Folder.{Entry, AreEntries}
use Rattle.container.specs.Container.{Values}
use Rattle.container.specs.Reading.{Parsed, values, fault, parsed}
use Rattle.container.proofs.Promise.{exact, conforms-parsed}
use Rattle.summary.specs.Rows.{carried, alike, start, one_more, seen, seen_in, tallied}
use Rattle.summary.specs.Summary.{after_one, after, Carries, Among, Agree}
use Rattle.summary.specs.declared.Tally.{Tally}
use Rattle.summary.proofs.Laws.{other-seen, same_seen}
use Rattle.summary.proofs.Summing.{same-agreement, same-fascn}

-- ---- one container

-- it carries no FASC-N that counts, and leaves the comparison as it was; or it carries just one, which is seen
data Looked (today : ℕ) (e : Entry) : Type 0 where
  nothing : ((f : List ℕ) → Carries today e f → ⊥)
      → ((t : Tally) → ((after_one today e t).agreement ≡ t.agreement) × ((after_one today e t).fascn ≡ t.fascn)) → Looked today e
  one : (f : List ℕ) → Carries today e f → ((g : List ℕ) → Carries today e g → f ≡ g) → ((t : Tally) → after_one today e t ≡ seen f (one_more t)) → Looked today e

module _ (today : ℕ) (e : Entry) (b : Bytes e.bytes) where
  -- what carries a FASC-N was read so
  read-so : (f : List ℕ) → (c : Carries today e f) → parsed e.kind today e.bytes ≡ values c.vs
  read-so f c = conforms-parsed e.kind today e.bytes b c.vs c.conforms

  look_at : (p : Parsed (List ℕ)) → parsed e.kind today e.bytes ≡ p → Looked today e
  look_at (fault f) h =
      nothing (λ g c. let q : values c.vs ≡ fault f = sym (read-so g c) ∙ h in let z : ◌≡◌ {A = ℕ} 0 1 = cc in omega arith)
      (λ t. let q = ap (λ (p : Parsed (List ℕ)). tallied e.kind p t) h in (ap (λ (u : Tally). u.agreement) q, ap (λ (u : Tally). u.fascn) q))
  look_at (values vs) h = go (carried e.kind vs) refl
    where
      -- the values are those that were read
      same-values : (ws : Values) → values vs ≡ values ws → vs ≡ ws
      same-values ws q = cc

      carries-it : (g : List ℕ) → Carries today e g → carried e.kind vs ≡ some g
      carries-it g c = ap (carried e.kind) (same-values c.vs (sym h ∙ read-so g c)) ∙ c.carries

      seen-so : (o : Option (List ℕ)) → carried e.kind vs ≡ o → (t : Tally) → after_one today e t ≡ seen_in o (one_more t)
      seen-so o q t = ap (λ (p : Parsed (List ℕ)). tallied e.kind p t) h ∙ ap (λ (o : Option (List ℕ)). seen_in o (one_more t)) q

      go : (o : Option (List ℕ)) → carried e.kind vs ≡ o → Looked today e
      go none q =
          nothing (λ g c. no-some (sym q ∙ carries-it g c))
          (λ t. let s = seen-so none q t in
          (ap (λ (u : Tally). u.agreement) s ∙ same-agreement t, ap (λ (u : Tally). u.fascn) s ∙ same-fascn t))
      go (some f) q =
          one f (record { vs = vs; conforms = (exact e.kind today e.bytes b vs).0 h; carries = q })
          (λ g c. let r : some f ≡ some g = sym q ∙ carries-it g c in cc) (seen-so (some f) q)

  look : Looked today e
  look = look_at (parsed e.kind today e.bytes) refl

-- ---- what is seen

module _ (f : List ℕ) (t : Tally) where
  -- it is the first
  sees-first : t.agreement ≡ 0 → ((seen f t).agreement ≡ 1) × ((seen f t).fascn ≡ f)
  unfolding seen
  sees-first h = rw (eq-eqb _ _ h) (refl, refl)

  module _ (h : t.agreement ≡ 1) where
    -- it is as the first, or another
    sees-same : same t.fascn f ≡ true → ((seen f t).agreement ≡ 1) × ((seen f t).fascn ≡ t.fascn)
    sees-same q =
        let s = same_seen t f (λ e. omega (arith, h, e)) (rw (eq-eqb _ _ h, q)) in
        (ap (λ (u : Tally). u.agreement) (sym s) ∙ h, ap (λ (u : Tally). u.fascn) (sym s))

    sees-other : same t.fascn f ≡ false → 2 ≤ (seen f t).agreement
    sees-other q =
        let s = ap (λ (u : Tally). u.agreement) (other-seen t f (λ e. omega (arith, h, e)) (rw (eq-eqb _ _ h, q))) in
        omega (arith, s)

  -- they differ already
  sees_more : 2 ≤ t.agreement → 2 ≤ (seen f t).agreement
  sees_more h =
      let s = ap (λ (u : Tally). u.agreement) (same_seen t f (λ e. omega (arith, h, e)) (rw (ne_eqb t.agreement 1 (λ e. omega (arith, h, e))))) in
      omega (arith, s, h)

-- ---- all of them

-- all that come agree with one
abbrev AgreeWith : ℕ → List ℕ → List Entry → Type 0
AgreeWith today f es = (e : Entry) (g : List ℕ) → Among e es → Carries today e g → f ≡ g

no_more : {n : ℕ} → 2 ≤ n → alike n ≡ true → ⊥
no_more {n} h e = true≢false (sym e ∙ le-ltb n 2 h)

module _ (today : ℕ) where
  -- they differ already
  still-differ : (e : Entry) (t : Tally) → Looked today e → 2 ≤ t.agreement → 2 ≤ (after_one today e t).agreement
  still-differ e t (nothing n s) h = omega (arith, (s t).0, h)
  still-differ e t (one f c u s) h = rw (s t) (sees_more f (one_more t) (omega (arith, same-agreement t, h)))

  differ : (es : List Entry) → AreEntries es → (t : Tally) → 2 ≤ t.agreement → 2 ≤ (after today es t).agreement
  differ [] a t h = h
  differ (e ∷ es) a t h = differ es a.1 (after_one today e t) (still-differ e t (look today e a.0.bytes_are) h)

  -- one was seen: those that come are compared with it
  module _ (e : Entry) (es : List Entry) (t : Tally) where
    abbrev Ends : List ℕ → Type 0
    Ends f = (alike (after today es (after_one today e t)).agreement ≡ true) ↔ AgreeWith today f es

    -- this one carries none
    with_none : ((f : List ℕ) → Carries today e f → ⊥) → (f : List ℕ) → Ends f → (alike (after today es (after_one today e t)).agreement ≡ true) ↔ AgreeWith today f (e ∷ es)
    with_none n f i = (to, λ h. i.1 (λ d g m. h d g (inr m)))
      where
        to : alike (after today es (after_one today e t)).agreement ≡ true → AgreeWith today f (e ∷ es)
        to q d g (inl s) c = absurd (n g (rw s at c))
        to q d g (inr m) c = i.0 q d g m c

    -- this one carries the same
    with-same : (f : List ℕ) → ((g : List ℕ) → Carries today e g → f ≡ g) → Ends f → (alike (after today es (after_one today e t)).agreement ≡ true) ↔ AgreeWith today f (e ∷ es)
    with-same f u i = (to, λ h. i.1 (λ d g m. h d g (inr m)))
      where
        to : alike (after today es (after_one today e t)).agreement ≡ true → AgreeWith today f (e ∷ es)
        to q d g (inl s) c = u g (rw s at c)
        to q d g (inr m) c = i.0 q d g m c

  with-one : (e : Entry) (es : List Entry) → AreEntries es → (t : Tally) → Looked today e → t.agreement ≡ 1
      → ((u : Tally) → u.agreement ≡ 1 → (alike (after today es u).agreement ≡ true) ↔ AgreeWith today u.fascn es)
      → (alike (after today es (after_one today e t)).agreement ≡ true) ↔ AgreeWith today t.fascn (e ∷ es)
  with-one e es a t (nothing n s) h i = with_none e es t n t.fascn (rw (s t).1 at (i (after_one today e t) ((s t).0 ∙ h)))
  with-one e es a t (one f c u s) h i = go (same t.fascn f) refl
    where
      one' : (one_more t).agreement ≡ 1
      one' = same-agreement t ∙ h

      compared : same (one_more t).fascn f ≡ same t.fascn f
      compared = ap (λ (l : List ℕ). same l f) (same-fascn t)

      go : (b : Bool) → same t.fascn f ≡ b → (alike (after today es (after_one today e t)).agreement ≡ true) ↔ AgreeWith today t.fascn (e ∷ es)
      go true q =
          let (x, y) = sees-same f (one_more t) one' (compared ∙ q) in
          let is : t.fascn ≡ f = (same-exact t.fascn f).0 q in
          with-same e es t t.fascn (λ g d. is ∙ u g d)
          (rw (ap (λ (v : Tally). v.fascn) (s t) ∙ y ∙ same-fascn t) at (i (after_one today e t) (ap (λ (v : Tally). v.agreement) (s t) ∙ x)))
      go false q =
          let two : 2 ≤ (after_one today e t).agreement = rw (s t) (sees-other f (one_more t) one' (compared ∙ q)) in (
            (λ y. absurd (no_more (differ es a (after_one today e t) two) y)),
            λ y. absurd (true≢false (sym ((same-exact t.fascn f).1 (y e f (inl refl) c)) ∙ q)),
          )

  with_first : (es : List Entry) → AreEntries es → (t : Tally) → t.agreement ≡ 1 → (alike (after today es t).agreement ≡ true) ↔ AgreeWith today t.fascn es
  with_first [] a t h = ((λ _ e g m. absurd m), λ _. rw h refl)
  with_first (e ∷ es) a t h = with-one e es a.1 t (look today e a.0.bytes_are) h (with_first es a.1)

  -- none was seen
  from-none : (e : Entry) (es : List Entry) → AreEntries es → (t : Tally) → Looked today e → t.agreement ≡ 0
      → ((u : Tally) → u.agreement ≡ 0 → (alike (after today es u).agreement ≡ true) ↔ Agree today es)
      → (alike (after today es (after_one today e t)).agreement ≡ true) ↔ Agree today (e ∷ es)
  from-none e es a t (nothing n s) h i = (to, λ y. r.1 (λ d d' f g m m'. y d d' f g (inr m) (inr m')))
    where
      r : (alike (after today es (after_one today e t)).agreement ≡ true) ↔ Agree today es
      r = i (after_one today e t) ((s t).0 ∙ h)

      to : alike (after today es (after_one today e t)).agreement ≡ true → Agree today (e ∷ es)
      to y d d' f g (inl m) m' c c' = absurd (n f (rw m at c))
      to y d d' f g (inr m) (inl m') c c' = absurd (n g (rw m' at c'))
      to y d d' f g (inr m) (inr m') c c' = r.0 y d d' f g m m' c c'
  from-none e es a t (one f c u s) h i = (to, λ y. r.1 (λ d g m c'. y e d f g (inl refl) (inr m) c c'))
    where
      first : ((seen f (one_more t)).agreement ≡ 1) × ((seen f (one_more t)).fascn ≡ f)
      first = sees-first f (one_more t) (same-agreement t ∙ h)

      r : (alike (after today es (after_one today e t)).agreement ≡ true) ↔ AgreeWith today f es
      r = rw (ap (λ (v : Tally). v.fascn) (s t) ∙ first.1) at (with_first es a (after_one today e t) (ap (λ (v : Tally). v.agreement) (s t) ∙ first.0))

      as_first : alike (after today es (after_one today e t)).agreement ≡ true → (d : Entry) (g : List ℕ) → Among d (e ∷ es) → Carries today d g → f ≡ g
      as_first y d g (inl m) k = u g (rw m at k)
      as_first y d g (inr m) k = r.0 y d g m k

      to : alike (after today es (after_one today e t)).agreement ≡ true → Agree today (e ∷ es)
      to y d d' g g' m m' k k' = sym (as_first y d g m k) ∙ as_first y d' g' m' k'

  agrees_from : (es : List Entry) → AreEntries es → (t : Tally) → t.agreement ≡ 0 → (alike (after today es t).agreement ≡ true) ↔ Agree today es
  agrees_from [] a t h = ((λ _ d e f g m. absurd m), λ _. rw h refl)
  agrees_from (e ∷ es) a t h = from-none e es a.1 t (look today e a.0.bytes_are) h (agrees_from es a.1)

  -- from the first row on
  pub agrees : (es : List Entry) → AreEntries es → (alike (after today es start).agreement ≡ true) ↔ Agree today es
  agrees es a = agrees_from es a start refl
