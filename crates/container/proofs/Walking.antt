-- The walk row by row, as the code takes it: an element at a time, by the row's number and the last mandatory row before it. Assumes nothing.
use Prim.Native.Nat.{ℕ, zero, suc, ◌+◌, ◌-◌, ◌≤◌, ◌<◌}
use mathlib.Core.Logic.{inl, inr}
use mathlib.Core.Path.{◌≡◌, refl, sym, ap, ap₂, ◌∙◌}
use mathlib.Core.Bool.{Bool, true, false, cond, true≢false}
use mathlib.Core.Option.{none, some}
use mathlib.Core.List.{List, [], ◌∷◌}
use native.Mathlib.Nat.{le_trans}
use native.Mathlib.Numerals.{add-one}
use native.Mathlib.Omega.{arith}
use lib.ListN.{length, drop, set}
use lib.Seq.{drop-drop}
use lib.Dec.{ltb, leb, eqb}
use borrow.Author.Tests.{lt-ltb, le-ltb, le-leb, lt-leb, eqb-true}
use Rattle.laws.proofs.Cases.{which}
use Rattle.kinds.specs.Tables.{Table, find, last_of}
use Rattle.kinds.specs.declared.Row.{Row}
use Rattle.verdicts.specs.Verdicts.{found}
use Rattle.verdicts.specs.declared.Fault.TheVariants.{UnknownTag, TagOrder, MissingRow}
use Rattle.container.specs.Container.{long, has}
use Rattle.container.specs.Reading.{Parsed, values, fault, Part, prepend, element, tag_here, misplaced, follow, parse}
use Rattle.container.specs.Map.{noted}
use Rattle.container.specs.declared.rows.Span.{Span}
use Rattle.std.specs.Prelude.{Option as Maybe, Some, None, Result, Ok, Err}
use Rattle.verdicts.specs.declared.Finding.{Finding}

-- a row that is absent is passed, and one that is there is noted
past : (k : ℕ) (rows : List Span) (p : Parsed Part) → noted k rows (prepend none p) ≡ noted (suc k) rows p
unfolding noted
past k rows (values ps) = refl
past k rows (fault f) = refl

pub past-part : (k : ℕ) (rows : List Span) (q : Part) (p : Parsed Part)
    → noted k rows (prepend (some q) p) ≡ noted (suc k) (set rows k (record { from = q.offset; to = q.offset + length q.bytes })) p
unfolding noted
past-part k rows q (values ps) = refl
past-part k rows q (fault f) = refl

-- no tag stands twice
abbrev pub Distinct : Table → Type 0
Distinct [] = Unit {0}
Distinct (r ∷ rs) = (has r.tag rs ≡ false) × Distinct rs

has-drop : (t n : ℕ) (rs : Table) → has t rs ≡ false → has t (drop n rs) ≡ false
has-drop t zero rs h = h
has-drop t (suc n) [] h = h
has-drop t (suc n) (r ∷ rs) h =
    elim (which (eqb t r.tag)) [
      | inl e ↦ absurd (true≢false (rw e at h))
      | inr e ↦ has-drop t n rs (rw e at h)
    ]

after-cond : (b : Bool) {m n k : ℕ} → m ≤ n → m ≤ k → m ≤ cond b n k
after-cond true h l = h
after-cond false h l = l

before-cond : (b : Bool) {m n k : ℕ} → n ≤ m → k ≤ m → cond b n k ≤ m
before-cond true h l = h
before-cond false h l = l

module _ (today : ℕ) (all : Table) (at b : ℕ) (s : List ℕ) where
  abbrev t : ℕ
  t = tag_here all b s

  -- an element of the row that `row_of` names, and the rows after it
  abbrev pub taken : Row → Parsed Part
  taken r =
      follow at t (element r.lengths r.rule today (drop (long t) (b ∷ s))) (λ n. parse today all (drop r.index all) (at + long t + n) (drop (long t + n) (b ∷ s)))

  -- a tag that is in no row to come
  pub gone : (rest : Table) → has t rest ≡ false → parse today all rest at (b ∷ s) ≡ fault (found (cond (has t all) TagOrder UnknownTag) at (Some t))
  gone [] h = refl
  gone (r ∷ rs) h =
      elim (which (eqb t r.tag)) [
        | inl e ↦ absurd (true≢false (rw e at h))
        | inr e ↦
            let h' : has t rs ≡ false = rw e at h in
            elim (which r.optional) [
              | inl o ↦ rw (e, o) (ap (prepend none) (gone rs h'))
              | inr o ↦ rw (e, o, h')
            ]
      ]

  module _ (rows : List Span) where
    -- what the code makes of what `row_of` says, after the row `done`
    abbrev pub by_row : ℕ → Maybe Row → Result (List Span) Finding
    by_row done None = Err (found UnknownTag at (Some t))
    by_row done (Some r) =
        cond (leb r.index done) (Err (found TagOrder at (Some t))) (cond (ltb done r.after) (Err (found MissingRow at (Some t))) (noted (r.index - 1) rows (taken r)))

    module _ (done : ℕ) where
      -- a mandatory row was passed over
      passed : (rest : Table) (j from : ℕ) → done < from → done ≤ j → has t all ≡ has t rest → by_row done (find j from rest t) ≡ Err (found (misplaced all rest t) at (Some t))
      passed [] j from f l h = rw h
      passed (r ∷ rs) j from f l h =
          elim (which (eqb t r.tag)) [
            | inl e ↦ rw e (simp (lt-leb (j + 1) done (omega arith), lt-ltb _ _ f))
            | inr e ↦
                rw e (passed rs (j + 1) (cond r.optional from (j + 1)) (after-cond r.optional f (omega arith)) (omega arith) (rw e at h))
          ]

      -- none was
      ahead : (rest : Table) (j from : ℕ) → done ≤ j → from ≤ done → rest ≡ drop j all → has t all ≡ has t rest → by_row done (find j from rest t) ≡ noted j rows (parse today all rest at (b ∷ s))
      unfolding noted
      ahead [] j from l f e h = rw h
      ahead (r ∷ rs) j from l f e h =
          let e' : rs ≡ drop (j + 1) all = ap (drop 1) e ∙ drop-drop 1 j all in
          elim (which (eqb t r.tag)) [
            | inl q ↦
                let k : j + 1 - 1 ≡ j = omega arith in
                rw q
                (simp (lt-leb (j + 1) done (omega arith), le-ltb _ _ f, k)
                (ap₂ (λ (u : ℕ) (l : Table). noted j rows (follow at u (element r.lengths r.rule today (drop (long u) (b ∷ s))) (λ n. parse today all l (at + long u + n) (drop (long u + n) (b ∷ s))))) (eqb-true t r.tag q) (sym e')))
            | inr q ↦
                let h' : has t all ≡ has t rs = rw q at h in
                elim (which r.optional) [
                  | inl o ↦ rw (q, o) (ahead rs (j + 1) from (omega arith) f e' h' ∙ rw add-one (sym (past j rows (parse today all rs at (b ∷ s)))))
                  | inr o ↦ rw (q, o) (passed rs (j + 1) (j + 1) (omega arith) (omega arith) h')
                ]
          ]

      -- from the table's front
      front : (n : ℕ) (rest : Table) (i from : ℕ) → done ≡ i + n → from ≤ i → rest ≡ drop i all → has t all ≡ has t rest → Distinct rest
          → by_row done (find i from rest t) ≡ noted done rows (parse today all (drop n rest) at (b ∷ s))
      unfolding noted
      front zero rest i from d f e h u =
          let z : i ≡ done = omega arith in
          ahead rest i from (omega arith) (omega arith) e h ∙ rw z
      front (suc n) [] i from d f e h u = rw h
      front (suc n) (r ∷ rs) i from d f e h u =
          let e' : rs ≡ drop (i + 1) all = ap (drop 1) e ∙ drop-drop 1 i all in
          elim (which (eqb t r.tag)) [
            | inl q ↦
                let p : has t rs ≡ false = rw (eqb-true t r.tag q) u.0 in
                let h' : has t all ≡ true = rw q at h in
                rw q (simp (le-leb (i + 1) done (omega arith)) (rw (gone (drop n rs) (has-drop t n rs p), h')))
            | inr q ↦
                rw q
                (front n rs (i + 1) (cond r.optional from (i + 1)) (omega arith) (before-cond r.optional (omega arith) (omega arith)) e' (rw q at h) u.1)
          ]

    -- the table's row for the tag says what the walk says
    pub by_row_lem : (done : ℕ) → Distinct all → by_row done (find 0 0 all t) ≡ noted done rows (parse today all (drop done all) at (b ∷ s))
    by_row_lem done u = front done done all 0 0 (omega arith) (omega arith) refl refl u

-- ---- the same at the end of the bytes

last-from : (rest : Table) (i from : ℕ) → from ≤ i → from ≤ last_of i from rest
last-from [] i from h = omega arith
last-from (r ∷ rs) i from h =
    elim (which r.optional) [
      | inl o ↦ rw o (last-from rs (i + 1) from (omega arith))
      | inr o ↦ rw o (le_trans (omega arith) (last-from rs (i + 1) (i + 1) (omega arith)))
    ]

module _ (today : ℕ) (all : Table) (at done : ℕ) (rows : List Span) where
  abbrev pub by_last : ℕ → Result (List Span) Finding
  by_last last = cond (ltb done last) (Err (found MissingRow at None)) (Ok rows)

  end-ahead : (rest : Table) (j from : ℕ) → done ≤ j → from ≤ done → by_last (last_of j from rest) ≡ noted j rows (parse today all rest at [])
  unfolding noted
  end-ahead [] j from l f = simp (le-ltb _ _ f)
  end-ahead (r ∷ rs) j from l f =
      elim (which r.optional) [
        | inl o ↦ rw o (end-ahead rs (j + 1) from (omega arith) f ∙ rw add-one (sym (past j rows (parse today all rs at []))))
        | inr o ↦
            let m : done < last_of (j + 1) (j + 1) rs = le_trans (omega arith) (last-from rs (j + 1) (j + 1) (omega arith)) in
            rw o (simp (lt-ltb _ _ m))
      ]

  end-front : (n : ℕ) (rest : Table) (i from : ℕ) → done ≡ i + n → from ≤ i → by_last (last_of i from rest) ≡ noted done rows (parse today all (drop n rest) at [])
  unfolding noted
  end-front zero rest i from d f =
      let z : i ≡ done = omega arith in
      end-ahead rest i from (omega arith) (omega arith) ∙ rw z
  end-front (suc n) [] i from d f = let k : from ≤ done = omega arith in simp (le-ltb _ _ k)
  end-front (suc n) (r ∷ rs) i from d f =
      end-front n rs (i + 1) (cond r.optional from (i + 1)) (omega arith) (before-cond r.optional (omega arith) (omega arith))

  pub by_last_lem : by_last (last_of 0 0 all) ≡ noted done rows (parse today all (drop done all) at [])
  by_last_lem = end-front done all 0 0 (omega arith) (omega arith)
