-- The map's bytes are the container's: what is read stands where the map says, row by row. Assumes nothing.
use Prim.Native.Nat.{ℕ, zero, suc, ◌+◌, ◌-◌, ◌<◌, ◌≤◌}
use mathlib.Core.Logic.{inl, inr}
use mathlib.Core.Path.{◌≡◌, refl, sym, ap, ap₂, ◌∙◌}
use mathlib.Core.Bool.{cond, true}
use mathlib.Core.Option.{Option, none, some}
use mathlib.Core.List.{List, [], ◌∷◌, ◌++◌}
use native.Mathlib.Nat.{add-sub_cancel_left}
use native.Mathlib.Numerals.{add-one}
use native.Mathlib.Omega.{arith}
use lib.Dec.{eqb}
use lib.ListN.{length, take, drop, get_or, set, length-set, length-append, length-drop}
use lib.Seq.{drop-drop, drop-append_seam, take-append_seam, get_or-set_same, get_or-set_other}
use borrow.Author.Tests.{eqb-true, ne_eqb}
use Rattle.laws.specs.Bytes.{Bytes}
use Rattle.laws.proofs.Bases.{below-drop}
use Rattle.laws.proofs.Cases.{test, which}
use Rattle.lengths.specs.Length.{read_length, Spelt}
use Rattle.lengths.proofs.Spellings.{spelt-some}
use Rattle.kinds.specs.Tables.{Entry, Table, table, IsKind}
use Rattle.verdicts.specs.Verdicts.{found}
use Rattle.verdicts.specs.declared.Finding.{Finding}
use Rattle.container.specs.Container.{Values, tag_bytes, long, outer_tag, Allowed, Conforms, largest}
use Rattle.container.specs.Reading.{Parsed, values, fault, Part, values_of, alone, prepend, Element, whole, broken, element, tag_here, follow, parse, inner, outer, located, parsed}
use Rattle.container.specs.Spans.{absent, no_rows}
use Rattle.container.specs.Map.{laid, noted, map_of, row_value, row_values, allows}
use Rattle.container.specs.declared.rows.Span.{Span}
use Rattle.container.proofs.One.{element-is}
use Rattle.container.proofs.Tags.{tag_is}
use Rattle.container.proofs.Noting.{none-noted}
use Rattle.container.proofs.Allowing.{allows-exact, shown-bytes}
use Rattle.container.proofs.Exact.{no-values}
use Rattle.container.proofs.Promise.{in-outer-values, located-conforms, exact}
use Rattle.kinds.proofs.Every.{few-rows}
use Rattle.std.specs.Prelude.{Some, Ok, Err}

-- ---- what holds of every reading: of none, of a finding, past an absent row and past an element

module _ (today : ℕ) (all : Table) (P : ℕ → Table → List ℕ → Parsed Part → Type 0) where
  -- past an element: of the rows from r on, where the bytes at the offset begin with its tag
  abbrev pub Onward : Type 0
  Onward =
      (at : ℕ) (r : Entry) (rs : Table) (b : ℕ) (s : List ℕ) → Bytes (b ∷ s) → tag_here all b s ≡ r.tag → (w : ℕ) (v : List ℕ)
      → element r.lengths r.rule today (drop (long r.tag) (b ∷ s)) ≡ whole w v → (x : Parsed Part)
      → P (at + long r.tag + (w + length v)) rs (drop (long r.tag + (w + length v)) (b ∷ s)) x
      → P at (r ∷ rs) (b ∷ s) (prepend (some (record { offset = at + long r.tag + w; bytes = v })) x)

  module _ (ended : (at : ℕ) → P at [] [] (values [])) (stops : (at : ℕ) (rest : Table) (s : List ℕ) (f : Finding) → P at rest s (fault f))
      (past : (at : ℕ) (r : Entry) (rs : Table) (s : List ℕ) (x : Parsed Part) → P at rs s x → P at (r ∷ rs) s (prepend none x)) (onward : Onward) where
    skipped : (at : ℕ) (r : Entry) (rs : Table) (s : List ℕ) (x : Parsed Part) (f : Finding) → P at rs s x → P at (r ∷ rs) s (cond r.optional (prepend none x) (fault f))
    skipped at r rs s x f h = test r.optional (λ o. P at (r ∷ rs) s (cond o (prepend none x) (fault f))) (λ o. past at r rs s x h) (λ o. stops at (r ∷ rs) s f)

    followed : (at : ℕ) (r : Entry) (rs : Table) (s : List ℕ) (x : Element) (k : ℕ → Parsed Part)
        → ((w : ℕ) (v : List ℕ) → x ≡ whole w v → P at (r ∷ rs) s (prepend (some (record { offset = at + long r.tag + w; bytes = v })) (k (w + length v))))
        → P at (r ∷ rs) s (follow at r.tag x k)
    followed at r rs s (whole w v) k h = h w v refl
    followed at r rs s (broken f) k h = stops at (r ∷ rs) s (found f at (Some r.tag))

    pub parse-by : (rest : Table) (at : ℕ) (s : List ℕ) → Bytes s → P at rest s (parse today all rest at s)
    parse-by [] at [] b = ended at
    parse-by [] at (x ∷ s) b = stops at [] (x ∷ s) _
    parse-by (r ∷ rs) at [] b = skipped at r rs [] (parse today all rs at []) _ (parse-by rs at [] b)
    parse-by (r ∷ rs) at (x ∷ s) b =
        elim (which (eqb (tag_here all x s) r.tag)) [
          | inl q ↦
              rw q
              (followed at r rs (x ∷ s) (element r.lengths r.rule today (drop (long r.tag) (x ∷ s))) (λ n. parse today all rs (at + long r.tag + n) (drop (long r.tag + n) (x ∷ s)))
              (λ w v is.
              let n = w + length v in
              onward at r rs x s b (eqb-true _ _ q) w v is (parse today all rs (at + long r.tag + n) (drop (long r.tag + n) (x ∷ s)))
              (parse-by rs (at + long r.tag + n) (drop (long r.tag + n) (x ∷ s)) (below-drop 256 (long r.tag + n) (x ∷ s) b))))
          | inr q ↦ rw q (skipped at r rs (x ∷ s) (parse today all rs at (x ∷ s)) _ (parse-by rs at (x ∷ s) b))
        ]

-- ---- each part stands in the bytes

module _ (c : List ℕ) where
  -- a part of c, behind its first byte
  pub record Stands (p : Part) : Type 0 where
    pub behind : 0 < p.offset
    pub within : p.offset + length p.bytes ≤ length c
    pub bytes : take (length p.bytes) (drop p.offset c) ≡ p.bytes

  abbrev pub All : List (Option Part) → Type 0
  All [] = Unit {0}
  All (none ∷ ps) = All ps
  All (some p ∷ ps) = Stands p × All ps

  abbrev Sit : Parsed Part → Type 0
  Sit (values ps) = All ps
  Sit (fault f) = Unit {0}

  passed-over : (p : Parsed Part) → Sit p → Sit (prepend none p)
  passed-over (values ps) l = l
  passed-over (fault f) l = tt

  present : (q : Part) (p : Parsed Part) → Stands q → Sit p → Sit (prepend (some q) p)
  present q (values ps) h l = (h, l)
  present q (fault f) h l = tt

  module _ (today : ℕ) (all : Table) where
    element-stands : (r : Entry) (at x : ℕ) (s : List ℕ) → Bytes (x ∷ s) → x ∷ s ≡ drop at c → tag_here all x s ≡ r.tag → (w : ℕ) (v : List ℕ)
        → element r.lengths r.rule today (drop (long r.tag) (x ∷ s)) ≡ whole w v → Stands (record { offset = at + long r.tag + w; bytes = v })
    element-stands r at x s b e q w v is =
        let body = drop (long r.tag) (x ∷ s) in
        let g = element-is r.lengths r.rule today body (below-drop 256 (long r.tag) (x ∷ s) b) w v is in
        let rest = drop (w + length v) body in
        let p = g.form in
        let y : drop w (p ++ (v ++ rest)) ≡ v ++ rest = ap (λ (k : ℕ). drop k (p ++ (v ++ rest))) g.width ∙ drop-append_seam p (v ++ rest) in
        let d : drop (at + long r.tag + w) c ≡ v ++ rest =
        sym (drop-drop w (at + long r.tag) c) ∙ ap (drop w) (sym (ap (drop (long r.tag)) e ∙ drop-drop (long r.tag) at c) ∙ g.bytes) ∙ y in
        let l : length c - (at + long r.tag + w) ≡ length v + length rest = sym (length-drop (at + long r.tag + w) c) ∙ ap length d ∙ length-append v rest in
        let t = ap length (rw q at (tag_is all x s b.0)) ∙ length-append (tag_bytes r.tag) body in
        let m = ap length e ∙ length-drop at c in
        let n = ap length g.bytes ∙ length-append p (v ++ rest) in
        record {
          behind = omega (arith, g.width, spelt-some p (length v) g.spelt);
          within = omega (arith, l, t, m, n, g.width, length-append v rest);
          bytes = ap (take (length v)) d ∙ take-append_seam v rest;
        }

    onward : (t at n : ℕ) (s : List ℕ) → s ≡ drop at c → drop (long t + n) s ≡ drop (at + long t + n) c
    onward t at n s e =
        let z : at + (long t + n) ≡ at + long t + n = omega arith in
        ap (drop (long t + n)) e ∙ drop-drop (long t + n) at c ∙ rw z

    parse-sits : (rest : Table) (at : ℕ) (s : List ℕ) → Bytes s → s ≡ drop at c → Sit (parse today all rest at s)
    parse-sits =
        parse-by today all (λ at rest s x. s ≡ drop at c → Sit x) (λ at e. tt) (λ at rest s f e. tt) (λ at r rs s x h e. passed-over x (h e))
        (λ at r rs b s bb q w v is x h e. present _ x (element-stands r at b s bb e q w v is) (h (onward r.tag at (w + length v) (b ∷ s) e)))

outer-sits : (kind today : ℕ) (c : List ℕ) → Bytes c → (ps : List (Option Part)) → outer kind today c ≡ values ps → All c ps
outer-sits kind today [] b ps e = absurd (no-values e)
outer-sits kind today (t ∷ s) b ps e =
    elim (which (eqb t (outer_tag kind))) [
      | inl q ↦ go (read_length s) (rw q at e)
      | inr q ↦ absurd (no-values (rw q at e))
    ]
  where
    rows : (p : Parsed Part) → p ≡ values ps → Sit (t ∷ s) p → All (t ∷ s) ps
    rows (values qs) e h = let z : qs ≡ ps = cc in rw z at h
    rows (fault f) e h = absurd (no-values e)

    go : (o : Option Spelt) → inner today (table kind) o s ≡ values ps → All (t ∷ s) ps
    go none e = absurd (no-values e)
    go (some n) e =
        elim (which (eqb (length s) (n.width + n.number))) [
          | inl q ↦
              rows (parse today (table kind) (table kind) (1 + n.width) (drop n.width s)) (rw q at e)
              (parse-sits (t ∷ s) today (table kind) (table kind) (1 + n.width) (drop n.width s) (below-drop 256 n.width s b.1) (drop-drop n.width 1 (t ∷ s)))
          | inr q ↦ absurd (no-values (rw q at e))
        ]

-- what is read stands in the container
pub stands : (kind today : ℕ) (c : List ℕ) → Bytes c → (ps : List (Option Part)) → located kind today c ≡ values ps → All c ps
stands kind today c b ps e = outer-sits kind today c b ps (in-outer-values kind today c ps e).3

-- ---- the map has it there

-- from where to where a part lies, 0 and 0 where there is none
abbrev pub start_of : Option Part → ℕ
start_of none = 0
start_of (some p) = p.offset

abbrev pub end_of : Option Part → ℕ
end_of none = 0
end_of (some p) = p.offset + length p.bytes

-- from where to where a part lies, as a row of a map
abbrev pub span_of : Option Part → Span
span_of o = record { from = start_of o; to = end_of o }

-- some rows note these parts from the row k on
abbrev Notes : List Span → ℕ → List (Option Part) → Type 0
Notes rows k ps = (i : ℕ) → i < length ps → get_or rows (k + i) absent ≡ span_of (get_or ps i none)

-- rows behind stay as they are
laid-before : (ps : List (Option Part)) (k : ℕ) (rows : List Span) (j : ℕ) → j < k → get_or (laid ps k rows) j absent ≡ get_or rows j absent
laid-before [] k rows j h = refl
laid-before (none ∷ ps) k rows j h = laid-before ps (suc k) rows j (omega arith)
laid-before (some p ∷ ps) k rows j h =
    laid-before ps (suc k) (set rows k (span_of (some p))) j (omega arith) ∙ get_or-set_other rows k j (span_of (some p)) absent (λ e. omega arith)

-- nothing is noted from the row k on
abbrev Empty : List Span → ℕ → Type 0
Empty rows k = (j : ℕ) → k ≤ j → get_or rows j absent ≡ absent

-- the first row, and the others
notes-next : (rows : List Span) (k : ℕ) (o : Option Part) (ps : List (Option Part)) → get_or rows k absent ≡ span_of o → Notes rows (suc k) ps → Notes rows k (o ∷ ps)
notes-next rows k o ps h n zero l = let z : k + zero ≡ k = omega arith in rw z h
notes-next rows k o ps h n (suc i) l = let z : k + suc i ≡ suc k + i = omega arith in rw z (n i (omega arith))

laid-notes : (ps : List (Option Part)) (k : ℕ) (rows : List Span) → k + length ps ≤ length rows → Empty rows k → Notes (laid ps k rows) k ps
laid-notes [] k rows a e = λ i h. absurd (omega arith)
laid-notes (none ∷ ps) k rows a e =
    notes-next (laid ps (suc k) rows) k none ps (laid-before ps (suc k) rows k (omega arith) ∙ e k (omega arith))
    (laid-notes ps (suc k) rows (omega arith) (λ j g. e j (omega arith)))
laid-notes (some p ∷ ps) k rows a e =
    let more = set rows k (span_of (some p)) in
    notes-next (laid ps (suc k) more) k (some p) ps
    (laid-before ps (suc k) more k (omega arith) ∙ get_or-set_same rows k (span_of (some p)) absent (omega arith))
    (laid-notes ps (suc k) more (rw length-set (omega arith)) (λ j g. get_or-set_other rows k j (span_of (some p)) absent (λ q. omega arith) ∙ e j (omega arith)))

-- a value for each row
allowed-long : (today : ℕ) (rs : Table) (ps : List (Option Part)) → Allowed today rs (values_of ps) → length ps ≡ length rs
allowed-long today [] [] a = refl
allowed-long today [] (none ∷ ps) a = absurd a
allowed-long today [] (some p ∷ ps) a = absurd a
allowed-long today (r ∷ rs) [] a = absurd a
allowed-long today (r ∷ rs) (none ∷ ps) a = ap suc (allowed-long today rs ps a.1)
allowed-long today (r ∷ rs) (some p ∷ ps) a = ap suc (allowed-long today rs ps a.1)

module _ (kind today : ℕ) (c : List ℕ) (b : Bytes c) (ps : List (Option Part)) (e : located kind today c ≡ values ps) where
  pub rows_are : length ps ≡ length (table kind)
  rows_are = allowed-long today (table kind) ps (located-conforms kind today c b ps e).allowed

  -- where each row lies
  pub lies : (i : ℕ) → i < length ps → get_or (laid ps 0 no_rows) i absent ≡ span_of (get_or ps i none)
  lies i h =
      let z : 0 + i ≡ i = omega arith in
      rw z at (laid-notes ps 0 no_rows (omega (arith, rows_are, few-rows kind)) (λ j g. none-noted j) i h)

-- ---- and shows its bytes

-- the first of some rows that are noted, and the others
first-notes : (rows : List Span) (k : ℕ) (o : Option Part) (ps : List (Option Part)) → Notes rows k (o ∷ ps) → get_or rows k absent ≡ span_of o
first-notes rows k o ps n = let z : k + 0 ≡ k = omega arith in rw z at (n 0 (omega arith))

later-notes : (rows : List Span) (k : ℕ) (o : Option Part) (ps : List (Option Part)) → Notes rows k (o ∷ ps) → Notes rows (suc k) ps
later-notes rows k o ps n i l = let z : k + suc i ≡ suc k + i = omega arith in rw z at (n (suc i) (omega arith))

module _ (rows : List Span) (c : List ℕ) where
  row_shows : (k : ℕ) (p : Part) → Stands c p → get_or rows k absent ≡ span_of (some p) → row_value rows c k ≡ some p.bytes
  row_shows k p s h =
      let n : p.offset + length p.bytes ≡ 0 → ⊥ = λ e. omega (arith, s.behind) in
      rw (h, ne_eqb _ _ n, add-sub_cancel_left, s.bytes)

  rows-show : (ps : List (Option Part)) (k : ℕ) → All c ps → Notes rows k ps → row_values rows c (length ps) k ≡ values_of ps
  unfolding row_values
  rows-show [] k a n = refl
  rows-show (none ∷ ps) k a n = rw (first-notes rows k none ps n) (ap (λ (l : Values). none ∷ l) (rows-show ps (suc k) a (later-notes rows k none ps n)))
  rows-show (some p ∷ ps) k a n =
      ap₂ (λ (o : Option (List ℕ)) (l : Values). o ∷ l) (row_shows k p a.0 (first-notes rows k (some p) ps n)) (rows-show ps (suc k) a.1 (later-notes rows k (some p) ps n))

-- the row that is next, of n rows, and those after it
pub next_row : (rows : List Span) (c : List ℕ) (n i : ℕ) → i < n → row_values rows c (n - i) i ≡ row_value rows c i ∷ row_values rows c (n - (i + 1)) (i + 1)
unfolding row_values
next_row rows c n i h = let z : n - i ≡ suc (n - (i + 1)) = omega arith in rw (z, ← add-one i)

-- the values that a container's map shows
abbrev pub map_values : ℕ → List Span → List ℕ → Values
map_values kind rows c = row_values rows c (length (table kind)) 0

-- are those that were read
pub shows : (kind today : ℕ) (c : List ℕ) → Bytes c → (ps : List (Option Part)) → located kind today c ≡ values ps → map_values kind (laid ps 0 no_rows) c ≡ values_of ps
shows kind today c b ps e =
    rw (← rows_are kind today c b ps e)
    (rows-show (laid ps 0 no_rows) c ps 0 (stands kind today c b ps e) (λ i h. let z : 0 + i ≡ i = omega arith in rw z (lies kind today c b ps e i h)))

-- ---- what a caller of the judge knows, once it has looked at its answer

-- something is wrong
pub told-broken : (kind today : ℕ) (c : List ℕ) {f : Finding} → Err f ≡ map_of (located kind today c) → located kind today c ≡ fault f
unfolding noted
told-broken kind today c {f} e = go (located kind today c) e
  where
    go : (p : Parsed Part) → Err f ≡ map_of p → p ≡ fault f
    go (values ps) q = let z : ◌≡◌ {A = ℕ} 0 1 = cc in absurd (omega arith)
    go (fault g) q = cc

pub read-broken : (kind today : ℕ) (c : List ℕ) {f : Finding} → Err f ≡ map_of (located kind today c) → parsed kind today c ≡ fault f
unfolding parsed
read-broken kind today c e = ap alone (told-broken kind today c e)

-- nothing is: there are parts, and the rows are where they lie
module _ (kind today : ℕ) (c : List ℕ) {rows : List Span} (e : Ok rows ≡ map_of (located kind today c)) where
  pub told-fine : (ps : List (Option Part)) × (located kind today c ≡ values ps) × (rows ≡ laid ps 0 no_rows)
  unfolding noted
  told-fine = go (located kind today c) refl e
    where
      go : (p : Parsed Part) → located kind today c ≡ p → Ok rows ≡ map_of p → (ps : List (Option Part)) × (located kind today c ≡ values ps) × (rows ≡ laid ps 0 no_rows)
      go (values ps) q z = (ps, q, cc)
      go (fault f) q z = let z : ◌≡◌ {A = ℕ} 0 1 = cc in absurd (omega arith)

  pub fine-kind : IsKind kind
  fine-kind = let (ps, q, r) = told-fine in (in-outer-values kind today c ps q).0

  pub fine-size : length c ≤ largest
  fine-size = let (ps, q, r) = told-fine in (in-outer-values kind today c ps q).2

  -- and their values are what the map shows
  pub read-fine : Bytes c → parsed kind today c ≡ values (map_values kind rows c)
  unfolding parsed
  read-fine b =
      let (ps, q, r) = told-fine in
      ap alone q ∙ ap values (sym (rw (← r) at (shows kind today c b ps q)))

  -- so the values that it shows conform, and are allowed by the test too
  pub fine-conforms : Bytes c → Conforms kind today (map_values kind rows c) c
  fine-conforms b = (exact kind today c b (map_values kind rows c)).0 (read-fine b)

  pub fine-allowed : Bytes c → allows today (table kind) (map_values kind rows c) ≡ true
  fine-allowed b = (allows-exact today (table kind) (map_values kind rows c) (shown-bytes rows c (length (table kind)) 0 b)).1 (fine-conforms b).allowed
