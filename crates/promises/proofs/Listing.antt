-- 2026-10: the points of a FINGERS container, in five lists of numbers and in a list of points. Assumes nothing.
use Prim.Native.Nat.{ℕ, zero, suc, ◌+◌, ◌*◌, ◌-◌, ◌<◌, ◌≤◌}
use mathlib.Core.Logic.{◌↔◌, inl, inr}
use mathlib.Core.Path.{◌≡◌, refl, sym, ap, ◌∙◌}
use mathlib.Core.Bool.{Bool, true, false, cond, true≢false}
use mathlib.Core.List.{List, [], ◌∷◌, ◌++◌, map}
use native.Mathlib.Omega.{arith}
use lib.ListN.{length, take, drop, get_or, replicate, length-append, length-map, length-take, length-drop}
use lib.Dec.{leb}
use borrow.Author.Tests.{leb-true, le-leb}
use lib.Seq.{drop_at, get_or-append-add}
use native.Mathlib.Nat.{min-le_left, min-le_right}
use Rattle.laws.specs.Bytes.{Bytes}
use Rattle.laws.specs.Layout.{field, part}
use Rattle.laws.proofs.Cases.{which}
use Rattle.laws.proofs.Layouts.{part-part}
use Rattle.verdicts.specs.Verdicts.{outright}
use Rattle.verdicts.specs.declared.Fault.TheVariants.{SmallRoom}
use Rattle.verdicts.specs.declared.Verdict.{Verdict}
use Rattle.verdicts.proofs.Apart.{never-zero}
use Rattle.container.specs.Reading.{Parsed, values, fault, parsed, outcome}
use Rattle.container.proofs.Named.{named_back}
use Rattle.container.proofs.Promise.{exact, named, exactly_when}
use Rattle.views.specs.Views.{viewed}
use Rattle.views.proofs.Elements.{Shows, element-view}
use Rattle.points.specs.Points.{point_bytes, data_of, HasPoints}
use Rattle.points.specs.Calls.{nothing, entries, Five, five, lists_of, HoldsEach, refused_by, counted, Says, breaks, short, fits, FillsLists, FillsPoints}
use Rattle.points.specs.declared.Point.{Point}
use Rattle.points.specs.declared.Listed.{Listed}
use Rattle.points.proofs.Back.{shows-points, shows-long}
use Rattle.points.proofs.Record.{first_points, second_points}
use Rattle.points.proofs.Once.{value_of, has_points, only_points, same_room, says-once}
use Rattle.columns.specs.Columns.{shortest}
use Rattle.columns.proofs.Filling.{entries-front, entries-long}
use Rattle.columns.proofs.Shortest.{shortest-exact}
use Rattle.prosianek.specs.Calls.{Judges, Lists, Points}
use Rattle.promises.specs.Demands.{Numbered, CleanOf, CleanEach, sizes, AsAList}

same-list : {A : Type 0} (l : List A) → map (λ x. x) l ≡ l
same-list [] = refl
same-list (x ∷ l) = ap (λ r. x ∷ r) (same-list l)

-- ---- what is said tells how many are listed

module _ {today : ℕ} {c : List ℕ} {Room : ℕ → Type 0} {r : Listed} {ps : List Point} where
  numbered : Says today c Room r ps → Numbered r.verdict.number
  numbered (breaks f n a l) = rw a (inr (f.fault, refl))
  numbered (short g t h s a l) = rw a (inr (SmallRoom, refl))
  numbered (fits g t h s a l) = rw a (inl refl)

  listed-long : Says today c Room r ps → length ps ≡ r.first + r.second
  listed-long (breaks f n a l) = rw (a, l)
  listed-long (short g t h s a l) = rw (a, l)
  listed-long (fits g t h s a l) = rw (a, l) (length-append g t)

  refused_none : Says today c Room r ps → (r.verdict.number ≡ 0 → ⊥) → (ps ≡ []) × (r.first ≡ 0) × (r.second ≡ 0)
  refused_none (breaks f n a l) z = (l, rw a, rw a)
  refused_none (short g t h s a l) z = (l, rw a, rw a)
  refused_none (fits g t h s a l) z = absurd (z (rw a))

  listed-fit : Says today c Room r ps → (n : ℕ) → ((m : ℕ) → Room m → m ≤ n) → length ps ≤ n
  listed-fit (breaks f n a l) k h = rw l (omega arith)
  listed-fit (short g t h s a l) k i = rw l (omega arith)
  listed-fit (fits g t h s a l) k i = rw l (i _ s)

-- one number of each entry, or the entries themselves: a list that is left clean
left-clean : {A : Type 0} (g : Point → A) (ps : List Point) (before after : List A) {number size : ℕ} → Numbered number → ((number ≡ 0 → ⊥) → ps ≡ [])
    → length ps ≡ size → length ps ≤ length before → after ≡ map g (entries ps (length before)) → CleanOf (g nothing) before after number size
left-clean g ps before after {size = size} n z s h e =
    let q = e ∙ entries-front g ps (length before) h in
    record {
      by_number = n;
      same_room = ap length e ∙ entries-long g ps (length before);
      refused = λ k. all (z k);
      inside = rw (← s) h;
      behind = rw (q, ← s) (drop_at (map g ps) (replicate (length before - length ps) (g nothing)) (length ps) (length-map ps g));
    }
  where
    all : ps ≡ [] → after ≡ replicate (length before) (g nothing)
    all w =
        let y : length before - 0 ≡ length before = omega arith in
        rw y at (rw w at (e ∙ entries-front g ps (length before) h))

pub lists_clean : {today : ℕ} {c : List ℕ} {before after : Five} {r : Listed} → FillsLists today c before after r → CleanEach before after r.verdict.number (r.first + r.second)
lists_clean {before = before} {after} {r} f =
    let n = numbered f.says in
    let z : (r.verdict.number ≡ 0 → ⊥) → f.listed ≡ [] = λ k. (refused_none f.says k).0 in
    let s = listed-long f.says in
    record {
      types = left-clean (λ p. p.sort) f.listed before.types after.types n z s (listed-fit f.says _ (λ m h. h.0)) (ap (λ (l : Five). l.types) f.left);
      xs = left-clean (λ p. p.x) f.listed before.xs after.xs n z s (listed-fit f.says _ (λ m h. h.1)) (ap (λ (l : Five). l.xs) f.left);
      ys = left-clean (λ p. p.y) f.listed before.ys after.ys n z s (listed-fit f.says _ (λ m h. h.2)) (ap (λ (l : Five). l.ys) f.left);
      angles = left-clean (λ p. p.angle) f.listed before.angles after.angles n z s (listed-fit f.says _ (λ m h. h.3)) (ap (λ (l : Five). l.angles) f.left);
      qualities = left-clean (λ p. p.quality) f.listed before.qualities after.qualities n z s (listed-fit f.says _ (λ m h. h.4)) (ap (λ (l : Five). l.qualities) f.left);
    }

pub points_clean : {today : ℕ} {c : List ℕ} {before after : List Point} {r : Listed} → FillsPoints today c before after r
    → CleanOf nothing before after r.verdict.number (r.first + r.second)
points_clean {before = before} {after} f =
    left-clean (λ p. p) f.listed before after (numbered f.says) (λ k. (refused_none f.says k).0) (listed-long f.says) (listed-fit f.says _ (λ m h. h))
    (f.left ∙ sym (same-list (entries f.listed (length before))))

pub no-counts : {today : ℕ} {c : List ℕ} {Room : ℕ → Type 0} {r : Listed} {ps : List Point} → Says today c Room r ps → (r.verdict.number ≡ 0 → ⊥) → (r.first ≡ 0) × (r.second ≡ 0)
no-counts s z = let (e, f, g) = refused_none s z in (f, g)

-- ---- the answer, computed, and the points of both views, by what is read of the bytes and by which numbers of points there is room for

pub record Told : Type 0 where
  pub answer : Listed
  pub first : List Point
  pub second : List Point

abbrev pub computed : Parsed (List ℕ) → (ℕ → Bool) → Told
computed (fault f) holds = record { answer = refused_by f; first = []; second = [] }
computed (values vs) holds =
    let d = data_of (value_of vs) in
    cond (holds (length (first_points d ++ second_points d))) (record { answer = counted (first_points d) (second_points d); first = first_points d; second = second_points d })
    (record { answer = refused_by (outright SmallRoom); first = []; second = [] })

pub computed-says : {today : ℕ} {c : List ℕ} → Bytes c → {Room : ℕ → Type 0} (holds : ℕ → Bool) → ((n : ℕ) → (holds n ≡ true) ↔ Room n)
    → let t = computed (parsed 6 today c) holds in Says today c Room t.answer (t.first ++ t.second)
computed-says {today} {c} b {Room} holds e = go (parsed 6 today c) refl
  where
    go : (p : Parsed (List ℕ)) → parsed 6 today c ≡ p → Says today c Room (computed p holds).answer ((computed p holds).first ++ (computed p holds).second)
    go (fault f) q = breaks f (named 6 today c b f q) refl refl
    go (values vs) q =
        let d = data_of (value_of vs) in
        let h = has_points b vs ((exact 6 today c b vs).0 q) in
        elim (which (holds (length (first_points d ++ second_points d)))) [
          | inl t ↦ rw t (fits (first_points d) (second_points d) h ((e _).0 t) refl refl)
          | inr t ↦ rw t (short (first_points d) (second_points d) h (λ k. true≢false (sym ((e _).1 k) ∙ t)) refl refl)
        ]

-- so there is an answer
up_to : (room n : ℕ) → (leb n room ≡ true) ↔ (n ≤ room)
up_to room n = (leb-true n room, le-leb n room)

module _ {today : ℕ} {c : List ℕ} (b : Bytes c) where
  pub lists-answer : (before : Five) → (after : Five) × (r : Listed) × Lists today c before after r
  lists-answer before =
      (_, _, record { fills = record { listed = _; says = same_room (shortest-exact before) (computed-says b (λ n. leb n (shortest before)) (up_to (shortest before))); left = refl } })

  pub points-answer : (before : List Point) → (after : List Point) × (r : Listed) × Points today c before after r
  points-answer before = (_, _, record { fills = record { listed = _; says = computed-says b (λ n. leb n (length before)) (up_to (length before)); left = refl } })

-- ---- and only one

pub lists-once : {today : ℕ} {c : List ℕ} → Bytes c → (before₁ before₂ after₁ after₂ : Five) (r₁ r₂ : Listed) → sizes before₁ ≡ sizes before₂
    → FillsLists today c before₁ after₁ r₁ → FillsLists today c before₂ after₂ r₂ → (r₁ ≡ r₂) × (after₁ ≡ after₂)
lists-once b before₁ before₂ after₁ after₂ r₁ r₂ e f g =
    let at : (k : ℕ) → get_or (sizes before₁) k 0 ≡ get_or (sizes before₂) k 0 = λ k. ap (λ (l : List ℕ). get_or l k 0) e in
    let room : (n : ℕ) → HoldsEach before₂ n ↔ HoldsEach before₁ n =
    λ n. (
      λ h. (rw (at 0) h.0, rw (at 1) h.1, rw (at 2) h.2, rw (at 3) h.3, rw (at 4) h.4),
      λ h. (rw (← at 0) h.0, rw (← at 1) h.1, rw (← at 2) h.2, rw (← at 3) h.3, rw (← at 4) h.4),
    ) in
    let (r, ps) = says-once b f.says (same_room room g.says) in
    (r, f.left ∙ rw (ps, at 0, at 1, at 2, at 3, at 4) (sym g.left))

pub points-once : {today : ℕ} {c : List ℕ} → Bytes c → (before₁ before₂ after₁ after₂ : List Point) (r₁ r₂ : Listed) → length before₁ ≡ length before₂
    → FillsPoints today c before₁ after₁ r₁ → FillsPoints today c before₂ after₂ r₂ → (r₁ ≡ r₂) × (after₁ ≡ after₂)
points-once b before₁ before₂ after₁ after₂ r₁ r₂ e f g =
    let (r, ps) = says-once b f.says (same_room (λ n. (λ h. omega arith, λ h. omega arith)) g.says) in
    (r, f.left ∙ rw (ps, e) (sym g.left))

-- ---- the two forms are equal

equal-forms : {today : ℕ} {c : List ℕ} → Bytes c → (before after : Five) (list left : List Point) (r q : Listed)
    → sizes before ≡ length list ∷ length list ∷ length list ∷ length list ∷ length list ∷ [] → FillsLists today c before after r → FillsPoints today c list left q
    → (r ≡ q) × (after ≡ five (map (λ p. p.sort) left) (map (λ p. p.x) left) (map (λ p. p.y) left) (map (λ p. p.angle) left) (map (λ p. p.quality) left))
equal-forms b before after list left r q e f g =
    let size : (k : ℕ) → get_or (sizes before) k 0 ≡ get_or (length list ∷ length list ∷ length list ∷ length list ∷ length list ∷ []) k 0 = λ k. ap (λ (l : List ℕ). get_or l k 0) e in
    let room : (n : ℕ) → (n ≤ length list) ↔ HoldsEach before n =
    λ n. (λ h. (rw (size 0) h, rw (size 1) h, rw (size 2) h, rw (size 3) h, rw (size 4) h), λ h. rw (← size 0) h.0) in
    let (a, ps) = says-once b f.says (same_room room g.says) in
    (a, f.left ∙ rw (ps, size 0, size 1, size 2, size 3, size 4, g.left))

-- ---- each point, put back, gives its six bytes

entry-is : (ps : List Point) (n i : ℕ) → length ps ≤ n → get_or (entries ps n) i nothing ≡ get_or ps i nothing
unfolding entries
entry-is [] zero i h = refl
entry-is [] (suc n) zero h = refl
entry-is [] (suc n) (suc i) h = entry-is [] n i (omega arith)
entry-is (p ∷ ps) zero i h = absurd (omega arith)
entry-is (p ∷ ps) (suc n) zero h = refl
entry-is (p ∷ ps) (suc n) (suc i) h = entry-is ps n i (omega arith)

first_of : (first second : List Point) (i : ℕ) → i < length first → get_or (first ++ second) i nothing ≡ get_or first i nothing
first_of [] second i h = absurd (omega arith)
first_of (p ∷ first) second zero h = refl
first_of (p ∷ first) second (suc i) h = first_of first second i (omega arith)

taken-long : (n : ℕ) (l : List ℕ) → (length (take n l) ≤ n) × (length (take n l) ≤ length l)
taken-long n l = rw (length-take n l) (min-le_left n (length l), min-le_right n (length l))

module _ {today : ℕ} {c : List ℕ} (b : Bytes c) {first second : List Point} (h : HasPoints today c first second) where
  abbrev v : List ℕ
  v = h.biometric

  abbrev d : List ℕ
  d = data_of v

  -- the value of BC stands in the container
  value-stands : Shows c v (viewed 6 today c 0xBC)
  value-stands = element-view 6 today c b h.values h.conforms 0 {t = 0xBC} {o = false} refl v h.is_value

  abbrev offset : ℕ
  offset = (viewed 6 today c 0xBC).part.offset

  -- and so does what stands in the record
  record-stands : (i : ℕ) → i + 6 ≤ 38 + 6 * length first + 6 * length second → part d i 6 ≡ part c (offset + (88 + i)) 6
  record-stands i l =
      let t = taken-long (field v 2 4) (drop 88 v) in
      let n = shows-long d first second h.shows in
      let w : length (drop 88 v) ≡ length v - 88 = length-drop 88 v in
      part-part v 88 (field v 2 4) i 6 (omega (arith, t, n)) ∙ rw (← value-stands.stands) (part-part c offset (length v) (88 + i) 6 (omega (arith, t, n, w)))

  first_back : (i : ℕ) → i < length first → part c (offset + 118 + 6 * i) 6 ≡ point_bytes (get_or first i nothing)
  first_back i l =
      let e : offset + (88 + (30 + 6 * i)) ≡ offset + 118 + 6 * i = omega arith in
      rw (← e) (sym (record-stands (30 + 6 * i) (omega arith)) ∙ (shows-points d first second h.shows).0 i l)

  second_back : (i : ℕ) → i < length second → part c (offset + 118 + 6 * length first + 6 + 6 * i) 6 ≡ point_bytes (get_or second i nothing)
  second_back i l =
      let e : offset + (88 + (36 + 6 * length first + 6 * i)) ≡ offset + 118 + 6 * length first + 6 + 6 * i = omega arith in
      rw (← e) (sym (record-stands (36 + 6 * length first + 6 * i) (omega arith)) ∙ (shows-points d first second h.shows).1 i l)

-- of what a call left in a list of points
abbrev Back : List ℕ → List Point → Listed → Type 0
Back c after r =
    (at : ℕ) × ((i : ℕ) → i < r.first → part c (at + 6 * i) 6 ≡ point_bytes (get_or after i nothing))
    × ((i : ℕ) → i < r.second → part c (at + 6 * r.first + 6 + 6 * i) 6 ≡ point_bytes (get_or after (r.first + i) nothing))

put_back : {today : ℕ} {c : List ℕ} → Bytes c → (before after : List Point) (r : Listed) → FillsPoints today c before after r → r.verdict.number ≡ 0 → Back c after r
put_back {today} {c} b before after r f z = go f.says
  where
    go : Says today c (λ n. n ≤ length before) r f.listed → Back c after r
    go (breaks g n a l) = absurd (never-zero g.fault (ap (λ (q : Listed). q.verdict.number) (sym a) ∙ z))
    go (short g t h s a l) = absurd (never-zero SmallRoom (ap (λ (q : Listed). q.verdict.number) (sym a) ∙ z))
    go (fits first second h s a l) =
        let e : (i : ℕ) → get_or after i nothing ≡ get_or (first ++ second) i nothing = λ i. ap (λ (k : List Point). get_or k i nothing) f.left ∙ rw l (entry-is (first ++ second) (length before) i s) in
        rw a (
          offset b h + 118,
          λ i k. rw (e i, first_of first second i k) (first_back b h i k),
          λ i k. rw (e (length first + i), get_or-append-add first second i nothing) (second_back b h i k),
        )

-- ---- what the request asks for

-- a verdict that is not 0 is that of the first broken rule, and is all that can be said
refused_as : {today : ℕ} {c : List ℕ} {v : Verdict} {Room : ℕ → Type 0} {r : Listed} {ps : List Point} → Bytes c → Judges 6 today c v → (v.number ≡ 0 → ⊥)
    → Says today c Room r ps → r.verdict ≡ v
unfolding outcome
refused_as {today} {c} b j n (breaks f m a l) = rw a (sym (j.answer ∙ rw (named_back 6 today f c b m)))
refused_as {today} {c} b j n (short g t h s a l) = absurd (n (rw j.answer ((exactly_when 6 today c b).1 (h.values, h.conforms))))
refused_as {today} {c} b j n (fits g t h s a l) = absurd (n (rw j.answer ((exactly_when 6 today c b).1 (h.values, h.conforms))))

pub as_a_list : AsAList
as_a_list = record {
  has_points = λ today vs c b k. (_, _, has_points b vs k);
  only_points = λ today c b first second one two h k. only_points b h k;
  most_points = λ today c first second h. rw length-append (omega (arith, h.shows.first_view.few, h.shows.second_view.few));
  lists_filled = λ today c before after r b f first second h k.
      let (e, ps) = says-once b f.fills.says (fits first second h k refl refl) in
      (e, f.fills.left ∙ ap (λ l. lists_of l before) ps);
  points_filled = λ today c before after r b f first second h k.
      let (e, ps) = says-once b f.fills.says (fits first second h k refl refl) in
      (e, f.fills.left ∙ ap (λ l. entries l (length before)) ps);
  lists_refused = λ today c v b j n before after r f. refused_as b j n f.fills.says;
  points_refused = λ today c v b j n before after r f. refused_as b j n f.fills.says;
  lists_short = λ today c before after r b f first second h k. (says-once b f.fills.says (short first second h k refl refl)).0;
  points_short = λ today c before after r b f first second h k. (says-once b f.fills.says (short first second h (λ l. omega arith) refl refl)).0;
  equal = λ today c before after r list left q b e f g. equal-forms b before after list left r q e f.fills g.fills;
  put_back = λ today c before after r b f z. put_back b before after r f.fills z;
}
