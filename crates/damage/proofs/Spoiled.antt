-- Bytes that are those of a container which conforms, up to a value, and as many, and whose value there breaks its rule: that is the first broken rule, at the
-- element's place and with its tag, whatever follows. Once over the kind, the row and the rule. Assumes nothing.
use Prim.Native.Nat.{ℕ, zero, suc, ◌+◌, ◌≤◌}
use mathlib.Core.Path.{◌≡◌, refl, sym, ap, subst, ◌∙◌}
use mathlib.Core.Bool.{true, cond}
use mathlib.Core.Option.{none, some}
use mathlib.Core.List.{List, [], ◌∷◌, ◌++◌, append_assoc}
use native.Mathlib.Omega.{arith}
use lib.ListN.{length, take, drop, get_or, length-append, length-drop, take-append-drop}
use lib.Dec.{eqb}
use lib.Seq.{take-append_seam, drop-append_seam, take_at}
use borrow.Author.Tests.{eq-eqb}
use Rattle.laws.specs.Bytes.{Bytes}
use Rattle.laws.specs.Layout.{part}
use Rattle.laws.proofs.Cases.{no-some, none-at}
use Rattle.laws.proofs.Layouts.{part-long}
use Rattle.verdicts.specs.Verdicts.{found}
use Rattle.verdicts.specs.declared.Fault.{Fault}
use Rattle.lengths.specs.Length.{Spells}
use Rattle.kinds.specs.Tables.{Entry, Table, table, first}
use Rattle.kinds.specs.declared.ValueRule.{ValueRule}
use Rattle.rules.specs.Rules.{Keeps, Violates}
use Rattle.container.specs.Container.{Values, Spellings, tag_bytes, has, spelled, outer_tag, Fits, Allowed, Formed, Conforms, largest}
use Rattle.container.specs.InOrder.{of_table, bad_value, Owed, in_row, Wrong, at_element, LastThere, Named, in_element}
use Rattle.container.proofs.Named.{later, has-mid}
use Rattle.views.specs.Views.{element_place}
use Rattle.views.proofs.Placing.{same_tag}
use Rattle.signer.specs.Signer.{Element}
use Rattle.signer.proofs.Elements.{within}
use Rattle.std.specs.Prelude.{Some}

-- ---- up to a row that has a value

-- the first of the rows `rest`, which the value fits, whose length the form spells
record At (today : ℕ) (rest : Table) (form v : List ℕ) : Type 0 where
  row : Entry
  after : Table
  row_is : rest ≡ row ∷ after
  fits : Fits today row v
  spells : Spells form (length v)

-- the rows up to the last before it with a value, and those passed over
record Reached (today : ℕ) (rs : Table) (vs : Values) (ps : Spellings) (i : ℕ) (v : List ℕ) : Type 0 where
  here : At today (drop i rs) (get_or ps i []) v
  rows : Table
  passed : Table
  front : Values
  forms : Spellings
  behind : List ℕ
  split : rs ≡ rows ++ (passed ++ drop i rs)
  allowed : Allowed today rows front
  formed : Formed front forms
  last : LastThere front
  none-owed : Owed passed → ⊥
  before-is : spelled (take i rs) (take i vs) (take i ps) ≡ spelled rows front forms
  written : spelled rs vs ps ≡ spelled rows front forms ++ (tag_bytes here.row.tag ++ (get_or ps i [] ++ (v ++ behind)))

no_rows : (today : ℕ) (rs : Table) → Allowed today rs [] → rs ≡ []
no_rows today [] a = refl
no_rows today (r ∷ rs) a = absurd a

module _ (today : ℕ) (r : Entry) {rs : Table} {vs : Values} {ps : Spellings} {i : ℕ} {v : List ℕ} (p : List ℕ) (h : Reached today rs vs ps i v) where
  -- behind an element
  past : (w : List ℕ) → Fits today r w → Spells p (length w) → Reached today (r ∷ rs) (some w ∷ vs) (p ∷ ps) (suc i) v
  past w f s =
      let x = spelled h.rows h.front h.forms in
      let y = tag_bytes h.here.row.tag ++ (get_or ps i [] ++ (v ++ h.behind)) in
      record {
        here = h.here;
        rows = r ∷ h.rows;
        passed = h.passed;
        front = some w ∷ h.front;
        forms = p ∷ h.forms;
        behind = h.behind;
        split = ap (λ (l : Table). r ∷ l) h.split;
        allowed = (f, h.allowed);
        formed = (s, h.formed);
        last = h.last;
        none-owed = h.none-owed;
        before-is = rw h.before-is;
        written = rw (h.written, append_assoc (tag_bytes r.tag) (p ++ (w ++ x)) y, append_assoc p (w ++ x) y, append_assoc w x y);
      }

  -- behind a row without one: passed over, where no row with one stands between
  over : r.optional ≡ true → p ≡ [] → Reached today (r ∷ rs) (none ∷ vs) (p ∷ ps) (suc i) v
  over o q = go h.front refl
    where
      go : (front : Values) → h.front ≡ front → Reached today (r ∷ rs) (none ∷ vs) (p ∷ ps) (suc i) v
      go [] e =
          let n : h.rows ≡ [] = no_rows today h.rows (rw e at h.allowed) in
          record {
            here = h.here;
            rows = [];
            passed = r ∷ h.passed;
            front = [];
            forms = [];
            behind = h.behind;
            split = ap (λ (l : Table). r ∷ l) (h.split ∙ rw n);
            allowed = tt;
            formed = tt;
            last = tt;
            none-owed = λ w. h.none-owed (later r h.passed o w);
            before-is = h.before-is ∙ rw n;
            written = h.written ∙ rw n;
          }
      go (w ∷ ws) e = record {
        here = h.here;
        rows = r ∷ h.rows;
        passed = h.passed;
        front = none ∷ h.front;
        forms = p ∷ h.forms;
        behind = h.behind;
        split = ap (λ (l : Table). r ∷ l) h.split;
        allowed = (o, h.allowed);
        formed = (q, h.formed);
        last = rw e (rw e at h.last);
        none-owed = h.none-owed;
        before-is = h.before-is;
        written = h.written;
      }

reached : (today : ℕ) (rs : Table) (vs : Values) (ps : Spellings) → Allowed today rs vs → Formed vs ps → (i : ℕ) (v : List ℕ) → get_or vs i none ≡ some v
    → Reached today rs vs ps i v
reached today rs [] ps a f i v e = absurd (none-at i e)
reached today [] (o ∷ vs) ps a f i v e = absurd a
reached today (r ∷ rs) (o ∷ vs) [] a f i v e = absurd f
reached today (r ∷ rs) (none ∷ vs) (p ∷ ps) a f zero v e = absurd (no-some e)
reached today (r ∷ rs) (some w ∷ vs) (p ∷ ps) a f zero v e =
    let q : w ≡ v = cc in
    record {
      here = record { row = r; after = rs; row_is = refl; fits = rw q at a.0; spells = rw q at f.0 };
      rows = [];
      passed = [];
      front = [];
      forms = [];
      behind = spelled rs vs ps;
      split = refl;
      allowed = tt;
      formed = tt;
      last = tt;
      none-owed = λ n. n;
      before-is = refl;
      written = rw q;
    }
reached today (r ∷ rs) (none ∷ vs) (p ∷ ps) a f (suc i) v e = over today r p (reached today rs vs ps a.1 f.1 i v e) a.0 f.0
reached today (r ∷ rs) (some w ∷ vs) (p ∷ ps) a f (suc i) v e = past today r p (reached today rs vs ps a.1 f.1 i v e) w a.0 f.0

-- ---- the rule of the row with a tag

abbrev pub Ruled : ℕ → ValueRule → Table → Type 0
Ruled t rule [] = Unit {0}
Ruled t rule (r ∷ rs) = cond (eqb r.tag t) (r.rule ≡ rule) (Unit {0}) × Ruled t rule rs

ruled-mid : (t : ℕ) (rule : ValueRule) (before : Table) (r : Entry) (after : Table) → Ruled t rule (before ++ (r ∷ after)) → r.tag ≡ t → r.rule ≡ rule
ruled-mid t rule [] r after h e = rw (eq-eqb r.tag t e) at h.0
ruled-mid t rule (x ∷ xs) r after h e = ruled-mid t rule xs r after h.1 e

-- ---- other bytes from the value on

module _ {kind today : ℕ} {c : List ℕ} {vs : Values} (h : Conforms kind today vs c) (i : ℕ) {v : List ℕ} (k : Reached today (table kind) vs h.forms.rows i v) where
  abbrev outer : List ℕ
  outer = h.forms.outer

  abbrev elements : List ℕ
  elements = spelled k.rows k.front k.forms

  abbrev tag : List ℕ
  tag = tag_bytes k.here.row.tag

  abbrev form : List ℕ
  form = get_or h.forms.rows i []

  -- the rows, with this one among them
  rows_are : table kind ≡ k.rows ++ (k.passed ++ (k.here.row ∷ k.here.after))
  rows_are = k.split ∙ rw k.here.row_is

  -- all that stands before the value
  abbrev head : List ℕ
  head = outer_tag kind ∷ (outer ++ (elements ++ (tag ++ form)))

  long-head : length head ≡ 1 + length outer + length elements + length tag + length form
  long-head = omega (arith, length-append outer (elements ++ (tag ++ form)), length-append elements (tag ++ form), length-append tag form)

  -- and the elements, with other bytes from the value on
  abbrev body : List ℕ → List ℕ
  body y = elements ++ (tag ++ (form ++ y))

  opened : (y : List ℕ) → head ++ y ≡ outer_tag kind ∷ (outer ++ body y)
  opened y = rw (append_assoc outer (elements ++ (tag ++ form)) y, append_assoc elements (tag ++ form) y, append_assoc tag form y)

  whole : c ≡ head ++ (v ++ k.behind)
  whole = h.written ∙ rw (opened (v ++ k.behind), k.written)

  long-body : (y : List ℕ) → length (body y) ≡ length elements + (length tag + (length form + length y))
  long-body y = rw (length-append elements (tag ++ (form ++ y)), length-append tag (form ++ y), length-append form y)

  module _ (w u : List ℕ) (l : length w ≡ length v) (m : length (w ++ u) ≡ length (v ++ k.behind)) (f : Fault) (b : Violates k.here.row.rule today w f) where
    -- as long as it was
    same_body : length (body (w ++ u)) ≡ length (spelled (table kind) vs h.forms.rows)
    same_body = long-body (w ++ u) ∙ rw m (sym (ap length k.written ∙ long-body (v ++ k.behind)))

    same_size : length (outer_tag kind ∷ (outer ++ body (w ++ u))) ≤ largest
    same_size =
        let p : length c ≡ suc (length (outer ++ spelled (table kind) vs h.forms.rows)) = ap length h.written in
        omega (arith, p, same_body, h.size_is, length-append outer (spelled (table kind) vs h.forms.rows), length-append outer (body (w ++ u)))

    in_table : has k.here.row.tag (table kind) ≡ true
    in_table = rw (rows_are, ← append_assoc k.rows k.passed (k.here.row ∷ k.here.after)) (has-mid (k.rows ++ k.passed) k.here.row k.here.after)

    -- the value is at fault
    wrong : Wrong today (table kind) (k.passed ++ (k.here.row ∷ k.here.after)) (tag ++ (form ++ (w ++ u))) f (Some k.here.row.tag)
    wrong =
        at_element k.here.row.tag (form ++ (w ++ u)) (of_table in_table refl)
        (in_row k.passed k.here.row k.here.after refl refl k.none-owed (bad_value form w u (rw l k.here.spells, refl) (rw l k.here.fits.long) b)) refl

    named : Named kind today (head ++ (w ++ u)) (found f (1 + length outer + length elements) (Some k.here.row.tag))
    named =
        rw (opened (w ++ u))
        (in_element h.kind_is h.date_is same_size refl outer _ (body (w ++ u)) (h.outer_formed, refl) same_body
        (record {
          rows = k.rows;
          later = k.passed ++ (k.here.row ∷ k.here.after);
          vs = k.front;
          ps = k.forms;
          split = rows_are;
          allowed = k.allowed;
          formed = k.formed;
          last = k.last;
          place_is = refl;
          written = take-append_seam elements (tag ++ (form ++ (w ++ u)));
          wrong = rw (drop-append_seam elements (tag ++ (form ++ (w ++ u)))) wrong;
        }))

-- ---- the theorem

module _ {kind today : ℕ} {c : List ℕ} {t : ℕ} {v : List ℕ} {at : ℕ} (b : Bytes c) (x : Element kind today c t v at) (rule : ValueRule) (ruled : Ruled t rule (table kind)) where
  abbrev k : Reached today (table kind) x.values x.conforms.forms.rows x.row v
  k = reached today (table kind) x.values x.conforms.forms.rows x.conforms.allowed x.conforms.rows_formed x.row v x.value_is

  tag_is : k.here.row.tag ≡ t
  tag_is = same_tag (ap first (sym k.here.row_is) ∙ x.row_is)

  rule-is : k.here.row.rule ≡ rule
  rule-is = ruled-mid t rule (k.rows ++ k.passed) k.here.row k.here.after (rw (rows_are x.conforms x.row k, ← append_assoc k.rows k.passed (k.here.row ∷ k.here.after)) at ruled) tag_is

  -- the value keeps the rule
  pub kept_rule : Keeps rule today v
  kept_rule = rw rule-is at k.here.fits.rule

  before : List ℕ
  before = head x.conforms x.row k

  long-before : length before ≡ at
  unfolding before
  long-before = rw (x.place_is, k.before-is, ← tag_is) (long-head x.conforms x.row k)

  pub spoiled : (d : List ℕ) → length d ≡ length c → take at d ≡ take at c → (f : Fault) → Violates rule today (part d at (length v)) f
      → Named kind today d (found f (element_place kind x.values x.conforms.forms x.row) (Some t))
  unfolding before
  spoiled d l s f z =
      let w : List ℕ = part d at (length v) in
      let u : List ℕ = drop (length v) (drop at d) in
      let i : at + length v ≤ length c = (within b x).0 in
      let y : w ++ u ≡ drop at d = take-append-drop (length v) (drop at d) in
      let q : c ≡ before ++ (v ++ k.behind) = whole x.conforms x.row k in
      let e : d ≡ before ++ (w ++ u) = sym (take-append-drop at d) ∙ rw (s, y, ap (take at) q ∙ take_at before (v ++ k.behind) at long-before) in
      let m : length w ≡ length v = part-long d at (length v) (omega arith) in
      let n : length (w ++ u) ≡ length (v ++ k.behind) =
      omega (arith, l, ap length y, length-drop at d, ap length q, length-append before (v ++ k.behind), long-before) in
      subst (λ (g : List ℕ). Named kind today g (found f (element_place kind x.values x.conforms.forms x.row) (Some t))) (sym e)
      (rw (k.before-is, ← tag_is) (named x.conforms x.row k w u m n f (rw rule-is z)))
