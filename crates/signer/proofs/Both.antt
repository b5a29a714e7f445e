-- The two containers, by the maps that their checks made: a law for each way out. And a certificate stands where it is said to. Assumes nothing.
use Prim.Native.Nat.{ℕ, ◌+◌, ◌-◌, ◌≤◌}
use mathlib.Core.Path.{◌≡◌, refl, sym, ap, ◌∙◌}
use mathlib.Core.Logic.{inl, inr}
use mathlib.Core.Bool.{false, false≢true}
use mathlib.Core.Option.{none, some}
use mathlib.Core.List.{List, [], ◌∷◌}
use native.Mathlib.Omega.{arith}
use native.Mathlib.Nat.{add_assoc, add-sub_cancel_left}
use lib.ListN.{length, take, drop, get_or, length-drop}
use lib.Seq.{drop-drop}
use Rattle.laws.specs.Bytes.{Bytes}
use Rattle.laws.specs.Layout.{field, part}
use Rattle.laws.proofs.Bases.{below-take, below-drop}
use Rattle.laws.proofs.Cases.{no-some}
use Rattle.laws.proofs.Layouts.{part-part}
use Rattle.verdicts.specs.Verdicts.{outright}
use Rattle.verdicts.specs.declared.Fault.TheVariants.{UnknownKind, FascnDiffer, BiometricBlock, ChuidBlock, NeitherHolds}
use Rattle.verdicts.specs.declared.Finding.{Finding}
use Rattle.kinds.specs.Tables.{Table, table, row_at}
use Rattle.rules.specs.Rules.{Keeps}
use Rattle.cbeff.specs.Header as header
use Rattle.cbeff.proofs.Exact.{data-inside}
use Rattle.der.specs.Der.{Item, der_bytes}
use Rattle.blocks.specs.Block.{SignedData, place}
use Rattle.blocks.proofs.Exact.{stands}
use Rattle.blocks.proofs.Items.{some_bytes}
use Rattle.container.specs.Container.{Values, Allowed}
use Rattle.container.specs.Reading.{located}
use Rattle.container.specs.Map.{map_of}
use Rattle.container.specs.Spans.{absent}
use Rattle.container.specs.declared.rows.Span.{Span}
use Rattle.container.proofs.Lying.{read-broken}
use Rattle.container.proofs.Promise.{named}
use Rattle.signer.specs.Signer.{Chuid, IsBiometric, Biometric, Signed, refusal, InBlocks, own_none, own_holds, block_none, neither, block_holds, other, same, Says, no_biometric, chuid_breaks, biometric_breaks, both_conform}
use Rattle.signer.specs.Signer as spec
use Rattle.signer.specs.Locating as told
use Rattle.signer.specs.Locating.{is_biometric, in_numbers, of_neither, Tells, InValue, Second, breaks, Locates}
use Rattle.signer.specs.declared.Holder.TheVariants.{Chuid as InChuid, Biometric as InBiometric}
use Rattle.signer.specs.declared.Certificate.{Certificate}
use Rattle.signer.specs.declared.Refusal.{Refusal}
use Rattle.signer.proofs.Ways.{kind-exact}
use Rattle.signer.proofs.Elements.{Row, row, taken, within}
use Rattle.std.specs.Prelude.{Some, Result, Ok, Err}

-- ---- the biometric

pub bc-row : (kind : ℕ) → IsBiometric kind → row_at kind 0 ≡ Some (record { tag = 0xBC; optional = false })
bc-row kind (inl e) = rw e
bc-row kind (inr (inl e)) = rw e
bc-row kind (inr (inr e)) = rw e

-- its value keeps the rule of its row
abbrev FirstKeeps : ℕ → Table → List ℕ → Type 0
FirstKeeps today [] v = ⊥
FirstKeeps today (r ∷ rs) v = Keeps r.rule today v

first-keeps : (today : ℕ) (rs : Table) (vs : Values) → Allowed today rs vs → (v : List ℕ) → get_or vs 0 none ≡ some v → FirstKeeps today rs v
first-keeps today [] [] a v e = absurd (no-some e)
first-keeps today [] (o ∷ vs) a v e = absurd a
first-keeps today (r ∷ rs) [] a v e = absurd a
first-keeps today (r ∷ rs) (none ∷ vs) a v e = absurd (no-some e)
first-keeps today (r ∷ rs) (some w ∷ vs) a v e = let q : w ≡ v = cc in rw q at a.0.rule

-- which says of what lengths it is made
made_of : (kind today : ℕ) → IsBiometric kind → (v : List ℕ) → Bytes v → FirstKeeps today (table kind) v → 88 + field v 2 4 + field v 6 2 ≡ length v
made_of kind today (inl e) v b k = (data-inside header.fingers v b (rw e at k)).1
made_of kind today (inr (inl e)) v b k = (data-inside header.face v b (rw e at k)).1
made_of kind today (inr (inr e)) v b k = (data-inside header.iris v b (rw e at k)).1

-- a row's value, as the code takes it
abbrev pub cut : List ℕ → List Span → ℕ → List ℕ
cut c rows i = part c (get_or rows i absent).from ((get_or rows i absent).to - (get_or rows i absent).from)

module _ (kind today : ℕ) (k : IsBiometric kind) (c : List ℕ) (b : Bytes c) where
  pub out_second : (fascn block : List ℕ) (at : ℕ) {f : Finding} → Err f ≡ map_of (located kind today c)
      → Tells (Second kind today c fascn block at) (Err (record { of = Some InBiometric; finding = f }))
  out_second fascn block at {f} o = record { signed = refusal 2 f; says = breaks f (named kind today c b f (read-broken kind today c o)) refl; is = refl }

  module _ {rows : List Span} (o : Ok rows ≡ map_of (located kind today c)) where
    bc : Row kind today c rows 0 0xBC
    bc = row kind today c b o 0 0xBC (bc-row kind k)

    bytes : Bytes bc.value
    bytes = rw bc.bytes at (below-take 256 (length bc.value) (drop bc.at c) (below-drop 256 bc.at c b))

    sized : 88 + field bc.value 2 4 + field bc.value 6 2 ≡ length bc.value
    sized =
        let x = bc.element in
        made_of kind today k bc.value bytes (first-keeps today (table kind) x.values x.conforms.allowed bc.value (rw bc.row_is at x.value_is))

    pub long : 88 + field (cut c rows 0) 2 4 ≤ length (cut c rows 0)
    long = rw (taken bc) (omega (arith, sized))

    pub out_value : (fascn block : List ℕ) (at : ℕ) {r : Result Certificate Refusal} → Tells (InValue fascn block at (cut c rows 0) (get_or rows 0 absent).from) r
        → Tells (Second kind today c fascn block at) r
    out_value fascn block at {r} u =
        let t : Tells (InValue fascn block at bc.value bc.at) r = rw (taken bc, bc.span_is) at u in
        record {
          signed = t.signed;
          says = told.conforms _ _ _ (record { value = bc.value; start = bc.at; value_is = bc.element; fascn_is = refl; block_is = refl; at_is = refl }) t.says;
          is = t.is;
        }

-- ---- a certificate stands where it is said to

module _ (chuid biometric : List ℕ) where
  abbrev Lies : Signed → Type 0
  Lies a =
      (a.offset + length a.bytes ≤ length (spec.holder a.verdict a.which chuid biometric))
      × (take (length a.bytes) (drop a.offset (spec.holder a.verdict a.which chuid biometric)) ≡ a.bytes)

  -- a part of a part
  deeper : (c v w : List ℕ) (at k : ℕ) → at + length v ≤ length c → take (length v) (drop at c) ≡ v → k + length w ≤ length v → take (length w) (drop k v) ≡ w
      → (at + k + length w ≤ length c) × (take (length w) (drop (at + k) c) ≡ w)
  deeper c v w at k l e h f = (omega arith, sym (part-part c at (length v) k (length w) h) ∙ ap (λ (u : List ℕ). part u k (length w)) e ∙ f)

  refusal-lies : (which : ℕ) (f : Finding) → Lies (refusal which f)
  refusal-lies which f = (omega arith, refl)

  own-lies : {kind today : ℕ} {fascn own : List ℕ} {own_at : ℕ} → Bytes biometric → Biometric kind today biometric fascn own own_at → (s : SignedData) (c : Item)
      → spec.Holding own s c → Lies (spec.found 2 (own_at + place s) c)
  own-lies {own = own} {own_at = own_at} b x s c h =
      let v : List ℕ = x.value in
      let d : ℕ = 88 + field v 2 4 in
      let (l, e) = stands own s c h.0 h.1 in
      let n : length own ≡ length v - d = ap length x.block_is ∙ length-drop d v in
      let (i, f) = within b x.value_is in
      let q : take (length (der_bytes c)) (drop (d + place s) v) ≡ der_bytes c =
      ap (take (length (der_bytes c))) (sym (drop-drop (place s) d v) ∙ ap (drop (place s)) (sym x.block_is)) ∙ e in
      let p : x.start + (d + place s) ≡ own_at + place s = rw x.at_is (sym (add_assoc x.start d (place s))) in
      rw (← p) (deeper biometric v (der_bytes c) x.start (d + place s) i f (omega (arith, some_bytes c)) q)

  block-lies : {today : ℕ} {fascn block : List ℕ} {at : ℕ} → Bytes chuid → Chuid today chuid fascn block at → (s : SignedData) (c : Item) → spec.Holding block s c
      → Lies (spec.found 1 (at + place s) c)
  block-lies {block = block} {at = at} b x s c h =
      let (l, e) = stands block s c h.0 h.1 in
      let (i, f) = within b x.block_is in
      deeper chuid block (der_bytes c) at (place s) i f l e

  module _ (b₁ : Bytes chuid) (b₂ : Bytes biometric) where
    in-blocks-lie : {kind today : ℕ} {fascn own-fascn block own : List ℕ} {at own_at : ℕ} {a : Signed} → Chuid today chuid fascn block at
        → Biometric kind today biometric own-fascn own own_at → InBlocks own own_at block at a → Lies a
    in-blocks-lie x y (own_none n e) = rw e (refusal-lies 0 (outright BiometricBlock))
    in-blocks-lie x y (own_holds s c h e) = rw e (own-lies b₂ y s c h)
    in-blocks-lie x y (block_none n m e) = rw e (refusal-lies 0 (outright ChuidBlock))
    in-blocks-lie x y (neither n m e) = rw e (refusal-lies 0 (outright NeitherHolds))
    in-blocks-lie x y (block_holds n s c h e) = rw e (block-lies b₁ x s c h)

    pub lies : {kind today : ℕ} {a : Signed} → Says kind today chuid biometric a → Lies a
    lies (no_biometric n e) = rw e (refusal-lies 0 (outright UnknownKind))
    lies (chuid_breaks k f n e) = rw e (refusal-lies 1 f)
    lies (biometric_breaks k vs h f n e) = rw e (refusal-lies 2 f)
    lies (both_conform k fascn block own-fascn own at own_at x y (other n e)) = rw e (refusal-lies 0 (outright FascnDiffer))
    lies (both_conform k fascn block own-fascn own at own_at x y (same q z)) = in-blocks-lie x y z

    -- ---- the whole answer

    out : {kind today : ℕ} (r : Result Certificate Refusal) (a : Signed) → Says kind today chuid biometric a → in_numbers r ≡ told.located a → Locates kind today chuid biometric r
    out r a s e =
        let (i, f) = lies s in
        record { signed = a; says = s; is = e; inside = rw e i; bytes_are = rw (e, add-sub_cancel_left) f }

    pub out_kind : (kind today : ℕ) → is_biometric kind ≡ false → Locates kind today chuid biometric (Err (of_neither UnknownKind))
    out_kind kind today e = out _ (refusal 0 (outright UnknownKind)) (no_biometric (λ k. false≢true (sym e ∙ (kind-exact kind).1 k)) refl) refl

    module _ (kind today : ℕ) (k : IsBiometric kind) where
      pub out_first : {f : Finding} → Err f ≡ map_of (located 2 today chuid) → Locates kind today chuid biometric (Err (record { of = Some InChuid; finding = f }))
      out_first {f} o = out _ (refusal 1 f) (chuid_breaks k f (named 2 today chuid b₁ f (read-broken 2 today chuid o)) refl) refl

      module _ {rows : List Span} (o : Ok rows ≡ map_of (located 2 today chuid)) where
        fascn : Row 2 today chuid rows 1 0x30
        fascn = row 2 today chuid b₁ o 1 0x30 refl

        block : Row 2 today chuid rows 7 0x3E
        block = row 2 today chuid b₁ o 7 0x3E refl

        pub out_both : {r : Result Certificate Refusal} → Tells (Second kind today biometric (cut chuid rows 1) (cut chuid rows 7) (get_or rows 7 absent).from) r → Locates kind today chuid biometric r
        out_both {r} u =
            let t : Tells (Second kind today biometric fascn.value block.value block.at) r = rw (taken fascn, taken block, block.span_is) at u in
            out r t.signed (judged t.says) t.is
          where
            judged : {a : Signed} → Second kind today biometric fascn.value block.value block.at a → Says kind today chuid biometric a
            judged (breaks f n q) = biometric_breaks k fascn.element.values fascn.element.conforms f n q
            judged (told.conforms own-fascn own own_at y z) =
                both_conform k _ _ own-fascn own _ own_at (record { fascn_at = fascn.at; fascn_is = fascn.element; block_is = block.element }) y z
