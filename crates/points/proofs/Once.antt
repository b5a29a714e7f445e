-- A FINGERS container that conforms has points, and only these; so each answer is the only one. Assumes nothing.
use Prim.Native.Nat.{ℕ}
use mathlib.Core.Path.{◌≡◌, sym, ap, ◌∙◌}
use mathlib.Core.Logic.{◌↔◌}
use mathlib.Core.Option.{none, some}
use mathlib.Core.List.{List, [], ◌∷◌}
use lib.ListN.{get_or}
use Rattle.laws.specs.Bytes.{Bytes}
use Rattle.laws.proofs.Cases.{no-some}
use Rattle.verdicts.specs.declared.Finding.{Finding}
use Rattle.container.specs.Container.{Values, Conforms}
use Rattle.container.specs.InOrder.{Named}
use Rattle.container.proofs.Forms.{AllBytes, conforming-bytes}
use Rattle.container.proofs.Named.{one-finding, not_named}
use Rattle.container.proofs.Promise.{unique}
use Rattle.points.specs.Points.{data_of, HasPoints}
use Rattle.points.specs.Calls.{refused_by, Says, breaks, short, fits}
use Rattle.points.specs.declared.Listed.{Listed}
use Rattle.points.specs.declared.Point.{Point}
use Rattle.points.proofs.Record.{first_points, second_points}
use Rattle.points.proofs.Back.{shows-back}
use Rattle.points.proofs.Holding.{first-value, value-shows}

-- the value of the first row
abbrev pub value_of : Values → List ℕ
value_of [] = []
value_of (none ∷ vs) = []
value_of (some v ∷ vs) = v

value_is : (vs : Values) (v : List ℕ) → get_or vs 0 none ≡ some v → value_of vs ≡ v
value_is [] v e = absurd (no-some e)
value_is (none ∷ vs) v e = absurd (no-some e)
value_is (some w ∷ vs) v e = cc

value-bytes : (vs : Values) (v : List ℕ) → AllBytes vs → get_or vs 0 none ≡ some v → Bytes v
value-bytes [] v b e = absurd (no-some e)
value-bytes (none ∷ vs) v b e = absurd (no-some e)
value-bytes (some w ∷ vs) v b e = let q : w ≡ v = cc in rw q at b.0

module _ {today : ℕ} {c : List ℕ} (b : Bytes c) where
  pub has_points : (vs : Values) → Conforms 6 today vs c → HasPoints today c (first_points (data_of (value_of vs))) (second_points (data_of (value_of vs)))
  has_points vs k =
      let (v, s, g) = first-value today vs k.allowed in
      let y = value-bytes vs v (conforming-bytes 6 today vs c k b) s in
      rw (value_is vs v s) (record { values = vs; conforms = k; biometric = v; is_value = s; shows = (value-shows v y g).0 })

  pub only_points : {f s g t : List Point} → HasPoints today c f s → HasPoints today c g t → (f ≡ g) × (s ≡ t)
  only_points h k =
      let e : h.values ≡ k.values = unique 6 today c b h.values k.values h.conforms k.conforms in
      let v : h.biometric ≡ k.biometric = one_value (sym h.is_value ∙ ap (λ (vs : Values). get_or vs 0 none) e ∙ k.is_value) in
      let x = shows-back _ _ _ h.shows in
      let y = shows-back _ _ _ k.shows in
      (x.0 ∙ ap (λ w. first_points (data_of w)) v ∙ sym y.0, x.1 ∙ ap (λ w. second_points (data_of w)) v ∙ sym y.1)
    where
      one_value : {v w : List ℕ} → some v ≡ some w → v ≡ w
      one_value e = cc

  -- no rule is broken where there are points
  pub never : {f : Finding} {g t : List Point} → Named 6 today c f → HasPoints today c g t → ⊥
  never n h = not_named b n h.conforms

-- ---- what is said

-- the same is said of rooms that hold the same
pub same_room : {today : ℕ} {c : List ℕ} {P Q : ℕ → Type 0} {r : Listed} {ps : List Point} → ((n : ℕ) → P n ↔ Q n) → Says today c P r ps → Says today c Q r ps
same_room e (breaks f n a l) = breaks f n a l
same_room e (short first second h s a l) = short first second h (λ q. s ((e _).1 q)) a l
same_room e (fits first second h s a l) = fits first second h ((e _).0 s) a l

module _ {today : ℕ} {c : List ℕ} (b : Bytes c) {Room : ℕ → Type 0} where
  -- it is all that can be said
  pub says-once : {r q : Listed} {ps qs : List Point} → Says today c Room r ps → Says today c Room q qs → (r ≡ q) × (ps ≡ qs)
  says-once (breaks f n a l) (breaks g m d k) = (a ∙ ap refused_by (one-finding b n m) ∙ sym d, l ∙ sym k)
  says-once (breaks f n a l) (short g t h s d k) = absurd (never b n h)
  says-once (breaks f n a l) (fits g t h s d k) = absurd (never b n h)
  says-once (short g t h s d k) (breaks f n a l) = absurd (never b n h)
  says-once (short g t h s a l) (short u v i w d k) = (a ∙ sym d, l ∙ sym k)
  says-once (short g t h s a l) (fits u v i w d k) = let (e, z) = only_points b h i in absurd (s (rw (e, z) w))
  says-once (fits g t h s d k) (breaks f n a l) = absurd (never b n h)
  says-once (fits u v i w d k) (short g t h s a l) = let (e, z) = only_points b h i in absurd (s (rw (e, z) w))
  says-once (fits g t h s a l) (fits u v i w d k) = let (e, z) = only_points b h i in (a ∙ rw (e, z) (sym d), l ∙ rw (e, z) (sym k))
