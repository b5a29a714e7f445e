-- What is said of two containers is all that can be said of them. Assumes nothing.
use Prim.Native.Nat.{ℕ, ◌+◌}
use mathlib.Core.Path.{◌≡◌, sym, ap, ◌∙◌}
use mathlib.Core.Option.{some}
use mathlib.Core.List.{List}
use lib.ListN.{drop}
use Rattle.laws.specs.Bytes.{Bytes}
use Rattle.laws.specs.Layout.{field, part}
use Rattle.laws.proofs.Cases.{no-some}
use Rattle.der.specs.Der.{Item}
use Rattle.blocks.specs.Block.{SignedData, certificate, place}
use Rattle.blocks.proofs.Exact.{one_block}
use Rattle.container.proofs.Named.{one-finding, not_named}
use Rattle.signer.specs.Signer.{Element, Chuid, Biometric, Signed, refusal, found, HoldsNone, Holding, InBlocks, own_none, own_holds, block_none, neither, block_holds, Compared, other, same, Says, no_biometric, chuid_breaks, biometric_breaks, both_conform}
use Rattle.signer.proofs.Elements.{place_of, value-of}

-- ---- what a container carries

module _ {kind today : ℕ} {c : List ℕ} {t : ℕ} {v w : List ℕ} {at to : ℕ} (b : Bytes c) (x : Element kind today c t v at) (y : Element kind today c t w to) where
  pub one_value : v ≡ w
  one_value = sym (value-of b x) ∙ value-of b y

  pub one_place : at ≡ to
  one_place = sym (place_of b x) ∙ place_of b y

module _ {kind today : ℕ} {c f g u v : List ℕ} {at to : ℕ} (b : Bytes c) (x : Biometric kind today c f u at) (y : Biometric kind today c g v to) where
  value : x.value ≡ y.value
  value = one_value b x.value_is y.value_is

  pub one-fascn : f ≡ g
  one-fascn = x.fascn_is ∙ ap (λ (l : List ℕ). part l 59 25) value ∙ sym y.fascn_is

  pub one-own : u ≡ v
  one-own = x.block_is ∙ ap (λ (l : List ℕ). drop (88 + field l 2 4) l) value ∙ sym y.block_is

  pub one-own-at : at ≡ to
  one-own-at = x.at_is ∙ rw (value, one_place b x.value_is y.value_is) (sym y.at_is)

-- ---- the two blocks

none-or-one : {v : List ℕ} {s : SignedData} {c : Item} → HoldsNone v → Holding v s c → ⊥
none-or-one {v} {s} (u, k, e) (h, f) = no-some (sym e ∙ ap certificate (one_block v u s k h) ∙ f)

same-found : {v : List ℕ} {s u : SignedData} {c d : Item} → Holding v s c → Holding v u d → (which at : ℕ) → found which (at + place s) c ≡ found which (at + place u) d
same-found {v} {s} {u} (h, e) (k, f) which at =
    let o : s ≡ u = one_block v s u h k in
    let i = same_item (sym e ∙ ap certificate o ∙ f) in
    rw (o, i)
  where
    same_item : {x y : Item} → some x ≡ some y → x ≡ y
    same_item q = cc

in-blocks-once : {own block : List ℕ} {own_at at : ℕ} {a z : Signed} → InBlocks own own_at block at a → InBlocks own own_at block at z → a ≡ z
in-blocks-once (own_none n e) (own_none m f) = e ∙ sym f
in-blocks-once (own_none n e) (own_holds s c h f) = absurd (n s h.0)
in-blocks-once (own_none n e) (block_none (s, k, q) m f) = absurd (n s k)
in-blocks-once (own_none n e) (neither (s, k, q) m f) = absurd (n s k)
in-blocks-once (own_none n e) (block_holds (s, k, q) u c h f) = absurd (n s k)
in-blocks-once (own_holds s c h e) (own_none m f) = absurd (m s h.0)
in-blocks-once (own_holds s c h e) (own_holds u d k f) = e ∙ same-found h k 2 _ ∙ sym f
in-blocks-once (own_holds s c h e) (block_none n m f) = absurd (none-or-one n h)
in-blocks-once (own_holds s c h e) (neither n m f) = absurd (none-or-one n h)
in-blocks-once (own_holds s c h e) (block_holds n u d k f) = absurd (none-or-one n h)
in-blocks-once (block_none (s, k, q) n e) (own_none m f) = absurd (m s k)
in-blocks-once (block_none o n e) (own_holds u d k f) = absurd (none-or-one o k)
in-blocks-once (block_none o n e) (block_none p m f) = e ∙ sym f
in-blocks-once (block_none o n e) (neither p (s, k, q) f) = absurd (n s k)
in-blocks-once (block_none o n e) (block_holds p u d k f) = absurd (n u k.0)
in-blocks-once (neither (s, k, q) n e) (own_none m f) = absurd (m s k)
in-blocks-once (neither o n e) (own_holds u d k f) = absurd (none-or-one o k)
in-blocks-once (neither o (s, k, q) e) (block_none p m f) = absurd (m s k)
in-blocks-once (neither o n e) (neither p m f) = e ∙ sym f
in-blocks-once (neither o n e) (block_holds p u d k f) = absurd (none-or-one n k)
in-blocks-once (block_holds (s, k, q) u d h e) (own_none m f) = absurd (m s k)
in-blocks-once (block_holds o s c h e) (own_holds u d k f) = absurd (none-or-one o k)
in-blocks-once (block_holds o s c h e) (block_none p m f) = absurd (m s h.0)
in-blocks-once (block_holds o s c h e) (neither p m f) = absurd (none-or-one m h)
in-blocks-once (block_holds o s c h e) (block_holds p u d k f) = e ∙ same-found h k 1 _ ∙ sym f

compared-once : {fascn own-fascn own block : List ℕ} {own_at at : ℕ} {a z : Signed} → Compared fascn own-fascn own own_at block at a → Compared fascn own-fascn own own_at block at z → a ≡ z
compared-once (other n e) (other m f) = e ∙ sym f
compared-once (other n e) (same q x) = absurd (n q)
compared-once (same q x) (other n e) = absurd (n q)
compared-once (same q x) (same r y) = in-blocks-once x y

-- of the same it says the same
moved : {f g v u f' g' v' u' : List ℕ} {m n m' n' : ℕ} {a : Signed} → f ≡ f' → g ≡ g' → v ≡ v' → m ≡ m' → u ≡ u' → n ≡ n' → Compared f g v m u n a → Compared f' g' v' m' u' n' a
moved e₁ e₂ e₃ e₄ e₅ e₆ c = rw (e₁, e₂, e₃, e₄, e₅, e₆) at c

-- ---- the whole

module _ {kind today : ℕ} {chuid biometric : List ℕ} (b : Bytes chuid) (d : Bytes biometric) where
  both-once : {f u g v f' u' g' v' : List ℕ} {n m n' m' : ℕ} {a z : Signed} → Chuid today chuid f u n → Biometric kind today biometric g v m → Compared f g v m u n a
      → Chuid today chuid f' u' n' → Biometric kind today biometric g' v' m' → Compared f' g' v' m' u' n' z → a ≡ z
  both-once x y p x' y' q =
      compared-once
      (moved (one_value b x.fascn_is x'.fascn_is) (one-fascn d y y') (one-own d y y') (one-own-at d y y') (one_value b x.block_is x'.block_is) (one_place b x.block_is x'.block_is) p)
      q

  pub says-once : {a z : Signed} → Says kind today chuid biometric a → Says kind today chuid biometric z → a ≡ z
  says-once (no_biometric n e) (no_biometric m f) = e ∙ sym f
  says-once (no_biometric n e) (chuid_breaks k g m f) = absurd (n k)
  says-once (no_biometric n e) (biometric_breaks k vs h g m f) = absurd (n k)
  says-once (no_biometric n e) (both_conform k _ _ _ _ _ _ x y q) = absurd (n k)
  says-once (chuid_breaks k f n e) (no_biometric m g) = absurd (m k)
  says-once (chuid_breaks k f n e) (chuid_breaks l g m h) = e ∙ ap (refusal 1) (one-finding b n m) ∙ sym h
  says-once (chuid_breaks k f n e) (biometric_breaks l vs h g m i) = absurd (not_named b n h)
  says-once (chuid_breaks k f n e) (both_conform l _ _ _ _ _ _ x y q) = absurd (not_named b n x.block_is.conforms)
  says-once (biometric_breaks k vs h f n e) (no_biometric m g) = absurd (m k)
  says-once (biometric_breaks k vs h f n e) (chuid_breaks l g m i) = absurd (not_named b m h)
  says-once (biometric_breaks k vs h f n e) (biometric_breaks l ws i g m j) = e ∙ ap (refusal 2) (one-finding d n m) ∙ sym j
  says-once (biometric_breaks k vs h f n e) (both_conform l _ _ _ _ _ _ x y q) = absurd (not_named d n y.value_is.conforms)
  says-once (both_conform k _ _ _ _ _ _ x y q) (no_biometric m g) = absurd (m k)
  says-once (both_conform k _ _ _ _ _ _ x y q) (chuid_breaks l g m i) = absurd (not_named b m x.block_is.conforms)
  says-once (both_conform k _ _ _ _ _ _ x y q) (biometric_breaks l ws i g m j) = absurd (not_named d m y.value_is.conforms)
  says-once (both_conform k _ _ _ _ _ _ x y p) (both_conform l _ _ _ _ _ _ u v q) = both-once x y p u v q
