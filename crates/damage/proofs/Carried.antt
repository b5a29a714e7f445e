-- Damage in the FASC-N that a container carries, in a CHUID or in a biometric's header, is the first broken rule of the container: 17, at the element. Assumes nothing.
use Prim.Native.Nat.{ℕ, ◌+◌, ◌≤◌}
use mathlib.Core.Path.{◌≡◌, refl, sym, ap, ◌∙◌}
use mathlib.Core.Logic.{inl, inr}
use mathlib.Core.Bool.{false}
use mathlib.Core.List.{List, ◌++◌}
use native.Mathlib.Omega.{arith}
use lib.ListN.{length, take, drop, get_or, length-append, length-drop}
use lib.Seq.{length-take-le, take-take, get_or-take, take_at, drop_at}
use Rattle.laws.specs.Bytes.{Bytes}
use Rattle.laws.specs.Layout.{part}
use Rattle.laws.specs.Format.{FirstBroken, breaks, judge}
use Rattle.laws.proofs.Bases.{below-take, below-drop}
use Rattle.laws.proofs.Cases.{not_so}
use Rattle.laws.proofs.Formats.{kept_if}
use Rattle.laws.proofs.Layouts.{part-long, part-part, same-part}
use Rattle.verdicts.specs.Verdicts.{found}
use Rattle.verdicts.specs.declared.Fault.TheVariants.{BadHeader, BadFascn}
use Rattle.kinds.specs.Tables.{table}
use Rattle.kinds.specs.declared.ValueRule.{ValueRule}
use Rattle.kinds.specs.declared.ValueRule.TheVariants.{Fascn, Fingers, Face, Iris}
use Rattle.rules.specs.Rules.{Keeps, Violates}
use Rattle.fascn.specs.Fascn.{IsFascn}
use Rattle.fascn.specs.Reading.{is_fascn}
use Rattle.fascn.proofs.Packing.{fascn-long}
use Rattle.fascn.proofs.Codec.{fascn-exact}
use Rattle.cbeff.specs.Header as header
use Rattle.cbeff.specs.Judged.{sizes_hold, dates_hold, form_holds, opens}
use Rattle.cbeff.specs.declared.Biometric.{Biometric}
use Rattle.cbeff.proofs.Exact.{biometric-exact, first-broken-exact, least, fascn-inside}
use Rattle.cbeff.proofs.Told.{after, header-told}
use Rattle.container.specs.InOrder.{Named}
use Rattle.views.specs.Views.{element_place}
use Rattle.signer.specs.Signer.{Element, IsBiometric}
use Rattle.signer.proofs.Elements.{within}
use Rattle.damage.specs.Damage.{six, Damaged, DamagedIn}
use Rattle.damage.proofs.Refused.{damage-refused}
use Rattle.damage.proofs.Spoiled.{Ruled, kept_rule, spoiled}
use Rattle.std.specs.Prelude.{Some}

-- ---- the damaged FASC-N in the place of the other

pub put_in_place : (c f t : List ℕ) (at : ℕ) → at + 25 ≤ length c → Damaged six f t → DamagedIn c (take at c ++ (t ++ drop (at + 25) c)) f at
put_in_place c f t at h d =
    let q : List ℕ = t ++ drop (at + 25) c in
    let n : length (take at c) ≡ at = length-take-le at c (omega arith) in
    let p : part (take at c ++ q) at 25 ≡ t = rw (drop_at (take at c) q at n) (take_at t (drop (at + 25) c) 25 d.long) in
    record {
      as_long = omega (arith, h, n, d.long, length-append (take at c) q, length-append t (drop (at + 25) c), length-drop (at + 25) c);
      same_before = take_at (take at c) q at n;
      damaged = rw p d;
    }

-- ---- a CHUID

chuid-ruled : Ruled 0x30 Fascn (table 2)
chuid-ruled = (tt, (refl, (tt, (tt, (tt, (tt, (tt, (tt, (tt, tt)))))))))

pub chuid-damaged : {today : ℕ} {c d f : List ℕ} {at : ℕ} → Bytes c → (x : Element 2 today c 0x30 f at) → DamagedIn c d f at
    → Named 2 today d (found BadFascn (element_place 2 x.values x.conforms.forms x.row) (Some 0x30))
chuid-damaged {d = d} {f = f} {at = at} b x g =
    let k : IsFascn f = kept_rule b x Fascn chuid-ruled in
    spoiled b x Fascn chuid-ruled d g.as_long g.same_before BadFascn
    (rw (fascn-long f k) (λ z. damage-refused f (part d at 25) k g.damaged z, refl))

-- ---- a header: up to the FASC-N it is judged by the first 59 bytes and the length

module _ (v w : List ℕ) (l : length w ≡ length v) (e : take 59 w ≡ take 59 v) where
  same-40 : get_or w 40 0 ≡ get_or v 40 0
  same-40 = sym (get_or-take 59 w 40 0 (omega arith)) ∙ ap (λ (s : List ℕ). get_or s 40 0) e ∙ get_or-take 59 v 40 0 (omega arith)

  same-opens : (b : Biometric) → opens b w ≡ opens b v
  unfolding sizes_hold dates_hold form_holds
  same-opens b =
      let p : (at k : ℕ) → at + k ≤ 59 → part w at k ≡ part v at k = λ at k h. same-part w v 59 at k h e in
      rw (p 0 1 (omega arith), p 1 1 (omega arith), p 2 4 (omega arith), p 6 2 (omega arith), p 8 2 (omega arith), p 10 2 (omega arith), p 12 8 (omega arith), p 20 8 (omega arith), p 28 8 (omega arith), p 36 3 (omega arith), p 39 1 (omega arith), p 41 18 (omega arith), same-40, l)

  fascn-broken : (b : Biometric) → Bytes v → Bytes w → header.IsBiometric b v → (IsFascn (part w 59 25) → ⊥) → FirstBroken (header.header b (length w)) w BadFascn
  fascn-broken b h g k n =
      let m : 88 ≤ length v = omega (arith, least b v k) in
      let o = (kept_if (opens b v) (after b v) BadHeader (sym (header-told b v m) ∙ (biometric-exact b v h).1 k)).0 in
      let z : is_fascn (part w 59 25) ≡ false = not_so (is_fascn (part w 59 25)) (λ t. n ((fascn-exact (part w 59 25) (below-take 256 25 (drop 59 w) (below-drop 256 59 w g))).0 t)) in
      let j : judge (header.header b (length w)) 0 w ≡ breaks BadFascn = header-told b w (omega arith) ∙ rw (same-opens b, o, z) in
      (first-broken-exact b w g BadFascn).0 j

-- of any kind whose row BC has the rule of this format
module _ {kind today : ℕ} {c d v : List ℕ} {start : ℕ} (b : Bytes c) (g : Bytes d) (x : Element kind today c 0xBC v start) (h : DamagedIn c d (part v 59 25) (start + 59)) where
  abbrev Refused : Type 0
  Refused = Named kind today d (found BadFascn (element_place kind x.values x.conforms.forms x.row) (Some 0xBC))

  in-format : (rule : ValueRule) (m : Biometric) → Ruled 0xBC rule (table kind) → (Keeps rule today v → header.IsBiometric m v)
      → ((w : List ℕ) → FirstBroken (header.header m (length w)) w BadFascn → Violates rule today w BadFascn) → Refused
  in-format rule m ruled keeps breaks-it =
      let w : List ℕ = part d start (length v) in
      let k = keeps (kept_rule b x rule ruled) in
      let (i, e) = within b x in
      let l : length w ≡ length v = part-long d start (length v) (omega (arith, h.as_long)) in
      let n : 59 + 25 ≤ length v = omega (arith, least m v k) in
      let bv : Bytes v = rw e at (below-take 256 (length v) (drop start c) (below-drop 256 start c b)) in
      let p : part w 59 25 ≡ part d (start + 59) 25 = part-part d start (length v) 59 25 n in
      let q : take start d ≡ take start c = sym (take-take start (start + 59) d (omega arith)) ∙ ap (take start) h.same_before ∙ take-take start (start + 59) c (omega arith) in
      let a : take 59 w ≡ take 59 (take (length v) (drop start c)) =
      take-take 59 (length v) (drop start d) (omega arith) ∙ same-part d c (start + 59) start 59 (omega arith) h.same_before
      ∙ sym (take-take 59 (length v) (drop start c) (omega arith)) in
      let f : FirstBroken (header.header m (length w)) w BadFascn =
      fascn-broken v w l (a ∙ ap (take 59) e) m bv (below-take 256 (length v) (drop start d) (below-drop 256 start d g)) k
      (λ z. damage-refused (part v 59 25) (part d (start + 59) 25) (fascn-inside m v bv k) h.damaged (rw p at z))
      in
      spoiled b x rule ruled d h.as_long q BadFascn (breaks-it w f)

  pub header-damaged : IsBiometric kind → Refused
  header-damaged (inl e) = in-format Fingers header.fingers (rw e (refl, (tt, tt))) (λ y. y) (λ w y. y)
  header-damaged (inr (inl e)) = in-format Face header.face (rw e (refl, (tt, tt))) (λ y. y) (λ w y. y)
  header-damaged (inr (inr e)) = in-format Iris header.iris (rw e (refl, (tt, tt))) (λ y. y) (λ w y. y)
