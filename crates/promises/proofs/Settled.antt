-- Any two results that satisfy a call's contract are equal. Assumes nothing.
use Prim.Native.Nat.{ℕ}
use mathlib.Core.Path.{◌≡◌, sym, ap, ◌∙◌}
use mathlib.Core.List.{List, [], ◌∷◌}
use lib.ListN.{length}
use Rattle.laws.proofs.Layouts.{by_entries}
use Rattle.fascn.specs.declared.Numbers.{Numbers}
use Rattle.fascn.specs.declared.Decoded.{Decoded}
use Rattle.verdicts.specs.Verdicts.{Tag, tag_number}
use Rattle.verdicts.specs.declared.Done.{Done}
use Rattle.verdicts.proofs.Outputs.{settled as settled-output}
use Rattle.sheet.specs.declared.Checked.{Checked}
use Rattle.writing.proofs.Calls.{leaves}
use Rattle.prosianek.proofs.Checking.{only}
use Rattle.prosianek.proofs.Decoding.{decoded-once}
use Rattle.prosianek.proofs.ByTable.{read-once}
use Rattle.capi.specs.Calls.{numbers_of}
use Rattle.capi.specs.Folder.{state_of}
use Rattle.points.specs.declared.Listed.{Listed}
use Rattle.promises.specs.Demands.{Settled, SettledForC}
use Rattle.laws.specs.Room.{filled}
use Rattle.pieces.specs.declared.State.{State}
use Rattle.summary.specs.Rows.{row_of, rowed_of, line_of}
use Rattle.summary.specs.declared.Rowed.{Rowed}
use Rattle.signer.specs.Signer.{Signed}
use Rattle.signer.proofs.Once.{says-once}
use Rattle.promises.proofs.Listing.{lists-once, points-once}
use Rattle.promises.proofs.Signing.{signer-once}

pub settled : Settled
settled = record {
  one_check = λ kind today c before₁ before₂ after₁ after₂ r₁ r₂ b h x y.
      let (a, z) = only b x in
      let (e, w) = only b y in
      (a ∙ rw h (sym e), z ∙ rw h (sym w));
  one_write = λ kind today s before₁ before₂ after₁ after₂ r₁ r₂ y h a b. settled-output _ before₁ before₂ h (leaves y a.puts) (rw h (leaves y b.puts));
  one_view = λ kind today c element at n₁ n₂ p₁ p₂ t₁ t₂ part₁ part₂ bytes₁ bytes₂ a b. (
    a.shows.number_is ∙ sym b.shows.number_is,
    a.shows.place_is ∙ sym b.shows.place_is,
    a.shows.tag_is ∙ sym b.shows.tag_is,
    λ i. ((a.shows.block_is ∙ sym b.shows.block_is) i, (a.shows.offset_is ∙ sym b.shows.offset_is) i),
    a.shows.bytes_are ∙ sym b.shows.bytes_are,
  );
  one_report = λ kind today c before₁ before₂ after₁ after₂ r₁ r₂ h a b. settled-output _ before₁ before₂ h a.leaves (rw h b.leaves);
  one_lists = λ today c before₁ before₂ after₁ after₂ r₁ r₂ y e a b. lists-once y before₁ before₂ after₁ after₂ r₁ r₂ e a.fills b.fills;
  one_points = λ today c before₁ before₂ after₁ after₂ r₁ r₂ y e a b. points-once y before₁ before₂ after₁ after₂ r₁ r₂ e a.fills b.fills;
  one_signer = λ kind today chuid biometric at own_at n₁ n₂ p₁ p₂ t₁ t₂ w₁ w₂ part₁ part₂ bytes₁ bytes₂ y z. signer-once y z;
  one_decode = λ s r₁ r₂. decoded-once s;
  one_decode_by_table = λ bytes before₁ before₂ after₁ after₂ n₁ n₂. read-once bytes;
  one_encode = λ n before₁ before₂ after₁ after₂ k₁ k₂ h a b. (
    a.leaves.answer ∙ rw h (sym b.leaves.answer),
    a.leaves.room ∙ rw h (sym b.leaves.room),
  );
  one_step = λ s piece r₁ r₂ a b. a.goes_on ∙ sym b.goes_on;
  one_end = λ today s n₁ n₂ a b. a.answer ∙ sym b.answer;
  one_row = λ today kind offset size c t before₁ before₂ after₁ after₂ r₁ r₂ h a b. (
    a.answers.answer ∙ ap (λ (n : ℕ). rowed_of t (row_of today kind offset size c t n)) h ∙ sym b.answers.answer,
    a.answers.room ∙ ap (λ (n : ℕ). filled (line_of (row_of today kind offset size c t n)) n) h ∙ sym b.answers.room,
  );
  one_last = λ good agreement before₁ before₂ after₁ after₂ r₁ r₂ h a b. settled-output _ before₁ before₂ h a.leaves (rw h b.leaves);
}

-- ---- the functions for C

-- two numbers that tell one tag
same_tag : {t₁ t₂ : ℕ} {g h : Tag} → t₁ ≡ tag_number g → t₂ ≡ tag_number h → g ≡ h → t₁ ≡ t₂
same_tag p q e = p ∙ ap tag_number e ∙ sym q

-- nine numbers are the list that they were taken from
entries_of : Numbers → List ℕ
entries_of n = n.agency ∷ n.system ∷ n.credential ∷ n.series ∷ n.issue ∷ n.person ∷ n.category ∷ n.organisation ∷ n.association ∷ []

nine-of : (l m : List ℕ) → length l ≡ 9 → length m ≡ 9 → numbers_of l ≡ numbers_of m → l ≡ m
unfolding entries_of
nine-of l m h k e = by_entries 9 l h ∙ ap entries_of e ∙ sym (by_entries 9 m k)

-- and three
three_of : State → List ℕ
three_of s = s.phase ∷ s.value ∷ s.left ∷ []

three-of : (l m : List ℕ) → length l ≡ 3 → length m ≡ 3 → state_of l ≡ state_of m → l ≡ m
unfolding three_of
three-of l m h k e = by_entries 3 l h ∙ ap three_of e ∙ sym (by_entries 3 m k)

pub settled-for-c : SettledForC
settled-for-c = record {
  one_check = λ kind today c before₁ before₂ after₁ after₂ n₁ n₂ p₁ p₂ t₁ t₂ m₁ m₂ l₁ l₂ y h a b.
      let (e, f) = settled.one_check kind today c before₁ before₂ after₁ after₂ _ _ y h a.answers b.answers in (
        ap (λ (r : Checked). r.verdict.number) e,
        ap (λ (r : Checked). r.verdict.place) e,
        same_tag a.tag_is b.tag_is (ap (λ (r : Checked). r.verdict.tag) e),
        ap (λ (r : Checked). r.room) e,
        ap (λ (r : Checked). r.length) e,
        f,
      );
  one_write = λ kind today s before₁ before₂ after₁ after₂ n₁ n₂ p₁ p₂ t₁ t₂ l₁ l₂ y h a b.
      let (e, f) = settled.one_write kind today s before₁ before₂ after₁ after₂ _ _ y h a.answers b.answers in (
        ap (λ (d : Done). d.number) e,
        ap (λ (d : Done). d.place) e,
        same_tag a.tag_is b.tag_is (ap (λ (d : Done). d.tag) e),
        ap (λ (d : Done). d.length) e,
        f,
      );
  one_view = λ kind today c element n₁ n₂ p₁ p₂ t₁ t₂ o₁ o₂ l₁ l₂ a b. (
    a.number_is ∙ sym b.number_is,
    a.place_is ∙ sym b.place_is,
    a.tag_is ∙ sym b.tag_is,
    a.offset_is ∙ sym b.offset_is,
    a.size_is ∙ sym b.size_is,
  );
  one_report = λ kind today c before₁ before₂ after₁ after₂ n₁ n₂ l₁ l₂ h a b.
      let (e, f) = settled.one_report kind today c before₁ before₂ after₁ after₂ _ _ h a.answers b.answers in
      (ap (λ (d : Done). d.number) e, ap (λ (d : Done). d.length) e, f);
  one_lists = λ today c before₁ before₂ after₁ after₂ n₁ n₂ p₁ p₂ t₁ t₂ f₁ f₂ s₁ s₂ y h a b.
      let (e, f) = settled.one_lists today c before₁ before₂ after₁ after₂ _ _ y h a.answers b.answers in (
        ap (λ (r : Listed). r.verdict.number) e,
        ap (λ (r : Listed). r.verdict.place) e,
        same_tag a.tag_is b.tag_is (ap (λ (r : Listed). r.verdict.tag) e),
        ap (λ (r : Listed). r.first) e,
        ap (λ (r : Listed). r.second) e,
        f,
      );
  one_signer = λ kind today chuid biometric n₁ n₂ p₁ p₂ t₁ t₂ w₁ w₂ o₁ o₂ l₁ l₂ y z a b.
      let e = says-once y z a.says b.says in (
        a.number_is ∙ ap (λ (s : Signed). s.verdict.number) e ∙ sym b.number_is,
        a.place_is ∙ ap (λ (s : Signed). s.verdict.place) e ∙ sym b.place_is,
        same_tag a.tag_is b.tag_is (ap (λ (s : Signed). s.verdict.tag) e),
        a.which_is ∙ ap (λ (s : Signed). s.which) e ∙ sym b.which_is,
        a.offset_is ∙ ap (λ (s : Signed). s.offset) e ∙ sym b.offset_is,
        a.size_is ∙ ap (λ (s : Signed). length s.bytes) e ∙ sym b.size_is,
      );
  one_decode = λ s n₁ n₂ nine₁ nine₂ x y.
      let e = decoded-once s x.answers y.answers in
      (ap (λ (d : Decoded). d.number) e, nine-of nine₁ nine₂ x.nine y.nine (ap (λ (d : Decoded). d.numbers) e));
  one_decode_by_table = λ bytes before₁ before₂ after₁ after₂ n₁ n₂ h a b. read-once bytes h a.answers b.answers;
  one_encode = λ nine before₁ before₂ after₁ after₂ n₁ n₂ h a b.
      settled.one_encode (numbers_of nine) before₁ before₂ after₁ after₂ n₁ n₂ h a.answers b.answers;
  one_step = λ before piece after₁ after₂ a b. three-of after₁ after₂ a.three b.three (a.answers.goes_on ∙ sym b.answers.goes_on);
  one_end = λ today state n₁ n₂ a b. a.answers.answer ∙ sym b.answers.answer;
  one_row = λ today kind offset size c good agreement fascn before₁ before₂ after₁ after₂ g₁ g₂ a₁ a₂ f₁ f₂ n₁ n₂ l₁ l₂ h a b.
      let (e, f) = settled.one_row today kind offset size c _ before₁ before₂ after₁ after₂ _ _ h a.answers b.answers in (
        ap (λ (r : Rowed). r.number) e,
        ap (λ (r : Rowed). r.length) e,
        ap (λ (r : Rowed). r.tally.good) e,
        ap (λ (r : Rowed). r.tally.agreement) e,
        ap (λ (r : Rowed). r.tally.fascn) e,
        f,
      );
  one_last = λ good agreement before₁ before₂ after₁ after₂ n₁ n₂ l₁ l₂ h a b.
      let (e, f) = settled.one_last good agreement before₁ before₂ after₁ after₂ _ _ h a.answers b.answers in (
        a.number_is ∙ ap (λ (d : Done). d.number) e ∙ sym b.number_is,
        a.size_is ∙ ap (λ (d : Done). d.length) e ∙ sym b.size_is,
        f,
      );
}
