-- `capi::prosianek_signer` meets its contract: the numbers are those of the verdict and of the part. Assumes nothing.
use mathlib.Core.Path.{ap, ◌∙◌}
use native.Mathlib.Nat.{add-sub_cancel_left}
use Rattle.verdicts.specs.Verdicts.{tag_number}
use Rattle.verdicts.specs.declared.Verdict.{Verdict}
use Rattle.signer.specs.Locating.{Located}
use Rattle.signer.proofs.Handing.{ordered}
use Rattle.capi.proofs.prosianek_signer.Goals as goal

pub overflow_sub-length : goal.overflow_sub-length
overflow_sub-length c = rw (c.told-holder.ensures.part.0, c.told-holder.ensures.part.1) (ordered c.locate.ensures)

pub returns : goal.returns
returns c =
    let l = c.locate.ensures in
    let t = c.told-holder.ensures in
    let v = t.verdict ∙ ap (λ (x : Located). x.verdict) l.is in
    let s = t.part.0 ∙ ap (λ (x : Located). x.from) l.is in
    let e = t.part.1 ∙ ap (λ (x : Located). x.to) l.is in
    record {
      signed = l.signed;
      says = l.says;
      number_is = c.told.ensures.number ∙ ap (λ (v : Verdict). v.number) v;
      place_is = c.told.ensures.place ∙ ap (λ (v : Verdict). v.place) v;
      tag_is = c.told.ensures.tag ∙ ap (λ (v : Verdict). tag_number v.tag) v;
      which_is = t.which ∙ ap (λ (x : Located). x.which) l.is;
      offset_is = s;
      size_is = rw (s, e, add-sub_cancel_left);
    }
