-- `capi::prosianek_view` meets its contract: the numbers are those of the verdict and of the part. Assumes nothing.
use mathlib.Core.Path.{ap, ◌∙◌}
use borrow.Author.Rules.{rules}
use Rattle.verdicts.specs.Verdicts.{tag_number}
use Rattle.verdicts.specs.declared.Verdict.{Verdict}
use Rattle.capi.proofs.prosianek_view.Goals as goal

pub returns : goal.returns
returns c =
    let l = c.locate.ensures in
    let t = c.told.ensures in
    let v = t.0 ∙ l.verdict_is in
    let s = t.1 ∙ l.from_is in
    let e = t.2 ∙ l.to_is in
    record {
      number_is = c.told-2.ensures.number ∙ ap (λ (v : Verdict). v.number) v;
      place_is = c.told-2.ensures.place ∙ ap (λ (v : Verdict). v.place) v;
      tag_is = c.told-2.ensures.tag ∙ ap (λ (v : Verdict). tag_number v.tag) v;
      offset_is = s;
      size_is = rw (s, e) (search rules);
    }
