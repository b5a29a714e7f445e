-- `capi::prosianek_check` meets its contract: the verdict is stored part by part. Assumes nothing.
use Rattle.capi.proofs.prosianek_check.Goals as goal

pub returns : goal.returns
returns c = record {
  there = c.check-checked.result.verdict.tag;
  tag_is = c.told.ensures.tag;
  answers = rw (c.told.ensures.number, c.told.ensures.place) c.check-checked.ensures;
}
