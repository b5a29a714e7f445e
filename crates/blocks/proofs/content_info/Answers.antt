-- `blocks::content_info` meets its contract: another identifier. Assumes nothing.
use Rattle.std.proofs.Common.{refl}
use Rattle.blocks.specs.Reading.{content_info}
use Rattle.blocks.proofs.content_info.Goals as goal

pub returns-then-not-same : goal.returns-then-not-same
unfolding content_info
returns-then-not-same c = rw (c.in_ok-info.ensures.is, c.in_ok-id.ensures.is, ← c.same.ensures, c.if-not-same.true) refl
