-- `rules::judge` meets its contract: the arms of the biometric records. Assumes nothing.
use Rattle.laws.proofs.Turns.{rest}
use Rattle.rules.specs.Rules.{rule_of}
use Rattle.rules.proofs.judge.Goals as goal

pub returns-in-Fingers : goal.returns-in-Fingers
unfolding rule_of
returns-in-Fingers c =
    rw (c.judge-answer.ensures, rest c.args.v.now 0, c.fingers.ensures, c.in-Fingers.is)

pub returns-in-Face : goal.returns-in-Face
unfolding rule_of
returns-in-Face c =
    rw (c.judge-answer-in-Face.ensures, rest c.args.v.now 0, c.face.ensures, c.in-Face.is)

pub returns-in-Iris : goal.returns-in-Iris
unfolding rule_of
returns-in-Iris c =
    rw (c.judge-answer-in-Iris.ensures, rest c.args.v.now 0, c.iris.ensures, c.in-Iris.is)
