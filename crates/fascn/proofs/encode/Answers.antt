-- `fascn::encode` meets its contract: a law for each way out. Assumes nothing.
use Rattle.std.proofs.Common.{rules}
use Rattle.laws.specs.Room.{Put}
use Rattle.fascn.specs.Fascn.{encoded}
use Rattle.fascn.proofs.Answers.{encodes-7, encodes-3, encodes-0}
use Rattle.fascn.proofs.encode.Goals as goal

pub returns-then-long : goal.returns-then-long
returns-then-long c =
    let a = c.args in
    encodes-7 a.numbers a.room.now c.clear.ensures (search rules)

pub returns-then-small : goal.returns-then-small
returns-then-small c =
    let a = c.args in
    encodes-3 a.numbers a.room.now c.clear.ensures (search rules) (search rules)

pub returns : goal.returns
returns c =
    let a = c.args in
    let put : Put (encoded a.numbers) c.clear.new.out c.put_all.new.out c.put_all.result = search rules in
    encodes-0 a.numbers a.room.now c.clear.ensures (search rules) (search rules) put
