-- `signer::in_blocks` meets its contract: a law for each way out. Assumes nothing.
use Rattle.blocks.specs.Reading.{Reads}
use Rattle.std.specs.Prelude.{Some, None, Ok}
use Rattle.signer.proofs.Ways.{within, out_29, out_own, out_30, out_31, out_block}
use Rattle.signer.proofs.in_blocks.Goals as goal
use Rattle.signer.proofs.in_blocks.Goals.{In-Ok-Some, In-Ok-None, In-Ok-Some-read, In-Ok-None-read}

own_some : (c : In-Ok-Some) → Reads c.args.own.bytes.now (Ok (Some c.in-Ok-Some.part))
own_some c = rw c.in-Ok-Some.field-0-is at c.in-Ok-Some.ensures

own_none : (c : In-Ok-None) → Reads c.args.own.bytes.now (Ok None)
own_none c = rw c.in-Ok-None.field-0-is at c.in-Ok-None.ensures

block_some : (c : In-Ok-Some-read) → Reads c.args.block.bytes.now (Ok (Some c.in-Ok-Some-read.part))
block_some c = rw c.in-Ok-Some-read.field-0-is at c.in-Ok-Some-read.ensures

block_none : (c : In-Ok-None-read) → Reads c.args.block.bytes.now (Ok None)
block_none c = rw c.in-Ok-None-read.field-0-is at c.in-Ok-None-read.ensures

pub found-requires : goal.found-requires
found-requires c = within c.args.own.bytes.now c.args.own.at c.args.own.small (own_some c)

pub found-requires-in-Ok-Some-read : goal.found-requires-in-Ok-Some-read
found-requires-in-Ok-Some-read c = within c.args.block.bytes.now c.args.block.at c.args.block.small (block_some c)

pub returns-in-Err : goal.returns-in-Err
returns-in-Err c = let a = c.args in rw c.into.ensures (out_29 a.own.bytes.now a.own.at a.block.bytes.now a.block.at c.in-Err.ensures)

pub returns-in-Ok-Some : goal.returns-in-Ok-Some
returns-in-Ok-Some c =
    let a = c.args in
    rw c.found.ensures (out_own a.own.bytes.now a.own.at a.block.bytes.now a.block.at (own_some (goal.at.returns-in-Ok-Some c).In-Ok-Some))

pub returns-in-Err-read : goal.returns-in-Err-read
returns-in-Err-read c =
    let a = c.args in
    rw c.into-in-Err-read.ensures (out_30 a.own.bytes.now a.own.at a.block.bytes.now a.block.at (own_none (goal.at.returns-in-Err-read c).In-Ok-None) c.in-Err-read.ensures)

pub returns-in-Ok-Some-read : goal.returns-in-Ok-Some-read
returns-in-Ok-Some-read c =
    let a = c.args in
    rw c.found-in-Ok-Some-read.ensures
    (out_block a.own.bytes.now a.own.at a.block.bytes.now a.block.at (own_none (goal.at.returns-in-Ok-Some-read c).In-Ok-None) (block_some (goal.at.returns-in-Ok-Some-read c).In-Ok-Some-read))

pub returns-in-Ok-None-read : goal.returns-in-Ok-None-read
returns-in-Ok-None-read c =
    let a = c.args in
    rw c.into-in-Ok-None-read.ensures
    (out_31 a.own.bytes.now a.own.at a.block.bytes.now a.block.at (own_none (goal.at.returns-in-Ok-None-read c).In-Ok-None) (block_none (goal.at.returns-in-Ok-None-read c).In-Ok-None-read))
