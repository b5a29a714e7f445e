-- `by_table::look_up` meets its contract. Assumes nothing.
use native.Mathlib.Nat.{div-one}
use Rattle.laws.specs.Digits.{digits, groups}
use Rattle.laws.specs.Layout.{field}
use Rattle.by_table.proofs.look_up.Goals as goal

pub returns : goal.returns
unfolding digits groups
returns c =
    let s = c.args.s.now in
    rw (
      c.pair_in.ensures,
      c.pair_in-2.ensures,
      c.pair_in-3.ensures,
      c.pair_in-4.ensures,
      c.pair_in-5.ensures,
      c.pair_in-6.ensures,
      c.pair_in-7.ensures,
      c.pair_in-8.ensures,
      c.pair_in-9.ensures,
      c.pair_in-10.ensures,
      c.pair_in-11.ensures,
      c.pair_in-12.ensures,
      c.pair_in-13.ensures,
      c.pair_in-14.ensures,
      c.pair_in-15.ensures,
      c.pair_in-16.ensures,
      c.pair_in-17.ensures,
      c.pair_in-18.ensures,
      c.pair_in-19.ensures,
      c.pair_in-20.ensures,
      c.number-a.ensures.0,
      c.number-b.ensures.0,
      c.number-c.ensures.0,
      c.number-d.ensures.0,
      c.number-e.ensures.0,
      div-one (field s 0 5),
      div-one (field s 5 5),
      div-one (field s 10 5),
      div-one (field s 15 5),
      div-one (field s 20 5),
    )
