-- What a map has of the row of a tag. Nothing of 01 is said here.
use Rattle.std.specs.Prelude.{ℕ, ◌-◌, cond, List, eqb, get_or, Option, Some, None}
use Rattle.std.specs.declared.ops.Range.{Range}
use Rattle.kinds.specs.declared.Row.{Row}
use Rattle.container.specs.Spans.{absent}
use Rattle.container.specs.declared.rows.Span.{Span}

-- where a row's value lies, if it is there
abbrev pub range_of : Span → Option (Range ℕ)
range_of s = cond (eqb s.to 0) None (Some (record { start = s.from; end = s.to }))

abbrev pub by_map : Option Row → List Span → Option (Range ℕ)
by_map None rows = None
by_map (Some r) rows = range_of (get_or rows (r.index - 1) absent)
