use Rattle.std.proofs.Common.{◌≡◌, ◌≤◌, ◌+◌, ◌++◌, map, length}
use Rattle.record_text.specs.Parts.{part_of_column, cut_parts, do_rise}
use Rattle.record_text.proofs.cuts.cut_columns.Given as goal

-- the columns up to the last cut so far
abbrev pub invariant-more : goal.invariant-more
invariant-more l = record {
  columns : cut_parts 1 0 l.fn.cuts ≡ map part_of_column l.columns.items ++ cut_parts l.n l.from l.rest;
  rise : do_rise 0 l.fn.cuts ≡ do_rise l.from l.rest;
  few : l.n ≤ l.from + 1;
}

abbrev pub decreases-more : goal.decreases-more
decreases-more l = length l.rest
