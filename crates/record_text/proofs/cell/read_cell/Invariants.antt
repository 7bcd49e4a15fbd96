use Rattle.std.proofs.Common.{◌-◌}
use Rattle.record_text.proofs.CellLemmas.{IsReadUpTo}
use Rattle.record_text.proofs.cell.read_cell.Given as goal

-- the first bytes were read
abbrev pub invariant-more : goal.invariant-more
invariant-more l = IsReadUpTo l.fn.quoting l.fn.text l.fn.area l.fn.from l.fn.to l.area l.at l.rest

abbrev pub decreases-more : goal.decreases-more
decreases-more l = l.fn.to - l.at
