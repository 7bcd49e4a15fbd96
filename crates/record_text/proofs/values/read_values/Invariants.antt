use Rattle.std.proofs.Common.{length, take}
use Rattle.record_text.proofs.ValuesLemmas.{AreReadUpTo}
use Rattle.record_text.proofs.ColumnLemmas.{IsBehind}
use Rattle.record_text.proofs.values.read_values.Given as goal

-- the values of the first columns were read, and they stand before the text that is left
abbrev pub invariant-more : goal.invariant-more
invariant-more l = record {
  read : AreReadUpTo l.fn.quoting l.fn.columns l.fn.text l.fn.area l.is_first l.left l.area l.at l.rest;
  behind : IsBehind l.fn.quoting l.fn.columns l.fn.text l.is_first l.left (take l.at l.area) l.rest;
}

abbrev pub decreases-more : goal.decreases-more
decreases-more l = length l.left
