use Rattle.std.proofs.Common.{length}
use Rattle.record_text.proofs.ColumnLemmas.{IsSearched}
use Rattle.record_text.proofs.short.short_column.Given as goal

-- the record goes on behind the first columns
abbrev pub invariant-more : goal.invariant-more
invariant-more l = IsSearched l.fn.columns l.fn.length l.left

abbrev pub decreases-more : goal.decreases-more
decreases-more l = length l.left
