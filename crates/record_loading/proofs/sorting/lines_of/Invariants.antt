use Rattle.std.proofs.Common.{◌≡◌, length}
use Rattle.record_loading.specs.LineForm.{line_form}
use Rattle.record_loading.proofs.SortedTextLemmas.{LeadTo}
use Rattle.record_loading.proofs.sorting.lines_of.Given as goal

-- the first lines were read
abbrev pub invariant-more : goal.invariant-more
invariant-more l =
    (length l.area.items ≡ l.fn.schema.greatest)
    × LeadTo l.fn.schema (line_form l.fn.form l.fn.options) l.lines.items l.fn.text l.rest

abbrev pub decreases-more : goal.decreases-more
decreases-more l = length l.rest
