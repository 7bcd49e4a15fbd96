use Rattle.std.proofs.Common.{[]}
use Rattle.salvaged_records.proofs.doubling.doubled_of.Goals as goal

pub returns-clause-doubled : goal.returns-clause-doubled
returns-clause-doubled g c = λ list has.
    ((c.in_ok-visit_all.ensures.taken list has).noted [] c.no_values.ensures.values c.no_values-2.ensures.doubles).1
