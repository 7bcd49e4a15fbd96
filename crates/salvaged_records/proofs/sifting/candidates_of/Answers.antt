use Rattle.std.proofs.Common.{[]}
use Rattle.salvaged_records.proofs.SiftLemmas.{none_sifted}
use Rattle.salvaged_records.proofs.sifting.candidates_of.Goals as goal

pub returns-clause-found : goal.returns-clause-found
returns-clause-found g c = λ list has.
    ((c.in_ok-visit_all.ensures.taken list has).sifted [] (none_sifted c.in_ok-for_pages.field-0.words.items c.no_values.result)).found
