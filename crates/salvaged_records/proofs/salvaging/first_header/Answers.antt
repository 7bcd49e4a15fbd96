use Rattle.std.proofs.Common.{ℕ, List, Option, Bor, ap, sym, ◌∙◌}
use Rattle.std.specs.Option.{option_copied}
use Rattle.salvaged_records.proofs.SalvageLemmas.{header_of_all}
use Rattle.salvaged_records.proofs.salvaging.first_header.Goals as goal

pub returns-in-Some-clause-some : goal.returns-in-Some-clause-some
returns-in-Some-clause-some c =
    header_of_all c.args.pages.now c.in-Some.first.now c.read.result
    (sym c.first.ensures.value ∙ ap (λ (o : Option (Bor (List ℕ))). option_copied o) c.in-Some.is) c.read.ensures.accepted
