use Rattle.std.proofs.Common.{List, ℕ, Option, Bor, ap, sym, ◌∙◌}
use Rattle.std.specs.Option.{option_copied}
use Rattle.file_checker.proofs.HeldLemmas.{first_of_pages}
use Rattle.file_checker.proofs.held_bytes.check_bytes.Goals as goal

pub check_from-requires-clause-first : goal.check_from-requires-clause-first
check_from-requires-clause-first c =
    first_of_pages c.args.bytes.now c.pages_in-pages.result.now c.in-Some.first.now c.pages_in-pages.ensures (sym c.first.ensures.value ∙ ap (λ (o : Option (Bor (List ℕ))). option_copied o) c.in-Some.is)
