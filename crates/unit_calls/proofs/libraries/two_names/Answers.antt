use Rattle.std.proofs.Common.{refl}
use Rattle.unit_calls.proofs.UnitLemmas.{two_names_differ}
use Rattle.unit_calls.proofs.libraries.two_names.Goals as goal

pub returns-clause-distinct : goal.returns-clause-distinct
returns-clause-distinct c =
    two_names_differ _ _ (rw (c.push_str.ensures.bytes, c.new-first.ensures, c.push_str-2.ensures.bytes, c.new-second.ensures) refl)
