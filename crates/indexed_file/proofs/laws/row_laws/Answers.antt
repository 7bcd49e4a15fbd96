use Rattle.std.proofs.Common.{refl}
use Rattle.indexed_file.specs.Rank.{least}
use Rattle.indexed_file.proofs.LeastLemmas.{least_or_none}
use Rattle.indexed_file.proofs.DifferLemmas.{differ_in_each}
use Rattle.indexed_file.proofs.laws.row_laws.Goals as goal

pub returns-clause-least : goal.returns-clause-least
returns-clause-least c schema k test file = least_or_none schema k test file (least schema k test file) refl

pub returns-clause-apart : goal.returns-clause-apart
returns-clause-apart c = differ_in_each
