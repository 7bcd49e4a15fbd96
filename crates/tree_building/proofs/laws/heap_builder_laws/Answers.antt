use Rattle.tree_building.proofs.LawLemmas.{heap_apart, heap_stays, heap_aside}
use Rattle.tree_building.proofs.laws.heap_builder_laws.Goals as goal

pub returns-clause-apart : goal.returns-clause-apart
returns-clause-apart c = heap_apart

pub returns-clause-kept : goal.returns-clause-kept
returns-clause-kept c = heap_stays

pub returns-clause-aside : goal.returns-clause-aside
returns-clause-aside c = heap_aside
