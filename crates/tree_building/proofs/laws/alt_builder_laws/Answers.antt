use Rattle.tree_building.proofs.LawLemmas.{alt_live, alt_kept, alt_aside, alt_counts}
use Rattle.tree_building.proofs.laws.alt_builder_laws.Goals as goal

pub returns-clause-live : goal.returns-clause-live
returns-clause-live c = alt_live

pub returns-clause-kept : goal.returns-clause-kept
returns-clause-kept c = alt_kept

pub returns-clause-aside : goal.returns-clause-aside
returns-clause-aside c = alt_aside

pub returns-clause-counts : goal.returns-clause-counts
returns-clause-counts c = alt_counts
