use Rattle.tree_building.proofs.LawLemmas.{prime_live, prime_kept, prime_aside, prime_counts}
use Rattle.tree_building.proofs.laws.prime_builder_laws.Goals as goal

pub returns-clause-live : goal.returns-clause-live
returns-clause-live c = prime_live

pub returns-clause-kept : goal.returns-clause-kept
returns-clause-kept c = prime_kept

pub returns-clause-aside : goal.returns-clause-aside
returns-clause-aside c = prime_aside

pub returns-clause-counts : goal.returns-clause-counts
returns-clause-counts c = prime_counts
