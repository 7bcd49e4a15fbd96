use Rattle.tree_building.proofs.RankLemmas.{primes_rise, alts_rise, any_place}
use Rattle.tree_building.proofs.laws.entry_order_laws.Goals as goal

pub returns-clause-primes : goal.returns-clause-primes
returns-clause-primes c = primes_rise

pub returns-clause-alternates : goal.returns-clause-alternates
returns-clause-alternates c = alts_rise

pub returns-clause-places : goal.returns-clause-places
returns-clause-places c = any_place
