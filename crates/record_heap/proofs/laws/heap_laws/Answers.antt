use Rattle.record_heap.proofs.StandLemmas.{heap_kept, chain_live}
use Rattle.record_heap.proofs.laws.heap_laws.Goals as goal

pub returns-clause-kept : goal.returns-clause-kept
returns-clause-kept c = heap_kept

pub returns-clause-live : goal.returns-clause-live
returns-clause-live c heap pages slots own stands = chain_live pages heap.first own stands.chain
