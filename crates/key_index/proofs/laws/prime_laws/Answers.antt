use Rattle.key_index.proofs.LawLemmas.{prime_reads_off, prime_live, prime_kept, prime_aside}
use Rattle.key_index.proofs.laws.prime_laws.Goals as goal

pub returns-clause-reads : goal.returns-clause-reads
returns-clause-reads c = prime_reads_off

pub returns-clause-live : goal.returns-clause-live
returns-clause-live c = prime_live

pub returns-clause-kept : goal.returns-clause-kept
returns-clause-kept c = prime_kept

pub returns-clause-aside : goal.returns-clause-aside
returns-clause-aside c = prime_aside
