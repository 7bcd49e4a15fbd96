use Rattle.key_index.proofs.LawLemmas.{alt_reads_off, alt_live, alt_kept, alt_aside}
use Rattle.key_index.proofs.laws.alt_laws.Goals as goal

pub returns-clause-reads : goal.returns-clause-reads
returns-clause-reads c = alt_reads_off

pub returns-clause-live : goal.returns-clause-live
returns-clause-live c = alt_live

pub returns-clause-kept : goal.returns-clause-kept
returns-clause-kept c = alt_kept

pub returns-clause-aside : goal.returns-clause-aside
returns-clause-aside c = alt_aside
