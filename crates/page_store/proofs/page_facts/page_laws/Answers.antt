use Rattle.page_store.proofs.PageLemmas.{written_is_read, others_read, others_kept}
use Rattle.page_store.proofs.page_facts.page_laws.Goals as goal

pub returns-clause-written : goal.returns-clause-written
returns-clause-written c = written_is_read

pub returns-clause-others : goal.returns-clause-others
returns-clause-others c = others_read

pub returns-clause-kept : goal.returns-clause-kept
returns-clause-kept c = others_kept
