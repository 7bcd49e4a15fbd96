use Rattle.page_store.proofs.MomentLemmas.{quiet_none, quiet_then}
use Rattle.page_store.proofs.OpenLemmas.{quiet_open, open_kept}
use Rattle.page_store.proofs.quiet.quiet_laws.Goals as goal

pub returns-clause-nothing : goal.returns-clause-nothing
returns-clause-nothing c = quiet_none

pub returns-clause-steps : goal.returns-clause-steps
returns-clause-steps c = quiet_then

pub returns-clause-open : goal.returns-clause-open
returns-clause-open c = quiet_open

pub returns-clause-kept : goal.returns-clause-kept
returns-clause-kept c = open_kept
