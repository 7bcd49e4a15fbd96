use Rattle.std.proofs.Common.{rules}
use Rattle.open_file.proofs.PathLemmas.{fails_filling}
use Rattle.open_file.proofs.path.first_after_rank.Goals as goal

pub returns-in_err-found : goal.returns-in_err-found
returns-in_err-found g c = record {
  found = λ honest entries own stands. fails_filling _ c.from_residual.result _ c.from_residual.ensures.1 (c.in_err-found.ensures.found honest entries own stands).no_damage _;
  reads = search rules;
}

pub returns : goal.returns
returns g c = record {
  found = λ honest entries own stands. rw c.put_found.ensures (c.in_ok-found.ensures.found honest entries own stands);
  reads = search rules;
}
