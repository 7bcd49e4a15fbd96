use Rattle.std.proofs.Common.{rules}
use Rattle.open_file.proofs.PathLemmas.{fails_filling}
use Rattle.open_file.proofs.open_file.OpenFile.prime_from.Goals as goal

pub returns-in_err-found : goal.returns-in_err-found
returns-in_err-found g c = record {
  found = λ honest file stands. fails_filling _ c.from_residual.result _ c.from_residual.ensures.1 (c.in_err-found.ensures.found honest _ _ stands.parts.prime_stands).no_damage _;
  stands = search rules;
  rest = search rules;
  reads = search rules;
}

pub returns : goal.returns
returns g c = record {
  found = λ honest file stands. rw c.put_found.ensures (c.in_ok-found.ensures.found honest _ _ stands.parts.prime_stands);
  stands = search rules;
  rest = search rules;
  reads = search rules;
}
