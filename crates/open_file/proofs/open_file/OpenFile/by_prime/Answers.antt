use Rattle.std.proofs.Common.{rules}
use Rattle.open_file.proofs.ExitLemmas.{fails_finding}
use Rattle.open_file.proofs.AnswerLemmas.{prime_row}
use Rattle.open_file.proofs.open_file.OpenFile.by_prime.Goals as goal

pub returns-in_err-length-clause-finds : goal.returns-in_err-length-clause-finds
returns-in_err-length-clause-finds g c =
    fails_finding c.from_residual.result _ c.from_residual.ensures.1 _ _ _ _ _ _ _ (λ honest file stands. (c.in_err-length.ensures.fetched honest file stands).answered.no_damage) c.in_err-length.ensures.keeps.kept

pub returns-in-Some-clause-finds : goal.returns-in-Some-clause-finds
returns-in-Some-clause-finds g c = record {
  found = λ honest file stands.
      let fetched = rw (c.in-Some.is, c.as_slice.ensures.value) at c.in_ok-length.ensures.fetched honest file stands in
      prime_row c.args.self.now.schema file c.args.key.now.items c.copy_of.result c.copy_of.ensures c.in-Some.length _ _ fetched;
  none = search rules;
  kept = search rules;
}
