use Rattle.std.proofs.Common.{rules, arith}
use Rattle.std.proofs.lemmas.Grind.{common_steps}
use Rattle.list_library.proofs.ListWorldLemmas.{keeps_all, goes_in_memory, others_stay_in_memory}
use Rattle.list_library.proofs.library.ListLibraryLibrary.look.Goals as goal

pub returns-clause-opens : goal.returns-clause-opens
returns-clause-opens c = record {
  err = first_of (search rules, grind (arith, common_steps));
  unbroken = first_of (search rules, grind (arith, common_steps));
  only = first_of (search rules, grind (arith, common_steps));
  fault = first_of (search rules, grind (arith, common_steps));
  undamaged = first_of (search rules, grind (arith, common_steps));
  memory = λ is. absurd (cc);
  images = λ honest shown. goes_in_memory _ _ _ _;
  others = others_stay_in_memory _ _ _;
  keeps = keeps_all _ _;
}
