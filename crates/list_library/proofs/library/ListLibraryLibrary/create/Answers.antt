use Rattle.std.proofs.Common.{rules, arith, refl}
use Rattle.std.proofs.lemmas.Grind.{common_steps}
use Rattle.list_library.proofs.ShownLemmas.{sound_set, all_show_files}
use Rattle.list_library.proofs.ListWorldLemmas.{keeps_all, goes_in_memory, others_stay_in_memory}
use Rattle.list_library.proofs.library.ListLibraryLibrary.create.Goals as goal

pub returns-clause-made : goal.returns-clause-made
returns-clause-made c = λ honest. record {
  named = first_of (search rules, grind (arith, common_steps));
  holding = first_of (search rules, grind (arith, common_steps));
  truly = all_show_files _ _ (sound_set c.args.self.now.units.items c.args.u c.create.new.self c.args.self.now.sound c.is_sound.ensures) c.args.self.now.others_sound _;
  room = refl;
}

pub returns-clause-opens : goal.returns-clause-opens
returns-clause-opens c = record {
  err = first_of (search rules, grind (arith, common_steps));
  unbroken = first_of (search rules, grind (arith, common_steps));
  only = first_of (search rules, grind (arith, common_steps));
  fault = first_of (search rules, grind (arith, common_steps));
  undamaged = first_of (search rules, grind (arith, common_steps));
  memory = λ is. absurd (cc);
  images = λ honest shown. goes_in_memory _ _ _ _;
  others = others_stay_in_memory _ _ _;
  keeps = keeps_all _ _;
}
