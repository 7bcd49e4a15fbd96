use Rattle.std.proofs.Common.{length, arith}
use Rattle.std.proofs.lemmas.Grind.{common_steps}
use Rattle.record_layout.proofs.AreaLemmas.{to_the_right-is}
use Rattle.record_layout.proofs.area.justify_right.Goals as goal

pub returns : goal.returns
returns c = let parts = to_the_right-is (length c.args.item.now) c.args.digits.now in grind (arith, common_steps)
