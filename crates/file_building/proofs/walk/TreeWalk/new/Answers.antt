use Rattle.std.proofs.Common.{refl}
use Rattle.file_building.proofs.WalkLemmas.{walk_begun}
use Rattle.file_building.proofs.walk.TreeWalk.new.Goals as goal

pub returns : goal.returns
returns c = record {
  tree_is = refl;
  begun = λ pages entries own stands long.
      walk_begun c.args.tree c.cursor-cursor.result pages entries own c.cursor-cursor.ensures.key (c.cursor-cursor.ensures.belongs pages entries own) stands long;
}
