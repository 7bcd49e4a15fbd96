use Rattle.tree_search.proofs.range.+look_below.Given as goal

abbrev pub decreases-look_below : goal.decreases-look_below
decreases-look_below g l = l.levels
