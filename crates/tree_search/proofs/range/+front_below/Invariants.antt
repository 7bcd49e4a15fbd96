use Rattle.tree_search.proofs.range.+front_below.Given as goal

abbrev pub decreases-front_below : goal.decreases-front_below
decreases-front_below g l = l.levels
