use Rattle.tree_search.proofs.search.+next_below.Given as goal

abbrev pub decreases-next_below : goal.decreases-next_below
decreases-next_below g l = l.levels
