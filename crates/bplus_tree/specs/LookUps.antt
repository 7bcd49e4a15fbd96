-- Look-ups in a tree, and how many pages they ask for.
use Rattle.std.specs.Prelude.{ℕ, ◌+◌, ◌*◌, Result}
use Rattle.io_state.specs.declared.fault.Fault.{Fault}
use Rattle.pages.specs.PageMap.{PageMap}
use Rattle.pages.specs.ShownPages.{ShownPages}
use Rattle.tree_search.specs.LookUps.{LooksUp}
use Rattle.bplus_tree.specs.declared.tree.Tree.{Tree}

-- down the tree to one leaf: one page a level
abbrev pub LooksDown : {S X : Type 0} → ShownPages S → Tree → (Tree → PageMap → Result X Fault → Type 0)
    → (old new : S) → Result X Fault → Type 0
LooksDown shown tree Says old new result = LooksUp shown (tree.levels + 1) (Says tree) old new result

-- down the tree, and on to the leaf behind where that one has no answer: two pages a level at most
abbrev pub LooksAlong : {S X : Type 0} → ShownPages S → Tree → (Tree → PageMap → Result X Fault → Type 0)
    → (old new : S) → Result X Fault → Type 0
LooksAlong shown tree Says old new result = LooksUp shown (2 * (tree.levels + 1)) (Says tree) old new result
