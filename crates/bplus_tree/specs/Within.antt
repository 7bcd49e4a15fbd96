-- What a look into a range of a tree answers.
use Rattle.std.specs.Prelude.{ℕ, List, Option, Result}
use Rattle.io_state.specs.declared.fault.Fault.{Fault}
use Rattle.pages.specs.PageMap.{PageMap}
use Rattle.pages.specs.Answer.{IsAnswer}
use Rattle.tree_search.specs.declared.range.First.{First}
use Rattle.tree_search.specs.Range.{IsFirst}
use Rattle.bplus_tree.specs.declared.tree.Tree.{Tree}
use Rattle.bplus_tree.specs.Standing.{TreeStands}

-- the first entry of the range, and whether the next one is in it too
abbrev pub FindsWithin : List ℕ → List ℕ → Tree → PageMap → Result (Option First) Fault → Type 0
FindsWithin from to tree pages result =
    (entries : List (List ℕ)) (own : List ℕ) → TreeStands tree pages entries own
    → IsAnswer result (IsFirst tree.shape.width from to entries)
