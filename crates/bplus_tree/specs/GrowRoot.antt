-- The root after an insert.
use Rattle.std.specs.Prelude.{◌≡◌, ℕ, List, None, Option, Result}
use Rattle.io_state.specs.declared.fault.Fault.{Fault}
use Rattle.tree_node.specs.declared.shape.NodeShape.{NodeShape}
use Rattle.pages.specs.PageMap.{PageMap}
use Rattle.pages.specs.Owners.{ChangesPages}
use Rattle.bplus_tree.specs.declared.collapse.RootLevel.{RootLevel}
use Rattle.tree_node.specs.declared.separator.Separator.{Separator}
use Rattle.tree_search.specs.Tree.{TreeOf, entries_of, pages_of}
use Rattle.tree_search.specs.Calls.{IsRooted, IsWhole}
use Rattle.pages.specs.Answer.{IsAnswer}
use Rattle.bplus_tree.specs.Subtree.{Head, from_root}
use Rattle.bplus_tree.specs.Insert.{HasGrown}

-- a tree of these entries stands below the root
pub record HasGrownRoot (shape : NodeShape) (before after : PageMap) (own : List ℕ) (entries : List (List ℕ))
    (base : RootLevel) : Type 0 where
  pub tree : TreeOf base.levels
  pub whole : IsWhole shape after base.levels base.root None None tree
  pub has : entries_of base.levels tree ≡ entries
  pub changes : ChangesPages before after own (pages_of base.levels tree)

-- of a tree that has grown since an earlier state of the pages
abbrev pub GrowsRoot : Head → Option Separator → Result RootLevel Fault → PageMap → PageMap → Type 0 → Type 0
GrowsRoot at up result mid after is_sound =
    (before : PageMap) (t : TreeOf at.levels) (entries : List (List ℕ)) → IsRooted at.levels t
    → HasGrown (from_root at t) before mid entries up
    → IsAnswer result (λ base. HasGrownRoot at.shape before after (pages_of at.levels t) entries base
    × is_sound)
