-- The root after a removal.
use Rattle.std.specs.Prelude.{◌≡◌, ◌≢◌, ℕ, ◌≤◌, List, length, slice_index, Option, Some, None, Result}
use Rattle.io_state.specs.declared.fault.Fault.{Fault}
use Rattle.tree_node.specs.declared.shape.NodeShape.{NodeShape}
use Rattle.pages.specs.PageMap.{PageMap}
use Rattle.bplus_tree.specs.declared.collapse.RootLevel.{RootLevel}
use Rattle.tree_search.specs.Tree.{TreeOf, entries_of, pages_of}
use Rattle.tree_search.specs.Calls.{IsHalfFull, IsTree, IsWhole}
use Rattle.pages.specs.Owners.{AreApart, ChangesPages}
use Rattle.tree_search.specs.Stored.{IsInnerAt}
use Rattle.pages.specs.Answer.{IsAnswer}

-- the child of an inner node without separators
abbrev pub IsOnly : List (List ℕ) → List ℕ → Option ℕ → Type 0
IsOnly separators below None = 1 ≤ length separators
IsOnly separators below (Some child) = (length separators ≡ 0) × (child ≡ slice_index below 0)

abbrev pub Sees : NodeShape → PageMap → ℕ → Result (Option ℕ) Fault → Type 0
Sees shape page_map page result =
    (separators : List (List ℕ)) (below : List ℕ) → IsInnerAt shape page_map page separators below
    → IsAnswer result (IsOnly separators below)

-- the only child of an inner node without separators, which is given back; where it has separators,
-- nothing is done
abbrev pub HasCollapsed : PageMap → PageMap → ℕ → List (List ℕ) → List ℕ → Option ℕ → Type 0
HasCollapsed before after page separators below None = (1 ≤ length separators) × (after ≡ before)
HasCollapsed before after page separators below (Some child) =
    (length separators ≡ 0) × (child ≡ slice_index below 0) × (after page ≡ None)
    × ((n : ℕ) → n ≢ page → after n ≡ before n)

abbrev pub CollapsesInner : NodeShape → ℕ → Result (Option ℕ) Fault → PageMap → PageMap → Type 0 → Type 0
CollapsesInner shape page result before after is_sound =
    (separators : List (List ℕ)) (below : List ℕ) → IsInnerAt shape before page separators below
    → IsAnswer result (λ child. HasCollapsed before after page separators below child × is_sound)

-- the tree, without a root that has one child only
pub record HasSettledRoot (shape : NodeShape) (before after : PageMap) (h : ℕ) (t : TreeOf h)
    (base : RootLevel) : Type 0 where
  pub tree : TreeOf base.levels
  pub whole : IsWhole shape after base.levels base.root None None tree
  pub has : entries_of base.levels tree ≡ entries_of h t
  pub changes : ChangesPages before after (pages_of h t) (pages_of base.levels tree)

abbrev pub Collapses : NodeShape → ℕ → ℕ → Result RootLevel Fault → PageMap → PageMap → Type 0 → Type 0
Collapses shape h root result before after is_sound =
    (t : TreeOf h) → IsTree shape before h root None None t → AreApart (pages_of h t) → IsHalfFull shape h t
    → IsAnswer result (λ base. HasSettledRoot shape before after h t base × is_sound)
