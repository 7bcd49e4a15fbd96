-- A level of nodes over the one below.
use Rattle.std.specs.Prelude.{◌≡◌, ◌≤◌, ◌+◌, ◌-◌, ◌*◌, ◌^◌, ℕ, suc, List, [], ◌∷◌, flat_map, length, None, Result}
use Rattle.std.specs.Global.{Vec}
use Rattle.io_state.specs.declared.fault.Fault.{Fault}
use Rattle.tree_node.specs.declared.shape.NodeShape.{NodeShape}
use Rattle.tree_node.specs.declared.separator.Separator.{Separator}
use Rattle.tree_node.specs.Order.{Ascends}
use Rattle.pages.specs.PageMap.{PageMap}
use Rattle.pages.specs.Owners.{AreApart, ChangesPages}
use Rattle.pages.specs.Answer.{IsAnswer}
use Rattle.tree_search.specs.Tree.{TreeOf, pages_of, entries_of}
use Rattle.tree_search.specs.Calls.{IsWhole}
use Rattle.tree_building.specs.declared.rising.BuiltRoot.{BuiltRoot}
use Rattle.tree_node.specs.Inner.{inner_room}
use Rattle.tree_building.specs.Level.{IsLevel}
use Rattle.tree_building.specs.Filled.{AllBut, AreFilled, child_counts}
use Rattle.tree_building.specs.Fresh.{KeepsInUse}

-- these nodes stand over these trees now, in pages that were not in use
pub record HasNextLevel (shape : NodeShape) (before after : PageMap) (h : ℕ) (below : List (TreeOf h))
    (above : List Separator) : Type 0 where
  pub trees : List (TreeOf (suc h))
  pub level : IsLevel shape after (suc h) above trees
  pub over : flat_map (λ (t : TreeOf (suc h)). t.2) trees ≡ below
  pub filled : AllBut 2 (inner_room shape + 1) (child_counts h trees)
  pub changes : ChangesPages before after (flat_map (pages_of h) below) (flat_map (pages_of (suc h)) trees)

-- a level was added over these nodes, where they head trees that have no page in common
pub record Rises (shape : NodeShape) (nodes : List Separator) (result : Result (Vec Separator) Fault)
    (before after : PageMap) (is_sound : Type 0) : Type 0 where
  pub risen : (h : ℕ) (trees : List (TreeOf h)) → IsLevel shape before h nodes trees
      → AreApart (flat_map (pages_of h) trees)
      → IsAnswer result (λ above. HasNextLevel shape before after h trees above.items)
  pub kept : KeepsInUse before after
  pub sound : is_sound

-- one tree stands over all, whole where the entries rise, and filled where they are; no page was
-- taken but those of its nodes
pub record HasRootOver (shape : NodeShape) (left left_now : ℕ) (before after : PageMap) (h : ℕ)
    (below : List (TreeOf h)) (base : BuiltRoot) : Type 0 where
  pub tree : TreeOf base.levels
  pub whole : Ascends shape.width (flat_map (entries_of h) below)
      → IsWhole shape after base.levels base.root None None tree
  pub has : entries_of base.levels tree ≡ flat_map (entries_of h) below
  pub filled : AreFilled shape h below → AreFilled shape base.levels (tree ∷ [])
  pub taken : length (pages_of base.levels tree) + left_now
      ≡ length (flat_map (pages_of h) below) + left
  pub changes : ChangesPages before after (flat_map (pages_of h) below) (pages_of base.levels tree)

-- the levels were added over these nodes, which have so many levels below them
pub record Roots (shape : NodeShape) (nodes : List Separator) (levels : ℕ) (result : Result BuiltRoot Fault)
    (left left_now : ℕ) (before after : PageMap) (is_sound : Type 0) : Type 0 where
  pub rooted : (h : ℕ) (trees : List (TreeOf h)) → levels ≡ h → IsLevel shape before h nodes trees
      → AreApart (flat_map (pages_of h) trees)
      → IsAnswer result (HasRootOver shape left left_now before after h trees)
  pub kept : KeepsInUse before after
  pub sound : is_sound

-- so many nodes at most stand on this level
abbrev pub AreFewAt : ℕ → List Separator → Type 0
AreFewAt levels nodes = length nodes ≤ 2 ^ (64 - 4 * levels) + 1
