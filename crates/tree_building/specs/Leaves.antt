-- A leaf that takes one entry more, and one that was written behind others.
use Rattle.std.specs.Prelude.{◌≡◌, ◌<◌, ℕ, List, [], ◌∷◌, ◌++◌, take, length, slice_index_or, Result}
use Rattle.io_state.specs.declared.fault.Fault.{Fault}
use Rattle.tree_node.specs.declared.shape.NodeShape.{NodeShape}
use Rattle.tree_node.specs.Leaf.{IsLeaf, leaf_entries, leaf_room}
use Rattle.tree_node.specs.declared.separator.Separator.{Separator}
use Rattle.pages.specs.PageMap.{PageMap, Takes}
use Rattle.pages.specs.Answer.{IsAnswer}
use Rattle.tree_building.specs.Level.{keys_of, leads_to}
use Rattle.tree_building.specs.Fresh.{KeepsInUse}

-- a leaf has room for an entry of these bytes
pub record CanTakeEntry (shape : NodeShape) (entry page : List ℕ) : Type 0 where
  pub leaf : IsLeaf shape page
  pub room : length (leaf_entries shape page) < leaf_room shape
  pub size : length entry ≡ shape.entry

-- the leaf stands in a page that was not in use, behind those before it, and leads with its first key
pub record HasNextLeaf (shape : NodeShape) (leaf : List ℕ) (before after : PageMap)
    (old new : List Separator) : Type 0 where
  pub page : ℕ
  pub takes : Takes before after page leaf
  pub keys : keys_of new
      ≡ keys_of old ++ take shape.width (slice_index_or (leaf_entries shape leaf) 0 []) ∷ []
  pub leads : leads_to new ≡ leads_to old ++ page ∷ []

pub record AddsBuiltLeaf (shape : NodeShape) (leaf : List ℕ) (old new : List Separator)
    (result : Result Unit Fault) (before after : PageMap) (is_sound : Type 0) : Type 0 where
  pub added : IsAnswer result (λ done. HasNextLeaf shape leaf before after old new)
  pub kept : KeepsInUse before after
  pub sound : is_sound
