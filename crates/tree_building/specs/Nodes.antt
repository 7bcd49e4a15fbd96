-- An inner node over nodes that come in order.
use Rattle.std.specs.Prelude.{◌≡◌, ◌≤◌, ◌<◌, ◌+◌, ℕ, List, [], ◌∷◌, ◌++◌, drop, take, length, Result}
use Rattle.io_state.specs.declared.fault.Fault.{Fault}
use Rattle.tree_node.specs.declared.shape.NodeShape.{NodeShape}
use Rattle.tree_node.specs.Inner.{IsInner, InnerHas, inner_room, separators}
use Rattle.tree_node.specs.declared.separator.Separator.{Separator}
use Rattle.pages.specs.PageMap.{PageMap, Takes}
use Rattle.pages.specs.Answer.{IsAnswer}
use Rattle.tree_building.specs.Level.{keys_of, leads_to, HaveWidth}
use Rattle.tree_building.specs.Fresh.{KeepsInUse}

-- nodes that one inner node can have below it
pub record CanStandBelow (shape : NodeShape) (group : List Separator) : Type 0 where
  pub some : 1 ≤ length group
  pub room : length group ≤ inner_room shape + 1
  pub width : HaveWidth shape group

-- an inner node has room for a separator of this node behind its own
pub record CanStandBehind (shape : NodeShape) (node : Separator) (page : List ℕ) : Type 0 where
  pub inner : IsInner shape page
  pub room : length (separators shape page) < inner_room shape
  pub width : length node.key.items ≡ shape.width

-- nodes that fit in one inner node behind its first child
pub record CanStandInOne (shape : NodeShape) (rest : List Separator) : Type 0 where
  pub room : length rest ≤ inner_room shape
  pub width : HaveWidth shape rest

-- the page is that node: the keys but the first part the children
abbrev pub IsNodeOver : NodeShape → List Separator → List ℕ → Type 0
IsNodeOver shape group page = InnerHas shape page (drop 1 (keys_of group)) (leads_to group)

-- it stands in a page that was not in use, behind the nodes beside it, and leads with the first key
pub record HasAdded (shape : NodeShape) (group : List Separator) (before after : PageMap)
    (old new : List Separator) : Type 0 where
  pub page : ℕ
  pub bytes : List ℕ
  pub takes : Takes before after page bytes
  pub over : IsNodeOver shape group bytes
  pub keys : keys_of new ≡ keys_of old ++ take 1 (keys_of group)
  pub leads : leads_to new ≡ leads_to old ++ page ∷ []

pub record AddsNode (shape : NodeShape) (group old new : List Separator) (result : Result Unit Fault)
    (before after : PageMap) (is_sound : Type 0) : Type 0 where
  pub added : IsAnswer result (λ done. HasAdded shape group before after old new)
  pub kept : KeepsInUse before after
  pub sound : is_sound
