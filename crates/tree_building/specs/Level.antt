-- The nodes of one level of a tree, and the trees that they head.
use Rattle.std.specs.Prelude.{◌≡◌, ◌≤◌, ◌<◌, ℕ, zero, suc, List, [], map, drop, take, length, slice_index_or, ⊤}
use Rattle.tree_node.specs.declared.shape.NodeShape.{NodeShape}
use Rattle.tree_node.specs.declared.separator.Separator.{Separator}
use Rattle.tree_node.specs.Fill.{least_entries}
use Rattle.pages.specs.Each.{Each}
use Rattle.pages.specs.PageMap.{PageMap}
use Rattle.tree_search.specs.Tree.{TreeOf, page_of, entries_of}
use Rattle.tree_search.specs.Stored.{Holds}
use Rattle.tree_search.specs.Calls.{size_of, IsHalfFull}

-- the keys of nodes, and their pages
abbrev pub keys_of : List Separator → List (List ℕ)
keys_of nodes = map (λ node. node.key.items) nodes

abbrev pub leads_to : List Separator → List ℕ
leads_to nodes = map (λ node. node.child) nodes

-- the keys are as wide as tree keys
abbrev pub HaveWidth : NodeShape → List Separator → Type 0
HaveWidth shape nodes = Each (λ node. length node.key.items ≡ shape.width) nodes

-- the same, place by place
abbrev pub AreWide : NodeShape → List Separator → Type 0
AreWide shape nodes = (i : ℕ) (d : Separator) → i < length nodes
    → length (slice_index_or nodes i d).key.items ≡ shape.width

-- the first key of a tree
abbrev pub lead_of : ℕ → (h : ℕ) → TreeOf h → List ℕ
lead_of width h t = take width (slice_index_or (entries_of h t) 0 [])

-- each separator in it is the first key behind that separator
abbrev pub IsLed : ℕ → (h : ℕ) → TreeOf h → Type 0
IsLed width zero t = ⊤
IsLed width (suc h) t = (t.1 ≡ map (lead_of width h) (drop 1 t.2)) × Each (IsLed width h) t.2

-- a tree that can stand below a root
pub record IsBelow (shape : NodeShape) (h : ℕ) (t : TreeOf h) : Type 0 where
  pub large : least_entries shape h ≤ size_of h t
  pub filled : IsHalfFull shape h t
  pub led : IsLed shape.width h t

-- the nodes head these trees, by their first keys and their pages
pub record IsLevel (shape : NodeShape) (pages : PageMap) (h : ℕ) (nodes : List Separator)
    (trees : List (TreeOf h)) : Type 0 where
  pub holds : Each (Holds shape pages h) trees
  pub below : Each (IsBelow shape h) trees
  pub keys : keys_of nodes ≡ map (lead_of shape.width h) trees
  pub leads : leads_to nodes ≡ map (page_of h) trees
