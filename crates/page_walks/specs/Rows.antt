-- The levels of a tree over the pages of a file, as the pages of each level lead to those of the
-- next. A row has the pages of one level, from left to right.
use Rattle.std.specs.Prelude.{◌≡◌, ℕ, zero, suc, ◌<◌, ◌^◌, List, [], ◌∷◌, ◌++◌, length, flat_map, slice_index_or}
use Rattle.std.specs.Prelude.{Result, IfErr, IfOk, OnOk}
use Rattle.std.specs.Global.{Vec}
use Rattle.pages.specs.Refused.{RefusesRightly}
use Rattle.pages.specs.declared.walk_fault.WalkFault.{WalkFault}
use Rattle.pages.specs.Each.{Each}
use Rattle.tree_node.specs.declared.shape.NodeShape.{NodeShape}
use Rattle.tree_node.specs.Leaf.{IsLeaf, leaf_entries, leaf_room}
use Rattle.tree_node.specs.Inner.{IsInner, separators, children, inner_room}
use Rattle.page_walks.specs.declared.level.Level.{Level}

-- page n of the list
abbrev pub page_at : List (List ℕ) → ℕ → List ℕ
page_at list n = slice_index_or list n []

-- page n is there, and is a leaf
pub record IsLeafIn (shape : NodeShape) (list : List (List ℕ)) (n : ℕ) : Type 0 where
  pub there : n < length list
  pub leaf : IsLeaf shape (page_at list n)

-- page n is there, and is an inner node
pub record IsInnerIn (shape : NodeShape) (list : List (List ℕ)) (n : ℕ) : Type 0 where
  pub there : n < length list
  pub inner : IsInner shape (page_at list n)

-- the children of the nodes of a row
abbrev pub children_in : NodeShape → List (List ℕ) → List ℕ → List ℕ
children_in shape list row = flat_map (λ n. children shape (page_at list n)) row

abbrev pub separators_in : NodeShape → List (List ℕ) → List ℕ → List (List ℕ)
separators_in shape list row = flat_map (λ n. separators shape (page_at list n)) row

-- the entries of the leaves of a row
abbrev pub entries_in_row : NodeShape → List (List ℕ) → List ℕ → List (List ℕ)
entries_in_row shape list row = flat_map (λ n. leaf_entries shape (page_at list n)) row

-- the entries of the leaves of a row can be counted
abbrev pub AreFew : NodeShape → List (List ℕ) → List ℕ → Type 0
AreFew shape list row = length (entries_in_row shape list row) < 2 ^ 64

-- where the entries of the leaves of a row can be counted, so many they are
abbrev pub CountsEntries : NodeShape → List ℕ → Result ℕ WalkFault → List (List ℕ) → Type 0
CountsEntries shape row result list = AreFew shape list row
    → IfOk result (λ entries. entries ≡ length (entries_in_row shape list row))

-- a row with h levels below it leads to nodes, down to leaves
abbrev pub AreNodes : NodeShape → List (List ℕ) → ℕ → List ℕ → Type 0
AreNodes shape list zero row = Each (IsLeafIn shape list) row
AreNodes shape list (suc h) row = Each (IsInnerIn shape list) row
    × AreNodes shape list h (children_in shape list row)

-- the leaves that it leads to
abbrev pub leaves_in : NodeShape → List (List ℕ) → ℕ → List ℕ → List ℕ
leaves_in shape list zero row = row
leaves_in shape list (suc h) row = leaves_in shape list h (children_in shape list row)

-- what a row of leaves has
abbrev pub leaf_level : NodeShape → List (List ℕ) → List ℕ → Level
leaf_level shape list row = record {
  pages = length row;
  entries = length (entries_in_row shape list row);
  room = leaf_room shape;
}

-- what a row of inner nodes has
abbrev pub inner_level : NodeShape → List (List ℕ) → List ℕ → Level
inner_level shape list row = record {
  pages = length row;
  entries = length (separators_in shape list row);
  room = inner_room shape;
}

-- what each row has that it leads to, from itself on
abbrev pub levels_in : NodeShape → List (List ℕ) → ℕ → List ℕ → List Level
levels_in shape list zero row = leaf_level shape list row ∷ []
levels_in shape list (suc h) row = inner_level shape list row ∷ levels_in shape list h
    (children_in shape list row)

-- what each row has was added, from this one down, and its leaves were given; or memory was lacking, or the
-- rows lead to no such nodes
pub record AddsRows (shape : NodeShape) (list : List (List ℕ)) (h : ℕ) (row : List ℕ) (old new : List Level)
    (result : Result (Vec ℕ) WalkFault) : Type 0 where
  pub levels : AreFew shape list (leaves_in shape list h row)
      → OnOk result (new ≡ old ++ levels_in shape list h row)
  pub leaves : IfOk result (λ leaves. leaves.items ≡ leaves_in shape list h row)
  pub refused : IfErr result (RefusesRightly (AreNodes shape list h row))
