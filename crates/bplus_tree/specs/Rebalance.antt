-- What is written where two children were balanced.
use Rattle.std.specs.Prelude.{◌≡◌, ◌≢◌, ℕ, ◌+◌, ◌<◌, ◌≤◌, ◌⊎◌, List, length, slice_index, Some, None, Option}
use Rattle.std.specs.Prelude.{Result, IsSome}
use Rattle.io_state.specs.declared.fault.Fault.{Fault}
use Rattle.tree_node.specs.declared.shape.NodeShape.{NodeShape}
use Rattle.tree_node.specs.Inner.{IsInner, separators, children}
use Rattle.pages.specs.PageMap.{PageMap}
use Rattle.bplus_tree.specs.declared.rebalance.Pair.{Pair}
use Rattle.pages.specs.Answer.{IsAnswer}

-- three pages in use, no two of them one
pub record AreThree (pages : PageMap) (p q r : ℕ) : Type 0 where
  pub first : IsSome (pages p)
  pub second : IsSome (pages q)
  pub third : IsSome (pages r)
  pub apart : (p ≢ q) × (p ≢ r) × (q ≢ r)

-- the bytes of a node, and of two of its children
pub record PairBytes : Type 0 where
  pub node : List ℕ
  pub left : List ℕ
  pub right : List ℕ

-- these three
abbrev pub pair_bytes : (node left right : List ℕ) → PairBytes
pair_bytes node left right = record { node = node; left = left; right = right }

-- the node and the first child hold these bytes, and the page of the second one is free
pub record HasJoined (before after : PageMap) (page : ℕ) (pair : Pair) (node left : List ℕ) : Type 0 where
  pub first : after page ≡ Some node
  pub second : after pair.lower ≡ Some left
  pub third : after pair.upper ≡ None
  pub others : (n : ℕ) → n ≢ page → n ≢ pair.lower → n ≢ pair.upper → after n ≡ before n

-- the node and both children hold these bytes
pub record HasShared (before after : PageMap) (page : ℕ) (pair : Pair) (bytes : PairBytes) : Type 0 where
  pub first : after page ≡ Some bytes.node
  pub second : after pair.lower ≡ Some bytes.left
  pub third : after pair.upper ≡ Some bytes.right
  pub others : (n : ℕ) → n ≢ page → n ≢ pair.lower → n ≢ pair.upper → after n ≡ before n

-- the two children of a pair have become one
abbrev pub EndsJoined : ℕ → Pair → (node left : List ℕ) → Result Unit Fault → PageMap → PageMap → Type 0
    → Type 0
EndsJoined page pair node left result before after is_sound =
    AreThree before page pair.lower pair.upper
    → IsAnswer result (λ done. HasJoined before after page pair node left × is_sound)

-- the two children of a pair have other entries, or other children
abbrev pub EndsShared : ℕ → Pair → PairBytes → Result Unit Fault → PageMap → PageMap → Type 0 → Type 0
EndsShared page pair bytes result before after is_sound =
    AreThree before page pair.lower pair.upper
    → IsAnswer result (λ done. HasShared before after page pair bytes × is_sound)

-- a separator beside child `place`, and the pages of the children on its two sides
pub record IsBeside (shape : NodeShape) (place : ℕ) (node : List ℕ) (pair : Pair) : Type 0 where
  pub inner : IsInner shape node
  pub within : pair.at < length (separators shape node)
  pub beside : place ≤ length (separators shape node) → (pair.at ≡ place) ⊎ (pair.at + 1 ≡ place)
  pub lower : pair.lower ≡ slice_index (children shape node) pair.at
  pub upper : pair.upper ≡ slice_index (children shape node) (pair.at + 1)

abbrev pub IsPairAt : NodeShape → ℕ → List ℕ → Option Pair → Type 0
IsPairAt shape place node (Some pair) = IsBeside shape place node pair
IsPairAt shape place node None = IsInner shape node → length (separators shape node) ≡ 0

-- an inner node with a separator, all of whose children are in use
pub record IsParent (shape : NodeShape) (pages : PageMap) (page : ℕ) : Type 0 where
  pub bytes : List ℕ
  pub there : pages page ≡ Some bytes
  pub inner : IsInner shape bytes
  pub some : length (separators shape bytes) ≢ 0
  pub kids : (i : ℕ) → i ≤ length (separators shape bytes)
      → IsSome (pages (slice_index (children shape bytes) i))

-- what stands in a node, and in two of its children
pub record HasRead (shape : NodeShape) (pages : PageMap) (page place : ℕ) (bytes : PairBytes)
    (pair : Pair) : Type 0 where
  pub parent : pages page ≡ Some bytes.node
  pub beside : IsBeside shape place bytes.node pair
  pub lower : pages pair.lower ≡ Some bytes.left
  pub upper : pages pair.upper ≡ Some bytes.right

abbrev pub ReadsPair : NodeShape → (page place : ℕ) → PairBytes → Result Pair Fault → PageMap → Type 0
ReadsPair shape page place bytes result pages =
    IsParent shape pages page → IsAnswer result (HasRead shape pages page place bytes)
