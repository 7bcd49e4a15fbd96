-- What is told of the entry of a key, without the entry.
use Rattle.std.specs.Prelude.{◌≡◌, ℕ, ◌+◌, Bool, true, false, List, length, drop, Option, Some, None, Result}
use Rattle.std.specs.Prelude.{option_map, is_some}
use Rattle.io_state.specs.declared.fault.Fault.{Fault}
use Rattle.tree_node.specs.declared.shape.NodeShape.{NodeShape}
use Rattle.tree_node.specs.Order.{Ascends}
use Rattle.tree_node.specs.Leaf.{IsLeaf}
use Rattle.pages.specs.ShownPages.{ShownPages}
use Rattle.pages.specs.PageMap.{PageMap}
use Rattle.pages.specs.Answer.{IsAnswer}
use Rattle.tree_search.specs.Tree.{TreeOf, entries_of, Bound}
use Rattle.tree_search.specs.Stored.{IsLeafAt, WhereRising}
use Rattle.tree_search.specs.Calls.{IsTree, entry_of}

-- the bytes that were filled in, or none
abbrev pub filled_tail : List ℕ → Bool → Option (List ℕ)
filled_tail tail true = Some tail
filled_tail tail false = None

-- these bytes are those behind the key of the entry, where there is one
abbrev pub IsTail : ℕ → List ℕ → Option (List ℕ) → Bool → Type 0
IsTail width tail entry told = filled_tail tail told ≡ option_map (drop width) entry

-- whether there is an entry
abbrev pub TellsPresence : Option (List ℕ) → Bool → Type 0
TellsPresence entry told = told ≡ is_some entry

-- what a look-up tells of the entry of a key
abbrev pub TellsBelow : (Option (List ℕ) → Bool → Type 0) → NodeShape → PageMap → (h page : ℕ) → List ℕ
    → Result Bool Fault → Type 0
TellsBelow Says shape pages h page key result =
    (t : TreeOf h) (low high : Bound) → IsTree shape pages h page low high t
    → IsAnswer result (Says (entry_of shape.width key (entries_of h t)))

-- the same of a leaf alone
abbrev pub TellsInLeaf : (Option (List ℕ) → Bool → Type 0) → NodeShape → PageMap → ℕ → List ℕ
    → Result Bool Fault → Type 0
TellsInLeaf Says shape pages page key result =
    (entries : List (List ℕ)) → IsLeafAt shape pages page entries → Ascends shape.width entries
    → IsAnswer result (Says (entry_of shape.width key entries))

-- the bytes behind a key are filled in, where a tree has an entry of it
abbrev pub TellsTail : NodeShape → (h page : ℕ) → List ℕ → List ℕ → PageMap → Result Bool Fault → Type 0
TellsTail shape h page key tail pages result =
    TellsBelow (IsTail shape.width tail) shape pages h page key result

-- the same of a leaf, and of the bytes of a leaf
abbrev pub TellsTailInLeaf : NodeShape → ℕ → List ℕ → List ℕ → PageMap → Result Bool Fault → Type 0
TellsTailInLeaf shape page key tail pages result =
    TellsInLeaf (IsTail shape.width tail) shape pages page key result

abbrev pub TellsTailOfBytes : NodeShape → List ℕ → List ℕ → List ℕ → Bool → Type 0
TellsTailOfBytes shape page key tail told =
    WhereRising shape page (λ entries. IsTail shape.width tail (entry_of shape.width key entries) told)

-- whether a tree has an entry of a key
abbrev pub HasKeyBelow : NodeShape → (h page : ℕ) → List ℕ → PageMap → Result Bool Fault → Type 0
HasKeyBelow shape h page key pages result = TellsBelow TellsPresence shape pages h page key result

-- pages may be asked for, and what is to be filled in is as long as what stands behind a key
pub record CanFillTail {S : Type 0} (shown : ShownPages S) (shape : NodeShape) (tail : List ℕ)
    (pages : S) : Type 0 where
  pub ready : shown.IsReady pages
  pub size : shape.width + length tail ≡ shape.entry

-- the same of the bytes of a leaf
pub record CanFillFromLeaf (shape : NodeShape) (tail page : List ℕ) : Type 0 where
  pub leaf : IsLeaf shape page
  pub size : shape.width + length tail ≡ shape.entry
