-- What searches answer below one page.
use Rattle.std.specs.Prelude.{◌≡◌, ℕ, ◌≤◌, Bool, true, false, List, find, length, slice_index, Some, None}
use Rattle.std.specs.Prelude.{Option, option_map, Result}
use Rattle.arrayvec.specs.ArrayVec.{ArrayVec}
use Rattle.io_state.specs.declared.fault.Fault.{Fault}
use Rattle.tree_node.specs.declared.shape.NodeShape.{NodeShape}
use Rattle.tree_node.specs.Order.{Ascends, IsRank, IsRankAfter}
use Rattle.pages.specs.PageMap.{PageMap}
use Rattle.tree_search.specs.Tree.{TreeOf, page_of, entries_of, Bound}
use Rattle.tree_search.specs.Calls.{size_of, IsHalfFull, IsTree, entry_of, first_from, first_after, last_of}
use Rattle.tree_search.specs.Stored.{Holds, IsLeafAt, IsInnerAt, WhereRising}
use Rattle.pages.specs.Answer.{IsAnswer}

-- the first entry at a key or behind it; where `past`, the first one behind it
abbrev pub first_of : Bool → ℕ → List ℕ → List (List ℕ) → Option (List ℕ)
first_of false width key = first_from width key
first_of true width key = first_after width key

-- how many entries come before it in a leaf
abbrev pub IsPlace : Bool → ℕ → List ℕ → List (List ℕ) → ℕ → Type 0
IsPlace false width key entries place = IsRank width key entries place
IsPlace true width key entries place = IsRankAfter width key entries place

-- the first entry
abbrev pub head_of : List (List ℕ) → Option (List ℕ)
head_of = find (λ e. true)

abbrev pub IsFound : (List (List ℕ) → Option (List ℕ)) → List (List ℕ) → Option (ArrayVec ℕ) → Type 0
IsFound look entries found = option_map (λ e. e.items) found ≡ look entries

-- of a tree that stands, and of a tree that is filled too
abbrev pub Finds : NodeShape → PageMap → ℕ → ℕ → (List (List ℕ) → Option (List ℕ))
    → Result (Option (ArrayVec ℕ)) Fault → Type 0
Finds shape pages h page look result =
    (t : TreeOf h) (low high : Bound) → IsTree shape pages h page low high t
    → IsAnswer result (IsFound look (entries_of h t))

abbrev pub FindsFilled : NodeShape → PageMap → ℕ → ℕ → (List (List ℕ) → Option (List ℕ))
    → Result (Option (ArrayVec ℕ)) Fault → Type 0
FindsFilled shape pages h page look result =
    (t : TreeOf h) (low high : Bound) → IsTree shape pages h page low high t → IsHalfFull shape h t
    → IsAnswer result (IsFound look (entries_of h t))

abbrev pub FindsInLeaf : NodeShape → PageMap → ℕ → (List (List ℕ) → Option (List ℕ))
    → Result (Option (ArrayVec ℕ)) Fault → Type 0
FindsInLeaf shape pages page look result =
    (entries : List (List ℕ)) → IsLeafAt shape pages page entries → Ascends shape.width entries
    → IsAnswer result (IsFound look entries)

-- a leaf in which the entry of a key stands, where the tree has one
pub record IsLeafFor (shape : NodeShape) (pages : PageMap) (h : ℕ) (key : List ℕ) (t : TreeOf h)
    (leaf : ℕ) : Type 0 where
  pub entries : List (List ℕ)
  pub at : IsLeafAt shape pages leaf entries
  pub rises : Ascends shape.width entries
  pub same : entry_of shape.width key (entries_of h t) ≡ entry_of shape.width key entries

abbrev pub LeadsToLeaf : NodeShape → PageMap → ℕ → ℕ → List ℕ → Result ℕ Fault → Type 0
LeadsToLeaf shape pages h page key result =
    (t : TreeOf h) (low high : Bound) → IsTree shape pages h page low high t
    → IsAnswer result (IsLeafFor shape pages h key t)

-- the entry that was filled, or none
abbrev pub filled : ArrayVec ℕ → Bool → Option (ArrayVec ℕ)
filled entry true = Some entry
filled entry false = None

abbrev pub FillsFromLeaf : NodeShape → PageMap → ℕ → (List (List ℕ) → Option (List ℕ)) → ArrayVec ℕ
    → Result Bool Fault → Type 0
FillsFromLeaf shape pages page look entry result =
    (entries : List (List ℕ)) → IsLeafAt shape pages page entries → Ascends shape.width entries
    → IsAnswer result (λ done. IsFound look entries (filled entry done))

-- the first entry of a tree that has one
abbrev pub FindsFirstEntry : NodeShape → PageMap → ℕ → ℕ → Result (ArrayVec ℕ) Fault → Type 0
FindsFirstEntry shape pages h page result =
    (t : TreeOf h) → Holds shape pages h t → page_of h t ≡ page → IsHalfFull shape h t → 1 ≤ size_of h t
    → IsAnswer result (λ e. head_of (entries_of h t) ≡ Some e.items)

abbrev pub FirstOfLeaf : NodeShape → PageMap → ℕ → Result (ArrayVec ℕ) Fault → Type 0
FirstOfLeaf shape pages page result =
    (entries : List (List ℕ)) → IsLeafAt shape pages page entries → 1 ≤ length entries
    → IsAnswer result (λ e. head_of entries ≡ Some e.items)

abbrev pub FirstChild : NodeShape → PageMap → ℕ → Result ℕ Fault → Type 0
FirstChild shape pages page result =
    (separators : List (List ℕ)) (below : List ℕ) → IsInnerAt shape pages page separators below
    → IsAnswer result (λ child. child ≡ slice_index below 0)

-- the last entry of a tree that is filled
abbrev pub FindsLast : NodeShape → PageMap → ℕ → ℕ → Result (Option (ArrayVec ℕ)) Fault → Type 0
FindsLast shape pages h page result =
    (t : TreeOf h) (low high : Bound) → IsTree shape pages h page low high t → IsHalfFull shape h t
    → IsAnswer result (IsFound last_of (entries_of h t))

abbrev pub LastOfLeaf : NodeShape → PageMap → ℕ → Result (Option (ArrayVec ℕ)) Fault → Type 0
LastOfLeaf shape pages page result =
    (entries : List (List ℕ)) → IsLeafAt shape pages page entries → IsAnswer result (IsFound last_of entries)

abbrev pub LastChild : NodeShape → PageMap → ℕ → Result ℕ Fault → Type 0
LastChild shape pages page result =
    (separators : List (List ℕ)) (below : List ℕ) → IsInnerAt shape pages page separators below
    → IsAnswer result (λ child. child ≡ slice_index below (length separators))

-- the entry of a key, in a tree, in a leaf, and in the bytes of a leaf
abbrev pub FindsKey : NodeShape → ℕ → ℕ → List ℕ → PageMap → Result (Option (ArrayVec ℕ)) Fault → Type 0
FindsKey shape h page key pages result = Finds shape pages h page (entry_of shape.width key) result

abbrev pub FillsKey : NodeShape → ℕ → List ℕ → ArrayVec ℕ → PageMap → Result Bool Fault → Type 0
FillsKey shape page key entry pages result =
    FillsFromLeaf shape pages page (entry_of shape.width key) entry result

abbrev pub FillsFromBytes : NodeShape → List ℕ → List ℕ → ArrayVec ℕ → Bool → Type 0
FillsFromBytes shape page key entry done =
    WhereRising shape page (λ entries. IsFound (entry_of shape.width key) entries (filled entry done))

-- the first entry at a key or behind it, and where `past`, the first one behind it
abbrev pub FindsNextEntry : Bool → NodeShape → ℕ → ℕ → List ℕ → PageMap → Result (Option (ArrayVec ℕ)) Fault
    → Type 0
FindsNextEntry past shape h page key pages result =
    FindsFilled shape pages h page (first_of past shape.width key) result

abbrev pub FindsNextInLeaf : Bool → NodeShape → ℕ → List ℕ → PageMap → Result (Option (ArrayVec ℕ)) Fault
    → Type 0
FindsNextInLeaf past shape page key pages result =
    FindsInLeaf shape pages page (first_of past shape.width key) result
