-- What one visit of a node answers.
use Rattle.std.specs.Prelude.{◌≡◌, ℕ, ◌+◌, ◌<◌, ◌≤◌, Bool, true, false, List, [], length, slice_index}
use Rattle.std.specs.Prelude.{slice_index_or, Some, None, Result, option_map}
use Rattle.io_state.specs.declared.fault.Fault.{Fault}
use Rattle.tree_node.specs.declared.shape.NodeShape.{NodeShape}
use Rattle.tree_node.specs.Order.{Ascends, IsRank, IsRankAfter}
use Rattle.pages.specs.PageMap.{PageMap}
use Rattle.tree_search.specs.declared.descent.StepDown.{StepDown}
use Rattle.tree_search.specs.declared.descent.LeafLook.{LeafLook}
use Rattle.tree_search.specs.Stored.{IsLeafAt, IsInnerAt, WhereRising}
use Rattle.pages.specs.Answer.{IsAnswer}
use Rattle.tree_search.specs.Calls.{entry_of}

-- the child to the right of all separators that are not above the key, and the one behind it
pub record IsDescentStep (width : ℕ) (key : List ℕ) (separators : List (List ℕ)) (below : List ℕ)
    (step : StepDown) : Type 0 where
  pub rank : Ascends width separators → IsRankAfter width key separators step.place
  pub within : step.place ≤ length separators
  pub child : step.child ≡ slice_index below step.place
  pub next : step.place < length separators → step.next ≡ slice_index below (step.place + 1)
  pub count : step.count ≡ length separators

abbrev pub Steps : NodeShape → PageMap → ℕ → List ℕ → Result StepDown Fault → Type 0
Steps shape pages page key result =
    (separators : List (List ℕ)) (below : List ℕ) → IsInnerAt shape pages page separators below
    → IsAnswer result (IsDescentStep shape.width key separators below)

-- the place of the key among the entries, and its entry
pub record IsLook (width : ℕ) (key : List ℕ) (entries : List (List ℕ)) (look : LeafLook) : Type 0 where
  pub rank : IsRank width key entries look.place
  pub found : option_map (λ e. e.items) look.found ≡ entry_of width key entries

abbrev pub Looks : NodeShape → PageMap → ℕ → List ℕ → Result LeafLook Fault → Type 0
Looks shape pages page key result =
    (entries : List (List ℕ)) → IsLeafAt shape pages page entries → Ascends shape.width entries
    → IsAnswer result (IsLook shape.width key entries)

-- whether the entry of a key stands at this place
pub record IsKeyAt (width : ℕ) (key : List ℕ) (entries : List (List ℕ)) (place : ℕ)
    (has : Bool) : Type 0 where
  pub present : has ≡ true → entry_of width key entries ≡ Some (slice_index_or entries place [])
  pub absent : has ≡ false → entry_of width key entries ≡ None

-- the same of the bytes of a leaf whose entries rise, where the place is that of the key
abbrev pub TellsKeyAt : NodeShape → List ℕ → ℕ → List ℕ → Bool → Type 0
TellsKeyAt shape key place page has = WhereRising shape page
    (λ entries. IsRank shape.width key entries place → IsKeyAt shape.width key entries place has)
