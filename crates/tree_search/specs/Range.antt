-- The entries whose keys lie in a range, both ends of which belong to it.
use Rattle.std.specs.Prelude.{◌≡◌, ℕ, ◌<◌, ◌≤◌, Bool, true, false, not, ◌&&◌, List, [], ◌∷◌, ◌++◌, length}
use Rattle.std.specs.Prelude.{take, find, filter, slice_index_or, Option, Some, None, Result, Ok, Err, IsTrue}
use Rattle.std.specs.Prelude.{IfOk, is_some, ◌+◌, ⊤}
use Rattle.std.specs.Option.{option_map_or}
use Rattle.arrayvec.specs.ArrayVec.{ArrayVec}
use Rattle.io_state.specs.declared.fault.Fault.{Fault}
use Rattle.tree_node.specs.declared.shape.NodeShape.{NodeShape}
use Rattle.tree_node.specs.Order.{less, Ascends, IsRank}
use Rattle.pages.specs.Each.{Each}
use Rattle.pages.specs.PageMap.{PageMap}
use Rattle.pages.specs.ShownPages.{ShownPages}
use Rattle.pages.specs.Answer.{IsAnswer}
use Rattle.tree_node.specs.Fill.{least_entries}
use Rattle.tree_search.specs.declared.range.First.{First}
use Rattle.tree_search.specs.declared.range.Sight.{Sight}
use Rattle.tree_search.specs.declared.range.Sight.TheVariants.{Answered, Unended}
use Rattle.tree_search.specs.declared.range.Fork.{Fork}
use Rattle.tree_search.specs.Tree.{TreeOf, entries_of, Bound, Below}
use Rattle.tree_search.specs.Calls.{size_of, IsHalfFull, first_after, IsTree}
use Rattle.tree_search.specs.Stored.{IsLeafAt, IsInnerAt}
use Rattle.tree_search.specs.Descent.{IsDescentStep}
use Rattle.tree_search.specs.Search.{filled}

-- the key of the entry lies in the range
abbrev pub is_within : ℕ → List ℕ → List ℕ → List ℕ → Bool
is_within width from to e = not (less (take width e) from) && not (less to (take width e))

-- the first entry that does, and whether the next entry does too
abbrev pub IsFirst : ℕ → List ℕ → List ℕ → List (List ℕ) → Option First → Type 0
IsFirst width from to entries None = find (is_within width from to) entries ≡ None
IsFirst width from to entries (Some first) =
    (find (is_within width from to) entries ≡ Some first.entry.items)
    × (first.followed ≡ option_map_or (is_within width from to)
    (first_after width (take width first.entry.items) entries) false)

abbrev pub FindsBelow : NodeShape → (h page : ℕ) → List ℕ → List ℕ → PageMap → Result (Option First) Fault
    → Type 0
FindsBelow shape h page from to pages result =
    (t : TreeOf h) → IsTree shape pages h page None None t → IsHalfFull shape h t
    → IsAnswer result (IsFirst shape.width from to (entries_of h t))

-- the entries in the range
abbrev pub within : ℕ → List ℕ → List ℕ → List (List ℕ) → List (List ℕ)
within width from to = filter (is_within width from to)

abbrev pub are_some : List (List ℕ) → Bool
are_some [] = false
are_some (e ∷ es) = true

-- these entries are none, or begin with this one, behind which there are others where it is followed
abbrev pub Begin : List (List ℕ) → Option First → Type 0
Begin [] None = ⊤
Begin [] (Some first) = ⊥
Begin (e ∷ es) None = ⊥
Begin (e ∷ es) (Some first) = (first.entry.items ≡ e) × (first.followed ≡ are_some es)

-- the entry that was filled, where it is one of the range, and whether the next one is too
abbrev pub first_with : ArrayVec ℕ → Option Bool → Option First
first_with entry None = None
first_with entry (Some followed) = Some (record { entry = entry; followed = followed })

-- what is told of one entry alone, if there is one
abbrev pub alone : Bool → Option Bool
alone true = Some false
alone false = None

-- the answer of a look that fills an entry
abbrev pub told_first : ArrayVec ℕ → Result (Option Bool) Fault → Result (Option First) Fault
told_first entry (Ok found) = Ok (first_with entry found)
told_first entry (Err fault) = Err fault

-- what a look has come to: the answer, whatever stands behind the page, or the one entry of the
-- range that is here, if there is one
pub data Seen : Type 0 where
  Settled : Option First → Seen
  Open : Option (ArrayVec ℕ) → Seen

-- the same of a look that fills an entry
abbrev pub seen : ArrayVec ℕ → Sight → Seen
seen entry (Answered found) = Settled (first_with entry found)
seen entry (Unended here) = Open (filled entry here)

abbrev pub told_seen : ArrayVec ℕ → Result Sight Fault → Result Seen Fault
told_seen entry (Ok sight) = Ok (seen entry sight)
told_seen entry (Err fault) = Err fault

-- this entry alone, if there is one
abbrev pub only : Option (ArrayVec ℕ) → List (List ℕ)
only None = []
only (Some e) = e.items ∷ []

-- an entry may stand behind those below this bound
abbrev pub IsBeyond : ℕ → Bound → List ℕ → Type 0
IsBeyond width None e = ⊥
IsBeyond width (Some high) e = less (take width e) high ≡ false

abbrev pub IsUnended : Sight → Type 0
IsUnended (Answered found) = ⊥
IsUnended (Unended here) = ⊤

-- what a look has come to below a page whose entries are below this bound: the answer for these
-- entries and all others that may stand behind them, or the one entry of the range that is here, if
-- there is one
abbrev pub IsSight : ℕ → List ℕ → List ℕ → Bound → List (List ℕ) → Seen → Type 0
IsSight width from to high entries (Settled found) =
    (others : List (List ℕ)) → Each (IsBeyond width high) others
    → Begin (within width from to (entries ++ others)) found
IsSight width from to high entries (Open last) = within width from to entries ≡ only last

abbrev pub Sights : NodeShape → PageMap → (h page : ℕ) → List ℕ → List ℕ → Result Seen Fault → Type 0
Sights shape pages h page from to result =
    (t : TreeOf h) (low high : Bound) → IsTree shape pages h page low high t → IsHalfFull shape h t
    → IsAnswer result (IsSight shape.width from to high (entries_of h t))

-- the same of a leaf alone
abbrev pub SightsInLeaf : NodeShape → PageMap → (page : ℕ) → List ℕ → List ℕ → Result Seen Fault → Type 0
SightsInLeaf shape pages page from to result =
    (entries : List (List ℕ)) (high : Bound) → IsLeafAt shape pages page entries → Ascends shape.width entries
    → Each (λ e. Below high (take shape.width e)) entries
    → IsAnswer result (IsSight shape.width from to high entries)

-- a look from a place of a leaf on
abbrev pub IsSightFrom : ℕ → ℕ → List ℕ → List (List ℕ) → Seen → Type 0
IsSightFrom width place to entries sight =
    (from : List ℕ) (high : Bound) → Ascends width entries → IsRank width from entries place
    → Each (λ e. Below high (take width e)) entries → IsSight width from to high entries sight

-- the answer of a tree that is no root and has no entry below the range
abbrev pub Fronts : NodeShape → PageMap → (h page : ℕ) → List ℕ → Result (Option First) Fault → Type 0
Fronts shape pages h page to result =
    (from : List ℕ) (t : TreeOf h) (low high : Bound) → IsTree shape pages h page low high t
    → IsHalfFull shape h t → least_entries shape h ≤ size_of h t
    → Each (λ e. less (take shape.width e) from ≡ false) (entries_of h t)
    → IsAnswer result (λ found. IsSight shape.width from to high (entries_of h t) (Settled found))

abbrev pub FrontsInLeaf : NodeShape → PageMap → (page : ℕ) → List ℕ → Result (Option First) Fault → Type 0
FrontsInLeaf shape pages page to result =
    (from : List ℕ) (entries : List (List ℕ)) (high : Bound) → IsLeafAt shape pages page entries
    → Ascends shape.width entries
    → Each (λ e. Below high (take shape.width e)) entries → least_entries shape 0 ≤ length entries
    → Each (λ e. less (take shape.width e) from ≡ false) entries
    → IsAnswer result (λ found. IsSight shape.width from to high entries (Settled found))

-- whether such a tree has an entry of the range
abbrev pub HasFront : NodeShape → PageMap → (h page : ℕ) → List ℕ → Result Bool Fault → Type 0
HasFront shape pages h page to (Ok told) = (front : Option First)
    × (Fronts shape pages h page to (Ok front) × (told ≡ is_some front))
HasFront shape pages h page to (Err fault) = Fronts shape pages h page to (Err fault)

-- one step down to where a range begins; where it is past, the separator behind the child lies past the range
pub record IsFork (width : ℕ) (from to : List ℕ) (separators : List (List ℕ)) (below : List ℕ)
    (fork : Fork) : Type 0 where
  pub step : IsDescentStep width from separators below fork.step
  pub inside : IsTrue fork.past → fork.step.place < length separators
  pub above : IsTrue fork.past → less to (slice_index_or separators fork.step.place []) ≡ true

abbrev pub Forks : NodeShape → PageMap → (page : ℕ) → List ℕ → List ℕ → Result Fork Fault → Type 0
Forks shape pages page from to result =
    (separators : List (List ℕ)) (below : List ℕ) → IsInnerAt shape pages page separators below
    → IsAnswer result (IsFork shape.width from to separators below)

-- the same of looks that fill an entry
abbrev pub FillsBelow : NodeShape → (h page : ℕ) → List ℕ → List ℕ → ArrayVec ℕ → PageMap
    → Result (Option Bool) Fault → Type 0
FillsBelow shape h page from to entry pages result =
    FindsBelow shape h page from to pages (told_first entry result)

abbrev pub SeesBelow : NodeShape → (h page : ℕ) → List ℕ → List ℕ → ArrayVec ℕ → Result Sight Fault → PageMap
    → Type 0
SeesBelow shape h page from to entry result pages =
    Sights shape pages h page from to (told_seen entry result)

abbrev pub SeesInLeaf : NodeShape → ℕ → List ℕ → List ℕ → ArrayVec ℕ → PageMap → Result Sight Fault → Type 0
SeesInLeaf shape page from to entry pages result =
    SightsInLeaf shape pages page from to (told_seen entry result)

abbrev pub FillsFrontBelow : NodeShape → (h page : ℕ) → List ℕ → ArrayVec ℕ → PageMap → Result (Option Bool) Fault
    → Type 0
FillsFrontBelow shape h page to entry pages result = Fronts shape pages h page to (told_first entry result)

abbrev pub FillsFrontOfLeaf : NodeShape → ℕ → List ℕ → ArrayVec ℕ → PageMap → Result (Option Bool) Fault → Type 0
FillsFrontOfLeaf shape page to entry pages result =
    FrontsInLeaf shape pages page to (told_first entry result)

-- a look that the end of the page has stopped has asked for one page a level
abbrev pub AsksFewAtEnd : {S : Type 0} → ShownPages S → ℕ → (old new : S) → Result Sight Fault → Type 0
AsksFewAtEnd shown levels old new result = IfOk result (λ sight. IsUnended sight
    → (shown.state new).asked ≤ (shown.state old).asked + (levels + 1))
