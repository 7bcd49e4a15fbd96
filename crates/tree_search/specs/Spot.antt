-- Where an entry stands in a tree.
use Rattle.std.specs.Prelude.{◌≡◌, ℕ, ◌<◌, ◌≤◌, Bool, true, false, List, [], ◌++◌, length, take}
use Rattle.std.specs.Prelude.{slice_index_or, bytes_eq, Option, Some, None, Result, IfOk, ⊤}
use Rattle.arrayvec.specs.ArrayVec.{ArrayVec}
use Rattle.io_state.specs.declared.fault.Fault.{Fault}
use Rattle.tree_node.specs.declared.shape.NodeShape.{NodeShape}
use Rattle.pages.specs.PageMap.{PageMap}
use Rattle.pages.specs.Owners.{IsOutside}
use Rattle.tree_search.specs.declared.spot.Spot.{Spot}
use Rattle.tree_search.specs.Tree.{TreeOf, page_of, entries_of, pages_of, Bound}
use Rattle.tree_search.specs.Calls.{size_of, IsHalfFull, IsTree}
use Rattle.tree_search.specs.Stored.{Holds, IsLeafAt}
use Rattle.pages.specs.Answer.{IsAnswer}

-- the entry stands in this leaf, where the spot says
pub record IsInLeaf (leaf : ℕ) (entries : List (List ℕ)) (spot : Spot) (entry : List ℕ) : Type 0 where
  pub leaf_is : spot.leaf ≡ leaf
  pub within : spot.place < length entries
  pub count : spot.count ≡ length entries
  pub entry_is : entry ≡ slice_index_or entries spot.place []

abbrev pub IsInLeafIf : ℕ → List (List ℕ) → Spot → Option (ArrayVec ℕ) → Type 0
IsInLeafIf leaf entries spot None = ⊤
IsInLeafIf leaf entries spot (Some entry) = IsInLeaf leaf entries spot entry.items

-- the entry at a place of a leaf, or none where the leaf has no more
abbrev pub IsEntryAt : ℕ → ℕ → List (List ℕ) → Spot → Option (ArrayVec ℕ) → Type 0
IsEntryAt leaf place entries spot None = length entries ≤ place
IsEntryAt leaf place entries spot (Some entry) = (spot.place ≡ place) × IsInLeaf leaf entries spot entry.items

abbrev pub EntryAt : NodeShape → PageMap → (page place : ℕ) → Spot → Result (Option (ArrayVec ℕ)) Fault → Type 0
EntryAt shape pages page place spot result =
    (entries : List (List ℕ)) → IsLeafAt shape pages page entries
    → IsAnswer result (IsEntryAt page place entries spot)

-- the entry at a place of a leaf was copied, or the leaf has no more
abbrev pub IsCopyAt : ℕ → List (List ℕ) → List ℕ → Bool → Type 0
IsCopyAt place entries entry true = (place < length entries) × (entry ≡ slice_index_or entries place [])
IsCopyAt place entries entry false = length entries ≤ place

abbrev pub CopiesEntry : NodeShape → PageMap → (page place : ℕ) → List ℕ → Result Bool Fault → Type 0
CopiesEntry shape pages page place entry result =
    (entries : List (List ℕ)) → IsLeafAt shape pages page entries
    → IsAnswer result (IsCopyAt place entries entry)

-- the entry begins with these bytes
abbrev pub begins_with : List ℕ → List ℕ → Bool
begins_with start entry = bytes_eq (take (length start) entry) start

-- whether the entry at a place of a leaf, which has so many, begins so
abbrev pub TellsStart : NodeShape → PageMap → (page place : ℕ) → List ℕ → Result Bool Fault → Type 0
TellsStart shape pages page place start result =
    (entries : List (List ℕ)) → IsLeafAt shape pages page entries → place < length entries
    → IsAnswer result (λ told. told ≡ begins_with start (slice_index_or entries place []))

-- the entry stands at this place of this leaf of these pages, between these of the entries
pub record IsAtSpot (shape : NodeShape) (pages : PageMap) (own : List ℕ) (entries : List (List ℕ))
    (spot : Spot) (entry : List ℕ) : Type 0 where
  pub before : List (List ℕ)
  pub here : List (List ℕ)
  pub behind : List (List ℕ)
  pub parts : entries ≡ before ++ (here ++ behind)
  pub leaf : IsLeafAt shape pages spot.leaf here
  pub inside : IsOutside own spot.leaf → ⊥
  pub within : spot.place < length here
  pub count : spot.count ≡ length here
  pub entry_is : entry ≡ slice_index_or here spot.place []

-- where the entry that was found stands
abbrev pub FoundAt : NodeShape → PageMap → List ℕ → List (List ℕ) → Spot → Option (ArrayVec ℕ) → Type 0
FoundAt shape pages own entries spot None = ⊤
FoundAt shape pages own entries spot (Some entry) = IsAtSpot shape pages own entries spot entry.items

abbrev pub Spots : NodeShape → PageMap → (h page : ℕ) → Spot → Result (Option (ArrayVec ℕ)) Fault → Type 0
Spots shape pages h page spot result =
    (t : TreeOf h) (low high : Bound) → IsTree shape pages h page low high t → IsHalfFull shape h t
    → IfOk result (FoundAt shape pages (pages_of h t) (entries_of h t) spot)

abbrev pub SpotsFirst : NodeShape → PageMap → (h page : ℕ) → Spot → Result (ArrayVec ℕ) Fault → Type 0
SpotsFirst shape pages h page spot result =
    (t : TreeOf h) → Holds shape pages h t → page_of h t ≡ page → IsHalfFull shape h t → 1 ≤ size_of h t
    → IfOk result (λ e. IsAtSpot shape pages (pages_of h t) (entries_of h t) spot e.items)

-- the same of a leaf alone
abbrev pub SpotsInLeaf : NodeShape → PageMap → ℕ → Spot → Result (Option (ArrayVec ℕ)) Fault → Type 0
SpotsInLeaf shape pages page spot result =
    (entries : List (List ℕ)) → IsLeafAt shape pages page entries → IfOk result (IsInLeafIf page entries spot)

abbrev pub SpotsFirstInLeaf : NodeShape → PageMap → ℕ → Spot → Result (ArrayVec ℕ) Fault → Type 0
SpotsFirstInLeaf shape pages page spot result =
    (entries : List (List ℕ)) → IsLeafAt shape pages page entries
    → IfOk result (λ e. IsInLeaf page entries spot e.items)
