-- Where a cursor is in its tree.
use Rattle.std.specs.Prelude.{◌≡◌, ℕ, ◌+◌, ◌^◌, ◌-◌, ◌<◌, ◌≤◌, Bool, false, List, take, Option, Some, None}
use Rattle.std.specs.Prelude.{IsSome, Result, Ok, Err, IfOk, OnErr, option_map}
use Rattle.std.specs.Option.{option_map_or}
use Rattle.arrayvec.specs.ArrayVec.{ArrayVec}
use Rattle.io_state.specs.declared.fault.Fault.{Fault}
use Rattle.pages.specs.PageMap.{PageMap}
use Rattle.pages.specs.ShownPages.{ShownPages}
use Rattle.pages.specs.PageCalls.{ReadsPages}
use Rattle.bplus_tree.specs.declared.tree.Tree.{Tree}
use Rattle.bplus_tree.specs.declared.cursor.Cursor.{Cursor}
use Rattle.tree_search.specs.declared.spot.Spot.{Spot}
use Rattle.pages.specs.Answer.{IsAnswer}
use Rattle.tree_search.specs.Calls.{first_after}
use Rattle.tree_search.specs.Search.{filled}
use Rattle.tree_search.specs.LookUps.{WhenHonest}
use Rattle.tree_search.specs.Spot.{IsAtSpot, FoundAt, begins_with}
use Rattle.bplus_tree.specs.Standing.{TreeStands}

-- the entry that the cursor gave last stands where the cursor says
pub record IsCursorAt (cursor : Cursor) (tree : Tree) (pages : PageMap) (entries : List (List ℕ))
    (own : List ℕ) : Type 0 where
  pub entry : List ℕ
  pub stands : IsAtSpot tree.shape pages own entries cursor.spot entry
  pub key : take tree.shape.width entry ≡ cursor.key.items

-- The cursor is one of this tree. Where the tree has not changed since the cursor gave an entry,
-- the cursor is at that entry.
pub record Belongs (cursor : Cursor) (tree : Tree) (pages : PageMap) (entries : List (List ℕ))
    (own : List ℕ) : Type 0 where
  pub earlier : cursor.changes < 2 ^ 64 - 1 → cursor.changes ≤ tree.changes
  pub at : cursor.changes ≡ tree.changes → cursor.changes < 2 ^ 64 - 1 → 0 < cursor.spot.count
      → IsCursorAt cursor tree pages entries own

-- that of a tree, whatever pages it stands in
abbrev pub IsCursorOf : Tree → Cursor → Type 0
IsCursorOf tree cursor =
    (pages : PageMap) (entries : List (List ℕ)) (own : List ℕ) → Belongs cursor tree pages entries own

-- there is an entry behind the one that was given last, in the same leaf, and the tree has not changed since
pub record HasNeighbour (cursor : Cursor) (tree : Tree) : Type 0 where
  pub unchanged : cursor.changes ≡ tree.changes
  pub counted : cursor.changes < 2 ^ 64 - 1
  pub more : cursor.spot.place + 1 < cursor.spot.count

-- and pages may be asked for
pub record CanStep {S : Type 0} (shown : ShownPages S) (cursor : Cursor) (tree : Tree)
    (pages : S) : Type 0 where
  pub near : HasNeighbour cursor tree
  pub ready : shown.IsReady pages

-- the first entry above the cursor's key, and where it stands
pub record IsBehind (cursor : Cursor) (tree : Tree) (pages : PageMap) (entries : List (List ℕ))
    (own : List ℕ) (spot : Spot) (found : Option (ArrayVec ℕ)) : Type 0 where
  pub found_is : option_map (λ e. e.items) found ≡ first_after tree.shape.width cursor.key.items entries
  pub at : FoundAt tree.shape pages own entries spot found

abbrev pub LooksBehind : Cursor → Spot → Tree → PageMap → Result (Option (ArrayVec ℕ)) Fault → Type 0
LooksBehind cursor spot tree pages result =
    (entries : List (List ℕ)) (own : List ℕ) → TreeStands tree pages entries own
    → Belongs cursor tree pages entries own
    → IsAnswer result (IsBehind cursor tree pages entries own spot)

-- whether there is a first entry above the cursor's key that begins with these bytes
abbrev pub TellsNext : Cursor → Tree → PageMap → List ℕ → Result Bool Fault → Type 0
TellsNext cursor tree pages start result =
    (entries : List (List ℕ)) (own : List ℕ) → TreeStands tree pages entries own
    → Belongs cursor tree pages entries own
    → IsAnswer result (λ told. told ≡ option_map_or (begins_with start)
    (first_after tree.shape.width cursor.key.items entries) false)

-- The cursor knows where the entry that it gave last stands in the tree as it is, so that the step
-- to its neighbour searches for nothing.
pub record IsKept (cursor : Cursor) (tree : Tree) : Type 0 where
  pub unchanged : cursor.changes ≡ tree.changes
  pub somewhere : 0 < cursor.spot.count

-- the first entry above the cursor's key, and a cursor at that entry
pub record HasMoved (old new : Cursor) (tree : Tree) (pages : PageMap) (entries : List (List ℕ))
    (own : List ℕ) (found : Option (ArrayVec ℕ)) : Type 0 where
  pub found_is : option_map (λ e. e.items) found ≡ first_after tree.shape.width old.key.items entries
  pub belongs : Belongs new tree pages entries own
  pub kept : IsSome found → IsKept new tree

abbrev pub CursorMoves : Cursor → Cursor → Tree → PageMap → Result (Option (ArrayVec ℕ)) Fault → Type 0
CursorMoves old new tree pages result =
    (entries : List (List ℕ)) (own : List ℕ) → TreeStands tree pages entries own
    → Belongs old tree pages entries own
    → IsAnswer result (HasMoved old new tree pages entries own)

-- the key of the entry that was given, or the one before where none was
abbrev pub key_after : ℕ → List ℕ → Option (ArrayVec ℕ) → List ℕ
key_after width key None = key
key_after width key (Some e) = take width e.items

-- what a call answers that lends an entry to be filled: that entry, or none
abbrev pub lent : ArrayVec ℕ → Result Bool Fault → Result (Option (ArrayVec ℕ)) Fault
lent entry (Ok found) = Ok (filled entry found)
lent entry (Err fault) = Err fault

-- What a step of a cursor to the next entry leaves: at a fault the cursor is as it was.
pub record StepsOn {S : Type 0} (shown : ShownPages S) (most : ℕ) (tree : Tree) (was is : Cursor)
    (old new : S) (result : Result (Option (ArrayVec ℕ)) Fault) : Type 0 where
  pub moved : WhenHonest shown old new (λ live. CursorMoves was is tree live result)
  pub key : IfOk result (λ found. is.key.items ≡ key_after tree.shape.width was.key.items found)
  pub near : HasNeighbour was tree → (shown.state new).asked ≤ (shown.state old).asked + 1
  pub reads : ReadsPages shown most old new result
  pub err : OnErr result (is ≡ was)

-- the same of a step to another leaf: only where the next entry is not in the same leaf
abbrev pub StepsFurther : {S : Type 0} → ShownPages S → ℕ → Tree → (was is : Cursor) → (old new : S)
    → Result (Option (ArrayVec ℕ)) Fault → Type 0
StepsFurther shown most tree was is old new result =
    (HasNeighbour was tree → ⊥) → StepsOn shown most tree was is old new result
