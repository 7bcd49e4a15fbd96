-- What an insert ensures below one page.
use Rattle.std.specs.Prelude.{◌≡◌, ℕ, ◌<◌, ◌≤◌, Bool, true, false, List, ◌++◌, length, take, Some, None}
use Rattle.std.specs.Prelude.{Option, Result, ⊤}
use Rattle.io_state.specs.declared.fault.Fault.{Fault}
use Rattle.tree_node.specs.declared.shape.NodeShape.{NodeShape}
use Rattle.pages.specs.PageMap.{PageMap}
use Rattle.pages.specs.Owners.{ChangesPages}
use Rattle.tree_node.specs.declared.separator.Separator.{Separator}
use Rattle.bplus_tree.specs.declared.insert.Grown.{Grown}
use Rattle.bplus_tree.specs.declared.insert.Grown.TheVariants.{Present, Added}
use Rattle.tree_search.specs.Tree.{TreeOf, entries_of, pages_of, Above, Below}
use Rattle.tree_search.specs.Calls.{size_of, entry_of, IsTree}
use Rattle.pages.specs.Answer.{IsAnswer}
use Rattle.bplus_tree.specs.Subtree.{Head, Subtree, IsWholeSubtree, IsInBounds}
use Rattle.bplus_tree.specs.Edits.{with_entry}
use Rattle.bplus_tree.specs.Split.{HasWidth}
use Rattle.tree_search.specs.Stored.{IsLeafAt}
use Rattle.bplus_tree.specs.Grow.{HasLeaf}
use Rattle.tree_node.specs.Leaf.{IsLeaf, leaf_entries, leaf_room}
use Rattle.tree_node.specs.Order.{Ascends}
use Rattle.bplus_tree.specs.Remove.{Becomes, IsHalfFullWithRoot}

-- The page heads the first of two trees now, which have these entries together, and the separator
-- leads to the second. Both are at least half full.
pub record BecomesTwo {at : Head} (old : Subtree at) (before after : PageMap) (entries : List (List ℕ))
    (separator : Separator) : Type 0 where
  pub left : TreeOf at.levels
  pub right : TreeOf at.levels
  pub under : Above old.low separator.key.items
  pub over : Below old.high separator.key.items
  pub left_stands : IsTree at.shape after at.levels at.page old.low (Some separator.key.items) left
  pub right_stands : IsTree at.shape after at.levels separator.child (Some separator.key.items) old.high right
  pub left_full : IsHalfFullWithRoot at.shape at.levels left
  pub right_full : IsHalfFullWithRoot at.shape at.levels right
  pub has : entries_of at.levels left ++ entries_of at.levels right ≡ entries
  pub changes : ChangesPages before after (pages_of at.levels old.tree)
      (pages_of at.levels left ++ pages_of at.levels right)

-- The page heads a tree of these entries now, or two where it was split. A root that was not split
-- has no fewer entries or separators.
abbrev pub HasGrown : {at : Head} → Subtree at → PageMap → PageMap → List (List ℕ) → Option Separator → Type 0
HasGrown {at} old before after entries None = Becomes old before after (size_of at.levels old.tree) entries
HasGrown old before after entries (Some separator) = BecomesTwo old before after entries separator

-- the key is there with this entry, and nothing has changed; or it was not, and the entry stands in order now
abbrev pub HasInsertedBelow : {at : Head} → Subtree at → PageMap → PageMap → List ℕ → Grown → Type 0
HasInsertedBelow {at} old before after e (Present found) =
    (entry_of at.shape.width (take at.shape.width e) (entries_of at.levels old.tree) ≡ Some found.items)
    × (after ≡ before)
HasInsertedBelow {at} old before after e (Added up) =
    (entry_of at.shape.width (take at.shape.width e) (entries_of at.levels old.tree) ≡ None)
    × HasGrown old before after (with_entry at.shape.width e (entries_of at.levels old.tree)) up

-- of a tree within bounds between which the key belongs
abbrev pub Inserts : Head → List ℕ → Result Grown Fault → PageMap → PageMap → Type 0 → Type 0
Inserts at e result before after is_sound =
    (old : Subtree at) → IsWholeSubtree before old → IsInBounds old (take at.shape.width e)
    → IsAnswer result (λ grown. HasInsertedBelow old before after e grown × is_sound)

-- where a separator goes up, it has a whole key
abbrev pub HasWholeKey : NodeShape → Grown → Type 0
HasWholeKey shape (Present found) = ⊤
HasWholeKey shape (Added up) = HasWidth shape.width up

-- the entry was put in where its key was not, and its leaf was not split; or nothing has changed
abbrev pub HasPutIf : {at : Head} → Subtree at → PageMap → PageMap → List ℕ → Bool → Type 0
HasPutIf old before after e true = HasInsertedBelow old before after e (Added None)
HasPutIf old before after e false = after ≡ before

abbrev pub PutsBelow : Head → List ℕ → Result Bool Fault → PageMap → PageMap → Type 0 → Type 0
PutsBelow at e result before after is_sound =
    (old : Subtree at) → IsWholeSubtree before old → IsInBounds old (take at.shape.width e)
    → IsAnswer result (λ done. HasPutIf old before after e done × is_sound)

-- the same of the entries of a leaf
abbrev pub IsPutIf : ℕ → List ℕ → (old new : List (List ℕ)) → Bool → Type 0
IsPutIf width e old new true = (entry_of width (take width e) old ≡ None) × (new ≡ with_entry width e old)
IsPutIf width e old new false = new ≡ old

-- and of the bytes of a leaf whose entries rise
abbrev pub PutsInBytes : NodeShape → List ℕ → (old new : List ℕ) → Bool → Type 0
PutsInBytes shape e old new done = Ascends shape.width (leaf_entries shape old)
    → IsPutIf shape.width e (leaf_entries shape old) (leaf_entries shape new) done

-- and of its page
abbrev pub HasPutInPlaceIf : NodeShape → PageMap → PageMap → ℕ → List ℕ → List (List ℕ) → Bool → Type 0
HasPutInPlaceIf shape before after page e entries true =
    (entry_of shape.width (take shape.width e) entries ≡ None)
    × HasLeaf shape before after page (with_entry shape.width e entries)
HasPutInPlaceIf shape before after page e entries false = after ≡ before

abbrev pub PutsInPlace : NodeShape → ℕ → List ℕ → Result Bool Fault → PageMap → PageMap → Type 0 → Type 0
PutsInPlace shape page e result before after is_sound =
    (entries : List (List ℕ)) → IsLeafAt shape before page entries → Ascends shape.width entries
    → IsAnswer result (λ done. HasPutInPlaceIf shape before after page e entries done × is_sound)

-- what is put into the bytes of a leaf is a whole entry
pub record CanPut (shape : NodeShape) (entry page : List ℕ) : Type 0 where
  pub leaf : IsLeaf shape page
  pub size : length entry ≡ shape.entry

-- the same, and there is a place for it
pub record CanPutAt (shape : NodeShape) (place : ℕ) (entry page : List ℕ) : Type 0 where
  pub leaf : IsLeaf shape page
  pub room : length (leaf_entries shape page) < leaf_room shape
  pub within : place ≤ length (leaf_entries shape page)
  pub size : length entry ≡ shape.entry

-- what is left of the bytes of a leaf, which are as they were where nothing was put in
pub record PutsInLeaf (shape : NodeShape) (entry old new : List ℕ) (done : Bool) : Type 0 where
  pub leaf : IsLeaf shape new
  pub put : PutsInBytes shape entry old new done
  pub same : done ≡ false → new ≡ old
