-- A tree that stands in pages, and what its calls answer and leave.
use Rattle.std.specs.Prelude.{◌≡◌, ℕ, ◌+◌, ◌-◌, ◌^◌, Bool, List, [], length, take, min, Option, Some, None}
use Rattle.std.specs.Prelude.{Result, option_map}
use Rattle.arrayvec.specs.ArrayVec.{ArrayVec}
use Rattle.io_state.specs.declared.fault.Fault.{Fault}
use Rattle.tree_node.specs.declared.shape.NodeShape.{NodeShape}
use Rattle.pages.specs.PageMap.{PageMap}
use Rattle.pages.specs.Owners.{ChangesPages}
use Rattle.bplus_tree.specs.declared.tree.Tree.{Tree}
use Rattle.tree_search.specs.Tree.{TreeOf, entries_of, pages_of}
use Rattle.bplus_tree.specs.Edits.{with_entry, without_key}
use Rattle.pages.specs.Answer.{IsAnswer}
use Rattle.tree_search.specs.Calls.{entry_of, IsWhole}

-- these are its entries, by rising tree key, and these its pages
pub record TreeStands (tree : Tree) (pages : PageMap) (entries : List (List ℕ)) (own : List ℕ) : Type 0 where
  pub value : TreeOf tree.levels
  pub whole : IsWhole tree.shape pages tree.levels tree.root None None value
  pub has : entries_of tree.levels value ≡ entries
  pub pages_are : pages_of tree.levels value ≡ own
  pub count : tree.count ≡ length entries

-- it has these entries now, in pages of which those new to it were free
pub record Changed (before after : PageMap) (new : Tree) (own : List ℕ)
    (entries : List (List ℕ)) : Type 0 where
  pub own_now : List ℕ
  pub stands : TreeStands new after entries own_now
  pub changes : ChangesPages before after own own_now

-- the number of changes after one more, which stays at its greatest value
abbrev pub one_more : ℕ → ℕ
one_more changes = min (changes + 1) (2 ^ 64 - 1)

-- a look-up answers what `look` gives of the entries
abbrev pub Answers : (List (List ℕ) → Option (List ℕ)) → Tree → PageMap
    → Result (Option (ArrayVec ℕ)) Fault → Type 0
Answers look tree pages result =
    (entries : List (List ℕ)) (own : List ℕ) → TreeStands tree pages entries own
    → IsAnswer result (λ found. option_map (λ e. e.items) found ≡ look entries)

-- what a look-up tells of the entry of a key
abbrev pub Tells : (Option (List ℕ) → Bool → Type 0) → List ℕ → Tree → PageMap → Result Bool Fault → Type 0
Tells Says key tree pages result =
    (entries : List (List ℕ)) (own : List ℕ) → TreeStands tree pages entries own
    → IsAnswer result (Says (entry_of tree.shape.width key entries))

-- a new tree without entries
pub record IsNewTree (shape : NodeShape) (before after : PageMap) (tree : Tree) : Type 0 where
  pub changed : Changed before after tree [] []
  pub shape_is : tree.shape ≡ shape
  pub low : tree.levels ≡ 0

abbrev pub MakesTree : NodeShape → Result Tree Fault → PageMap → PageMap → Type 0 → Type 0
MakesTree shape result before after is_sound = IsAnswer result (λ tree. IsNewTree shape before after tree
    × is_sound)

abbrev pub HasInserted : PageMap → PageMap → Tree → Tree → List ℕ → List (List ℕ) → List ℕ
    → Option (ArrayVec ℕ) → Type 0
HasInserted before after old new e entries own (Some found) =
    (entry_of old.shape.width (take old.shape.width e) entries ≡ Some found.items) × (after ≡ before)
    × (new ≡ old)
HasInserted before after old new e entries own None =
    (entry_of old.shape.width (take old.shape.width e) entries ≡ None)
    × Changed before after new own (with_entry old.shape.width e entries)

abbrev pub Inserts : Tree → Tree → List ℕ → Result (Option (ArrayVec ℕ)) Fault → PageMap → PageMap → Type 0
    → Type 0
Inserts old new e result before after is_sound =
    (entries : List (List ℕ)) (own : List ℕ) → TreeStands old before entries own
    → IsAnswer result (λ found. HasInserted before after old new e entries own found × is_sound)

abbrev pub HasRemoved : PageMap → PageMap → Tree → Tree → List ℕ → List (List ℕ) → List ℕ
    → Option (ArrayVec ℕ) → Type 0
HasRemoved before after old new key entries own None =
    (entry_of old.shape.width key entries ≡ None) × (after ≡ before) × (new ≡ old)
HasRemoved before after old new key entries own (Some found) =
    (entry_of old.shape.width key entries ≡ Some found.items)
    × Changed before after new own (without_key old.shape.width key entries)

abbrev pub Removes : Tree → Tree → List ℕ → Result (Option (ArrayVec ℕ)) Fault → PageMap → PageMap → Type 0
    → Type 0
Removes old new key result before after is_sound =
    (entries : List (List ℕ)) (own : List ℕ) → TreeStands old before entries own
    → IsAnswer result (λ found. HasRemoved before after old new key entries own found × is_sound)
