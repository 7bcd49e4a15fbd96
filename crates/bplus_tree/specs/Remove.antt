-- What a removal ensures below one page.
use Rattle.std.specs.Prelude.{◌≡◌, ◌≢◌, ℕ, zero, suc, ◌+◌, ◌-◌, ◌<◌, ◌≤◌, ◌↔◌, Bool, true, false, List, []}
use Rattle.std.specs.Prelude.{◌∷◌, length, remove, Some, None, Result, IsTrue}
use Rattle.io_state.specs.declared.fault.Fault.{Fault}
use Rattle.tree_node.specs.declared.shape.NodeShape.{NodeShape}
use Rattle.pages.specs.Each.{Each}
use Rattle.pages.specs.PageMap.{PageMap}
use Rattle.bplus_tree.specs.declared.remove.Shrunk.{Shrunk}
use Rattle.bplus_tree.specs.declared.remove.Shrunk.TheVariants.{Absent, Taken}
use Rattle.tree_node.specs.Fill.{least_entries}
use Rattle.arrayvec.specs.ArrayVec.{ArrayVec}
use Rattle.tree_node.specs.Leaf.{IsLeaf, leaf_entries}
use Rattle.tree_node.specs.Order.{Ascends, IsRank}
use Rattle.tree_search.specs.Tree.{TreeOf, entries_of, pages_of}
use Rattle.tree_search.specs.Calls.{size_of, IsHalfFull, IsRooted, entry_of, IsTree}
use Rattle.tree_search.specs.Stored.{IsLeafAt}
use Rattle.pages.specs.Answer.{IsAnswer}
use Rattle.bplus_tree.specs.Subtree.{Head, at_page, Subtree, IsSubtree, IsWholeSubtree}
use Rattle.pages.specs.Owners.{AreApart, ChangesPages}
use Rattle.bplus_tree.specs.Edits.{without_key}

-- The page heads a tree of these entries now, filled below its root. The root has at least `floor`
-- entries or separators.
pub record Becomes {at : Head} (old : Subtree at) (before after : PageMap) (floor : ℕ)
    (entries : List (List ℕ)) : Type 0 where
  pub tree : TreeOf at.levels
  pub stands : IsTree at.shape after at.levels at.page old.low old.high tree
  pub filled : IsHalfFull at.shape at.levels tree
  pub large : floor ≤ size_of at.levels tree
  pub has : entries_of at.levels tree ≡ entries
  pub changes : ChangesPages before after (pages_of at.levels old.tree) (pages_of at.levels tree)

-- such a tree, whose root has at most one entry or separator less; and whether it has too little for a
-- node below another one
pub record BecomesShort {at : Head} (old : Subtree at) (before after : PageMap) (entries : List (List ℕ))
    (short : Bool) : Type 0 where
  pub becomes : Becomes old before after (size_of at.levels old.tree - 1) entries
  pub short_is : IsTrue short ↔ (size_of at.levels becomes.tree < least_entries at.shape at.levels)

abbrev pub HasRemovedBelow : {at : Head} → Subtree at → PageMap → PageMap → List ℕ → Shrunk → Type 0
HasRemovedBelow {at} old before after key Absent =
    (entry_of at.shape.width key (entries_of at.levels old.tree) ≡ None) × (after ≡ before)
HasRemovedBelow {at} old before after key (Taken entry short) =
    (entry_of at.shape.width key (entries_of at.levels old.tree) ≡ Some entry.items)
    × BecomesShort old before after (without_key at.shape.width key (entries_of at.levels old.tree)) short

abbrev pub Removes : Head → List ℕ → Result Shrunk Fault → PageMap → PageMap → Type 0 → Type 0
Removes at key result before after is_sound =
    (old : Subtree at) → IsWholeSubtree before old
    → IsAnswer result (λ shrunk. HasRemovedBelow old before after key shrunk × is_sound)

-- all are at least half full, but for the one at this place, which lacks one entry or separator
abbrev pub AreFullBut : {X : Type 0} → (X → Type 0) → (X → Type 0) → ℕ → List X → Type 0
AreFullBut IsHalfFullWithRoot Lacks place [] = ⊥
AreFullBut IsHalfFullWithRoot Lacks zero (x ∷ xs) = Lacks x × Each IsHalfFullWithRoot xs
AreFullBut IsHalfFullWithRoot Lacks (suc place) (x ∷ xs) =
    IsHalfFullWithRoot x × AreFullBut IsHalfFullWithRoot Lacks place xs

abbrev pub IsHalfFullWithRoot : NodeShape → (h : ℕ) → TreeOf h → Type 0
IsHalfFullWithRoot shape h t = (least_entries shape h ≤ size_of h t) × IsHalfFull shape h t

abbrev pub LacksOne : NodeShape → (h : ℕ) → TreeOf h → Type 0
LacksOne shape h t = (least_entries shape h ≡ size_of h t + 1) × IsHalfFull shape h t

-- a node one of whose children lacks one
pub record LacksBelow {shape : NodeShape} {k page : ℕ} (pages : PageMap) (place : ℕ)
    (node : Subtree (at_page shape (suc k) page)) : Type 0 where
  pub stands : IsSubtree pages node
  pub apart : AreApart (pages_of (suc k) node.tree)
  pub full : AreFullBut (IsHalfFullWithRoot shape k) (LacksOne shape k) place node.tree.2
  pub some : 1 ≤ length node.tree.1

abbrev pub Rebalances : NodeShape → (k page place : ℕ) → Result Bool Fault → PageMap → PageMap → Type 0 → Type 0
Rebalances shape k page place result before after is_sound =
    (node : Subtree (at_page shape (suc k) page)) → LacksBelow before place node
    → IsAnswer result (λ short. BecomesShort node before after (entries_of (suc k) node.tree) short
    × is_sound)

-- the bytes are a leaf with an entry at this place
pub record HasPlace (shape : NodeShape) (place : ℕ) (page : List ℕ) : Type 0 where
  pub leaf : IsLeaf shape page
  pub within : place < length (leaf_entries shape page)

-- the leaf has one entry less, and every other page is as it was
pub record TakesOut (shape : NodeShape) (before after : PageMap) (page : ℕ) (entries : List (List ℕ))
    (short : Bool) : Type 0 where
  pub leaf : IsLeafAt shape after page entries
  pub others : (n : ℕ) → n ≢ page → after n ≡ before n
  pub short_is : IsTrue short ↔ (length entries < least_entries shape 0)

abbrev pub OutOfLeaf : NodeShape → ℕ → ℕ → Result Bool Fault → PageMap → PageMap → Type 0 → Type 0
OutOfLeaf shape page place result before after is_sound =
    (entries : List (List ℕ)) → IsLeafAt shape before page entries → place < length entries
    → IsAnswer result (λ short. TakesOut shape before after page (remove entries place) short × is_sound)

-- The entry of the key was taken out, and its leaf has enough still: no other node has changed.
pub record HasTaken {at : Head} (old : Subtree at) (before after : PageMap)
    (key entry : List ℕ) : Type 0 where
  pub was : entry_of at.shape.width key (entries_of at.levels old.tree) ≡ Some entry
  pub becomes : Becomes old before after (size_of at.levels old.tree - 1)
      (without_key at.shape.width key (entries_of at.levels old.tree))
  pub enough : least_entries at.shape at.levels ≤ size_of at.levels old.tree
      → least_entries at.shape at.levels ≤ size_of at.levels becomes.tree
  pub rooted : IsRooted at.levels old.tree → IsRooted at.levels becomes.tree

abbrev pub HasTakenIf : {at : Head} → Subtree at → PageMap → PageMap → (key entry : List ℕ) → Bool → Type 0
HasTakenIf old before after key entry true = HasTaken old before after key entry
HasTakenIf old before after key entry false = after ≡ before

abbrev pub TakesBelow : Head → List ℕ → ArrayVec ℕ → Result Bool Fault → PageMap → PageMap → Type 0 → Type 0
TakesBelow at key entry result before after is_sound =
    (old : Subtree at) → IsWholeSubtree before old
    → IsAnswer result (λ done. HasTakenIf old before after key entry.items done × is_sound)

-- the same of the entries of a leaf
pub record IsTaken (shape : NodeShape) (key : List ℕ) (old new : List (List ℕ)) (entry : List ℕ) : Type 0 where
  pub place : ℕ
  pub rank : IsRank shape.width key old place
  pub was : entry_of shape.width key old ≡ Some entry
  pub left : new ≡ remove old place
  pub enough : least_entries shape 0 ≤ length new

abbrev pub IsTakenIf : NodeShape → List ℕ → (old new : List (List ℕ)) → ArrayVec ℕ → Bool → Type 0
IsTakenIf shape key old new entry true = IsTaken shape key old new entry.items
IsTakenIf shape key old new entry false = new ≡ old

-- and of the bytes of a leaf whose entries rise
abbrev pub TakesFromBytes : NodeShape → List ℕ → (old new : List ℕ) → ArrayVec ℕ → Bool → Type 0
TakesFromBytes shape key old new entry done = Ascends shape.width (leaf_entries shape old)
    → IsTakenIf shape key (leaf_entries shape old) (leaf_entries shape new) entry done

-- and of its page
pub record HasTakenInPlace (shape : NodeShape) (before after : PageMap) (page : ℕ) (key : List ℕ)
    (entries : List (List ℕ)) (entry : List ℕ) : Type 0 where
  pub now : List (List ℕ)
  pub taken : IsTaken shape key entries now entry
  pub leaf : IsLeafAt shape after page now
  pub others : (n : ℕ) → n ≢ page → after n ≡ before n

abbrev pub HasTakenInPlaceIf : NodeShape → PageMap → PageMap → ℕ → List ℕ → List (List ℕ) → ArrayVec ℕ → Bool
    → Type 0
HasTakenInPlaceIf shape before after page key entries entry true =
    HasTakenInPlace shape before after page key entries entry.items
HasTakenInPlaceIf shape before after page key entries entry false = after ≡ before

abbrev pub TakesInPlace : NodeShape → ℕ → List ℕ → ArrayVec ℕ → Result Bool Fault → PageMap → PageMap → Type 0
    → Type 0
TakesInPlace shape page key entry result before after is_sound =
    (entries : List (List ℕ)) → IsLeafAt shape before page entries → Ascends shape.width entries
    → IsAnswer result (λ done. HasTakenInPlaceIf shape before after page key entries entry done × is_sound)

-- what is left of the bytes of a leaf, which are as they were where nothing was taken out
pub record TakesFromLeaf (shape : NodeShape) (key old new : List ℕ) (entry : ArrayVec ℕ)
    (done : Bool) : Type 0 where
  pub leaf : IsLeaf shape new
  pub taken : TakesFromBytes shape key old new entry done
  pub same : done ≡ false → new ≡ old
