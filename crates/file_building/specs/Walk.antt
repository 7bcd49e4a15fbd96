-- A walk over the entries of a tree.
use Rattle.std.specs.Prelude.{◌≡◌, ◌≤◌, ◌+◌, ◌*◌, ℕ, Bool, List, [], ◌∷◌, ◌++◌, length, take, true, IsTrue}
use Rattle.std.specs.Prelude.{Result, OnOk, ⊤}
use Rattle.io_state.specs.declared.fault.Fault.{Fault}
use Rattle.pages.specs.Each.{Each}
use Rattle.pages.specs.PageMap.{PageMap}
use Rattle.pages.specs.Answer.{IsAnswer}
use Rattle.pages.specs.ShownPages.{ShownPages}
use Rattle.pages.specs.PageCalls.{ReadsPages}
use Rattle.tree_node.specs.declared.shape.NodeShape.{NodeShape}
use Rattle.tree_node.specs.Order.{less, AreUpTo, AreAbove}
use Rattle.bplus_tree.specs.declared.tree.Tree.{Tree}
use Rattle.bplus_tree.specs.Fields.{tree_shape, tree_levels, cursor_key}
use Rattle.bplus_tree.specs.Standing.{TreeStands}
use Rattle.bplus_tree.specs.Cursor.{Belongs}
use Rattle.file_building.specs.declared.walk.TreeWalk.{TreeWalk}

-- the tree that is walked
abbrev pub walk_tree : TreeWalk → Tree
walk_tree walk = walk.tree

-- the walk has given the first of the tree's entries, and goes on with the rest
pub record HasWalked (walk : TreeWalk) (pages : PageMap) (given rest : List (List ℕ))
    (own : List ℕ) : Type 0 where
  pub stands : TreeStands walk.tree pages (given ++ rest) own
  pub belongs : Belongs walk.cursor walk.tree pages (given ++ rest) own
  pub behind : AreUpTo (tree_shape walk.tree).width (cursor_key walk.cursor) given
  pub before : AreAbove (tree_shape walk.tree).width (cursor_key walk.cursor) rest
  pub short : length (cursor_key walk.cursor) ≤ 258
  pub long : Each (λ e. length e ≡ (tree_shape walk.tree).entry) rest

-- a walk in front of the first entry
pub record BeginsWalk (tree : Tree) (walk : TreeWalk) : Type 0 where
  pub tree_is : walk_tree walk ≡ tree
  pub begun : (pages : PageMap) (entries : List (List ℕ)) (own : List ℕ)
      → TreeStands tree pages entries own → Each (λ e. length e ≡ (tree_shape tree).entry) entries
      → HasWalked walk pages [] entries own

-- the next entry is given, where there is one
abbrev pub GivesNext : TreeWalk → TreeWalk → PageMap → List ℕ → Result Unit Fault → Type 0
GivesNext old new pages entry result =
    (given : List (List ℕ)) (next : List ℕ) (rest : List (List ℕ)) (own : List ℕ)
    → HasWalked old pages given (next ∷ rest) own
    → IsAnswer result (λ done. (entry ≡ next) × HasWalked new pages (given ++ next ∷ []) rest own)

-- a call that gives it
pub record StepsInWalk {S : Type 0} (shown : ShownPages S) (before after : S) (old new : TreeWalk)
    (entry : List ℕ) (result : Result Unit Fault) : Type 0 where
  pub gives : IsTrue (shown.state after).is_honest
      → GivesNext old new (shown.state before).live entry result
  pub tree_is : walk_tree new ≡ walk_tree old
  pub long : OnOk result (length entry ≡ (tree_shape (walk_tree old)).entry)
  pub reads : ReadsPages shown (2 * (tree_levels (walk_tree old) + 1)) before after result

-- a call that looks that all were given
pub record EndsWalk {S : Type 0} (shown : ShownPages S) (before after : S) (walk : TreeWalk)
    (result : Result Unit Fault) : Type 0 where
  pub ends : IsTrue (shown.state after).is_honest → (given : List (List ℕ)) (own : List ℕ)
      → HasWalked walk (shown.state before).live given [] own → IsAnswer result (λ done. ⊤)
  pub reads : ReadsPages shown (2 * (tree_levels (walk_tree walk) + 1)) before after result

-- whether an entry has the length of a tree's entries, and a key above this one
pub record RisesTo (shape : NodeShape) (last entry : List ℕ) (result : Bool) : Type 0 where
  pub rises : length entry ≡ shape.entry → less last (take shape.width entry) ≡ true → result ≡ true
  pub long : IsTrue result → length entry ≡ shape.entry
