-- A walk over the entries of a tree, step by step.
use Rattle.std.proofs.Common.{◌≡◌, ℕ, ◌≤◌, true, false, List, [], ◌∷◌, ◌++◌, length, take, Option, Some, None, cond, refl, ap, sym, subst, ◌∙◌, arith, append_assoc}
use Rattle.std.specs.Prelude.{find, option_map}
use Rattle.std.proofs.lemmas.List.{length-take-le}
use Rattle.arrayvec.specs.ArrayVec.{ArrayVec}
use Rattle.pages.specs.Each.{Each}
use Rattle.pages.specs.PageMap.{PageMap}
use Rattle.tree_node.specs.declared.shape.NodeShape.{NodeShape}
use Rattle.tree_node.specs.Order.{less, Ascends, AreUpTo, AreAbove}
use Rattle.tree_node.proofs.OrderLemmas.{less_itself, not_less, Each-weaker}
use Rattle.tree_search.specs.Calls.{first_after}
use Rattle.tree_search.proofs.DescentLemmas.{tree_ascends, Each_middle}
use Rattle.tree_search.proofs.FindLemmas.{find_behind}
use Rattle.bplus_tree.specs.declared.tree.Tree.{Tree}
use Rattle.bplus_tree.specs.declared.cursor.Cursor.{Cursor}
use Rattle.bplus_tree.specs.Fields.{tree_shape, tree_levels, cursor_key}
use Rattle.bplus_tree.specs.Standing.{TreeStands}
use Rattle.bplus_tree.specs.Cursor.{Belongs, HasMoved}
use Rattle.file_building.specs.declared.walk.TreeWalk.{TreeWalk}
use Rattle.file_building.specs.Walk.{HasWalked}

-- entries that stand rise
pub tree_rises : (tree : Tree) (pages : PageMap) (entries : List (List ℕ)) (own : List ℕ) → TreeStands tree pages entries own → Ascends (tree_shape tree).width entries
tree_rises tree pages entries own s =
    subst (Ascends (tree_shape tree).width) s.has (tree_ascends (tree_shape tree).width (tree_levels tree) None None s.value s.whole.stands.ordered)

-- ---- the order of what was given and what is ahead

not_back : (x y : List ℕ) → less x y ≡ true → less y x ≡ false
not_back x y h = not_less x y x h (less_itself x)

above_next : (width : ℕ) (given : List (List ℕ)) (next : List ℕ) (rest : List (List ℕ)) → Ascends width (given ++ next ∷ rest) → AreAbove width (take width next) rest
above_next width [] next rest rises = rises.0
above_next width (x ∷ xs) next rest rises = above_next width xs next rest rises.1

upto_next : (width : ℕ) (given : List (List ℕ)) (next : List ℕ) (rest : List (List ℕ)) → Ascends width (given ++ next ∷ rest) → AreUpTo width (take width next) (given ++ next ∷ [])
upto_next width [] next rest rises = (less_itself (take width next), tt)
upto_next width (x ∷ xs) next rest rises = (
  not_back (take width x) (take width next) (Each_middle (λ y. less (take width x) (take width y) ≡ true) xs next rest rises.0),
  upto_next width xs next rest rises.1,
)

first_ahead : (width : ℕ) (key : List ℕ) (given : List (List ℕ)) (next : List ℕ) (rest : List (List ℕ)) → AreUpTo width key given → less key (take width next) ≡ true
    → first_after width key (given ++ next ∷ rest) ≡ Some next
first_ahead width key given next rest behind above =
    find_behind (λ e. less key (take width e)) given (next ∷ rest) behind
    ∙ ap (λ b. cond b (Some next) (find (λ e. less key (take width e)) rest)) above

none_ahead : (width : ℕ) (key : List ℕ) (given : List (List ℕ)) → AreUpTo width key given → first_after width key (given ++ []) ≡ None
none_ahead width key given behind = find_behind (λ e. less key (take width e)) given [] behind

-- ---- the walk

from_none : (x : List ℕ) → 1 ≤ length x → less [] x ≡ true
unfolding less
from_none [] some = absurd (omega arith)
from_none (b ∷ bs) some = refl

from_start : (shape : NodeShape) (entries : List (List ℕ)) → Each (λ e. length e ≡ shape.entry) entries → AreAbove shape.width [] entries
from_start shape entries long =
    Each-weaker (λ e. length e ≡ shape.entry) (λ e. less [] (take shape.width e) ≡ true)
    (λ e is. let some = shape.some in let longer = shape.longer in
    let wide : length (take shape.width e) ≡ shape.width = length-take-le shape.width e (omega arith) in from_none (take shape.width e) (omega arith)) entries long

pub walk_begun : (tree : Tree) (cursor : Cursor) (pages : PageMap) (entries : List (List ℕ)) (own : List ℕ) → cursor_key cursor ≡ [] → Belongs cursor tree pages entries own
    → TreeStands tree pages entries own → Each (λ e. length e ≡ (tree_shape tree).entry) entries → HasWalked (record { tree = tree; cursor = cursor }) pages [] entries own
walk_begun tree cursor pages entries own key belongs stands long = record {
  stands = stands;
  belongs = belongs;
  behind = tt;
  before = subst (λ (k : List ℕ). AreAbove (tree_shape tree).width k entries) (sym key) (from_start (tree_shape tree) entries long);
  short = let e = ap length key in omega arith;
  long = long;
}

-- the cursor gives the entry that is ahead
pub walk_given : (walk : TreeWalk) (now : Cursor) (pages : PageMap) (given : List (List ℕ)) (next : List ℕ) (rest : List (List ℕ)) (own : List ℕ) (found : Option (ArrayVec ℕ))
    → HasWalked walk pages given (next ∷ rest) own → HasMoved walk.cursor now walk.tree pages (given ++ next ∷ rest) own found
    → option_map (λ e. e.items) found ≡ Some next
walk_given walk now pages given next rest own found at moved =
    moved.found_is ∙ first_ahead (tree_shape walk.tree).width (cursor_key walk.cursor) given next rest at.behind at.before.0

-- behind it the walk goes on
pub walk_on : (walk : TreeWalk) (now : Cursor) (pages : PageMap) (given : List (List ℕ)) (next : List ℕ) (rest : List (List ℕ)) (own : List ℕ)
    → HasWalked walk pages given (next ∷ rest) own → Belongs now walk.tree pages (given ++ next ∷ rest) own → cursor_key now ≡ take (tree_shape walk.tree).width next
    → HasWalked (record { tree = walk.tree; cursor = now }) pages (given ++ next ∷ []) rest own
walk_on walk now pages given next rest own at belongs key =
    let shape = tree_shape walk.tree in
    let one : (given ++ next ∷ []) ++ rest ≡ given ++ next ∷ rest = append_assoc given (next ∷ []) rest in
    let rises = tree_rises walk.tree pages (given ++ next ∷ rest) own at.stands in
    record {
      stands = subst (λ (l : List (List ℕ)). TreeStands walk.tree pages l own) (sym one) at.stands;
      belongs = subst (λ (l : List (List ℕ)). Belongs now walk.tree pages l own) (sym one) belongs;
      behind = subst (λ (k : List ℕ). AreUpTo shape.width k (given ++ next ∷ [])) (sym key) (upto_next shape.width given next rest rises);
      before = subst (λ (k : List ℕ). AreAbove shape.width k rest) (sym key) (above_next shape.width given next rest rises);
      short =
          let narrow = shape.narrow in
          let longer = shape.longer in
          let long : length next ≡ shape.entry = at.long.0 in
          let wide : length (take shape.width next) ≡ shape.width = length-take-le shape.width next (omega arith) in
          let same = ap length key in omega arith;
      long = at.long.1;
    }

-- nothing is ahead
pub walk_ended : (walk : TreeWalk) (now : Cursor) (pages : PageMap) (given : List (List ℕ)) (own : List ℕ) (found : Option (ArrayVec ℕ))
    → HasWalked walk pages given [] own → HasMoved walk.cursor now walk.tree pages (given ++ []) own found
    → option_map (λ e. e.items) found ≡ None
walk_ended walk now pages given own found at moved =
    moved.found_is ∙ none_ahead (tree_shape walk.tree).width (cursor_key walk.cursor) given at.behind
