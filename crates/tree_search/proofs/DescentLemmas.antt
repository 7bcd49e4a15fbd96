-- One step down a tree.
use Rattle.std.proofs.Common.{◌≡◌, ℕ, zero, suc, true, false, List, [], ◌∷◌, ◌++◌, take, drop, slice_index, map, Some, Result, IsSome, refl, ap, sym, subst, ◌∙◌, arith, flat_map, bytes_eq}
use Rattle.std.proofs.lemmas.List.{map-append, append-nil, get_or_at, length-map, take-take}
use Rattle.tree_node.specs.Inner.{branches}
use Rattle.std.proofs.lemmas.Grind.{flat_map-append}
use Rattle.io_state.specs.declared.fault.Fault.{Fault}
use Rattle.tree_node.specs.declared.shape.NodeShape.{NodeShape}
use Rattle.pages.specs.Each.{Each}
use Rattle.tree_node.specs.Order.{less, Ascends, AreUpTo, AreAbove}
use Rattle.tree_node.proofs.OrderLemmas.{Each-weaker}
use Rattle.pages.specs.PageMap.{PageMap}
use Rattle.pages.specs.Answer.{IsAnswer}
use Rattle.tree_search.specs.declared.descent.StepDown.{StepDown}
use Rattle.tree_search.specs.Tree.{TreeOf, page_of, entries_of, Bound, IsRow, IsOrdered}
use Rattle.tree_search.specs.Stored.{Holds, IsInnerAt}
use Rattle.tree_search.specs.Calls.{entry_of, IsTree}
use Rattle.tree_search.specs.Descent.{IsDescentStep, Steps}
use Rattle.tree_search.proofs.FindLemmas.{find_behind, find_before, differs, differs_back}
use Rattle.tree_search.proofs.RowLemmas.{ascends_join, Inside, row_bounded, RowAt, row_at}

-- the entries lie within the bounds
pub bounded : (width h : ℕ) (low high : Bound) (t : TreeOf h) → IsOrdered width h low high t → Each (Inside width low high) (entries_of h t)
bounded width zero low high t ordered = ordered.1
bounded width (suc h) low high t ordered = row_bounded width (IsOrdered width h) (entries_of h) (bounded width h) low t.1 t.2 high ordered.1

-- the root of a standing tree is in use
pub root_there : (shape : NodeShape) (pages : PageMap) (h : ℕ) (t : TreeOf h) → Holds shape pages h t → IsSome (pages (page_of h t))
root_there shape pages zero t holds = rw holds.there refl
root_there shape pages (suc h) t holds = rw holds.0.there refl

pub Each_middle : {X : Type 0} (P : X → Type 0) (front : List X) (x : X) (back : List X) → Each P (front ++ x ∷ back) → P x
Each_middle P [] x back h = h.0
Each_middle P (y ∷ front) x back h = Each_middle P front x back h.1

pub each_take : {X : Type 0} (P : X → Type 0) (n : ℕ) (xs : List X) → Each P xs → Each P (take n xs)
each_take P zero xs h = tt
each_take P (suc n) [] h = tt
each_take P (suc n) (x ∷ xs) h = (h.0, each_take P n xs h.1)

pub each_drop : {X : Type 0} (P : X → Type 0) (n : ℕ) (xs : List X) → Each P xs → Each P (drop n xs)
each_drop P zero xs h = h
each_drop P (suc n) [] h = tt
each_drop P (suc n) (x ∷ xs) h = each_drop P n xs h.1

-- separators have no more than the width of a key
pub whole_keys : (width : ℕ) (xs : List (List ℕ)) → Each (λ s. take width s ≡ s) (map (take width) xs)
whole_keys width [] = tt
whole_keys width (x ∷ xs) = (take-take width width x (omega arith), whole_keys width xs)

pub node_whole : (shape : NodeShape) (pages : PageMap) (page : ℕ) (ss : List (List ℕ)) (below : List ℕ) → IsInnerAt shape pages page ss below → Each (λ s. take shape.width s ≡ s) ss
node_whole shape pages page ss below at = subst (Each (λ (s : List ℕ). take shape.width s ≡ s)) at.rises (whole_keys shape.width (branches shape at.bytes))

upto_whole : (width : ℕ) (key : List ℕ) (xs : List (List ℕ)) → Each (λ s. take width s ≡ s) xs → AreUpTo width key xs → Each (λ s. less key s ≡ false) xs
upto_whole width key [] w h = tt
upto_whole width key (x ∷ xs) w h = (ap (less key) (sym w.0) ∙ h.0, upto_whole width key xs w.1 h.1)

above_whole : (width : ℕ) (key : List ℕ) (xs : List (List ℕ)) → Each (λ s. take width s ≡ s) xs → AreAbove width key xs → Each (λ s. less key s ≡ true) xs
above_whole width key [] w h = tt
above_whole width key (x ∷ xs) w h = (ap (less key) (sym w.0) ∙ h.0, above_whole width key xs w.1 h.1)

-- the node and the child below which a key belongs
pub record Below_ (shape : NodeShape) (pages : PageMap) (k page : ℕ) (low high : Bound) (key : List ℕ) (t : TreeOf (suc k)) (step : StepDown) : Type 0 where
  pub row : RowAt shape.width (TreeOf k) (IsOrdered shape.width k) (entries_of k) low t.1 t.2 high key step.place
  pub child : IsTree shape pages k step.child row.from row.to row.here

pub below : (shape : NodeShape) (pages : PageMap) (k page : ℕ) (low high : Bound) (key : List ℕ) (t : TreeOf (suc k)) (step : StepDown)
    → IsTree shape pages (suc k) page low high t → IsDescentStep shape.width key t.1 (map (page_of k) t.2) step → Below_ shape pages k page low high key t step
below shape pages k page low high key t step tree is =
    let found = is.rank tree.ordered.0 in
    let whole = node_whole shape pages t.0 t.1 (map (page_of k) t.2) tree.holds.0 in
    let upto = upto_whole shape.width key (take step.place t.1) (each_take (λ (s : List ℕ). take shape.width s ≡ s) step.place t.1 whole) found.upto in
    let above = above_whole shape.width key (drop step.place t.1) (each_drop (λ (s : List ℕ). take shape.width s ≡ s) step.place t.1 whole) found.above in
    let row = row_at shape.width (IsOrdered shape.width k) (entries_of k) (bounded shape.width k) low t.1 t.2 high key step.place tree.ordered.1 is.within upto above in
    let split : map (page_of k) t.2 ≡ map (page_of k) row.front ++ page_of k row.here ∷ map (page_of k) row.back = ap (map (page_of k)) row.is ∙ map-append (page_of k) row.front (row.here ∷ row.back) in
    record {
      row = row;
      child = record {
        holds = Each_middle (Holds shape pages k) row.front row.here row.back (rw row.is at tree.holds.1);
        root = sym (is.child ∙ ap (λ (l : List ℕ). slice_index l step.place) split ∙ get_or_at (map (page_of k) row.front) (page_of k row.here) (map (page_of k) row.back) 0 step.place (length-map row.front (page_of k) ∙ row.at));
        ordered = row.between;
      };
    }

-- the entry of a key stands below that child
pub entry_below : (width k : ℕ) (key : List ℕ) (low high : Bound) (ss : List (List ℕ)) (xs : List (TreeOf k)) (i : ℕ)
    (row : RowAt width (TreeOf k) (IsOrdered width k) (entries_of k) low ss xs high key i)
    → entry_of width key (flat_map (entries_of k) xs) ≡ entry_of width key (entries_of k row.here)
entry_below width k key low high ss xs i row =
    let test = λ (e : List ℕ). bytes_eq (take width e) key in
    ap (λ (l : List (TreeOf k)). entry_of width key (flat_map (entries_of k) l)) row.is
    ∙ ap (entry_of width key) (flat_map-append (entries_of k) row.front (row.here ∷ row.back))
    ∙ find_behind test (flat_map (entries_of k) row.front) (entries_of k row.here ++ flat_map (entries_of k) row.back)
    (Each-weaker (λ e. less (take width e) key ≡ true) (λ e. test e ≡ false) (λ e b. differs (take width e) key b) (flat_map (entries_of k) row.front) row.below)
    ∙ find_before test (entries_of k row.here) (flat_map (entries_of k) row.back)
    (Each-weaker (λ e. less key (take width e) ≡ true) (λ e. test e ≡ false) (λ e b. differs_back (take width e) key b) (flat_map (entries_of k) row.back) row.above)

pub step_of : (shape : NodeShape) (before : PageMap) (k page : ℕ) (low high : Bound) (key : List ℕ) (t : TreeOf (suc k)) (r : Result StepDown Fault) → IsTree shape before (suc k) page low high t → Steps shape before page key r
    → IsAnswer r (IsDescentStep shape.width key t.1 (map (page_of k) t.2))
step_of shape before k page low high key t r tree steps =
    steps t.1 (map (page_of k) t.2) (subst (λ (n : ℕ). IsInnerAt shape before n t.1 (map (page_of k) t.2)) tree.root tree.holds.0)

-- keys rise through a whole tree
row_ascends : (width k : ℕ) → ((low high : Bound) (t : TreeOf k) → IsOrdered width k low high t → Ascends width (entries_of k t))
    → (low : Bound) (ss : List (List ℕ)) (xs : List (TreeOf k)) (high : Bound) → IsRow (IsOrdered width k) low ss xs high → Ascends width (flat_map (entries_of k) xs)
row_ascends width k each low [] [] high row = absurd row
row_ascends width k each low [] (x ∷ []) high row = subst (Ascends width) (sym (append-nil (entries_of k x))) (each low high x row)
row_ascends width k each low [] (x ∷ y ∷ xs) high row = absurd row
row_ascends width k each low (s ∷ ss) [] high row = absurd row
row_ascends width k each low (s ∷ ss) (x ∷ xs) high row =
    ascends_join width s (entries_of k x) (flat_map (entries_of k) xs) (each low (Some s) x row.2) (row_ascends width k each (Some s) ss xs high row.3)
    (Each-weaker (Inside width low (Some s)) (λ e. less (take width e) s ≡ true) (λ e i. i.1) (entries_of k x) (bounded width k low (Some s) x row.2))
    (Each-weaker (Inside width (Some s) high) (λ e. less (take width e) s ≡ false) (λ e i. i.0) (flat_map (entries_of k) xs) (row_bounded width (IsOrdered width k) (entries_of k) (bounded width k) (Some s) ss xs high row.3))

pub tree_ascends : (width h : ℕ) (low high : Bound) (t : TreeOf h) → IsOrdered width h low high t → Ascends width (entries_of h t)
tree_ascends width zero low high t ordered = ordered.0
tree_ascends width (suc h) low high t ordered = row_ascends width h (tree_ascends width h) low t.1 t.2 high ordered.1
