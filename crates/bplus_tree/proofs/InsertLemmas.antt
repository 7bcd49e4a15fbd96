-- An insert below a child, seen from its parent; and in a leaf.
use Rattle.std.proofs.Common.{◌≡◌, ◌≢◌, ℕ, zero, suc, ◌+◌, ◌<◌, ◌≤◌, List, [], ◌∷◌, ◌++◌, length, take, drop, get_or, map, Bool, true, false, Option, Some, None, Ok, Err, Result, IsSome, refl, ap, sym, subst, ◌∙◌, arith, flat_map, append_assoc, add-one}
use Rattle.std.specs.Prelude.{option_map}
use Rattle.std.specs.List.{insert}
use Rattle.std.proofs.lemmas.List.{map-append, take-append-drop, append-nil, length-append, length-map, take_at, drop_at, get_or_at, take-map, drop-map}
use Rattle.std.proofs.lemmas.List.Edits.{length-insert}
use Rattle.std.proofs.lemmas.Grind.{flat_map-append}
use Rattle.arrayvec.specs.ArrayVec.{ArrayVec}
use Rattle.io_state.specs.declared.fault.Fault.{Fault}
use Rattle.io_state.specs.declared.fault.Fault.TheVariants.{Damage}
use Rattle.pages.specs.Each.{Each}
use Rattle.tree_node.specs.declared.shape.NodeShape.{NodeShape}
use Rattle.tree_node.specs.Leaf.{IsLeaf, leaf_entries}
use Rattle.tree_node.specs.Order.{Ascends}
use Rattle.tree_node.proofs.LeafLemmas.{leaf_room_some}
use Rattle.tree_node.proofs.InnerLemmas.{length_separators, length_children}
use Rattle.tree_node.proofs.OrderLemmas.{Each-weaker}
use Rattle.pages.specs.PageMap.{PageMap, Writes}
use Rattle.pages.specs.Owners.{ChangesPages}
use Rattle.tree_search.specs.declared.descent.StepDown.{StepDown}
use Rattle.tree_search.specs.declared.descent.LeafLook.{LeafLook}
use Rattle.tree_node.specs.declared.separator.Separator.{Separator}
use Rattle.bplus_tree.specs.declared.insert.Grown.{Grown}
use Rattle.bplus_tree.specs.declared.insert.Grown.TheVariants.{Present, Added}
use Rattle.tree_search.specs.Tree.{TreeOf, page_of, entries_of, pages_of, IsRow, IsOrdered}
use Rattle.tree_search.specs.Calls.{size_of, entry_of}
use Rattle.tree_search.specs.Stored.{Holds, IsInnerAt}
use Rattle.bplus_tree.specs.Edits.{with_entry}
use Rattle.pages.specs.Answer.{IsAnswer}
use Rattle.bplus_tree.specs.Subtree.{at_page, IsSubtree, IsWholeSubtree, IsInBounds}
use Rattle.tree_search.specs.Descent.{Steps, IsLook}
use Rattle.bplus_tree.specs.Remove.{Becomes, IsHalfFullWithRoot}
use Rattle.bplus_tree.specs.Grow.{HasAddedToLeaf, AddsToLeaf, HasAddedToInner, AddsToInner}
use Rattle.bplus_tree.specs.Insert.{BecomesTwo, HasGrown, HasInsertedBelow, Inserts, HasPutIf, PutsBelow, IsPutIf, HasPutInPlaceIf}
use Rattle.bplus_tree.specs.Insert.{PutsInPlace}
use Rattle.tree_search.proofs.RowLemmas.{Inside, Each-append, row_split, row_rises}
use Rattle.bplus_tree.proofs.PageLemmas.{change_page, written_same, each_both, each_pages, pages_live, rows_still, change_inside}
use Rattle.bplus_tree.proofs.PageLemmas.{change_parted}
use Rattle.tree_search.proofs.DescentLemmas.{node_whole, each_take, each_drop}
use Rattle.bplus_tree.proofs.ShareLemmas.{parts}
use Rattle.bplus_tree.proofs.RemoveLemmas.{Leaf, Inner, around, Child, below_it, child_at, node_becomes}
use Rattle.bplus_tree.proofs.WithEntryLemmas.{with_entry_rises, each_with, one_more, insert_is_with, entry_within}
use Rattle.bplus_tree.proofs.GrowLemmas.{answer_map}

-- ---- a leaf

module _ {shape : NodeShape} {page : ℕ} {before : PageMap} (after : PageMap) (e : List ℕ) (leaf : Leaf shape page)
    (stands : IsSubtree before leaf) (within : IsInBounds leaf (take shape.width e))
    (none : entry_of shape.width (take shape.width e) leaf.tree.1 ≡ None) where
  abbrev now : List (List ℕ)
  now = with_entry shape.width e leaf.tree.1

  rises : Ascends shape.width now
  rises = with_entry_rises shape.width e leaf.tree.1 stands.ordered.0 none

  inside : Each (Inside shape.width leaf.low leaf.high) now
  inside = each_with shape.width e (Inside shape.width leaf.low leaf.high) leaf.tree.1 within stands.ordered.1

  leaf_grown : (up : Option Separator) → HasAddedToLeaf shape before after page now up → HasInsertedBelow leaf before after e (Added up)
  leaf_grown None put =
      let more = one_more shape.width e leaf.tree.1 in (
        none,
        record {
          tree = (page, now);
          stands = record { holds = put.leaf; root = refl; ordered = (rises, inside) };
          filled = tt;
          large = omega arith;
          has = refl;
          changes = change_page stands.root put.others;
        },
      )
  leaf_grown (Some separator) put =
      let there : before page ≡ Some stands.holds.bytes = ap before (sym stands.root) ∙ stands.holds.there in
      let alive : IsSome (before page) = rw there refl in
      let room = leaf_room_some shape in
      let full = put.full in
      let cut = parts shape.width leaf.low leaf.high put.lower put.upper (omega arith) (omega arith)
      (subst (Ascends shape.width) (sym put.has) rises)
      (subst (Each (Inside shape.width leaf.low leaf.high)) (sym put.has) inside) in
      let key = put.key in (
        none,
        record {
          left = (page, put.lower);
          right = (separator.child, put.upper);
          under = rw key cut.under;
          over = rw key cut.over;
          left_stands = record { holds = put.first; root = refl; ordered = rw key cut.left };
          right_stands = record { holds = put.second; root = refl; ordered = rw key cut.right };
          left_full = (put.full.0, tt);
          right_full = (put.full.1, tt);
          has = put.has;
          changes = subst (λ (n : ℕ). ChangesPages before after (n ∷ []) (page ∷ separator.child ∷ [])) (sym stands.root)
              (change_parted before before after page separator.child [] [] [] (change_page refl (λ n ne. refl)) (alive, tt) put.free
              put.others);
        },
      )

pub leaf_grows : {shape : NodeShape} {page : ℕ} {before after : PageMap} {is_sound : Type 0} {result : Result (Option Separator) Fault}
    (e : List ℕ) (leaf : Leaf shape page) (look : LeafLook) → IsSubtree before leaf → IsInBounds leaf (take shape.width e)
    → IsLook shape.width (take shape.width e) leaf.tree.1 look → look.found ≡ None
    → AddsToLeaf shape page look.place e result before after is_sound
    → IsAnswer result (λ up. HasInsertedBelow leaf before after e (Added up) × is_sound)
leaf_grows {shape} {after} e leaf look stands within is missed adds =
    let none : entry_of shape.width (take shape.width e) leaf.tree.1 ≡ None =
    sym is.found ∙ ap (option_map (λ (f : ArrayVec ℕ). f.items)) missed in
    let with = insert_is_with shape.width e leaf.tree.1 look.place is.rank none in
    answer_map (rw with at (adds leaf.tree.1 (rw stands.root at stands.holds) is.rank.within))
    (λ up added. (leaf_grown after e leaf stands within none up added.0, added.1))

-- ---- a leaf that has room

pub put_page : (shape : NodeShape) (before after : PageMap) (page : ℕ) (e old new : List ℕ) (done : Bool) → before page ≡ Some old → Writes before after page new → IsLeaf shape new
    → (done ≡ false → new ≡ old) → IsPutIf shape.width e (leaf_entries shape old) (leaf_entries shape new) done → HasPutInPlaceIf shape before after page e (leaf_entries shape old) done
put_page shape before after page e old new true there writes leaf same put =
    (put.0, record { leaf = record { bytes = new; there = writes.page; leaf = leaf; holds = put.1 }; others = writes.others })
put_page shape before after page e old new false there writes leaf same put =
    written_same before after page old there (record { page = writes.page ∙ ap Some (same refl); others = writes.others })

pub put_leaf : {shape : NodeShape} {page : ℕ} {before : PageMap} {is_sound : Type 0} {out : Result Bool Fault} (after : PageMap) (e : List ℕ)
    → PutsInPlace shape page e out before after is_sound → PutsBelow (at_page shape zero page) e out before after is_sound
put_leaf {shape} {page} {before} after e puts leaf whole within =
    let stands = whole.stands in
    answer_map (puts leaf.tree.1 (rw stands.root at stands.holds) stands.ordered.0) (λ done put. (placed stands done put.0, put.1))
  where
    placed : IsSubtree before leaf → (done : Bool) → HasPutInPlaceIf shape before after page e leaf.tree.1 done
        → HasPutIf leaf before after e done
    placed stands true put = leaf_grown after e leaf stands within put.0 None put.1
    placed stands false put = put

-- ---- a node

-- A child was split. Its parent is to have these separators and children, and does not lead to the second part yet.
pub record Parted {shape : NodeShape} {k page : ℕ} (node : Inner shape k page) (before after : PageMap) (entries ss : List (List ℕ))
    (xs : List (TreeOf k)) : Type 0 where
  pub root : node.tree.0 ≡ page
  pub row : IsRow (IsOrdered shape.width k) node.low ss xs node.high
  pub holds : Each (Holds shape after k) xs
  pub filled : Each (IsHalfFullWithRoot shape k) xs
  pub has : flat_map (entries_of k) xs ≡ entries
  pub changes : ChangesPages before after (page ∷ flat_map (pages_of k) node.tree.2) (page ∷ flat_map (pages_of k) xs)
  pub there : IsSome (after page)

module _ {shape : NodeShape} {k page : ℕ} {before after : PageMap} {entries ss : List (List ℕ)} {xs : List (TreeOf k)} (late : PageMap)
    (node : Inner shape k page) (parted : Parted node before after entries ss xs) where
  abbrev old : List ℕ
  old = flat_map (pages_of k) node.tree.2

  -- the parent had room, or its upper part went to a page that was free
  parted_grown : (up : Option Separator) → length node.tree.1 ≤ length ss → HasAddedToInner shape after late page ss (map (page_of k) xs) up
      → HasGrown node before late entries up
  parted_grown None large put =
      let apart = parted.changes.apart in
      let still = Each-weaker (λ n. page ≢ n) (λ n. late n ≡ after n) (λ n ne. put.others n (λ e. ne (sym e))) (flat_map (pages_of k) xs) apart.0 in
      let whole = node_whole shape late page ss (map (page_of k) xs) put.inner in
      record {
        tree = (page, ss, xs);
        stands = record {
          holds = (put.inner, rows_still shape after late k xs parted.holds still);
          root = refl;
          ordered = (row_rises shape.width (IsOrdered shape.width k) node.low ss xs node.high parted.row whole, parted.row);
        };
        filled = parted.filled;
        large = large;
        has = parted.has;
        changes = subst (λ (n : ℕ). ChangesPages before late (n ∷ old) (page ∷ flat_map (pages_of k) xs)) (sym parted.root)
            (change_inside before after late page old (flat_map (pages_of k) xs) parted.changes put.others);
      }
  parted_grown (Some separator) large put =
      let key = separator.key.items in
      let ls = put.lower in
      let rs = put.upper in
      let m = length ls in
      let first = take (suc m) xs in
      let second = drop (suc m) xs in
      let row = subst (λ (l : List (List ℕ)). IsRow (IsOrdered shape.width k) node.low l xs node.high) (sym put.has) parted.row in
      let within : m < length (ls ++ key ∷ rs) = rw (length-append ls (key ∷ rs)) (omega arith) in
      let cut = row_split shape.width (IsOrdered shape.width k) node.low (ls ++ key ∷ rs) xs node.high m row within in
      let is_key : get_or (ls ++ key ∷ rs) m [] ≡ key = get_or_at ls key rs [] m refl in
      let is_low : take m (ls ++ key ∷ rs) ≡ ls = take_at ls (key ∷ rs) m refl in
      let joined : (ls ++ key ∷ []) ++ rs ≡ ls ++ key ∷ rs = append_assoc ls (key ∷ []) rs in
      let long : length (ls ++ key ∷ []) ≡ suc m = length-append ls (key ∷ []) ∙ add-one m in
      let is_high : drop (suc m) (ls ++ key ∷ rs) ≡ rs = ap (drop (suc m)) (sym joined) ∙ drop_at (ls ++ key ∷ []) rs (suc m) long in
      let low_row : IsRow (IsOrdered shape.width k) node.low ls first (Some key) = rw (is_low, is_key) at cut.left in
      let high_row : IsRow (IsOrdered shape.width k) (Some key) rs second node.high = rw (is_high, is_key) at cut.right in
      let bytes = put.first.bytes in
      let many : length put.lower_children ≡ suc m = ap length (sym put.first.leads) ∙ length_children shape bytes
      ∙ ap (λ (n : ℕ). n + 1) (sym (length_separators shape bytes) ∙ ap length put.first.rises) ∙ add-one m in
      let kids_low : put.lower_children ≡ map (page_of k) first =
      sym (take_at put.lower_children put.upper_children (suc m) many) ∙ ap (take (suc m)) put.leads ∙ take-map (page_of k) (suc m) xs in
      let kids_high : put.upper_children ≡ map (page_of k) second =
      sym (drop_at put.lower_children put.upper_children (suc m) many) ∙ ap (drop (suc m)) put.leads ∙ drop-map (page_of k) (suc m) xs in
      let at : IsInnerAt shape late page ls (map (page_of k) first) = subst (IsInnerAt shape late page ls) kids_low put.first in
      let at' : IsInnerAt shape late separator.child rs (map (page_of k) second) = subst (IsInnerAt shape late separator.child rs) kids_high put.second in
      let low_whole = node_whole shape late page ls (map (page_of k) first) at in
      let high_whole = node_whole shape late separator.child rs (map (page_of k) second) at' in
      let cut_pages : flat_map (pages_of k) xs ≡ flat_map (pages_of k) first ++ flat_map (pages_of k) second =
      ap (flat_map (pages_of k)) (sym (take-append-drop (suc m) xs)) ∙ flat_map-append (pages_of k) first second in
      let live = each_pages (λ n. IsSome (after n)) (Holds shape after k) (pages_of k) (pages_live shape after k) xs parted.holds in
      let fresh : (n : ℕ) → IsSome (after n) → n ≢ separator.child = λ n here e.
      let no : IsSome (after separator.child) = subst (λ x. IsSome (after x)) e here in cc (no, put.free) in
      let still = each_both (λ n. page ≢ n) (λ n. IsSome (after n)) (λ n. late n ≡ after n)
      (λ n ne here. put.others n (λ e. ne (sym e)) (fresh n here))
      (flat_map (pages_of k) xs) parted.changes.apart.0 live in
      let hold = rows_still shape after late k xs parted.holds still in
      let change = subst (λ (l : List ℕ). ChangesPages before after (page ∷ old) (page ∷ l)) cut_pages parted.changes in
      record {
        left = (page, ls, first);
        right = (separator.child, rs, second);
        under = rw is_key at cut.under;
        over = rw is_key at cut.over;
        left_stands = record {
          holds = (at, each_take (Holds shape late k) (suc m) xs hold);
          root = refl;
          ordered = (row_rises shape.width (IsOrdered shape.width k) node.low ls first (Some key) low_row low_whole, low_row);
        };
        right_stands = record {
          holds = (at', each_drop (Holds shape late k) (suc m) xs hold);
          root = refl;
          ordered = (row_rises shape.width (IsOrdered shape.width k) (Some key) rs second node.high high_row high_whole, high_row);
        };
        left_full = (put.full.0, each_take (IsHalfFullWithRoot shape k) (suc m) xs parted.filled);
        right_full = (put.full.1, each_drop (IsHalfFullWithRoot shape k) (suc m) xs parted.filled);
        has = sym (flat_map-append (entries_of k) first second) ∙ ap (flat_map (entries_of k)) (take-append-drop (suc m) xs) ∙ parted.has;
        changes = subst (λ (n : ℕ). ChangesPages before late (n ∷ old)
            ((page ∷ flat_map (pages_of k) first) ++ (separator.child ∷ flat_map (pages_of k) second))) (sym parted.root)
            (change_parted before after late page separator.child old (flat_map (pages_of k) first) (flat_map (pages_of k) second) change
            (parted.there, subst (Each (λ n. IsSome (after n))) cut_pages live) put.free put.others);
      }

insert_behind : (xs ys : List ℕ) (x y i : ℕ) → length xs ≡ i → insert (xs ++ x ∷ ys) (i + 1) y ≡ xs ++ x ∷ y ∷ ys
insert_behind xs ys x y i h =
    let long : length (xs ++ x ∷ []) ≡ i + 1 = rw length-append (omega arith) in
    ap (λ (l : List ℕ). insert l (i + 1) y) (sym (append_assoc xs (x ∷ []) ys)) ∙ rw (take_at (xs ++ x ∷ []) ys (i + 1) long, drop_at (xs ++ x ∷ []) ys (i + 1) long) (append_assoc xs (x ∷ []) (y ∷ ys))

-- a child was split in two
record ChildSplit {shape : NodeShape} {k page : ℕ} (node : Inner shape k page) (before after : PageMap) (e : List ℕ) (i : ℕ)
    (separator : Separator) : Type 0 where
  pub xs : List (TreeOf k)
  pub parted : Parted node before after (with_entry shape.width e (flat_map (entries_of k) node.tree.2))
      (insert node.tree.1 i separator.key.items) xs
  pub parent : IsInnerAt shape after page node.tree.1 (map (page_of k) node.tree.2)
  pub leads : insert (map (page_of k) node.tree.2) (i + 1) separator.child ≡ map (page_of k) xs

module _ {shape : NodeShape} {k page : ℕ} {before after : PageMap} {step : StepDown} (e : List ℕ) (node : Inner shape k page)
    (whole : IsWholeSubtree before node) (child : Child before node (take shape.width e) step) where
  child_split : (separator : Separator)
      → BecomesTwo (below_it child) before after (with_entry shape.width e (entries_of k child.row.here)) separator
      → ChildSplit node before after e step.place separator
  child_split separator two =
      let row = child.row in
      let stands = whole.stands in
      let xs = row.front ++ two.left ∷ two.right ∷ row.back in
      let a = around node row.front row.here row.back (pages_of k two.left ++ pages_of k two.right) stands whole.apart row.is two.changes in
      let own : flat_map (pages_of k) xs
      ≡ flat_map (pages_of k) row.front ++ ((pages_of k two.left ++ pages_of k two.right) ++ flat_map (pages_of k) row.back) =
      flat_map-append (pages_of k) row.front (two.left ∷ two.right ∷ row.back)
      ∙ ap (λ (l : List ℕ). flat_map (pages_of k) row.front ++ l)
      (sym (append_assoc (pages_of k two.left) (pages_of k two.right) (flat_map (pages_of k) row.back))) in
      let changes = subst (λ (n : ℕ). ChangesPages before after (n ∷ flat_map (pages_of k) node.tree.2) (page ∷ flat_map (pages_of k) xs))
      stands.root (rw own a.changes) in
      let heads : page_of k two.left ≡ page_of k row.here = two.left_stands.root ∙ sym child.whole.stands.root in
      record {
        xs = xs;
        parted = record {
          root = stands.root;
          row = row.split two.left two.right separator.key.items two.under two.over two.left_stands.ordered two.right_stands.ordered;
          holds = Each-append (Holds shape after k) row.front (two.left ∷ two.right ∷ row.back) a.in_front
              (two.left_stands.holds, (two.right_stands.holds, a.behind));
          filled = Each-append (IsHalfFullWithRoot shape k) row.front (two.left ∷ two.right ∷ row.back) child.in_front
              (two.left_full, (two.right_full, child.behind));
          has = entry_within shape.width e (entries_of k) row.front row.here (two.left ∷ two.right ∷ []) row.back row.below row.above
              (ap (λ (l : List (List ℕ)). entries_of k two.left ++ l) (append-nil (entries_of k two.right)) ∙ two.has)
              ∙ ap (λ (l : List (TreeOf k)). with_entry shape.width e (flat_map (entries_of k) l)) (sym row.is);
          changes = changes;
          there = rw a.parent.there refl;
        };
        parent = a.parent;
        leads = ap (λ (l : List (TreeOf k)). insert (map (page_of k) l) (step.place + 1) separator.child) row.is
            ∙ ap (λ (l : List ℕ). insert l (step.place + 1) separator.child) (map-append (page_of k) row.front (row.here ∷ row.back))
            ∙ insert_behind (map (page_of k) row.front) (map (page_of k) row.back) (page_of k row.here) separator.child step.place
            (length-map row.front (page_of k) ∙ row.at)
            ∙ ap (λ (n : ℕ). map (page_of k) row.front ++ n ∷ separator.child ∷ map (page_of k) row.back) (sym heads)
            ∙ ap (λ (n : ℕ). map (page_of k) row.front ++ page_of k two.left ∷ n ∷ map (page_of k) row.back) (sym two.right_stands.root)
            ∙ sym (map-append (page_of k) row.front (two.left ∷ two.right ∷ row.back));
      }

  -- a child has one more entry, and its page heads it still
  child_same : Becomes (below_it child) before after (size_of k child.row.here) (with_entry shape.width e (entries_of k child.row.here))
      → Becomes node before after (length node.tree.1) (with_entry shape.width e (flat_map (entries_of k) node.tree.2))
  child_same new =
      let row = child.row in
      let size = child.size in
      let large = new.large in
      node_becomes node whole child new (length node.tree.1) _ (omega arith) (omega arith)
      (entry_within shape.width e (entries_of k) row.front row.here (new.tree ∷ []) row.back row.below row.above
      (append-nil (entries_of k new.tree) ∙ new.has)
      ∙ ap (λ (l : List (TreeOf k)). with_entry shape.width e (flat_map (entries_of k) l)) (sym row.is))

within_it : {shape : NodeShape} {k page : ℕ} {before : PageMap} {node : Inner shape k page} {key : List ℕ} {step : StepDown}
    (child : Child before node key step) → IsInBounds node key → IsInBounds (below_it child) key
within_it child within = (child.row.under within.0, child.row.over within.1)

-- ---- the exits of an insert below a page

pub inserts_at : {shape : NodeShape} {n m page : ℕ} {before : PageMap} {is_sound : Type 0} {out : Result Grown Fault} (after : PageMap)
    (e : List ℕ) → Inserts (at_page shape m page) e out before after is_sound → n ≡ m
    → Inserts (at_page shape n page) e out before after is_sound
inserts_at {shape} {page} {before} {is_sound} {out} after e says same =
    subst (λ (levels : ℕ). Inserts (at_page shape levels page) e out before after is_sound) (sym same) says

pub puts_at : {shape : NodeShape} {n m page : ℕ} {before : PageMap} {is_sound : Type 0} {out : Result Bool Fault} (after : PageMap) (e : List ℕ)
    → PutsBelow (at_page shape m page) e out before after is_sound → n ≡ m → PutsBelow (at_page shape n page) e out before after is_sound
puts_at {shape} {page} {before} {is_sound} {out} after e says same =
    subst (λ (levels : ℕ). PutsBelow (at_page shape levels page) e out before after is_sound) (sym same) says

module _ {shape : NodeShape} {k page : ℕ} {before : PageMap} {step : StepDown} {is_sound : Type 0} (e : List ℕ)
    (steps : Steps shape before page (take shape.width e) (Ok step)) (after : PageMap) where
  -- the child's fault is no damage
  pub child_fails : {fault : Fault} → Inserts (at_page shape k step.child) e (Err fault) before after is_sound → (node : Inner shape k page)
      → IsWholeSubtree before node → IsInBounds node (take shape.width e) → fault ≢ Damage
  child_fails inserts node whole within =
      let child = child_at node whole steps in
      (inserts (below_it child) child.whole (within_it child within)).no_damage

  pub put_inner : {out : Result Bool Fault} → PutsBelow (at_page shape k step.child) e out before after is_sound
      → PutsBelow (at_page shape (suc k) page) e out before after is_sound
  put_inner puts node whole within =
      let child = child_at node whole steps in
      answer_map (puts (below_it child) child.whole (within_it child within))
      (λ done put. (grown (child_at node whole steps) done put.0, put.1))
    where
      grown : (child : Child before node (take shape.width e) step) (done : Bool) → HasPutIf (below_it child) before after e done
          → HasPutIf node before after e done
      grown child true put = (child.entry ∙ put.0, child_same e node whole child put.1)
      grown child false put = put

  pub child_has : (found : ArrayVec ℕ) → Inserts (at_page shape k step.child) e (Ok (Present found)) before after is_sound
      → Inserts (at_page shape (suc k) page) e (Ok (Present found)) before after is_sound
  child_has found inserts node whole within =
      let child = child_at node whole steps in
      let a = (inserts (below_it child) child.whole (within_it child within)).answer in
      record { answer = ((child.entry ∙ a.0.0, a.0.1), a.1); no_damage = tt }

  pub child_grown : Inserts (at_page shape k step.child) e (Ok (Added None)) before after is_sound
      → Inserts (at_page shape (suc k) page) e (Ok (Added None)) before after is_sound
  child_grown inserts node whole within =
      let child = child_at node whole steps in
      let a = (inserts (below_it child) child.whole (within_it child within)).answer in
      record { answer = ((child.entry ∙ a.0.0, child_same e node whole child a.0.1), a.1); no_damage = tt }

  -- the child was split, and its parent has a separator more
  pub split_grown : {was_sound : Type 0} {result : Result (Option Separator) Fault} (late : PageMap) (separator : Separator)
      → Inserts (at_page shape k step.child) e (Ok (Added (Some separator))) before after was_sound
      → (was_sound → AddsToInner shape page step.place separator result after late is_sound) → (node : Inner shape k page)
      → IsWholeSubtree before node → IsInBounds node (take shape.width e)
      → IsAnswer result (λ up. HasInsertedBelow node before late e (Added up) × is_sound)
  split_grown late separator inserts adds node whole within =
      let child = child_at node whole steps in
      let a = (inserts (below_it child) child.whole (within_it child within)).answer in
      let two = child_split e node whole child separator a.0.1 in
      let more = length-insert node.tree.1 step.place separator.key.items child.row.few in
      answer_map (rw two.leads at (adds a.1 node.tree.1 (map (page_of k) node.tree.2) two.parent child.row.few))
      (λ up added. ((child.entry ∙ a.0.0, parted_grown late node two.parted up (omega arith) added.0), added.1))
