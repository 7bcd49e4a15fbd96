-- The tree that a walk finds.
use Rattle.std.proofs.Common.{◌≡◌, ℕ, zero, suc, ◌<◌, ◌≤◌, Bool, true, List, [], ◌∷◌, ◌++◌, length, take, get_or, map, flat_map, Some, None, refl, ap, sym, ◌∙◌, arith, subst, slice_index_or, nat_lt, Result, Ok, Err, OnOk}
use Rattle.std.proofs.lemmas.List.{length-map, append_assoc, map-append, take_all, length-append, append-nil}
use Rattle.std.proofs.lemmas.Grind.{flat_map-append}
use Rattle.std.proofs.Math.Seq.{take-suc}
use Rattle.std.proofs.lemmas.Bool.{lt-ltb}
use Rattle.pages.specs.Each.{Each}
use Rattle.pages.specs.PageMap.{PageMap}
use Rattle.tree_node.specs.declared.shape.NodeShape.{NodeShape}
use Rattle.tree_node.specs.Leaf.{leaf_entries}
use Rattle.tree_node.specs.Inner.{separators, children}
use Rattle.tree_node.specs.Fill.{least_entries}
use Rattle.tree_search.specs.Tree.{TreeOf, page_of, pages_of, entries_of, Bound, IsRow, IsOrdered}
use Rattle.tree_search.specs.Calls.{size_of, IsHalfFull, IsRooted}
use Rattle.tree_search.specs.Stored.{Holds}
use Rattle.pages.specs.Marks.{Marks, marked_in}
use Rattle.pages.specs.PageList.{pages_in}
use Rattle.pages.proofs.EachLemmas.{each_join}
use Rattle.pages.proofs.MarksLemmas.{marks_none, marks_on}
use Rattle.page_walks.specs.Order.{AreBetween}
use Rattle.bplus_tree.specs.declared.tree.Tree.{Tree}
use Rattle.bplus_tree.specs.Fields.{tree_shape, tree_root, tree_levels, tree_count}
use Rattle.page_walks.specs.declared.spot.LeafSpot.{LeafSpot}
use Rattle.page_walks.specs.Spots.{entry_at_spot}
use Rattle.page_walks.specs.TreeWalk.{Reach, TreeWalked, reach_of, Walked, LeafFits, InnerFits, WalkedFront, AreFirstMembers, bound_at}

pub there : (list : List (List ℕ)) (n : ℕ) → n < length list → pages_in list n ≡ Some (slice_index_or list n [])
there list n inside = let yes : nat_lt n (length list) ≡ true = lt-ltb n (length list) inside in rw yes refl

module _ {X : Type 0} (P : Bound → Bound → X → Type 0) where
  front_more : (low : Bound) (ss : List (List ℕ)) (xs : List X) (x : X) → AreFirstMembers P low ss xs → length xs < length ss
      → P (bound_at low ss (length xs)) (Some (get_or ss (length xs) [])) x → AreFirstMembers P low ss (xs ++ x ∷ [])
  front_more low [] xs x front few p = absurd (omega arith)
  front_more low (s ∷ ss) [] x front few p = (p, tt)
  front_more low (s ∷ ss) (y ∷ ys) x front few p = (front.0, front_more (Some s) ss ys x front.1 (omega arith) p)

  row_done : (low high : Bound) (ss : List (List ℕ)) (xs : List X) (x : X) → AreBetween low ss high → AreFirstMembers P low ss xs → length xs ≡ length ss
      → P (bound_at low ss (length ss)) high x → IsRow P low ss (xs ++ x ∷ []) high
  row_done low high [] [] x keys front same p = p
  row_done low high [] (y ∷ ys) x keys front same p = absurd front
  row_done low high (s ∷ ss) [] x keys front same p = absurd (omega arith)
  row_done low high (s ∷ ss) (y ∷ ys) x keys front same p = (keys.0, keys.1, front.0, row_done (Some s) high ss ys x keys.2 front.1 (omega arith) p)

-- a leaf is a tree
pub leaf_walked : (shape : NodeShape) (list : List (List ℕ)) (h page floor : ℕ) (low high : Bound) (before after : Reach)
    → h ≡ 0 → page < length list → Marks before.marks after.marks (page ∷ []) → LeafFits shape (slice_index_or list page []) floor low high
    → after.entries ≡ before.entries ++ leaf_entries shape (slice_index_or list page []) → Walked shape (pages_in list) h page floor low high before after
leaf_walked shape list zero page floor low high before after none inside marks leaf adds = record {
  tree = (page, leaf_entries shape (slice_index_or list page []));
  stands = record {
    holds = record { bytes = slice_index_or list page []; there = there list page inside; leaf = leaf.leaf; holds = refl };
    root = refl;
    ordered = (leaf.rises, leaf.inside);
  };
  filled = tt;
  large = leaf.large;
  marks = marks;
  adds = adds;
}
leaf_walked shape list (suc h) page floor low high before after none inside marks leaf adds = absurd (omega arith)

module _ (shape : NodeShape) (pages : PageMap) (k : ℕ) (low : Bound) (ss : List (List ℕ)) (below : List ℕ) where
  -- no child was walked yet
  pub front_none : (at : Reach) → WalkedFront shape pages k low ss below 0 at at
  front_none at = record { trees = []; as_many = refl; leads = refl; holds = tt; ordered = tt; filled = tt; marks = marks_none at.marks; adds = sym (append-nil at.entries) }

  -- what is the same for a child in the row and for the last one
  record Added (i : ℕ) (before after : Reach) (trees : List (TreeOf k)) : Type 0 where
    pub as_many : length trees ≡ suc i
    pub leads : map (page_of k) trees ≡ take (suc i) below
    pub holds : Each (Holds shape pages k) trees
    pub filled : Each (λ c. (least_entries shape k ≤ size_of k c) × IsHalfFull shape k c) trees
    pub marks : Marks before.marks after.marks (flat_map (pages_of k) trees)
    pub adds : after.entries ≡ before.entries ++ flat_map (entries_of k) trees

  added : (i : ℕ) (from to : Bound) (a b c : Reach) → i < length below → (front : WalkedFront shape pages k low ss below i a b)
      → (child : Walked shape pages k (get_or below i 0) (least_entries shape k) from to b c) → Added i a c (front.trees ++ child.tree ∷ [])
  added i from to a b c inside front child =
      let ts = front.trees in
      let t = child.tree in
      record {
        as_many = length-append ts (t ∷ []) ∙ (let n = front.as_many in omega arith);
        leads = map-append (page_of k) ts (t ∷ []) ∙ ap (λ (l : List ℕ). l ++ page_of k t ∷ []) front.leads
            ∙ ap (λ (p : ℕ). take i below ++ p ∷ []) child.stands.root ∙ sym (take-suc below i 0 inside);
        holds = each_join (Holds shape pages k) ts (t ∷ []) front.holds (child.stands.holds, tt);
        filled = each_join (λ c. (least_entries shape k ≤ size_of k c) × IsHalfFull shape k c) ts (t ∷ []) front.filled ((child.large, child.filled), tt);
        marks = subst (Marks a.marks c.marks) (sym (flat_map-append (pages_of k) ts (t ∷ []) ∙ ap (λ (l : List ℕ). flat_map (pages_of k) ts ++ l) (append-nil (pages_of k t))))
            (marks_on a.marks b.marks c.marks (flat_map (pages_of k) ts) (pages_of k t) front.marks child.marks);
        adds = child.adds ∙ ap (λ (l : List (List ℕ)). l ++ entries_of k t) front.adds ∙ append_assoc a.entries (flat_map (entries_of k) ts) (entries_of k t)
            ∙ ap (λ (l : List (List ℕ)). a.entries ++ l) (sym (flat_map-append (entries_of k) ts (t ∷ []) ∙ ap (λ (l : List (List ℕ)). flat_map (entries_of k) ts ++ l) (append-nil (entries_of k t))));
      }

  -- one child more
  pub front_next : (i : ℕ) (a b c : Reach) → i < length below → i < length ss → WalkedFront shape pages k low ss below i a b
      → Walked shape pages k (get_or below i 0) (least_entries shape k) (bound_at low ss i) (Some (get_or ss i [])) b c → WalkedFront shape pages k low ss below (suc i) a c
  front_next i a b c inside few front child =
      let all = added i (bound_at low ss i) (Some (get_or ss i [])) a b c inside front child in
      record {
        trees = front.trees ++ child.tree ∷ [];
        as_many = all.as_many;
        leads = all.leads;
        holds = all.holds;
        ordered = front_more (IsOrdered shape.width k) low ss front.trees child.tree front.ordered (let n = front.as_many in omega arith)
            (rw front.as_many child.stands.ordered);
        filled = all.filled;
        marks = all.marks;
        adds = all.adds;
      }

-- the children of a node but the last, the last one, and the node
pub node_walked : (shape : NodeShape) (list : List (List ℕ)) (h k page floor : ℕ) (low high : Bound) (start before between after : Reach)
    → h ≡ suc k → page < length list → InnerFits shape (slice_index_or list page []) floor low high
    → length (children shape (slice_index_or list page [])) ≡ suc (length (separators shape (slice_index_or list page [])))
    → Marks start.marks before.marks (page ∷ []) → before.entries ≡ start.entries
    → WalkedFront shape (pages_in list) k low (separators shape (slice_index_or list page [])) (children shape (slice_index_or list page []))
    (length (separators shape (slice_index_or list page []))) before between
    → Walked shape (pages_in list) k (get_or (children shape (slice_index_or list page [])) (length (separators shape (slice_index_or list page []))) 0) (least_entries shape k)
    (bound_at low (separators shape (slice_index_or list page [])) (length (separators shape (slice_index_or list page [])))) high between after
    → Walked shape (pages_in list) h page floor low high start after
node_walked shape list zero k page floor low high start before between after one inside inner many first same front last = absurd (omega arith)
node_walked shape list (suc h) k page floor low high start before between after one inside inner many first same front last =
    let even : k ≡ h = omega arith in
    subst (λ (m : ℕ). Walked shape (pages_in list) (suc m) page floor low high start after) even
    (let ss = separators shape (slice_index_or list page []) in
    let below = children shape (slice_index_or list page []) in
    let all = added shape (pages_in list) k low ss below (length ss) (bound_at low ss (length ss)) high before between after (omega arith) front last in
    record {
      tree = (page, ss, front.trees ++ last.tree ∷ []);
      stands = record {
        holds = (
          record {
            bytes = slice_index_or list page [];
            there = there list page inside;
            inner = inner.inner;
            rises = refl;
            leads = sym (all.leads ∙ take_all (suc (length ss)) below (omega arith));
          },
          all.holds,
        );
        root = refl;
        ordered = (inner.rises, row_done (IsOrdered shape.width k) low high ss front.trees last.tree inner.between front.ordered front.as_many last.stands.ordered);
      };
      filled = all.filled;
      large = inner.large;
      marks = marks_on start.marks before.marks after.marks (page ∷ []) (flat_map (pages_of k) (front.trees ++ last.tree ∷ [])) first all.marks;
      adds = all.adds ∙ ap (λ (l : List (List ℕ)). l ++ flat_map (entries_of k) (front.trees ++ last.tree ∷ [])) same;
    })

pub on_ok : {X E P Q : Type 0} → (r : Result X E) → (P → Q) → OnOk r P → OnOk r Q
on_ok (Ok x) f h = f h
on_ok (Err e) f h = tt

pub bound_next : (low : Bound) (ss : List (List ℕ)) (i : ℕ) → i < length ss → bound_at low ss (suc i) ≡ Some (get_or ss i [])
bound_next low [] i few = absurd (omega arith)
bound_next low (s ∷ ss) zero few = refl
bound_next low (s ∷ ss) (suc i) few = bound_next (Some s) ss i (omega arith)

-- the same walk, with other names for the page, what it must have, and the bounds
pub walked_as : (shape : NodeShape) (pages : PageMap) (k p q floor floor' : ℕ) (low low' high high' : Bound) (before after : Reach)
    → p ≡ q → floor ≡ floor' → low ≡ low' → high ≡ high' → Walked shape pages k p floor low high before after → Walked shape pages k q floor' low' high' before after
walked_as shape pages k p q floor floor' low low' high high' before after a b c d walked =
    subst (λ (x : ℕ). Walked shape pages k x floor' low' high' before after) a
    (subst (λ (x : ℕ). Walked shape pages k p x low' high' before after) b
    (subst (λ (x : Bound). Walked shape pages k p floor x high' before after) c
    (subst (λ (x : Bound). Walked shape pages k p floor low x before after) d walked)))

-- a root has what it must have
pub rooted : (h : ℕ) (t : TreeOf h) (floor : ℕ) → (1 ≤ h → 1 ≤ floor) → floor ≤ size_of h t → IsRooted h t
rooted zero t floor some large = tt
rooted (suc h) t floor some large = let one : 1 ≤ floor = some (omega arith) in omega arith

-- a whole tree stands
pub whole_tree : (tree : Tree) (list : List (List ℕ)) (floor : ℕ) (before after : List Bool) (spots : List LeafSpot) → (1 ≤ tree_levels tree → 1 ≤ floor)
    → Walked (tree_shape tree) (pages_in list) (tree_levels tree) (tree_root tree) floor None None (reach_of (tree_shape tree) list before []) (reach_of (tree_shape tree) list after spots)
    → length spots ≡ tree_count tree → TreeWalked tree list (marked_in before) (marked_in after) spots
whole_tree tree list floor before after spots some walked many = record {
  own = pages_of (tree_levels tree) walked.tree;
  stands = record {
    value = walked.tree;
    whole = record { stands = walked.stands; apart = walked.marks.apart; filled = walked.filled; rooted = rooted (tree_levels tree) walked.tree floor some walked.large };
    has = sym walked.adds;
    pages_are = refl;
    count = sym many ∙ sym (length-map spots (entry_at_spot (tree_shape tree) list));
  };
  marks = walked.marks;
}
