-- Trees that a walk has yet to find.
use Rattle.std.proofs.Common.{◌≡◌, ℕ, zero, suc, ◌<◌, ◌≤◌, Bool, true, false, List, [], ◌∷◌, ◌++◌, length, drop, get_or, map, flat_map, min, Some, None, IsSome, refl, ap, sym, ◌∙◌, arith, subst, slice_index_or, nat_lt, Result, Ok, Err, IfErr}
use Rattle.std.proofs.lemmas.List.{length-map, append-nil}
use Rattle.std.proofs.lemmas.Bool.{false≢true, ltb-true}
use Rattle.std.proofs.Math.Seq.{drop-cons}
use Rattle.pages.specs.Each.{Each}
use Rattle.pages.specs.Owners.{IsOutside, AreApart}
use Rattle.pages.specs.PageMap.{PageMap}
use Rattle.tree_node.specs.declared.shape.NodeShape.{NodeShape}
use Rattle.tree_node.specs.Leaf.{leaf_entries}
use Rattle.tree_node.specs.Inner.{separators, children}
use Rattle.tree_node.specs.Fill.{least_entries}
use Rattle.tree_search.specs.Tree.{TreeOf, page_of, pages_of, entries_of, Bound, IsRow, IsOrdered}
use Rattle.tree_search.specs.Calls.{size_of, IsHalfFull, IsRooted}
use Rattle.tree_search.specs.Stored.{Holds}
use Rattle.tree_search.proofs.DescentLemmas.{root_there}
use Rattle.bplus_tree.specs.declared.tree.Tree.{Tree}
use Rattle.bplus_tree.specs.Fields.{tree_shape, tree_root, tree_levels, tree_count}
use Rattle.bplus_tree.specs.ReadOff.{entries_in}
use Rattle.bplus_tree.proofs.PageLemmas.{apart_left}
use Rattle.bplus_tree.proofs.ReadOffLemmas.{reads_its_entries}
use Rattle.pages.specs.Marks.{IsUnmarked, Marks, marked_in}
use Rattle.pages.specs.PageList.{pages_in}
use Rattle.pages.proofs.EachLemmas.{apart_right, apart_across, each_join, each_left, each_right, outside_symm}
use Rattle.pages.specs.declared.walk_fault.WalkFault.{WalkFault}
use Rattle.pages.specs.declared.walk_fault.WalkFault.TheVariants.{Memory}
use Rattle.pages.specs.Refused.{RefusesRightly}
use Rattle.pages.proofs.RefusedLemmas.{for_memory, still_unmarked}
use Rattle.page_walks.specs.declared.spot.LeafSpot.{LeafSpot}
use Rattle.page_walks.specs.Order.{AreBetween}
use Rattle.page_walks.specs.declared.leaf.Leaf.{Leaf}
use Rattle.page_walks.specs.Spots.{IsLeafThere, entry_at_spot}
use Rattle.page_walks.specs.TreeAhead.{RowAhead, TreeAhead, TreeUnmarked}
use Rattle.page_walks.specs.TreeWalk.{InnerFits, LeafFits, Reach, Walked}
use Rattle.page_walks.proofs.WalkLemmas.{there}

-- ---- what a page reads as is a function of its bytes

rows_same : (shape : NodeShape) (pages : PageMap) (h : ℕ) → ((t u : TreeOf h) → page_of h t ≡ page_of h u → Holds shape pages h t → Holds shape pages h u → pages_of h t ≡ pages_of h u)
    → (ts us : List (TreeOf h)) → map (page_of h) ts ≡ map (page_of h) us → Each (Holds shape pages h) ts → Each (Holds shape pages h) us → flat_map (pages_of h) ts ≡ flat_map (pages_of h) us
rows_same shape pages h one [] [] same a b = refl
rows_same shape pages h one [] (u ∷ us) same a b = absurd (cc)
rows_same shape pages h one (t ∷ ts) [] same a b = absurd (cc)
rows_same shape pages h one (t ∷ ts) (u ∷ us) same a b =
    let head : page_of h t ≡ page_of h u = cc in
    let tail : map (page_of h) ts ≡ map (page_of h) us = cc in
    ap (λ (l : List ℕ). l ++ flat_map (pages_of h) ts) (one t u head a.0 b.0) ∙ ap (λ (l : List ℕ). pages_of h u ++ l) (rows_same shape pages h one ts us tail a.1 b.1)

-- two trees below one page have the same pages
pub same_pages : (shape : NodeShape) (pages : PageMap) (h : ℕ) (t u : TreeOf h) → page_of h t ≡ page_of h u → Holds shape pages h t → Holds shape pages h u → pages_of h t ≡ pages_of h u
same_pages shape pages zero t u same a b = ap (λ (n : ℕ). n ∷ []) same
same_pages shape pages (suc h) t u same a b =
    let there : Some a.0.bytes ≡ Some b.0.bytes = sym a.0.there ∙ ap pages same ∙ b.0.there in
    let bytes : a.0.bytes ≡ b.0.bytes = cc in
    let leads : map (page_of h) t.2 ≡ map (page_of h) u.2 = sym a.0.leads ∙ ap (children shape) bytes ∙ b.0.leads in
    ap (λ (n : ℕ). n ∷ flat_map (pages_of h) t.2) same ∙ ap (λ (l : List ℕ). u.0 ∷ l) (rows_same shape pages h (same_pages shape pages h) t.2 u.2 leads a.1 b.1)

-- ---- the root

page_inside : (list : List (List ℕ)) (n : ℕ) → IsSome (pages_in list n) → n < length list
page_inside list n some = go (nat_lt n (length list)) refl
  where
    go : (b : Bool) → nat_lt n (length list) ≡ b → n < length list
    go true e = ltb-true n (length list) e
    go false e = absurd (let f : false ≡ true = rw e at some in false≢true f)

module _ (shape : NodeShape) (list : List (List ℕ)) (page floor : ℕ) (low high : Bound) (reached : List Bool) where
  pub ahead_there : (h : ℕ) → TreeAhead shape (pages_in list) h page floor low high reached → page < length list
  ahead_there h a = page_inside list page (subst (λ (n : ℕ). IsSome (pages_in list n)) a.stands.root (root_there shape (pages_in list) h a.tree a.stands.holds))

  root_of : (h : ℕ) (t : TreeOf h) → Each (IsUnmarked reached) (pages_of h t) → IsUnmarked reached (page_of h t)
  root_of zero t all = all.0
  root_of (suc h) t all = all.0

  pub ahead_unmarked : (h : ℕ) → TreeAhead shape (pages_in list) h page floor low high reached → IsUnmarked reached page
  ahead_unmarked h a = subst (IsUnmarked reached) a.stands.root (root_of h a.tree a.unmarked)

  -- the bytes of a page are those that were read
  read : (n : ℕ) (bytes : List ℕ) → n ≡ page → page < length list → pages_in list n ≡ Some bytes → bytes ≡ slice_index_or list page []
  read n bytes same inside is = let e : Some bytes ≡ Some (slice_index_or list page []) = sym is ∙ ap (pages_in list) same ∙ there list page inside in cc

  pub ahead_leaf : (h : ℕ) → h ≡ 0 → TreeAhead shape (pages_in list) h page floor low high reached → LeafFits shape (slice_index_or list page []) floor low high
  ahead_leaf (suc h) none a = absurd (omega arith)
  ahead_leaf zero none a =
      let bytes = read (page_of zero a.tree) a.stands.holds.bytes a.stands.root (ahead_there zero a) a.stands.holds.there in
      let es : leaf_entries shape a.stands.holds.bytes ≡ a.tree.1 = a.stands.holds.holds in
      subst (λ (p : List ℕ). LeafFits shape p floor low high) bytes (record {
        leaf = a.stands.holds.leaf;
        large = rw es a.large;
        rises = rw es a.stands.ordered.0;
        inside = rw es a.stands.ordered.1;
      })

  row_between : {X : Type 0} (P : Bound → Bound → X → Type 0) (low : Bound) (ss : List (List ℕ)) (xs : List X) (high : Bound) → IsRow P low ss xs high → AreBetween low ss high
  row_between P low [] xs high row = tt
  row_between P low (s ∷ ss) [] high row = absurd row
  row_between P low (s ∷ ss) (x ∷ xs) high row = (row.0, row.1, row_between P (Some s) ss xs high row.3)

  pub ahead_inner : (h k : ℕ) → h ≡ suc k → TreeAhead shape (pages_in list) h page floor low high reached → InnerFits shape (slice_index_or list page []) floor low high
  ahead_inner zero k one a = absurd (omega arith)
  ahead_inner (suc h) k one a =
      let bytes = read (page_of (suc h) a.tree) a.stands.holds.0.bytes a.stands.root (ahead_there (suc h) a) a.stands.holds.0.there in
      let ss : separators shape a.stands.holds.0.bytes ≡ a.tree.1 = a.stands.holds.0.rises in
      subst (λ (p : List ℕ). InnerFits shape p floor low high) bytes (record {
        inner = a.stands.holds.0.inner;
        large = rw ss a.large;
        rises = rw ss a.stands.ordered.0;
        between = rw ss (row_between (IsOrdered shape.width h) low a.tree.1 a.tree.2 high a.stands.ordered.1);
      })

  -- ---- the children

  -- behind the root come its children
  pub ahead_children : (h k : ℕ) (after : List Bool) → h ≡ suc k → Marks (marked_in reached) (marked_in after) (page ∷ []) → length after ≡ length reached
      → TreeAhead shape (pages_in list) h page floor low high reached
      → RowAhead shape (pages_in list) k low (separators shape (slice_index_or list page [])) (children shape (slice_index_or list page [])) high after
  ahead_children zero k after one marks long a = absurd (omega arith)
  ahead_children (suc h) k after one marks long a =
      let even : h ≡ k = omega arith in
      let bytes = read (page_of (suc h) a.tree) a.stands.holds.0.bytes a.stands.root (ahead_there (suc h) a) a.stands.holds.0.there in
      let kids = flat_map (pages_of h) a.tree.2 in
      subst (λ (m : ℕ). RowAhead shape (pages_in list) m low (separators shape (slice_index_or list page [])) (children shape (slice_index_or list page [])) high after) even
      (subst (λ (p : List ℕ). RowAhead shape (pages_in list) h low (separators shape p) (children shape p) high after) bytes (record {
        trees = a.tree.2;
        leads = sym a.stands.holds.0.leads;
        holds = a.stands.holds.1;
        ordered = rw a.stands.holds.0.rises a.stands.ordered.1;
        filled = a.filled;
        apart = a.apart.1;
        unmarked = still_unmarked reached after (page ∷ []) kids marks long
            (outside_symm (page ∷ []) kids (subst (λ (n : ℕ). IsOutside kids n) a.stands.root a.apart.0, tt)) a.unmarked.1;
      }))

module _ (shape : NodeShape) (pages : PageMap) (k : ℕ) where
  -- the first of several children, and those behind it
  pub row_first : (low : Bound) (s : List ℕ) (ss : List (List ℕ)) (n : ℕ) (ns : List ℕ) (high : Bound) (reached : List Bool) → RowAhead shape pages k low (s ∷ ss) (n ∷ ns) high reached
      → TreeAhead shape pages k n (least_entries shape k) low (Some s) reached
  row_first low s ss n ns high reached row = go row.trees row.leads row.holds row.ordered row.filled row.apart row.unmarked
    where
      go : (ts : List (TreeOf k)) → map (page_of k) ts ≡ n ∷ ns → Each (Holds shape pages k) ts → IsRow (IsOrdered shape.width k) low (s ∷ ss) ts high
          → Each (λ c. (least_entries shape k ≤ size_of k c) × IsHalfFull shape k c) ts → AreApart (flat_map (pages_of k) ts) → Each (IsUnmarked reached) (flat_map (pages_of k) ts)
          → TreeAhead shape pages k n (least_entries shape k) low (Some s) reached
      go [] leads holds ordered filled apart free = absurd (cc)
      go (t ∷ ts) leads holds ordered filled apart free = record {
        tree = t;
        stands = record { holds = holds.0; root = cc; ordered = ordered.2 };
        filled = filled.0.1;
        large = filled.0.0;
        apart = apart_left (pages_of k t) (flat_map (pages_of k) ts) apart;
        unmarked = each_left (IsUnmarked reached) (pages_of k t) (flat_map (pages_of k) ts) free;
      }

  pub row_rest : (low : Bound) (s : List ℕ) (ss : List (List ℕ)) (n floor : ℕ) (from to : Bound) (ns : List ℕ) (high : Bound) (before after : List Bool) (start end : Reach)
      → RowAhead shape pages k low (s ∷ ss) (n ∷ ns) high before → start.marks ≡ marked_in before → end.marks ≡ marked_in after → length after ≡ length before
      → Walked shape pages k n floor from to start end → RowAhead shape pages k (Some s) ss ns high after
  row_rest low s ss n floor from to ns high before after start end row first last long walked = go row.trees row.leads row.holds row.ordered row.filled row.apart row.unmarked
    where
      marks : Marks (marked_in before) (marked_in after) (pages_of k walked.tree)
      marks = subst (λ (f : ℕ → Bool). Marks (marked_in before) f (pages_of k walked.tree)) last (subst (λ (f : ℕ → Bool). Marks f end.marks (pages_of k walked.tree)) first walked.marks)

      go : (ts : List (TreeOf k)) → map (page_of k) ts ≡ n ∷ ns → Each (Holds shape pages k) ts → IsRow (IsOrdered shape.width k) low (s ∷ ss) ts high
          → Each (λ c. (least_entries shape k ≤ size_of k c) × IsHalfFull shape k c) ts → AreApart (flat_map (pages_of k) ts) → Each (IsUnmarked before) (flat_map (pages_of k) ts)
          → RowAhead shape pages k (Some s) ss ns high after
      go [] leads holds ordered filled apart free = absurd (cc)
      go (t ∷ ts) leads holds ordered filled apart free =
          let root : page_of k t ≡ n = cc in
          let same = same_pages shape pages k t walked.tree (root ∙ sym walked.stands.root) holds.0 walked.stands.holds in
          record {
            trees = ts;
            leads = cc;
            holds = holds.1;
            ordered = ordered.3;
            filled = filled.1;
            apart = apart_right (pages_of k t) (flat_map (pages_of k) ts) apart;
            unmarked = still_unmarked before after (pages_of k t) (flat_map (pages_of k) ts)
                (subst (Marks (marked_in before) (marked_in after)) (sym same) marks) long
                (outside_symm (pages_of k t) (flat_map (pages_of k) ts) (apart_across (pages_of k t) (flat_map (pages_of k) ts) apart))
                (each_right (IsUnmarked before) (pages_of k t) (flat_map (pages_of k) ts) free);
          }

  -- the last child
  pub row_last : (low : Bound) (ns : List ℕ) (high : Bound) (reached : List Bool) → RowAhead shape pages k low [] ns high reached
      → TreeAhead shape pages k (get_or ns 0 0) (least_entries shape k) low high reached
  row_last low ns high reached row = go row.trees row.leads row.holds row.ordered row.filled row.apart row.unmarked
    where
      go : (ts : List (TreeOf k)) → map (page_of k) ts ≡ ns → Each (Holds shape pages k) ts → IsRow (IsOrdered shape.width k) low [] ts high
          → Each (λ c. (least_entries shape k ≤ size_of k c) × IsHalfFull shape k c) ts → AreApart (flat_map (pages_of k) ts) → Each (IsUnmarked reached) (flat_map (pages_of k) ts)
          → TreeAhead shape pages k (get_or ns 0 0) (least_entries shape k) low high reached
      go [] leads holds ordered filled apart free = absurd ordered
      go (t ∷ u ∷ ts) leads holds ordered filled apart free = absurd ordered
      go (t ∷ []) leads holds ordered filled apart free = record {
        tree = t;
        stands = record { holds = holds.0; root = ap (λ (l : List ℕ). get_or l 0 0) leads; ordered = ordered };
        filled = filled.0.1;
        large = filled.0.0;
        apart = apart_left (pages_of k t) [] apart;
        unmarked = each_left (IsUnmarked reached) (pages_of k t) [] free;
      }

-- ---- the whole tree

floor_met : (h : ℕ) (t : TreeOf h) → IsRooted h t → min h 1 ≤ size_of h t
floor_met zero t rooted = omega arith
floor_met (suc h) t rooted = omega (arith, rooted)

pub whole_ahead : (tree : Tree) (list : List (List ℕ)) (floor : ℕ) (reached : List Bool) → floor ≡ min (tree_levels tree) 1 → TreeUnmarked tree list reached
    → TreeAhead (tree_shape tree) (pages_in list) (tree_levels tree) (tree_root tree) floor None None reached
whole_ahead tree list floor reached is a = record {
  tree = a.stands.value;
  stands = a.stands.whole.stands;
  filled = a.stands.whole.filled;
  large = let met = floor_met (tree_levels tree) a.stands.value a.stands.whole.rooted in omega (arith, met, is);
  apart = a.stands.whole.apart;
  unmarked = subst (Each (IsUnmarked reached)) (sym a.stands.pages_are) a.unmarked;
}

-- a tree has as many entries as the walk found
pub whole_count : (tree : Tree) (list : List (List ℕ)) (floor : ℕ) (reached : List Bool) (before after : Reach) (spots : List LeafSpot)
    → before.entries ≡ [] → after.entries ≡ map (entry_at_spot (tree_shape tree) list) spots
    → Walked (tree_shape tree) (pages_in list) (tree_levels tree) (tree_root tree) floor None None before after → TreeUnmarked tree list reached → length spots ≡ tree_count tree
whole_count tree list floor reached before after spots none are walked a =
    let shape = tree_shape tree in
    let h = tree_levels tree in
    let value = a.stands.value in
    let found = reads_its_entries shape (pages_in list) h walked.tree walked.stands.holds in
    let had = reads_its_entries shape (pages_in list) h value a.stands.whole.stands.holds in
    let same : entries_of h walked.tree ≡ a.entries = sym found ∙ ap (entries_in shape (pages_in list) h) (walked.stands.root ∙ sym a.stands.whole.stands.root) ∙ had ∙ a.stands.has in
    let all : map (entry_at_spot shape list) spots ≡ a.entries = sym are ∙ walked.adds ∙ ap (λ (l : List (List ℕ)). l ++ entries_of h walked.tree) none ∙ same in
    sym (length-map spots (entry_at_spot shape list)) ∙ ap (λ (l : List (List ℕ)). length l) all ∙ sym a.stands.count

-- the same trees, by other names for the page, what it must have, and the bounds
pub ahead_as : (shape : NodeShape) (pages : PageMap) (k p q floor floor' : ℕ) (low low' high high' : Bound) (reached : List Bool) → p ≡ q → floor ≡ floor' → low ≡ low' → high ≡ high'
    → TreeAhead shape pages k q floor' low' high' reached → TreeAhead shape pages k p floor low high reached
ahead_as shape pages k p q floor floor' low low' high high' reached a b c d ahead =
    subst (λ (x : ℕ). TreeAhead shape pages k x floor low high reached) (sym a)
    (subst (λ (x : ℕ). TreeAhead shape pages k q x low high reached) (sym b)
    (subst (λ (x : Bound). TreeAhead shape pages k q floor' x high reached) (sym c)
    (subst (λ (x : Bound). TreeAhead shape pages k q floor' low' x reached) (sym d) ahead)))

-- a call that fails for want of memory alone
pub only_memory : {X : Type 0} (S : Type 0) (r : Result X WalkFault) → IfErr r (λ fault. fault ≡ Memory) → IfErr r (RefusesRightly S)
only_memory S (Ok x) h = tt
only_memory S (Err fault) h = for_memory S fault h

-- ---- leaves

pub none_added : (xs ys : List (List ℕ)) → length ys ≡ 0 → xs ≡ xs ++ ys
none_added xs [] none = sym (append-nil xs)
none_added xs (y ∷ ys) none = absurd (omega arith)

pub leaf_added : (shape : NodeShape) (list : List (List ℕ)) (old new : List Leaf) (leaf : Leaf) → new ≡ old ++ leaf ∷ [] → IsLeafThere shape list leaf
    → Each (IsLeafThere shape list) old → Each (IsLeafThere shape list) new
leaf_added shape list old new leaf grown here all = subst (Each (IsLeafThere shape list)) (sym grown) (each_join (IsLeafThere shape list) old (leaf ∷ []) all (here, tt))

-- ---- the children from number i on

module _ (shape : NodeShape) (pages : PageMap) (k : ℕ) (low : Bound) (ss : List (List ℕ)) (below : List ℕ) (i : ℕ) (high : Bound) (reached : List Bool) where
  pub row_split : i < length ss → i < length below → RowAhead shape pages k low (drop i ss) (drop i below) high reached
      → RowAhead shape pages k low (get_or ss i [] ∷ drop (suc i) ss) (get_or below i 0 ∷ drop (suc i) below) high reached
  row_split few inside row =
      subst (λ (l : List (List ℕ)). RowAhead shape pages k low l (get_or below i 0 ∷ drop (suc i) below) high reached) (drop-cons ss i [] few)
      (subst (λ (l : List ℕ). RowAhead shape pages k low (drop i ss) l high reached) (drop-cons below i 0 inside) row)

  pub row_end : i ≡ length ss → i < length below → RowAhead shape pages k low (drop i ss) (drop i below) high reached
      → TreeAhead shape pages k (get_or below i 0) (least_entries shape k) low high reached
  row_end all inside row =
      row_last shape pages k low (get_or below i 0 ∷ drop (suc i) below) high reached
      (subst (λ (l : List (List ℕ)). RowAhead shape pages k low l (get_or below i 0 ∷ drop (suc i) below) high reached) (rw all (drop_all ss))
      (subst (λ (l : List ℕ). RowAhead shape pages k low (drop i ss) l high reached) (drop-cons below i 0 inside) row))
    where
      drop_all : (xs : List (List ℕ)) → drop (length xs) xs ≡ []
      drop_all [] = refl
      drop_all (x ∷ xs) = drop_all xs
