-- The nodes of a closed tree are those of a tree that stands.
use Rattle.std.proofs.Common.{◌≡◌, ℕ, zero, suc, ◌+◌, ◌/◌, ◌≤◌, true, false, List, [], ◌∷◌, ◌++◌, length, take, drop, map, flat_map, Some, None, min, refl, sym, ap, subst, ◌∙◌, arith}
use Rattle.std.specs.Prelude.{IfSome}
use Rattle.std.specs.List.{AllPairs}
use Rattle.std.specs.Simd.{first_chunks}
use Rattle.std.proofs.lemmas.Grind.{common_steps}
use Rattle.std.proofs.lemmas.List.{length-map}
use Rattle.byteorder.specs.Endian.{big_number}
use Rattle.pages.specs.Each.{Each}
use Rattle.pages.specs.Chunks.{chunks}
use Rattle.pages.proofs.ChunkLemmas.{length-chunks}
use Rattle.pages.specs.PageMap.{PageMap}
use Rattle.tree_node.specs.declared.shape.NodeShape.{NodeShape}
use Rattle.tree_node.specs.Table.{count_of, table}
use Rattle.tree_node.specs.Leaf.{leaf_room}
use Rattle.tree_node.specs.Inner.{inner_room, branches, separators}
use Rattle.tree_node.specs.Order.{less, Ascends}
use Rattle.tree_node.proofs.OrderLemmas.{Each-weaker}
use Rattle.tree_search.specs.Tree.{TreeOf, page_of, entries_of, pages_of, Bound, NotBelow, Above, Below, IsRow, IsOrdered}
use Rattle.tree_search.specs.Calls.{size_of, IsHalfFull, IsRooted}
use Rattle.tree_search.specs.Stored.{Holds}
use Rattle.open_file.specs.ClosedTree.{AreSeparated, HoldsNodes}
use Rattle.open_file.proofs.ClosedPagesLemmas.{all_each, each_all, all_pairs, from_pairs}

-- ---- bounds

above_if : (b : Bound) (key : List ℕ) → Above b key → IfSome b (λ low. less low key ≡ true)
above_if None key is = tt
above_if (Some low) key is = is

if_above : (b : Bound) (key : List ℕ) → IfSome b (λ low. less low key ≡ true) → Above b key
if_above None key is = tt
if_above (Some low) key is = is

below_if : (b : Bound) (key : List ℕ) → Below b key → IfSome b (λ high. less key high ≡ true)
below_if None key is = tt
below_if (Some high) key is = is

if_below : (b : Bound) (key : List ℕ) → IfSome b (λ high. less key high ≡ true) → Below b key
if_below None key is = tt
if_below (Some high) key is = is

from_if : (b : Bound) (key : List ℕ) → NotBelow b key → IfSome b (λ low. less key low ≡ false)
from_if None key is = tt
from_if (Some low) key is = is

if_from : (b : Bound) (key : List ℕ) → IfSome b (λ low. less key low ≡ false) → NotBelow b key
if_from None key is = tt
if_from (Some low) key is = is

-- ---- chunks

chunks_first : (size n : ℕ) (bytes : List ℕ) → chunks size n bytes ≡ first_chunks size n bytes
unfolding chunks
chunks_first size zero bytes = refl
chunks_first size (suc n) bytes = ap (λ xs. take size bytes ∷ xs) (chunks_first size n (drop size bytes))

-- ---- rising keys

take_twice : (w : ℕ) (x : List ℕ) → take w (take w x) ≡ take w x
take_twice w x = grind (arith, common_steps)

less_cut : (w : ℕ) (x y : List ℕ) → less (take w (take w x)) (take w (take w y)) ≡ less (take w x) (take w y)
less_cut w x y = λ i. less (take_twice w x i) (take_twice w y i)

cut_each : (w : ℕ) (x : List ℕ) (ys : List (List ℕ)) → Each (λ y. less (take w x) (take w y) ≡ true) ys → Each (λ y. less (take w (take w x)) (take w y) ≡ true) (map (take w) ys)
cut_each w x [] each = tt
cut_each w x (y ∷ ys) each = (less_cut w x y ∙ each.0, cut_each w x ys each.1)

cut_rises : (w : ℕ) (xs : List (List ℕ)) → Ascends w xs → Ascends w (map (take w) xs)
cut_rises w [] all = tt
cut_rises w (x ∷ xs) all = (cut_each w x xs all.0, cut_rises w xs all.1)

each_cut : (w : ℕ) (x : List ℕ) (ys : List (List ℕ)) → Each (λ y. less (take w (take w x)) (take w y) ≡ true) (map (take w) ys) → Each (λ y. less (take w x) (take w y) ≡ true) ys
each_cut w x [] each = tt
each_cut w x (y ∷ ys) each = (sym (less_cut w x y) ∙ each.0, each_cut w x ys each.1)

rises_cut : (w : ℕ) (xs : List (List ℕ)) → Ascends w (map (take w) xs) → Ascends w xs
rises_cut w [] all = tt
rises_cut w (x ∷ xs) all = (each_cut w x xs all.0, rises_cut w xs all.1)

rise : (w : ℕ) (xs : List (List ℕ)) → Ascends w xs → AllPairs (λ x y. less (take w x) (take w y) ≡ true) xs
rise w xs all = all_pairs (λ x y. less (take w x) (take w y) ≡ true) (Ascends w) (λ x xs more. (more.0, more.1)) xs all

rises : (w : ℕ) (xs : List (List ℕ)) → AllPairs (λ x y. less (take w x) (take w y) ≡ true) xs → Ascends w xs
rises w xs all = from_pairs (λ x y. less (take w x) (take w y) ≡ true) (Ascends w) tt (λ x xs here rest. (here, rest)) xs all

-- ---- the nodes

-- the page of a child, its entries and its pages
abbrev Child : Type 0
Child = ℕ × List (List ℕ) × List ℕ

module _ (shape : NodeShape) (pages : PageMap) where
  abbrev Nodes : (ℕ → ℕ) → Bound → Bound → ℕ → Child → Type 0
  Nodes least low high h b = HoldsNodes shape.key shape.width shape.entry pages least low high h b.0 b.1 b.2

  abbrev child : (h : ℕ) → TreeOf h → Child
  child h t = (page_of h t, entries_of h t, pages_of h t)

  abbrev IsWithin : Bound → Bound → List ℕ → Type 0
  IsWithin low high e = IfSome low (λ l. less (take shape.width e) l ≡ false) × IfSome high (λ h. less (take shape.width e) h ≡ true)

  -- how many entries or separators have room
  abbrev room_at : ℕ → ℕ
  room_at zero = leaf_room shape
  room_at (suc h) = inner_room shape

  -- a child is at least half full
  abbrev IsChildFull : (h : ℕ) → TreeOf h → Type 0
  IsChildFull h c = IsHalfFull shape (suc h) (0, [], c ∷ [])

  half_full : (h : ℕ) (c : TreeOf h) → IsChildFull h c → room_at h / 2 ≤ size_of h c
  half_full zero c full = full.0.0
  half_full (suc h) c full = full.0.0

  full_half : (h : ℕ) (c : TreeOf h) → room_at h / 2 ≤ size_of h c → IsHalfFull shape h c → IsChildFull h c
  full_half zero c enough full = ((enough, full), tt)
  full_half (suc h) c enough full = ((enough, full), tt)

  -- ---- from a tree

  children_are : (h : ℕ) (ts : List (TreeOf h)) → map (λ b. b.0) (map (child h) ts) ≡ map (page_of h) ts
  children_are h [] = refl
  children_are h (t ∷ ts) = ap (λ xs. page_of h t ∷ xs) (children_are h ts)

  entries_are : (h : ℕ) (ts : List (TreeOf h)) → flat_map (λ b. b.1) (map (child h) ts) ≡ flat_map (entries_of h) ts
  entries_are h [] = refl
  entries_are h (t ∷ ts) = ap (λ xs. entries_of h t ++ xs) (entries_are h ts)

  pages_are : (h : ℕ) (ts : List (TreeOf h)) → flat_map (λ b. b.2) (map (child h) ts) ≡ flat_map (pages_of h) ts
  pages_are h [] = refl
  pages_are h (t ∷ ts) = ap (λ xs. pages_of h t ++ xs) (pages_are h ts)

  row_held : {X Y : Type 0} (of : X → Y) (P Q : X → Type 0) (B : Bound → Bound → X → Type 0) (C : Bound → Bound → Y → Type 0)
      → ((low high : Bound) (x : X) → P x → Q x → B low high x → C low high (of x))
      → (low : Bound) (ss : List (List ℕ)) (xs : List X) (high : Bound) → Each P xs → Each Q xs → IsRow B low ss xs high → AreSeparated C low ss (map of xs) high
  row_held of P Q B C f low ss [] high p q row = absurd row
  row_held of P Q B C f low [] (x ∷ []) high p q row = f low high x p.0 q.0 row
  row_held of P Q B C f low [] (x ∷ y ∷ xs) high p q row = absurd row
  row_held of P Q B C f low (s ∷ ss) (x ∷ xs) high p q row =
      (above_if low s row.0, below_if high s row.1, f low (Some s) x p.0 q.0 row.2, row_held of P Q B C f (Some s) ss xs high p.1 q.1 row.3)

  pub nodes_held : (h : ℕ) (least : ℕ → ℕ) (low high : Bound) (t : TreeOf h) → Holds shape pages h t → IsHalfFull shape h t → least (room_at h) ≤ size_of h t → IsOrdered shape.width h low high t
      → Nodes least low high h (child h t)
  unfolding table
  nodes_held zero least low high t held filled enough ordered =
      let many : length t.1 ≡ count_of held.bytes = sym (ap (λ (xs : List (List ℕ)). length xs) held.holds) ∙ length-chunks shape.entry (count_of held.bytes) (drop 16 held.bytes) in (
        record {
          page = held.bytes;
          there = held.there;
          long = held.leaf.head.size;
          tag = held.leaf.head.tag;
          number = held.leaf.head.number;
          zeros = held.leaf.head.zeros;
          rows = t.1;
          rows_are = sym held.holds ∙ chunks_first shape.entry (count_of held.bytes) (drop 16 held.bytes);
          few = subst (λ n. n ≤ leaf_room shape) (sym many) held.leaf.few;
          enough = enough;
          rising = rise shape.width t.1 ordered.0;
        },
        refl,
        refl,
        all_each (IsWithin low high) t.1 (Each-weaker (λ e. NotBelow low (take shape.width e) × Below high (take shape.width e)) (IsWithin low high) (λ e is. (from_if low (take shape.width e) is.0, below_if high (take shape.width e) is.1)) t.1 ordered.1),
      )
  nodes_held (suc h) least low high t held filled enough ordered =
      let node = held.0 in
      let rows : List (List ℕ) = branches shape node.bytes in
      let is : separators shape node.bytes ≡ t.1 = node.rises in
      let many : length rows ≡ count_of node.bytes = length-chunks (shape.width + 4) (count_of node.bytes) (drop 20 node.bytes) in
      let all : length t.1 ≡ length rows = sym (ap (λ (xs : List (List ℕ)). length xs) is) ∙ length-map rows (take shape.width) in
      let below = row_held (child h) (Holds shape pages h) (IsChildFull h) (IsOrdered shape.width h) (λ low high b. Nodes (λ room. room / 2) low high h b)
      (λ low high c there full order. nodes_held h (λ room. room / 2) low high c there full.0.1 (half_full h c full) order)
      low t.1 t.2 high held.1 (Each-weaker _ (IsChildFull h) (λ c full. (full, tt)) t.2 filled) ordered.1 in (
        record {
          page = node.bytes;
          there = node.there;
          long = node.inner.head.size;
          tag = node.inner.head.tag;
          number = node.inner.head.number;
          zeros = node.inner.head.zeros;
          rows = rows;
          rows_are = chunks_first (shape.width + 4) (count_of node.bytes) (drop 20 node.bytes);
          few = subst (λ n. n ≤ inner_room shape) (sym many) node.inner.few;
          enough = subst (λ n. least (inner_room shape) ≤ n) all enough;
          rising = rise shape.width rows (rises_cut shape.width rows (subst (Ascends shape.width) (sym is) ordered.0));
        },
        map (child h) t.2,
        node.leads ∙ sym (children_are h t.2),
        entries_are h t.2,
        ap (λ xs. t.0 ∷ xs) (pages_are h t.2),
        subst (λ ss. AreSeparated (λ low high b. Nodes (λ room. room / 2) low high h b) low ss (map (child h) t.2) high) (sym is) below,
      )

  -- ---- to a tree

  pub record IsTreeOf (least : ℕ → ℕ) (low high : Bound) (h : ℕ) (b : Child) : Type 0 where
    pub tree : TreeOf h
    pub page : page_of h tree ≡ b.0
    pub entries : entries_of h tree ≡ b.1
    pub own : pages_of h tree ≡ b.2
    pub holds : Holds shape pages h tree
    pub filled : IsHalfFull shape h tree
    pub enough : least (room_at h) ≤ size_of h tree
    pub ordered : IsOrdered shape.width h low high tree

  record AreTreesOf (low : Bound) (ss : List (List ℕ)) (high : Bound) (h : ℕ) (bs : List Child) : Type 0 where
    pub trees : List (TreeOf h)
    pub page : map (page_of h) trees ≡ map (λ b. b.0) bs
    pub entries : flat_map (entries_of h) trees ≡ flat_map (λ b. b.1) bs
    pub own : flat_map (pages_of h) trees ≡ flat_map (λ b. b.2) bs
    pub holds : Each (Holds shape pages h) trees
    pub full : Each (IsChildFull h) trees
    pub ordered : IsRow (IsOrdered shape.width h) low ss trees high

  row_holds : (h : ℕ) → ((low high : Bound) (b : Child) → Nodes (λ room. room / 2) low high h b → IsTreeOf (λ room. room / 2) low high h b)
      → (low : Bound) (ss : List (List ℕ)) (bs : List Child) (high : Bound) → AreSeparated (λ low high b. Nodes (λ room. room / 2) low high h b) low ss bs high → AreTreesOf low ss high h bs
  row_holds h f low [] [] high row = absurd row
  row_holds h f low (s ∷ ss) [] high row = absurd row
  row_holds h f low [] (b ∷ []) high row =
      let it = f low high b row in
      record {
        trees = it.tree ∷ [];
        page = λ i. it.page i ∷ [];
        entries = λ i. it.entries i ++ [];
        own = λ i. it.own i ++ [];
        holds = (it.holds, tt);
        full = (full_half h it.tree it.enough it.filled, tt);
        ordered = it.ordered;
      }
  row_holds h f low [] (b ∷ c ∷ bs) high row = absurd row
  row_holds h f low (s ∷ ss) (b ∷ bs) high row =
      let it = f low (Some s) b row.2 in
      let rest = row_holds h f (Some s) ss bs high row.3 in
      record {
        trees = it.tree ∷ rest.trees;
        page = λ i. it.page i ∷ rest.page i;
        entries = λ i. it.entries i ++ rest.entries i;
        own = λ i. it.own i ++ rest.own i;
        holds = (it.holds, rest.holds);
        full = (full_half h it.tree it.enough it.filled, rest.full);
        ordered = (if_above low s row.0, if_below high s row.1, it.ordered, rest.ordered);
      }

  pub nodes_hold : (h : ℕ) (least : ℕ → ℕ) (low high : Bound) (b : Child) → Nodes least low high h b → IsTreeOf least low high h b
  unfolding table
  nodes_hold zero least low high b held =
      let node = held.0 in
      let is : node.rows ≡ b.1 = held.1 in
      let are = node.rows_are ∙ sym (chunks_first shape.entry (count_of node.page) (drop 16 node.page)) in
      let many : length node.rows ≡ count_of node.page = ap (λ (xs : List (List ℕ)). length xs) are ∙ length-chunks shape.entry (count_of node.page) (drop 16 node.page) in
      record {
        tree = (b.0, b.1);
        page = refl;
        entries = refl;
        own = held.2;
        holds = record {
          bytes = node.page;
          there = node.there;
          leaf = record {
            head = record { size = node.long; tag = node.tag; number = node.number; zeros = node.zeros };
            few = subst (λ n. n ≤ leaf_room shape) many node.few;
          };
          holds = sym are ∙ is;
        };
        filled = tt;
        enough = subst (λ (xs : List (List ℕ)). least (leaf_room shape) ≤ length xs) is node.enough;
        ordered = (subst (Ascends shape.width) is (rises shape.width node.rows node.rising), Each-weaker (IsWithin low high) (λ e. NotBelow low (take shape.width e) × Below high (take shape.width e)) (λ e is. (if_from low (take shape.width e) is.0, if_below high (take shape.width e) is.1)) b.1 (each_all (IsWithin low high) b.1 held.3));
      }
  nodes_hold (suc h) least low high b held =
      let node = held.0 in
      let is = node.rows_are ∙ sym (chunks_first (shape.width + 4) (count_of node.page) (drop 20 node.page)) in
      let seps : List (List ℕ) = map (take shape.width) node.rows in
      let many : length node.rows ≡ count_of node.page = ap (λ (xs : List (List ℕ)). length xs) is ∙ length-chunks (shape.width + 4) (count_of node.page) (drop 20 node.page) in
      let below = row_holds h (nodes_hold h (λ room. room / 2)) low seps held.1 high held.5 in
      record {
        tree = (b.0, seps, below.trees);
        page = refl;
        entries = below.entries ∙ held.3;
        own = ap (λ xs. b.0 ∷ xs) below.own ∙ held.4;
        holds = (
          record {
            bytes = node.page;
            there = node.there;
            inner = record {
              head = record { size = node.long; tag = node.tag; number = node.number; zeros = node.zeros };
              few = subst (λ n. n ≤ inner_room shape) many node.few;
            };
            rises = ap (λ (xs : List (List ℕ)). map (take shape.width) xs) (sym is);
            leads = subst (λ (xs : List (List ℕ)). big_number 4 (drop 16 node.page) ∷ map (λ row. big_number 4 (drop shape.width row)) xs ≡ map (page_of h) below.trees) is (held.2 ∙ sym below.page);
          },
          below.holds,
        );
        filled = Each-weaker (IsChildFull h) _ (λ c full. full.0) below.trees below.full;
        enough = subst (λ n. least (inner_room shape) ≤ n) (sym (length-map node.rows (take shape.width))) node.enough;
        ordered = (cut_rises shape.width node.rows (rises shape.width node.rows node.rising), below.ordered);
      }

pub root_enough : (h : ℕ) (t : TreeOf h) → IsRooted h t → min h 1 ≤ size_of h t
root_enough zero t rooted = omega arith
root_enough (suc h) t rooted = omega (arith, rooted)

pub root_some : (h : ℕ) (t : TreeOf h) → min h 1 ≤ size_of h t → IsRooted h t
root_some zero t enough = tt
root_some (suc h) t enough = omega (arith, enough)
