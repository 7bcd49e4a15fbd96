-- A node one of whose children lacks one entry or separator.
use Rattle.std.proofs.Common.{◌≡◌, ◌≢◌, ℕ, zero, suc, ◌+◌, ◌-◌, ◌*◌, ◌<◌, ◌≤◌, ◌⊎◌, ◌↔◌, inl, inr, Bool, List, [], ◌∷◌, ◌++◌, length}
use Rattle.std.proofs.Common.{get_or, set, map, Some, IsSome, IsTrue, refl, ap, sym, subst, ◌∙◌, arith, flat_map, append_assoc, slice_index}
use Rattle.std.specs.List.{remove}
use Rattle.std.proofs.lemmas.List.{map-append, length-append, length-map, length-set, get_or_at}
use Rattle.std.proofs.lemmas.List.Edits.{remove-append_right, length-remove}
use Rattle.std.proofs.lemmas.Grind.{flat_map-append}
use Rattle.tree_node.specs.declared.shape.NodeShape.{NodeShape}
use Rattle.pages.specs.Each.{Each}
use Rattle.tree_node.specs.Inner.{separators, children}
use Rattle.pages.specs.PageMap.{PageMap}
use Rattle.bplus_tree.specs.declared.rebalance.Pair.{Pair}
use Rattle.tree_node.specs.Fill.{least_entries}
use Rattle.tree_search.specs.Tree.{TreeOf, page_of, entries_of, pages_of, pages_below, IsOrdered}
use Rattle.tree_search.specs.Calls.{size_of, IsHalfFull}
use Rattle.tree_search.specs.Stored.{Holds, IsInnerAt}
use Rattle.pages.specs.Owners.{AreApart, ChangesPages}
use Rattle.tree_node.specs.Balance.{IsNode, count_at, Joins, Shares}
use Rattle.bplus_tree.specs.Rebalance.{AreThree, PairBytes, HasJoined, HasShared, IsBeside, IsParent, HasRead}
use Rattle.bplus_tree.specs.Remove.{BecomesShort, AreFullBut, IsHalfFullWithRoot, LacksOne, LacksBelow}
use Rattle.bplus_tree.proofs.RemoveLemmas.{Inner}
use Rattle.tree_search.proofs.RowLemmas.{Each-append, row_rises, each_left, each_right, row_length}
use Rattle.bplus_tree.proofs.PageLemmas.{rows_still}
use Rattle.bplus_tree.proofs.PairLemmas.{PairAt, pair_at}
use Rattle.tree_search.proofs.DescentLemmas.{node_whole, root_there}
use Rattle.bplus_tree.proofs.SpreadLemmas.{two, two_out, two_apart, spread_still, spread_shared, spread_joined}
use Rattle.bplus_tree.proofs.ShareLemmas.{trees_joined, trees_shared}

-- ---- which of the two lacks one

module _ {X : Type 0} (F L : X → Type 0) where
  lacks_first : (front : List X) (l r : X) (back : List X) (place : ℕ) → length front ≡ place → AreFullBut F L place (front ++ l ∷ r ∷ back) → Each F front × L l × F r × Each F back
  lacks_first [] l r back zero is h = (tt, h.0, h.1.0, h.1.1)
  lacks_first [] l r back (suc place) is h = absurd (omega arith)
  lacks_first (x ∷ front) l r back zero is h = absurd (omega arith)
  lacks_first (x ∷ front) l r back (suc place) is h = let rec = lacks_first front l r back place (omega arith) h.1 in ((h.0, rec.0), rec.1, rec.2, rec.3)

  lacks_second : (front : List X) (l r : X) (back : List X) (place : ℕ) → length front + 1 ≡ place → AreFullBut F L place (front ++ l ∷ r ∷ back) → Each F front × F l × L r × Each F back
  lacks_second [] l r back zero is h = absurd (omega arith)
  lacks_second [] l r back (suc zero) is h = (tt, h.0, h.1.0, h.1.1)
  lacks_second [] l r back (suc (suc place)) is h = absurd (omega arith)
  lacks_second (x ∷ front) l r back zero is h = absurd (omega arith)
  lacks_second (x ∷ front) l r back (suc place) is h = let rec = lacks_second front l r back place (omega arith) h.1 in ((h.0, rec.0), rec.1, rec.2, rec.3)

-- two neighbours, one of which lacks one
pub record Uneven (shape : NodeShape) (k : ℕ) (front : List (TreeOf k)) (left right : TreeOf k) (back : List (TreeOf k)) : Type 0 where
  pub in_front : Each (IsHalfFullWithRoot shape k) front
  pub behind : Each (IsHalfFullWithRoot shape k) back
  pub filled_left : IsHalfFull shape k left
  pub filled_right : IsHalfFull shape k right
  pub near_left : least_entries shape k ≤ size_of k left + 1
  pub near_right : least_entries shape k ≤ size_of k right + 1
  pub enough : least_entries shape k ≤ size_of k left + size_of k right
  pub uneven : size_of k left ≡ size_of k right → 2 * least_entries shape k ≤ size_of k left + size_of k right → ⊥

uneven_first : (shape : NodeShape) (k : ℕ) (front : List (TreeOf k)) (left right : TreeOf k) (back : List (TreeOf k)) → Each (IsHalfFullWithRoot shape k) front × LacksOne shape k left × IsHalfFullWithRoot shape k right × Each (IsHalfFullWithRoot shape k) back
    → Uneven shape k front left right back
uneven_first shape k front left right back h =
    let a = h.1.0 in
    let b = h.2.0 in
    record {
      in_front = h.0;
      behind = h.3;
      filled_left = h.1.1;
      filled_right = h.2.1;
      near_left = omega arith;
      near_right = omega arith;
      enough = omega arith;
      uneven = λ e f. omega arith;
    }

uneven_second : (shape : NodeShape) (k : ℕ) (front : List (TreeOf k)) (left right : TreeOf k) (back : List (TreeOf k)) → Each (IsHalfFullWithRoot shape k) front × IsHalfFullWithRoot shape k left × LacksOne shape k right × Each (IsHalfFullWithRoot shape k) back
    → Uneven shape k front left right back
uneven_second shape k front left right back h =
    let a = h.1.0 in
    let b = h.2.0 in
    record {
      in_front = h.0;
      behind = h.3;
      filled_left = h.1.1;
      filled_right = h.2.1;
      near_left = omega arith;
      near_right = omega arith;
      enough = omega arith;
      uneven = λ e f. omega arith;
    }

uneven_at : (shape : NodeShape) (k : ℕ) (front : List (TreeOf k)) (left right : TreeOf k) (back : List (TreeOf k)) (place : ℕ) → (length front ≡ place) ⊎ (length front + 1 ≡ place)
    → AreFullBut (IsHalfFullWithRoot shape k) (LacksOne shape k) place (front ++ left ∷ right ∷ back) → Uneven shape k front left right back
uneven_at shape k front left right back place (inl e) h = uneven_first shape k front left right back (lacks_first (IsHalfFullWithRoot shape k) (LacksOne shape k) front left right back place e h)
uneven_at shape k front left right back place (inr e) h = uneven_second shape k front left right back (lacks_second (IsHalfFullWithRoot shape k) (LacksOne shape k) front left right back place e h)

full_within : {X : Type 0} (F L : X → Type 0) (place : ℕ) (xs : List X) → AreFullBut F L place xs → place < length xs
full_within F L zero [] h = absurd h
full_within F L (suc place) [] h = absurd h
full_within F L zero (x ∷ xs) h = omega arith
full_within F L (suc place) (x ∷ xs) h = let rec = full_within F L place xs h.1 in omega arith

pages_split : (k : ℕ) (t : TreeOf k) → pages_of k t ≡ page_of k t ∷ pages_below k t
pages_split zero t = refl
pages_split (suc k) t = refl

-- ---- what is known of the node and the two children before anything is written

pub record Chosen {shape : NodeShape} {k page : ℕ} (before : PageMap) (node : Inner shape k page) (bytes : PairBytes)
    (pair : Pair) : Type 0 where
  pub seps : separators shape bytes.node ≡ node.tree.1
  pub kids : children shape bytes.node ≡ map (page_of k) node.tree.2
  pub row : PairAt (IsOrdered shape.width k) node.low node.tree.1 node.tree.2 node.high pair.at
  pub inside : pair.at < length node.tree.1
  pub lower : page_of k row.left ≡ pair.lower
  pub upper : page_of k row.right ≡ pair.upper
  pub left_there : before (page_of k row.left) ≡ Some bytes.left
  pub right_there : before (page_of k row.right) ≡ Some bytes.right
  pub fill : Uneven shape k row.front row.left row.right row.back
  pub left_holds : Holds shape before k row.left
  pub right_holds : Holds shape before k row.right
  pub front_holds : Each (Holds shape before k) row.front
  pub back_holds : Each (Holds shape before k) row.back
  pub three : AreThree before page pair.lower pair.upper
  pub apart : AreApart (page ∷ two (flat_map (pages_of k) row.front) pair.lower (pages_below k row.left) pair.upper
      (pages_below k row.right) (flat_map (pages_of k) row.back))
  pub own : pages_of (suc k) node.tree
      ≡ page ∷ two (flat_map (pages_of k) row.front) pair.lower (pages_below k row.left) pair.upper
      (pages_below k row.right) (flat_map (pages_of k) row.back)

two_pages : (k : ℕ) (front : List (TreeOf k)) (left right : TreeOf k) (back : List (TreeOf k)) (p q : ℕ) (u v : List ℕ) → pages_of k left ≡ p ∷ u → pages_of k right ≡ q ∷ v
    → flat_map (pages_of k) (front ++ left ∷ right ∷ back) ≡ two (flat_map (pages_of k) front) p u q v (flat_map (pages_of k) back)
two_pages k front left right back p q u v is is' =
    flat_map-append (pages_of k) front (left ∷ right ∷ back)
    ∙ ap (λ (l : List ℕ). flat_map (pages_of k) front ++ (l ++ (pages_of k right ++ flat_map (pages_of k) back))) is
    ∙ ap (λ (l : List ℕ). flat_map (pages_of k) front ++ (p ∷ (u ++ (l ++ flat_map (pages_of k) back)))) is'

pub chosen : {shape : NodeShape} {k page place : ℕ} {before : PageMap} {bytes : PairBytes} {pair : Pair} (node : Inner shape k page)
    → LacksBelow before place node → HasRead shape before page place bytes pair → Chosen before node bytes pair
chosen {shape} {k} {page} {place} {before} {bytes} {pair} node lacks read =
    let stands = lacks.stands in
    let beside = read.beside in
    let there = read.parent in
    let here : before page ≡ Some stands.holds.0.bytes = ap before (sym stands.root) ∙ stands.holds.0.there in
    let same : bytes.node ≡ stands.holds.0.bytes = cc (here, there) in
    let seps : separators shape bytes.node ≡ node.tree.1 = ap (separators shape) same ∙ stands.holds.0.rises in
    let kids : children shape bytes.node ≡ map (page_of k) node.tree.2 = ap (children shape) same ∙ stands.holds.0.leads in
    let inside : pair.at < length node.tree.1 = rw seps at beside.within in
    let row = pair_at (IsOrdered shape.width k) node.low node.tree.1 node.tree.2 node.high pair.at stands.ordered.1 inside in
    let long = row_length (IsOrdered shape.width k) node.low node.tree.1 node.tree.2 node.high stands.ordered.1 in
    let few = full_within (IsHalfFullWithRoot shape k) (LacksOne shape k) place node.tree.2 lacks.full in
    let near : place ≤ length (separators shape bytes.node) = rw seps (omega arith) in
    let where_ = subst (λ (n : ℕ). (n ≡ place) ⊎ (n + 1 ≡ place)) (sym row.at) (beside.beside near) in
    let fill = uneven_at shape k row.front row.left row.right row.back place where_ (rw row.is at lacks.full) in
    let ahead = map (page_of k) row.front in
    let behind = map (page_of k) row.back in
    let split : map (page_of k) node.tree.2 ≡ ahead ++ page_of k row.left ∷ page_of k row.right ∷ behind =
    ap (map (page_of k)) row.is ∙ map-append (page_of k) row.front (row.left ∷ row.right ∷ row.back) in
    let split' : map (page_of k) node.tree.2 ≡ (ahead ++ page_of k row.left ∷ []) ++ page_of k row.right ∷ behind =
    split ∙ sym (append_assoc ahead (page_of k row.left ∷ []) (page_of k row.right ∷ behind)) in
    let count : length ahead ≡ pair.at = length-map row.front (page_of k) ∙ row.at in
    let count' : length (ahead ++ page_of k row.left ∷ []) ≡ pair.at + 1 =
    length-append ahead (page_of k row.left ∷ []) ∙ ap (λ (n : ℕ). n + 1) count in
    let lower : page_of k row.left ≡ pair.lower = sym (beside.lower ∙ ap (λ (l : List ℕ). slice_index l pair.at) (kids ∙ split)
    ∙ get_or_at ahead (page_of k row.left) (page_of k row.right ∷ behind) 0 pair.at count) in
    let upper : page_of k row.right ≡ pair.upper = sym (beside.upper ∙ ap (λ (l : List ℕ). slice_index l (pair.at + 1)) (kids ∙ split')
    ∙ get_or_at (ahead ++ page_of k row.left ∷ []) (page_of k row.right) behind 0 (pair.at + 1) count') in
    let holds = subst (Each (Holds shape before k)) row.is stands.holds.1 in
    let holds' = each_right (Holds shape before k) row.front (row.left ∷ row.right ∷ row.back) holds in
    let a = flat_map (pages_of k) row.front in
    let b = flat_map (pages_of k) row.back in
    let u = pages_below k row.left in
    let v = pages_below k row.right in
    let own : pages_of (suc k) node.tree ≡ page ∷ two a pair.lower u pair.upper v b =
    ap (λ (n : ℕ). n ∷ flat_map (pages_of k) node.tree.2) stands.root
    ∙ ap (λ (l : List (TreeOf k)). page ∷ flat_map (pages_of k) l) row.is
    ∙ ap (λ (l : List ℕ). page ∷ l) (two_pages k row.front row.left row.right row.back pair.lower pair.upper u v
    (pages_split k row.left ∙ ap (λ (n : ℕ). n ∷ u) lower) (pages_split k row.right ∙ ap (λ (n : ℕ). n ∷ v) upper)) in
    let apart' = subst AreApart own lacks.apart in
    let off = two_out a pair.lower u pair.upper v b page apart'.0 in
    let ne = (two_apart a pair.lower u pair.upper v b apart'.1).0 in
    record {
      seps = seps;
      kids = kids;
      row = row;
      inside = inside;
      lower = lower;
      upper = upper;
      left_there = ap before lower ∙ read.lower;
      right_there = ap before upper ∙ read.upper;
      fill = fill;
      left_holds = holds'.0;
      right_holds = holds'.1.0;
      back_holds = holds'.1.1;
      front_holds = each_left (Holds shape before k) row.front (row.left ∷ row.right ∷ row.back) holds;
      three = record {
        first = rw there refl;
        second = subst (λ (n : ℕ). IsSome (before n)) lower (root_there shape before k row.left holds'.0);
        third = subst (λ (n : ℕ). IsSome (before n)) upper (root_there shape before k row.right holds'.1.0);
        apart = (off.0, off.1, ne);
      };
      apart = apart';
      own = own;
    }

-- it is a node of its kind, with as many entries or separators as its tree has
node_of : (shape : NodeShape) (pages : PageMap) (k : ℕ) (t : TreeOf k) (bytes : List ℕ) → Holds shape pages k t
    → pages (page_of k t) ≡ Some bytes → IsNode shape k bytes × (count_at shape k bytes ≡ size_of k t)
node_of shape pages zero t bytes holds there =
    let same : holds.bytes ≡ bytes = cc (holds.there, there) in
    (subst (IsNode shape zero) same holds.leaf, subst (λ (b : List ℕ). count_at shape zero b ≡ length t.1) same (ap length holds.holds))
node_of shape pages (suc k) t bytes holds there =
    let same : holds.0.bytes ≡ bytes = cc (holds.0.there, there) in
    (subst (IsNode shape (suc k)) same holds.0.inner, subst (λ (b : List ℕ). count_at shape (suc k) b ≡ length t.1) same (ap length holds.0.rises))

two_flat : {X A : Type 0} (f : X → List A) (front : List X) (l r : X) (back : List X) → flat_map f (front ++ l ∷ r ∷ back) ≡ flat_map f front ++ ((f l ++ f r) ++ flat_map f back)
two_flat f front l r back = flat_map-append f front (l ∷ r ∷ back) ∙ ap (λ (x : List _). flat_map f front ++ x) (sym (append_assoc (f l) (f r) (flat_map f back)))

remove_second : {X : Type 0} (front : List X) (x y : X) (back : List X) (i : ℕ) → length front ≡ i → remove (front ++ x ∷ y ∷ back) (i + 1) ≡ front ++ x ∷ back
remove_second front x y back i is =
    let one : i + 1 - i ≡ 1 = omega arith in
    remove-append_right front (x ∷ y ∷ back) i (i + 1) is (omega arith) ∙ ap (λ (n : ℕ). front ++ remove (x ∷ y ∷ back) n) one

-- ---- what is so after

module _ {shape : NodeShape} {k page : ℕ} {before : PageMap} {node : Inner shape k page} {bytes : PairBytes} {pair : Pair}
    (found : Chosen before node bytes pair) where
  -- so the two can be balanced
  pub no_fault : (IsNode shape k bytes.left → IsNode shape k bytes.right → (count_at shape k bytes.left ≡ count_at shape k bytes.right)
      × (2 * least_entries shape k ≤ count_at shape k bytes.left + count_at shape k bytes.right)) → ⊥
  no_fault fault =
      let l = node_of shape before k found.row.left bytes.left found.left_holds found.left_there in
      let r = node_of shape before k found.row.right bytes.right found.right_holds found.right_there in
      let f = rw (l.1, r.1) at (fault l.0 r.0) in
      found.fill.uneven f.0 f.1

  -- what stays, where only the node and the two children were written
  record Stays (late : PageMap) : Type 0 where
    pub front_holds : Each (Holds shape late k) found.row.front
    pub back_holds : Each (Holds shape late k) found.row.back
    pub below : Each (λ n. late n ≡ before n) (pages_below k found.row.left ++ pages_below k found.row.right)

  stays : {late : PageMap} → ((n : ℕ) → n ≢ page → n ≢ pair.lower → n ≢ pair.upper → late n ≡ before n) → Stays late
  stays {late} others =
      let row = found.row in
      let a = flat_map (pages_of k) row.front in
      let b = flat_map (pages_of k) row.back in
      let u = pages_below k row.left in
      let v = pages_below k row.right in
      let still = spread_still before late page a pair.lower u pair.upper v b found.apart others in
      let still_ub = each_right (λ n. late n ≡ before n) a ((u ++ v) ++ b) still in
      record {
        front_holds = rows_still shape before late k row.front found.front_holds
            (each_left (λ n. late n ≡ before n) a ((u ++ v) ++ b) still);
        back_holds = rows_still shape before late k row.back found.back_holds (each_right (λ n. late n ≡ before n) (u ++ v) b still_ub);
        below = each_left (λ n. late n ≡ before n) (u ++ v) b still_ub;
      }

  pub shared : {late : PageMap} {now : PairBytes} {short : Bool}
      → Shares shape k pair.at bytes.node bytes.left bytes.right now.node now.left now.right → HasShared before late page pair now
      → IsTrue short ↔ (length (separators shape now.node) < least_entries shape 1)
      → BecomesShort node before late (entries_of (suc k) node.tree) short
  shared {late} {now} {short} shares put short_is =
      let row = found.row in
      let a = flat_map (pages_of k) row.front in
      let b = flat_map (pages_of k) row.back in
      let u = pages_below k row.left in
      let v = pages_below k row.right in
      let kept = stays put.others in
      let key = shares.key in
      let pair_ = rw found.seps at shares.pair in
      let both = trees_shared shape before late row.from row.to (get_or node.tree.1 pair.at []) row.under row.over k row.left row.right
      bytes.left bytes.right now.left now.right key
      found.left_holds found.right_holds row.left_between row.right_between found.left_there found.right_there pair_
      (ap late found.lower ∙ put.second) (ap late found.upper ∙ put.third) found.fill.filled_left found.fill.filled_right kept.below in
      let full = both.full found.fill.near_left found.fill.near_right in
      let ss = set node.tree.1 pair.at key in
      let xs = row.front ++ both.lower ∷ both.upper ∷ row.back in
      let seps : separators shape now.node ≡ ss = shares.parent.separator ∙ ap (λ (l : List (List ℕ)). set l pair.at key) found.seps in
      let pages_now : map (page_of k) node.tree.2 ≡ map (page_of k) xs =
      ap (map (page_of k)) row.is ∙ map-append (page_of k) row.front (row.left ∷ row.right ∷ row.back)
      ∙ ap (λ (n : ℕ). map (page_of k) row.front ++ n ∷ page_of k row.right ∷ map (page_of k) row.back) (sym both.lower_stands.root)
      ∙ ap (λ (n : ℕ). map (page_of k) row.front ++ page_of k both.lower ∷ n ∷ map (page_of k) row.back) (sym both.upper_stands.root)
      ∙ sym (map-append (page_of k) row.front (both.lower ∷ both.upper ∷ row.back)) in
      let leads = shares.parent.below ∙ found.kids ∙ pages_now in
      let at : IsInnerAt shape late page ss (map (page_of k) xs) =
      record { bytes = now.node; there = put.first; inner = shares.parent.inner; rises = seps; leads = leads } in
      let row_now = row.move both.lower both.upper key both.under both.over both.lower_stands.ordered both.upper_stands.ordered in
      let rises = row_rises shape.width (IsOrdered shape.width k) node.low ss xs node.high row_now
      (node_whole shape late page ss (map (page_of k) xs) at) in
      let own : two a pair.lower both.below_lower pair.upper both.below_upper b ≡ flat_map (pages_of k) xs =
      sym (two_pages k row.front both.lower both.upper row.back pair.lower pair.upper both.below_lower both.below_upper
      (both.lower_pages ∙ ap (λ (n : ℕ). n ∷ both.below_lower) found.lower)
      (both.upper_pages ∙ ap (λ (n : ℕ). n ∷ both.below_upper) found.upper)) in
      let members = Each-append (Holds shape late k) row.front (both.lower ∷ both.upper ∷ row.back) kept.front_holds
      (both.lower_stands.holds, (both.upper_stands.holds, kept.back_holds)) in
      let change = spread_shared before late page a pair.lower u pair.upper v b found.apart put.others both.below_lower both.below_upper
      both.pages in
      record {
        becomes = record {
          tree = (page, ss, xs);
          stands = record {
            holds = (at, members);
            root = refl;
            ordered = (rises, row_now);
          };
          filled = Each-append (IsHalfFullWithRoot shape k) row.front (both.lower ∷ both.upper ∷ row.back) found.fill.in_front
              ((full.0, both.lower_filled), ((full.1, both.upper_filled), found.fill.behind));
          large = rw (length-set node.tree.1 pair.at key) (omega arith);
          has = two_flat (entries_of k) row.front both.lower both.upper row.back
              ∙ ap (λ (x : List (List ℕ)). flat_map (entries_of k) row.front ++ (x ++ flat_map (entries_of k) row.back)) both.has
              ∙ sym (two_flat (entries_of k) row.front row.left row.right row.back) ∙ ap (flat_map (entries_of k)) (sym row.is);
          changes = subst (λ (l : List ℕ). ChangesPages before late l (page ∷ flat_map (pages_of k) xs)) (sym found.own)
              (subst (λ (l : List ℕ). ChangesPages before late (page ∷ two a pair.lower u pair.upper v b) (page ∷ l)) own change);
        };
        short_is = rw seps at short_is;
      }

  pub joined : {late : PageMap} {node_now left_now : List ℕ} {short : Bool}
      → Joins shape k pair.at bytes.node bytes.left bytes.right node_now left_now → HasJoined before late page pair node_now left_now
      → IsTrue short ↔ (length (separators shape node_now) < least_entries shape 1)
      → BecomesShort node before late (entries_of (suc k) node.tree) short
  joined {late} {node_now} {left_now} {short} joins put short_is =
      let row = found.row in
      let a = flat_map (pages_of k) row.front in
      let b = flat_map (pages_of k) row.back in
      let u = pages_below k row.left in
      let v = pages_below k row.right in
      let kept = stays put.others in
      let pair_ = rw found.seps at joins.pair in
      let one = trees_joined shape before late row.from row.to (get_or node.tree.1 pair.at []) row.under row.over k row.left row.right
      bytes.left bytes.right left_now
      found.left_holds found.right_holds row.left_between row.right_between found.left_there found.right_there pair_
      (ap late found.lower ∙ put.second) found.fill.filled_left found.fill.filled_right kept.below in
      let enough = found.fill.enough in
      let large = one.large in
      let full : least_entries shape k ≤ size_of k one.tree = omega arith in
      let ss = remove node.tree.1 pair.at in
      let xs = row.front ++ one.tree ∷ row.back in
      let seps : separators shape node_now ≡ ss = joins.parent.separator ∙ ap (λ (l : List (List ℕ)). remove l pair.at) found.seps in
      let pages_now : remove (map (page_of k) node.tree.2) (pair.at + 1) ≡ map (page_of k) xs =
      ap (λ (l : List ℕ). remove l (pair.at + 1))
      (ap (map (page_of k)) row.is ∙ map-append (page_of k) row.front (row.left ∷ row.right ∷ row.back))
      ∙ remove_second (map (page_of k) row.front) (page_of k row.left) (page_of k row.right) (map (page_of k) row.back) pair.at
      (length-map row.front (page_of k) ∙ row.at)
      ∙ ap (λ (n : ℕ). map (page_of k) row.front ++ n ∷ map (page_of k) row.back) (sym one.stands.root)
      ∙ sym (map-append (page_of k) row.front (one.tree ∷ row.back)) in
      let leads = joins.parent.below ∙ ap (λ (l : List ℕ). remove l (pair.at + 1)) found.kids ∙ pages_now in
      let at : IsInnerAt shape late page ss (map (page_of k) xs) =
      record { bytes = node_now; there = put.first; inner = joins.parent.inner; rises = seps; leads = leads } in
      let row_now = row.join one.tree one.stands.ordered in
      let rises = row_rises shape.width (IsOrdered shape.width k) node.low ss xs node.high row_now
      (node_whole shape late page ss (map (page_of k) xs) at) in
      let own : a ++ (pair.lower ∷ ((u ++ v) ++ b)) ≡ flat_map (pages_of k) xs =
      sym (flat_map-append (pages_of k) row.front (one.tree ∷ row.back)
      ∙ ap (λ (l : List ℕ). a ++ (l ++ b)) (one.pages ∙ ap (λ (n : ℕ). n ∷ (u ++ v)) found.lower)) in
      let members = Each-append (Holds shape late k) row.front (one.tree ∷ row.back) kept.front_holds (one.stands.holds, kept.back_holds) in
      let change = spread_joined before late page a pair.lower u pair.upper v b found.apart put.others put.third in
      let fewer = length-remove node.tree.1 pair.at found.inside in
      record {
        becomes = record {
          tree = (page, ss, xs);
          stands = record {
            holds = (at, members);
            root = refl;
            ordered = (rises, row_now);
          };
          filled = Each-append (IsHalfFullWithRoot shape k) row.front (one.tree ∷ row.back) found.fill.in_front
              ((full, one.filled), found.fill.behind);
          large = omega arith;
          has = flat_map-append (entries_of k) row.front (one.tree ∷ row.back)
              ∙ ap (λ (x : List (List ℕ)). flat_map (entries_of k) row.front ++ (x ++ flat_map (entries_of k) row.back)) one.has
              ∙ sym (two_flat (entries_of k) row.front row.left row.right row.back) ∙ ap (flat_map (entries_of k)) (sym row.is);
          changes = subst (λ (l : List ℕ). ChangesPages before late l (page ∷ flat_map (pages_of k) xs)) (sym found.own)
              (subst (λ (l : List ℕ). ChangesPages before late (page ∷ two a pair.lower u pair.upper v b) (page ∷ l)) own change);
        };
        short_is = rw seps at short_is;
      }

-- ---- reading

pub kids_there : (shape : NodeShape) (pages : PageMap) (page place : ℕ) (node : List ℕ) (pair : Pair) → IsParent shape pages page → pages page ≡ Some node → IsBeside shape place node pair
    → IsSome (pages pair.lower) × IsSome (pages pair.upper)
kids_there shape pages page place node pair parent there beside =
    let same : parent.bytes ≡ node = cc (parent.there, there) in
    let kids = subst (λ (b : List ℕ). (i : ℕ) → i ≤ length (separators shape b) → IsSome (pages (slice_index (children shape b) i))) same parent.kids in
    let inside = beside.within in
    (rw beside.lower (kids pair.at (omega arith)), rw beside.upper (kids (pair.at + 1) (omega arith)))

pub parent_there : (shape : NodeShape) (pages : PageMap) (page : ℕ) → IsParent shape pages page → IsSome (pages page)
parent_there shape pages page parent = rw parent.there refl

each_index : (P : ℕ → Type 0) (xs : List ℕ) (i : ℕ) → i < length xs → Each P xs → P (slice_index xs i)
each_index P [] i h all = absurd (omega arith)
each_index P (x ∷ xs) zero h all = all.0
each_index P (x ∷ xs) (suc i) h all = each_index P xs i (omega arith) all.1

each_roots : (shape : NodeShape) (pages : PageMap) (k : ℕ) (ts : List (TreeOf k)) → Each (Holds shape pages k) ts → Each (λ n. IsSome (pages n)) (map (page_of k) ts)
each_roots shape pages k [] h = tt
each_roots shape pages k (t ∷ ts) h = (root_there shape pages k t h.0, each_roots shape pages k ts h.1)

pub parent_of : {shape : NodeShape} {k page place : ℕ} {pages : PageMap} (node : Inner shape k page) → LacksBelow pages place node
    → IsParent shape pages page
parent_of {shape} {k} {pages} node lacks =
    let at = lacks.stands.holds.0 in
    let some = lacks.some in
    let long = row_length (IsOrdered shape.width k) node.low node.tree.1 node.tree.2 node.high lacks.stands.ordered.1 in
    let count : length (separators shape at.bytes) ≡ length node.tree.1 = ap length at.rises in
    let kids : length (children shape at.bytes) ≡ length node.tree.2 = ap length at.leads ∙ length-map node.tree.2 (page_of k) in
    let all = subst (Each (λ n. IsSome (pages n))) (sym at.leads) (each_roots shape pages k node.tree.2 lacks.stands.holds.1) in
    record {
      bytes = at.bytes;
      there = ap pages (sym lacks.stands.root) ∙ at.there;
      inner = at.inner;
      some = λ e. omega arith;
      kids = λ i h. each_index (λ n. IsSome (pages n)) (children shape at.bytes) i (omega arith) all;
    }
