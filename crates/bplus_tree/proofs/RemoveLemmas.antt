-- A removal below a child, seen from its parent; and in a leaf.
use Rattle.std.proofs.Common.{◌≡◌, ◌≢◌, ℕ, zero, suc, ◌+◌, ◌-◌, ◌<◌, ◌≤◌, ◌↔◌, Bool, true, false, not, List, [], ◌∷◌, ◌++◌, length, take, drop, get_or, map, Option, Some, None, Ok, Err, Result, cond, IsSome, IsTrue, refl, ap, sym, subst, ◌∙◌, arith, flat_map, bytes_eq, add-one}
use Rattle.std.specs.Prelude.{IsErrAnd, filter, option_map}
use Rattle.std.specs.List.{remove}
use Rattle.std.proofs.Math.Seq.{drop-cons}
use Rattle.std.proofs.lemmas.List.{map-append, take-append-drop}
use Rattle.std.proofs.lemmas.Slice.Eq.{bytes_eq-Decides}
use Rattle.tree_search.proofs.AnswerLemmas.{fails}
use Rattle.std.proofs.lemmas.List.Elements.{filter-append}
use Rattle.std.proofs.lemmas.List.Edits.{length-remove}
use Rattle.std.proofs.lemmas.Grind.{flat_map-append}
use Rattle.arrayvec.specs.ArrayVec.{ArrayVec}
use Rattle.io_state.specs.declared.fault.Fault.{Fault}
use Rattle.tree_node.specs.declared.shape.NodeShape.{NodeShape}
use Rattle.pages.specs.Each.{Each}
use Rattle.tree_node.specs.Leaf.{IsLeaf, leaf_entries}
use Rattle.tree_node.specs.Order.{less, Ascends, IsRank}
use Rattle.tree_node.proofs.InnerLemmas.{inner_room_some}
use Rattle.tree_node.proofs.OrderLemmas.{Each-weaker, either}
use Rattle.pages.specs.PageMap.{PageMap, Writes}
use Rattle.tree_search.specs.declared.descent.StepDown.{StepDown}
use Rattle.tree_search.specs.declared.descent.LeafLook.{LeafLook}
use Rattle.bplus_tree.specs.declared.remove.Shrunk.{Shrunk}
use Rattle.bplus_tree.specs.declared.remove.Shrunk.TheVariants.{Absent, Taken}
use Rattle.tree_node.specs.Fill.{least_entries}
use Rattle.tree_search.specs.Tree.{TreeOf, page_of, entries_of, pages_of, IsRow, IsOrdered}
use Rattle.tree_search.specs.Calls.{size_of, IsRooted, entry_of, IsTree, IsWhole}
use Rattle.tree_search.specs.Stored.{Holds, IsLeafAt, IsInnerAt}
use Rattle.pages.specs.Owners.{AreApart, ChangesPages}
use Rattle.bplus_tree.specs.Edits.{without_key}
use Rattle.pages.specs.Answer.{IsAnswer}
use Rattle.tree_search.specs.Descent.{Steps, IsLook}
use Rattle.bplus_tree.specs.Subtree.{at_page, Subtree, IsSubtree, IsWholeSubtree}
use Rattle.bplus_tree.specs.Remove.{Becomes, HasRemovedBelow, Removes, HasTaken, HasTakenIf, TakesBelow, IsTakenIf, HasTakenInPlace}
use Rattle.bplus_tree.specs.Remove.{HasTakenInPlaceIf}
use Rattle.bplus_tree.specs.Remove.{TakesInPlace, AreFullBut, IsHalfFullWithRoot, LacksOne, Rebalances, OutOfLeaf}
use Rattle.tree_search.proofs.FindLemmas.{differs, differs_back, found_past, missed_at, apart_behind}
use Rattle.tree_search.proofs.RowLemmas.{RowAt, Inside, Each-append, each_left, each_right}
use Rattle.bplus_tree.proofs.GrowLemmas.{answer_map}
use Rattle.bplus_tree.proofs.PageLemmas.{change_page, written_same, apart_left, apart_right, change_within, pages_live, rows_still}
use Rattle.tree_search.proofs.DescentLemmas.{below, entry_below, step_of, tree_ascends}

-- one of two cases
le_or : (a b : ℕ) (Q : Type 0) → (a ≤ b → Q) → (b < a → Q) → Q
le_or zero b Q f g = f (omega arith)
le_or (suc a) zero Q f g = g (omega arith)
le_or (suc a) (suc b) Q f g = le_or a b Q (λ h. f (omega arith)) (λ h. g (omega arith))

-- ---- entries without a key

keep_all : {X : Type 0} (p : X → Bool) (xs : List X) → Each (λ x. p x ≡ true) xs → filter p xs ≡ xs
keep_all p [] h = refl
keep_all p (x ∷ xs) h = ap (λ b. cond b (x ∷ filter p xs) (filter p xs)) h.0 ∙ ap (λ (l : List _). x ∷ l) (keep_all p xs h.1)

each_filter : {X : Type 0} (P : X → Type 0) (p : X → Bool) (xs : List X) → Each P xs → Each P (filter p xs)
each_filter P p [] h = tt
each_filter P p (x ∷ xs) h =
    either (p x) (Each P (filter p (x ∷ xs)))
    (λ yes. subst (Each P) (sym (ap (λ b. cond b (x ∷ filter p xs) (filter p xs)) yes)) (h.0, each_filter P p xs h.1))
    (λ no. subst (Each P) (sym (ap (λ b. cond b (x ∷ filter p xs) (filter p xs)) no)) (each_filter P p xs h.1))

ascends_filter : (width : ℕ) (p : List ℕ → Bool) (xs : List (List ℕ)) → Ascends width xs → Ascends width (filter p xs)
ascends_filter width p [] h = tt
ascends_filter width p (x ∷ xs) h =
    either (p x) (Ascends width (filter p (x ∷ xs)))
    (λ yes. subst (Ascends width) (sym (ap (λ b. cond b (x ∷ filter p xs) (filter p xs)) yes)) (each_filter (λ y. less (take width x) (take width y) ≡ true) p xs h.0, ascends_filter width p xs h.1))
    (λ no. subst (Ascends width) (sym (ap (λ b. cond b (x ∷ filter p xs) (filter p xs)) no)) (ascends_filter width p xs h.1))

module _ (width : ℕ) (key : List ℕ) where
  keeps_below : (es : List (List ℕ)) → Each (λ e. less (take width e) key ≡ true) es → without_key width key es ≡ es
  keeps_below es h = keep_all (λ e. not (bytes_eq (take width e) key)) es
      (Each-weaker (λ e. less (take width e) key ≡ true) (λ e. not (bytes_eq (take width e) key) ≡ true) (λ e b. ap not (differs (take width e) key b)) es h)

  keeps_above : (es : List (List ℕ)) → Each (λ e. less key (take width e) ≡ true) es → without_key width key es ≡ es
  keeps_above es h = keep_all (λ e. not (bytes_eq (take width e) key)) es
      (Each-weaker (λ e. less key (take width e) ≡ true) (λ e. not (bytes_eq (take width e) key) ≡ true) (λ e b. ap not (differs_back (take width e) key b)) es h)

  -- the entries of a row, where the key belongs below one member
  pub without_within : {X : Type 0} (f : X → List (List ℕ)) (front : List X) (here new : X) (back : List X)
      → Each (λ x. less (take width x) key ≡ true) (flat_map f front) → Each (λ x. less key (take width x) ≡ true) (flat_map f back)
      → f new ≡ without_key width key (f here) → flat_map f (front ++ new ∷ back) ≡ without_key width key (flat_map f (front ++ here ∷ back))
  without_within f front here new back low high is =
      let p = λ (e : List ℕ). not (bytes_eq (take width e) key) in
      flat_map-append f front (new ∷ back)
      ∙ ap (λ (l : List (List ℕ)). flat_map f front ++ (l ++ flat_map f back)) is
      ∙ sym (ap (without_key width key) (flat_map-append f front (here ∷ back))
      ∙ filter-append p (flat_map f front) (f here ++ flat_map f back)
      ∙ ap (λ (l : List (List ℕ)). l ++ filter p (f here ++ flat_map f back)) (keeps_below (flat_map f front) low)
      ∙ ap (λ (l : List (List ℕ)). flat_map f front ++ l) (filter-append p (f here) (flat_map f back)
      ∙ ap (λ (l : List (List ℕ)). filter p (f here) ++ l) (keeps_above (flat_map f back) high)))

  -- the entry of a key, at its place in a leaf
  pub record IsThere (es : List (List ℕ)) (i : ℕ) : Type 0 where
    pub within : i < length es
    pub without : remove es i ≡ without_key width key es

  there_at : (es : List (List ℕ)) (i : ℕ) → IsRank width key es i → Ascends width es → i < length es → bytes_eq (take width (get_or es i [])) key ≡ true → IsThere es i
  there_at es i rank rises inside hit =
      let p = λ (e : List ℕ). not (bytes_eq (take width e) key) in
      let first = (rw (drop-cons es i [] inside) at rank.above).0 in
      let behind = apart_behind width key es i inside rises first in
      record {
        within = inside;
        without = sym (ap (without_key width key) (sym (take-append-drop i es))
            ∙ filter-append p (take i es) (drop i es)
            ∙ ap (λ (l : List (List ℕ)). l ++ filter p (drop i es)) (keeps_below (take i es) rank.below)
            ∙ ap (λ (l : List (List ℕ)). take i es ++ filter p l) (drop-cons es i [] inside)
            ∙ ap (λ b. take i es ++ cond (not b) (get_or es i [] ∷ filter p (drop (suc i) es)) (filter p (drop (suc i) es))) hit
            ∙ ap (λ (l : List (List ℕ)). take i es ++ l) (keep_all p (drop (suc i) es)
            (Each-weaker (λ e. bytes_eq (take width e) key ≡ false) (λ e. p e ≡ true) (λ e b. ap not b) (drop (suc i) es) behind)));
      }

  some_none : (e : List ℕ) (o : Option (List ℕ)) → o ≡ Some e → o ≡ None → ⊥
  some_none e o h k = cc (h, k)

  pub there : (es : List (List ℕ)) (i : ℕ) (e : List ℕ) → IsRank width key es i → Ascends width es → entry_of width key es ≡ Some e → IsThere es i
  there es i e rank rises found =
      let inside : i < length es = le_or (length es) i (i < length es) (λ past. absurd (some_none e (entry_of width key es) found (found_past width key es i rank past))) (λ h. h) in
      either (bytes_eq (take width (get_or es i [])) key) (IsThere es i) (there_at es i rank rises inside)
      (λ miss. absurd (some_none e (entry_of width key es) found (missed_at width key es i rank rises inside miss)))

-- ---- a leaf

abbrev pub Leaf : NodeShape → (page : ℕ) → Type 0
Leaf shape page = Subtree (at_page shape zero page)

-- the entry of a key was taken out of a leaf
record Without {shape : NodeShape} {page : ℕ} (leaf : Leaf shape page) (before after : PageMap) (key : List ℕ) (i : ℕ) : Type 0 where
  pub becomes : Becomes leaf before after (length leaf.tree.1 - 1) (without_key shape.width key leaf.tree.1)
  pub size : length becomes.tree.1 ≡ length (remove leaf.tree.1 i)

leaf_without : {shape : NodeShape} {page : ℕ} {before after : PageMap} (leaf : Leaf shape page) (key : List ℕ) (i : ℕ) (e : List ℕ)
    → IsSubtree before leaf → IsRank shape.width key leaf.tree.1 i → entry_of shape.width key leaf.tree.1 ≡ Some e
    → IsLeafAt shape after page (remove leaf.tree.1 i) → ((n : ℕ) → n ≢ page → after n ≡ before n) → Without leaf before after key i
leaf_without {shape} {page} {before} {after} leaf key i e stands rank was left frame =
    let here = there shape.width key leaf.tree.1 i e rank stands.ordered.0 was in
    let keeps = λ (e : List ℕ). not (bytes_eq (take shape.width e) key) in
    let fewer = length-remove leaf.tree.1 i here.within in
    let size : length (without_key shape.width key leaf.tree.1) ≡ length (remove leaf.tree.1 i) = ap length (sym here.without) in
    record {
      becomes = record {
        tree = (page, without_key shape.width key leaf.tree.1);
        stands = record {
          holds = subst (IsLeafAt shape after page) here.without left;
          root = refl;
          ordered = (
            ascends_filter shape.width keeps leaf.tree.1 stands.ordered.0,
            each_filter (Inside shape.width leaf.low leaf.high) keeps leaf.tree.1 stands.ordered.1,
          );
        };
        filled = tt;
        large = omega arith;
        has = refl;
        changes = change_page stands.root frame;
      };
      size = size;
    }

pub leaf_removes : {shape : NodeShape} {page : ℕ} {before after : PageMap} {is_sound : Type 0} {result : Result Bool Fault}
    (leaf : Leaf shape page) (key : List ℕ) (look : LeafLook) (entry : ArrayVec ℕ) → IsSubtree before leaf
    → IsLook shape.width key leaf.tree.1 look → look.found ≡ Some entry → OutOfLeaf shape page look.place result before after is_sound
    → IsAnswer result (λ short. HasRemovedBelow leaf before after key (Taken entry short) × is_sound)
leaf_removes {shape} leaf key look entry stands is found out =
    let was = sym is.found ∙ ap (option_map (λ (f : ArrayVec ℕ). f.items)) found in
    let here = there shape.width key leaf.tree.1 look.place entry.items is.rank stands.ordered.0 was in
    answer_map (out leaf.tree.1 (rw stands.root at stands.holds) here.within) (λ short taken.
    let left = leaf_without leaf key look.place entry.items stands is.rank was taken.0.leaf taken.0.others in
    ((was, record { becomes = left.becomes; short_is = rw left.size taken.0.short_is }), taken.1))

-- ---- a leaf that has enough still

pub take_page : (shape : NodeShape) (before after : PageMap) (page : ℕ) (key old new : List ℕ) (entry : ArrayVec ℕ) (done : Bool) → before page ≡ Some old → Writes before after page new → IsLeaf shape new
    → (done ≡ false → new ≡ old) → IsTakenIf shape key (leaf_entries shape old) (leaf_entries shape new) entry done → HasTakenInPlaceIf shape before after page key (leaf_entries shape old) entry done
take_page shape before after page key old new entry true there writes leaf same taken =
    record { now = leaf_entries shape new; taken = taken; leaf = record { bytes = new; there = writes.page; leaf = leaf; holds = refl }; others = writes.others }
take_page shape before after page key old new entry false there writes leaf same taken =
    written_same before after page old there (record { page = writes.page ∙ ap Some (same refl); others = writes.others })

leaf_taken : {shape : NodeShape} {page : ℕ} {before after : PageMap} (leaf : Leaf shape page) (key entry : List ℕ) → IsSubtree before leaf
    → HasTakenInPlace shape before after page key leaf.tree.1 entry → HasTaken leaf before after key entry
leaf_taken {shape} leaf key entry stands put =
    let taken = put.taken in
    let left = leaf_without leaf key taken.place entry stands taken.rank taken.was (rw taken.left at put.leaf) put.others in
    let enough : least_entries shape zero ≤ length left.becomes.tree.1 = rw (left.size, ← taken.left) taken.enough in
    record { was = taken.was; becomes = left.becomes; enough = λ full. enough; rooted = λ r. tt }

pub take_leaf : {shape : NodeShape} {page : ℕ} {before : PageMap} {is_sound : Type 0} {out : Result Bool Fault} (after : PageMap) (key : List ℕ)
    (entry : ArrayVec ℕ) → TakesInPlace shape page key entry out before after is_sound
    → TakesBelow (at_page shape zero page) key entry out before after is_sound
take_leaf {shape} {page} {before} after key entry takes leaf whole =
    let stands = whole.stands in
    answer_map (takes leaf.tree.1 (rw stands.root at stands.holds) stands.ordered.0) (λ done put. (placed stands done put.0, put.1))
  where
    placed : IsSubtree before leaf → (done : Bool) → HasTakenInPlaceIf shape before after page key leaf.tree.1 entry done
        → HasTakenIf leaf before after key entry.items done
    placed stands true put = leaf_taken leaf key entry.items stands put
    placed stands false put = put

-- ---- a node

pub changes_trans : (a b c : PageMap) (old mid new : List ℕ) → ChangesPages a b old mid → ChangesPages b c mid new → ChangesPages a c old new
changes_trans a b c old mid new first second = record {
  others = λ n here out.
      let f = first.others n here out in
      let alive : IsSome (b n) = rw f.0 here in
      let s = second.others n alive f.1 in
      (s.0 ∙ f.0, s.1);
  no_stray = λ n here out. let s = second.no_stray n here out in first.no_stray n s.0 s.1;
  apart = second.apart;
}

-- a node with so many levels below its children
abbrev pub Inner : NodeShape → (k page : ℕ) → Type 0
Inner shape k page = Subtree (at_page shape (suc k) page)

pub full_rooted : (shape : NodeShape) (k : ℕ) (t : TreeOf k) → least_entries shape k ≤ size_of k t → IsRooted k t
full_rooted shape zero t h = tt
full_rooted shape (suc k) t h = let room = inner_room_some shape in omega arith

module _ {shape : NodeShape} {k page : ℕ} where
  -- what a change below one child leaves of the node and of the other children
  pub record Around (node : Inner shape k page) (before after : PageMap) (front back : List (TreeOf k)) (new : List ℕ) : Type 0 where
    pub changes : ChangesPages before after (pages_of (suc k) node.tree)
        (page ∷ (flat_map (pages_of k) front ++ (new ++ flat_map (pages_of k) back)))
    pub parent : IsInnerAt shape after page node.tree.1 (map (page_of k) node.tree.2)
    pub in_front : Each (Holds shape after k) front
    pub behind : Each (Holds shape after k) back

  pub around : {before after : PageMap} (node : Inner shape k page) (front : List (TreeOf k)) (here : TreeOf k) (back : List (TreeOf k))
      (new : List ℕ) → IsSubtree before node → AreApart (pages_of (suc k) node.tree) → node.tree.2 ≡ front ++ here ∷ back
      → ChangesPages before after (pages_of k here) new → Around node before after front back new
  around {before} {after} node front here back new stands apart is change =
      let ahead = page ∷ flat_map (pages_of k) front in
      let behind = flat_map (pages_of k) back in
      let own : pages_of (suc k) node.tree ≡ ahead ++ (pages_of k here ++ behind) =
      ap (λ (n : ℕ). n ∷ flat_map (pages_of k) node.tree.2) stands.root
      ∙ ap (λ (l : List ℕ). page ∷ l) (ap (flat_map (pages_of k)) is ∙ flat_map-append (pages_of k) front (here ∷ back)) in
      let live = subst (Each (λ n. IsSome (before n))) own (pages_live shape before (suc k) node.tree stands.holds) in
      let live_ahead = each_left (λ n. IsSome (before n)) ahead (pages_of k here ++ behind) live in
      let live_behind = each_right (λ n. IsSome (before n)) (pages_of k here) behind
      (each_right (λ n. IsSome (before n)) ahead (pages_of k here ++ behind) live) in
      let within = change_within before after ahead (pages_of k here) new behind (subst AreApart own apart) live_ahead live_behind change in
      let kids = subst (Each (Holds shape before k)) is stands.holds.1 in
      let at = stands.holds.0 in
      record {
        changes = subst (λ (l : List ℕ). ChangesPages before after l (ahead ++ (new ++ behind))) (sym own) within.changes;
        parent = record {
          bytes = at.bytes;
          there = within.same_front.0 ∙ ap before (sym stands.root) ∙ at.there;
          inner = at.inner;
          rises = at.rises;
          leads = at.leads;
        };
        in_front = rows_still shape before after k front (each_left (Holds shape before k) front (here ∷ back) kids) within.same_front.1;
        behind = rows_still shape before after k back (each_right (Holds shape before k) front (here ∷ back) kids).1 within.same_back;
      }

  -- a member of a row has a tree in its place that heads the same page
  pub record Replaced (node : Inner shape k page) (before after : PageMap) (xs : List (TreeOf k)) : Type 0 where
    pub stands : IsTree shape after (suc k) page node.low node.high (page, node.tree.1, xs)
    pub changes : ChangesPages before after (pages_of (suc k) node.tree) (page ∷ flat_map (pages_of k) xs)

  replaced : {before after : PageMap} (node : Inner shape k page) (front : List (TreeOf k)) (here new : TreeOf k) (back : List (TreeOf k))
      → IsSubtree before node → AreApart (pages_of (suc k) node.tree) → node.tree.2 ≡ front ++ here ∷ back → Holds shape after k new
      → page_of k new ≡ page_of k here → ChangesPages before after (pages_of k here) (pages_of k new)
      → IsRow (IsOrdered shape.width k) node.low node.tree.1 (front ++ new ∷ back) node.high
      → Replaced node before after (front ++ new ∷ back)
  replaced {before} {after} node front here new back stands apart is holds root change row =
      let a = around node front here back (pages_of k new) stands apart is change in
      let same_pages : map (page_of k) node.tree.2 ≡ map (page_of k) (front ++ new ∷ back) =
      ap (map (page_of k)) is ∙ map-append (page_of k) front (here ∷ back)
      ∙ ap (λ (n : ℕ). map (page_of k) front ++ n ∷ map (page_of k) back) (sym root) ∙ sym (map-append (page_of k) front (new ∷ back)) in
      record {
        stands = record {
          holds = (
            subst (IsInnerAt shape after page node.tree.1) same_pages a.parent,
            Each-append (Holds shape after k) front (new ∷ back) a.in_front (holds, a.behind),
          );
          root = refl;
          ordered = (stands.ordered.0, row);
        };
        changes = rw (flat_map-append (pages_of k) front (new ∷ back)) a.changes;
      }

  -- the child below which a key belongs, as a tree of its own
  pub record Child (before : PageMap) (node : Inner shape k page) (key : List ℕ) (step : StepDown) : Type 0 where
    pub row : RowAt shape.width (TreeOf k) (IsOrdered shape.width k)
        (entries_of k) node.low node.tree.1 node.tree.2 node.high key step.place
    pub whole : IsWhole shape before k step.child row.from row.to row.here
    pub size : least_entries shape k ≤ size_of k row.here
    pub in_front : Each (IsHalfFullWithRoot shape k) row.front
    pub behind : Each (IsHalfFullWithRoot shape k) row.back
    pub count : step.count ≡ length node.tree.1
    pub entry : entry_of shape.width key (flat_map (entries_of k) node.tree.2) ≡ entry_of shape.width key (entries_of k row.here)

  abbrev pub below_it : {before : PageMap} {node : Inner shape k page} {key : List ℕ} {step : StepDown} → Child before node key step
      → Subtree (at_page shape k step.child)
  below_it child = record { low = child.row.from; high = child.row.to; tree = child.row.here }

  pub child_at : {before : PageMap} {key : List ℕ} {step : StepDown} (node : Inner shape k page) → IsWholeSubtree before node
      → Steps shape before page key (Ok step) → Child before node key step
  child_at {before} {key} {step} node whole steps =
      let is = (step_of shape before k page node.low node.high key node.tree (Ok step) whole.stands steps).answer in
      let b = below shape before k page node.low node.high key node.tree step whole.stands is in
      let fill = subst (Each (IsHalfFullWithRoot shape k)) b.row.is whole.filled in
      let rest = each_right (IsHalfFullWithRoot shape k) b.row.front (b.row.here ∷ b.row.back) fill in
      let own = ap (flat_map (pages_of k)) b.row.is ∙ flat_map-append (pages_of k) b.row.front (b.row.here ∷ b.row.back) in
      let behind = apart_right (flat_map (pages_of k) b.row.front) (pages_of k b.row.here ++ flat_map (pages_of k) b.row.back)
      (subst AreApart own whole.apart.1) in
      record {
        row = b.row;
        whole = record {
          stands = b.child;
          apart = apart_left (pages_of k b.row.here) (flat_map (pages_of k) b.row.back) behind;
          filled = rest.0.1;
          rooted = full_rooted shape k b.row.here rest.0.0;
        };
        size = rest.0.0;
        in_front = each_left (IsHalfFullWithRoot shape k) b.row.front (b.row.here ∷ b.row.back) fill;
        behind = rest.1;
        count = is.count;
        entry = entry_below shape.width k key node.low node.high node.tree.1 node.tree.2 step.place b.row;
      }

  -- a descent that fails
  pub descent_fails : {X : Type 0} {before : PageMap} {key : List ℕ} {fault : Fault} {out : Result X Fault} {P : X → Type 0}
      (node : Inner shape k page) → IsWholeSubtree before node → Steps shape before page key (Err fault) → IsErrAnd out (λ e. e ≡ fault)
      → IsAnswer out P
  descent_fails {before} {key} {fault} {out} {P} node whole steps was =
      fails out fault P was (step_of shape before k page node.low node.high key node.tree (Err fault) whole.stands steps).no_damage

  -- the node with another tree in the place of that child
  module _ {before after : PageMap} {key : List ℕ} {step : StepDown} {least : ℕ} {es : List (List ℕ)} (node : Inner shape k page)
      (whole : IsWholeSubtree before node) (child : Child before node key step) (new : Becomes (below_it child) before after least es) where
    pub with_child : Replaced node before after (child.row.front ++ new.tree ∷ child.row.back)
    with_child = replaced node child.row.front child.row.here new.tree child.row.back whole.stands whole.apart child.row.is new.stands.holds
        (new.stands.root ∙ sym child.whole.stands.root) new.changes (child.row.put new.tree new.stands.ordered)

    abbrev pub node_becomes : (floor : ℕ) (entries : List (List ℕ)) → least_entries shape k ≤ size_of k new.tree
        → floor ≤ length node.tree.1 → flat_map (entries_of k) (child.row.front ++ new.tree ∷ child.row.back) ≡ entries
        → Becomes node before after floor entries
    node_becomes floor entries full large has = record {
      tree = (page, node.tree.1, child.row.front ++ new.tree ∷ child.row.back);
      stands = with_child.stands;
      filled = Each-append (IsHalfFullWithRoot shape k) child.row.front (new.tree ∷ child.row.back) child.in_front
          ((full, new.filled), child.behind);
      large = large;
      has = has;
      changes = with_child.changes;
    }

  has_without : {before : PageMap} {key : List ℕ} {step : StepDown} {node : Inner shape k page} (child : Child before node key step)
      (new : TreeOf k) → entries_of k new ≡ without_key shape.width key (entries_of k child.row.here)
      → flat_map (entries_of k) (child.row.front ++ new ∷ child.row.back) ≡ without_key shape.width key
      (flat_map (entries_of k) node.tree.2)
  has_without {key} child new has =
      without_within shape.width key (entries_of k) child.row.front child.row.here new child.row.back child.row.below child.row.above has
      ∙ ap (λ (l : List (TreeOf k)). without_key shape.width key (flat_map (entries_of k) l)) (sym child.row.is)

but_here : {X : Type 0} (F L : X → Type 0) (front : List X) (x : X) (back : List X) (place : ℕ) → length front ≡ place → Each F front → L x → Each F back → AreFullBut F L place (front ++ x ∷ back)
but_here F L [] x back zero is a l b = (l, b)
but_here F L [] x back (suc place) is a l b = absurd (omega arith)
but_here F L (y ∷ front) x back zero is a l b = absurd (omega arith)
but_here F L (y ∷ front) x back (suc place) is a l b = (a.0, but_here F L front x back place (omega arith) a.1 l b)

pub takes_at : {shape : NodeShape} {n m page : ℕ} {before : PageMap} {is_sound : Type 0} {out : Result Bool Fault} (after : PageMap)
    (key : List ℕ) (entry : ArrayVec ℕ) → TakesBelow (at_page shape m page) key entry out before after is_sound
    → n ≡ m → TakesBelow (at_page shape n page) key entry out before after is_sound
takes_at {shape} {page} {before} {is_sound} {out} after key entry says same =
    subst (λ (levels : ℕ). TakesBelow (at_page shape levels page) key entry out before after is_sound) (sym same) says

pub removes_at : {shape : NodeShape} {n m page : ℕ} {before : PageMap} {is_sound : Type 0} {out : Result Shrunk Fault} (after : PageMap)
    (key : List ℕ) → Removes (at_page shape m page) key out before after is_sound
    → n ≡ m → Removes (at_page shape n page) key out before after is_sound
removes_at {shape} {page} {before} {is_sound} {out} after key says same =
    subst (λ (levels : ℕ). Removes (at_page shape levels page) key out before after is_sound) (sym same) says

module _ {shape : NodeShape} {k page : ℕ} {before : PageMap} {key : List ℕ} {step : StepDown} {is_sound : Type 0}
    (steps : Steps shape before page key (Ok step)) (after : PageMap) where
  pub take_inner : {out : Result Bool Fault} (entry : ArrayVec ℕ)
      → TakesBelow (at_page shape k step.child) key entry out before after is_sound
      → TakesBelow (at_page shape (suc k) page) key entry out before after is_sound
  take_inner entry takes node whole =
      answer_map (takes (below_it (child_at node whole steps)) (child_at node whole steps).whole)
      (λ done put. (taken (child_at node whole steps) done put.0, put.1))
    where
      taken : (child : Child before node key step) (done : Bool) → HasTakenIf (below_it child) before after key entry.items done
          → HasTakenIf node before after key entry.items done
      taken child true put = record {
        was = child.entry ∙ put.was;
        becomes = node_becomes node whole child put.becomes (length node.tree.1 - 1) _ (put.enough child.size) (omega arith)
            (has_without child put.becomes.tree put.becomes.has);
        enough = λ f. f;
        rooted = λ r. r;
      }
      taken child false put = put

  pub child_absent : Removes (at_page shape k step.child) key (Ok Absent) before after is_sound
      → Removes (at_page shape (suc k) page) key (Ok Absent) before after is_sound
  child_absent removes node whole =
      let child = child_at node whole steps in
      let a = (removes (below_it child) child.whole).answer in
      record { answer = ((child.entry ∙ a.0.0, a.0.1), a.1); no_damage = tt }

  -- the child has enough still
  pub child_taken : (entry : ArrayVec ℕ) (short few : Bool) → short ≡ false → IsTrue few ↔ (step.count < least_entries shape 1)
      → Removes (at_page shape k step.child) key (Ok (Taken entry short)) before after is_sound
      → Removes (at_page shape (suc k) page) key (Ok (Taken entry few)) before after is_sound
  child_taken entry short few enough few_is removes node whole =
      let child = child_at node whole steps in
      let a = (removes (below_it child) child.whole).answer in
      let new = a.0.1.becomes in
      let full = not_short (size_of k new.tree) (least_entries shape k) short enough a.0.1.short_is in
      record {
        no_damage = tt;
        answer = (
          (
            child.entry ∙ a.0.0,
            record {
              becomes = node_becomes node whole child new (length node.tree.1 - 1) _ full (omega arith)
                  (has_without child new.tree new.has);
              short_is = rw child.count at few_is;
            },
          ),
          a.1,
        );
      }
    where
      not_short : (size room : ℕ) (short : Bool) → short ≡ false → IsTrue short ↔ (size < room) → room ≤ size
      not_short size room short enough is = le_or room size (room ≤ size) (λ h. h) (λ h. let yes = is.1 h in absurd (cc (yes, enough)))

  -- the child lacked one, and the node was rebalanced
  pub child_rebalanced : {was_sound : Type 0} {rebalanced : Result Bool Fault} (late : PageMap) (entry : ArrayVec ℕ) (short : Bool)
      → short ≡ true → Removes (at_page shape k step.child) key (Ok (Taken entry short)) before after was_sound
      → (was_sound → Rebalances shape k page step.place rebalanced after late is_sound) → (node : Inner shape k page)
      → IsWholeSubtree before node → IsAnswer rebalanced (λ few. HasRemovedBelow node before late key (Taken entry few) × is_sound)
  child_rebalanced late entry short lacks removes rebalances node whole =
      let child = child_at node whole steps in
      let row = child.row in
      let a = (removes (below_it child) child.whole).answer in
      let new = a.0.1.becomes in
      let put = with_child node whole child new in
      let size = child.size in
      let large = new.large in
      let under : size_of k new.tree < least_entries shape k = a.0.1.short_is.0 (rw lacks refl) in
      let one_less : least_entries shape k ≡ size_of k new.tree + 1 = omega arith in
      let but = but_here (IsHalfFullWithRoot shape k) (LacksOne shape k) row.front new.tree row.back step.place row.at child.in_front
      (one_less, new.filled) child.behind in
      let now : Inner shape k page =
      record { low = node.low; high = node.high; tree = (page, node.tree.1, row.front ++ new.tree ∷ row.back) } in
      answer_map (rebalances a.1 now (record { stands = put.stands; apart = put.changes.apart; full = but; some = whole.rooted }))
      (λ few done.
      let b = done.0.becomes in (
        (
          child.entry ∙ a.0.0,
          record {
            becomes = record {
              tree = b.tree;
              stands = b.stands;
              filled = b.filled;
              large = b.large;
              has = b.has ∙ has_without child new.tree new.has;
              changes = changes_trans before after late (pages_of (suc k) node.tree) (pages_of (suc k) now.tree) (pages_of (suc k) b.tree)
                  put.changes b.changes;
            };
            short_is = done.0.short_is;
          },
        ),
        done.1,
      ))

-- ---- one entry less

differ_behind : (width : ℕ) (key x : List ℕ) (xs : List (List ℕ)) → bytes_eq (take width x) key ≡ true → Each (λ y. less (take width x) (take width y) ≡ true) xs → Each (λ y. not (bytes_eq (take width y) key) ≡ true) xs
differ_behind width key x xs hit h =
    let same : take width x ≡ key = (bytes_eq-Decides (take width x) key).0 hit in
    Each-weaker (λ y. less (take width x) (take width y) ≡ true) (λ y. not (bytes_eq (take width y) key) ≡ true)
    (λ y a. ap not (differs_back (take width y) key (subst (λ (k : List ℕ). less k (take width y) ≡ true) same a))) xs h

one_less : (width : ℕ) (key e : List ℕ) (xs : List (List ℕ)) → Ascends width xs → entry_of width key xs ≡ Some e → length (without_key width key xs) + 1 ≡ length xs
one_less width key e [] rises found = absurd (cc found)
one_less width key e (x ∷ xs) rises found =
    either (bytes_eq (take width x) key) (length (without_key width key (x ∷ xs)) + 1 ≡ length (x ∷ xs))
    (λ yes.
    let kept = keep_all (λ e. not (bytes_eq (take width e) key)) xs (differ_behind width key x xs yes rises.0) in
    ap (λ b. length (cond (not b) (x ∷ without_key width key xs) (without_key width key xs)) + 1) yes ∙ ap (λ (l : List (List ℕ)). length l + 1) kept ∙ add-one (length xs))
    (λ none.
    let later : entry_of width key xs ≡ Some e = sym (ap (λ b. cond b (Some x) (entry_of width key xs)) none) ∙ found in
    let rec = one_less width key e xs rises.1 later in
    let kept : length (without_key width key (x ∷ xs)) ≡ suc (length (without_key width key xs)) = ap (λ b. length (cond (not b) (x ∷ without_key width key xs) (without_key width key xs))) none in
    omega arith)

pub taken_once : (width : ℕ) (key : List ℕ) (h : ℕ) (t : TreeOf h) → IsOrdered width h None None t → (e : List ℕ) → entry_of width key (entries_of h t) ≡ Some e
    → length (without_key width key (entries_of h t)) + 1 ≡ length (entries_of h t)
taken_once width key h t ordered e found = one_less width key e (entries_of h t) (tree_ascends width h None None t ordered) found
