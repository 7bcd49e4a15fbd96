-- Searches: the first entry that passes a test, in leaves and in rows.
use Rattle.std.proofs.Common.{◌≡◌, ℕ, zero, suc, ◌+◌, ◌<◌, ◌≤◌, Bool, true, false, not, List, [], ◌∷◌, ◌++◌, length, take, drop, get_or, map, Option, Some, None, Ok, Err, Result, cond, refl, ap, sym, subst, ◌∙◌, arith, flat_map, find, slice_index, append_assoc, add-one}
use Rattle.std.specs.Prelude.{IsErrAnd}
use Rattle.std.specs.Option.{option_or}
use Rattle.std.proofs.Math.Seq.{drop-cons}
use Rattle.std.proofs.lemmas.List.{take-append-drop, drop_all, length-append, length-map, map-append, get_or_at, append-nil}
use Rattle.std.proofs.lemmas.List.Folds.{find-append}
use Rattle.std.proofs.lemmas.Grind.{flat_map-append}
use Rattle.arrayvec.specs.ArrayVec.{ArrayVec}
use Rattle.io_state.specs.declared.fault.Fault.{Fault}
use Rattle.tree_node.specs.declared.shape.NodeShape.{NodeShape}
use Rattle.pages.specs.Each.{Each}
use Rattle.tree_node.specs.Order.{less, IsRank, IsRankAfter}
use Rattle.tree_node.proofs.OrderLemmas.{less_itself, not_less, Each-weaker}
use Rattle.tree_node.proofs.LeafLemmas.{leaf_room_some}
use Rattle.tree_node.proofs.InnerLemmas.{inner_room_some}
use Rattle.pages.specs.PageMap.{PageMap}
use Rattle.tree_search.specs.declared.descent.StepDown.{StepDown}
use Rattle.tree_node.specs.Fill.{least_entries}
use Rattle.tree_search.specs.Tree.{TreeOf, page_of, entries_of, Bound, IsRow, IsOrdered}
use Rattle.tree_search.specs.Calls.{size_of, IsHalfFull, entry_of, first_from, first_after, last_of, IsTree}
use Rattle.tree_search.specs.Stored.{Holds, IsLeafAt, IsInnerAt}
use Rattle.pages.specs.Answer.{IsAnswer}
use Rattle.tree_search.specs.Descent.{Steps}
use Rattle.tree_search.specs.Search.{first_of, head_of, IsFound, Finds, FindsFilled, FindsInLeaf, FindsFirstEntry, FirstOfLeaf, FirstChild, FindsLast, LastOfLeaf, LastChild, IsLeafFor, LeadsToLeaf, FillsFromLeaf, filled}
use Rattle.tree_search.proofs.FindLemmas.{find_behind}
use Rattle.tree_search.proofs.RowLemmas.{RowAt}
use Rattle.tree_search.proofs.RowLemmas.{each_right}
use Rattle.tree_search.proofs.RowLemmas.{row_length}
use Rattle.tree_search.proofs.AnswerLemmas.{fails}
use Rattle.tree_search.proofs.DescentLemmas.{step_of}
use Rattle.tree_search.proofs.DescentLemmas.{Below_, below, entry_below}

all_pass : {X : Type 0} (p : X → Bool) (xs : List X) → Each (λ x. p x ≡ true) xs → find p xs ≡ find (λ x. true) xs
all_pass p [] h = refl
all_pass p (x ∷ xs) h = ap (λ b. cond b (Some x) (find p xs)) h.0

-- ---- in a leaf

module _ (width : ℕ) (key : List ℕ) where
  pub from_past : (es : List (List ℕ)) (r : ℕ) → IsRank width key es r → length es ≤ r → first_from width key es ≡ None
  from_past es r place past =
      ap (first_from width key) (sym (take-append-drop r es))
      ∙ find_behind (λ e. not (less (take width e) key)) (take r es) (drop r es)
      (Each-weaker (λ e. less (take width e) key ≡ true) (λ e. not (less (take width e) key) ≡ false) (λ e b. ap not b) (take r es) place.below)
      ∙ ap (first_from width key) (drop_all r es past)

  pub from_at : (es : List (List ℕ)) (r : ℕ) → IsRank width key es r → r < length es → first_from width key es ≡ Some (get_or es r [])
  from_at es r place inside =
      let here = (rw (drop-cons es r [] inside) at place.above).0 in
      ap (first_from width key) (sym (take-append-drop r es))
      ∙ find_behind (λ e. not (less (take width e) key)) (take r es) (drop r es)
      (Each-weaker (λ e. less (take width e) key ≡ true) (λ e. not (less (take width e) key) ≡ false) (λ e b. ap not b) (take r es) place.below)
      ∙ ap (first_from width key) (drop-cons es r [] inside)
      ∙ ap (λ b. cond (not b) (Some (get_or es r [])) (first_from width key (drop (suc r) es))) here

  pub after_past : (es : List (List ℕ)) (r : ℕ) → IsRankAfter width key es r → length es ≤ r → first_after width key es ≡ None
  after_past es r place past =
      ap (first_after width key) (sym (take-append-drop r es))
      ∙ find_behind (λ e. less key (take width e)) (take r es) (drop r es) place.upto
      ∙ ap (first_after width key) (drop_all r es past)

  pub after_at : (es : List (List ℕ)) (r : ℕ) → IsRankAfter width key es r → r < length es → first_after width key es ≡ Some (get_or es r [])
  after_at es r place inside =
      let here = (rw (drop-cons es r [] inside) at place.above).0 in
      ap (first_after width key) (sym (take-append-drop r es))
      ∙ find_behind (λ e. less key (take width e)) (take r es) (drop r es) place.upto
      ∙ ap (first_after width key) (drop-cons es r [] inside)
      ∙ ap (λ b. cond b (Some (get_or es r [])) (first_after width key (drop (suc r) es))) here

  -- ---- in a row: the child's answer, and where it has none the first entry behind the child

  in_row : (p : List ℕ → Bool) (k : ℕ) (low high : Bound) (ss : List (List ℕ)) (xs : List (TreeOf k)) (i : ℕ) (row : RowAt width (TreeOf k) (IsOrdered width k) (entries_of k) low ss xs high key i)
      → Each (λ e. p e ≡ false) (flat_map (entries_of k) row.front) → Each (λ e. p e ≡ true) (flat_map (entries_of k) row.back)
      → find p (flat_map (entries_of k) xs) ≡ option_or (find p (entries_of k row.here)) (head_of (flat_map (entries_of k) row.back))
  in_row p k low high ss xs i row fail pass =
      ap (λ (l : List (TreeOf k)). find p (flat_map (entries_of k) l)) row.is
      ∙ ap (find p) (flat_map-append (entries_of k) row.front (row.here ∷ row.back))
      ∙ find_behind p (flat_map (entries_of k) row.front) (entries_of k row.here ++ flat_map (entries_of k) row.back) fail
      ∙ find-append p (entries_of k row.here) (flat_map (entries_of k) row.back)
      ∙ ap (option_or (find p (entries_of k row.here))) (all_pass p (flat_map (entries_of k) row.back) pass)

  pub first_in_row : (past : Bool) (k : ℕ) (low high : Bound) (ss : List (List ℕ)) (xs : List (TreeOf k)) (i : ℕ) (row : RowAt width (TreeOf k) (IsOrdered width k) (entries_of k) low ss xs high key i)
      → first_of past width key (flat_map (entries_of k) xs) ≡ option_or (first_of past width key (entries_of k row.here)) (head_of (flat_map (entries_of k) row.back))
  first_in_row false k low high ss xs i row =
      in_row (λ e. not (less (take width e) key)) k low high ss xs i row
      (Each-weaker (λ e. less (take width e) key ≡ true) (λ e. not (less (take width e) key) ≡ false) (λ e b. ap not b) (flat_map (entries_of k) row.front) row.below)
      (Each-weaker (λ e. less key (take width e) ≡ true) (λ e. not (less (take width e) key) ≡ true) (λ e b. ap not (not_less key (take width e) key b (less_itself key))) (flat_map (entries_of k) row.back) row.above)
  first_in_row true k low high ss xs i row =
      in_row (λ e. less key (take width e)) k low high ss xs i row
      (Each-weaker (λ e. less (take width e) key ≡ true) (λ e. less key (take width e) ≡ false) (λ e b. not_less (take width e) key (take width e) b (less_itself (take width e))) (flat_map (entries_of k) row.front) row.below)
      row.above

-- ---- first entries

pub full_some : (shape : NodeShape) (k n : ℕ) → least_entries shape k ≤ n → 1 ≤ n
full_some shape zero n h = let room = leaf_room_some shape in omega arith
full_some shape (suc k) n h = let room = inner_room_some shape in omega arith

head_append : (xs ys : List (List ℕ)) (e : List ℕ) → head_of xs ≡ Some e → head_of (xs ++ ys) ≡ Some e
head_append xs ys e h = find-append (λ x. true) xs ys ∙ ap (λ o. option_or o (head_of ys)) h

head_index : (xs : List (List ℕ)) → 0 < length xs → head_of xs ≡ Some (get_or xs 0 [])
head_index [] h = absurd (omega arith)
head_index (x ∷ xs) h = refl

pub head_at : (xs : List (List ℕ)) → 0 < length xs → head_of xs ≡ Some (get_or xs 0 [])
head_at = head_index

pub if_ok : {X : Type 0} (r : Result X Fault) (P Q : X → Type 0) → ((x : X) → P x → Q x) → IsAnswer r P → IsAnswer r Q
if_ok (Ok x) P Q f h = record { answer = f x h.answer; no_damage = tt }
if_ok (Err e) P Q f h = record { answer = tt; no_damage = h.no_damage }

pub first_leaf : (shape : NodeShape) (pages : PageMap) (h page : ℕ) (result : Result (ArrayVec ℕ) Fault) → h ≡ 0 → FirstOfLeaf shape pages page result → FindsFirstEntry shape pages h page result
first_leaf shape pages zero page result none first t holds is filled some = first t.1 (subst (λ (n : ℕ). IsLeafAt shape pages n t.1) is holds) some
first_leaf shape pages (suc h) page result none first t holds is filled some = absurd (omega arith)

cons_first : (shape : NodeShape) (mid : PageMap) (k child : ℕ) (xs : List (TreeOf k)) (result : Result (ArrayVec ℕ) Fault) → 0 < length xs → Each (Holds shape mid k) xs → child ≡ slice_index (map (page_of k) xs) 0
    → Each (λ c. (least_entries shape k ≤ size_of k c) × IsHalfFull shape k c) xs → FindsFirstEntry shape mid k child result → IsAnswer result (λ e. head_of (flat_map (entries_of k) xs) ≡ Some e.items)
cons_first shape mid k child [] result some holds is filled first = absurd (omega arith)
cons_first shape mid k child (x ∷ xs) result some holds is filled first =
    if_ok result (λ e. head_of (entries_of k x) ≡ Some e.items) (λ e. head_of (flat_map (entries_of k) (x ∷ xs)) ≡ Some e.items) (λ e h. head_append (entries_of k x) (flat_map (entries_of k) xs) e.items h)
    (first x holds.0 (sym is) filled.0.1 (full_some shape k (size_of k x) filled.0.0))

pub kids_some : (shape : NodeShape) (pages : PageMap) (k page : ℕ) (ss : List (List ℕ)) (xs : List (TreeOf k)) → IsInnerAt shape pages page ss (map (page_of k) xs) → 0 < length xs
kids_some shape pages k page ss xs at = some_of (map (page_of k) xs) at.leads (length-map xs (page_of k))
  where
    some_of : (ys : List ℕ) {n : ℕ} {m : ℕ} {zs : List ℕ} → (n ∷ zs) ≡ ys → length ys ≡ m → 0 < m
    some_of ys e l = let c = ap length e in omega arith

module _ (shape : NodeShape) (pages : PageMap) (h k page : ℕ) (one : h ≡ suc k) where
  pub first_down_fails : (fault : Fault) (out : Result (ArrayVec ℕ) Fault) → FirstChild shape pages page (Err fault) → IsErrAnd out (λ e. e ≡ fault) → FindsFirstEntry shape pages h page out
  first_down_fails fault out child was = subst (λ (n : ℕ). FindsFirstEntry shape pages n page out) (sym one) (λ t holds is filled some.
      fails out fault (λ e. head_of (entries_of (suc k) t) ≡ Some e.items) was (child t.1 (map (page_of k) t.2) (subst (λ (n : ℕ). IsInnerAt shape pages n t.1 (map (page_of k) t.2)) is holds.0)).no_damage)

  pub first_inner : (mid : PageMap) (child : ℕ) (out : Result (ArrayVec ℕ) Fault) → mid ≡ pages → FirstChild shape pages page (Ok child) → FindsFirstEntry shape mid k child out → FindsFirstEntry shape pages h page out
  first_inner mid child out same answer first = subst (λ (n : ℕ). FindsFirstEntry shape pages n page out) (sym one) (λ t holds is filled some.
      let at = subst (λ (n : ℕ). IsInnerAt shape pages n t.1 (map (page_of k) t.2)) is holds.0 in
      let is_child = (answer t.1 (map (page_of k) t.2) at).answer in
      cons_first shape mid k child t.2 out (kids_some shape pages k page t.1 t.2 at) (subst (λ (m : PageMap). Each (Holds shape m k) t.2) (sym same) holds.1) is_child filled first)

-- ---- the entry of a key

pub lead_leaf : (shape : NodeShape) (pages : PageMap) (h page : ℕ) (key : List ℕ) → h ≡ 0 → LeadsToLeaf shape pages h page key (Ok page)
lead_leaf shape pages zero page key none t low high tree =
    record {
      answer = record { entries = t.1; at = subst (λ (n : ℕ). IsLeafAt shape pages n t.1) tree.root tree.holds; rises = tree.ordered.0; same = refl };
      no_damage = tt;
    }
lead_leaf shape pages (suc h) page key none t low high tree = absurd (omega arith)

module _ (shape : NodeShape) (pages : PageMap) (h k page : ℕ) (key : List ℕ) (one : h ≡ suc k) where
  pub lead_fails : (fault : Fault) (out : Result ℕ Fault) → Steps shape pages page key (Err fault) → IsErrAnd out (λ e. e ≡ fault) → LeadsToLeaf shape pages h page key out
  lead_fails fault out steps was = subst (λ (n : ℕ). LeadsToLeaf shape pages n page key out) (sym one) (λ t low high tree.
      fails out fault (IsLeafFor shape pages (suc k) key t) was (step_of shape pages k page low high key t (Err fault) tree steps).no_damage)

  pub lead_inner : (mid : PageMap) (step : StepDown) (out : Result ℕ Fault) → mid ≡ pages → Steps shape pages page key (Ok step) → LeadsToLeaf shape mid k step.child key out → LeadsToLeaf shape pages h page key out
  lead_inner mid step out same steps leads = subst (λ (n : ℕ). LeadsToLeaf shape pages n page key out) (sym one) (λ t low high tree.
      let b = below shape pages k page low high key t step tree (step_of shape pages k page low high key t (Ok step) tree steps).answer in
      let child = subst (λ (m : PageMap). IsTree shape m k step.child b.row.from b.row.to b.row.here) (sym same) b.child in
      if_ok out (IsLeafFor shape mid k key b.row.here) (IsLeafFor shape pages (suc k) key t)
      (λ leaf is. record {
        entries = is.entries;
        at = subst (λ (m : PageMap). IsLeafAt shape m leaf is.entries) same is.at;
        rises = is.rises;
        same = entry_below shape.width k key low high t.1 t.2 step.place b.row ∙ is.same;
      }) (leads b.row.here b.row.from b.row.to child))

module _ (shape : NodeShape) (pages mid : PageMap) (h page : ℕ) (key : List ℕ) where
  pub find_fails : (fault : Fault) (out : Result (Option (ArrayVec ℕ)) Fault) → LeadsToLeaf shape pages h page key (Err fault) → IsErrAnd out (λ e. e ≡ fault) → Finds shape pages h page (entry_of shape.width key) out
  find_fails fault out leads was t low high tree = fails out fault (IsFound (entry_of shape.width key) (entries_of h t)) was (leads t low high tree).no_damage

  module _ (leaf : ℕ) (entry : ArrayVec ℕ) (same : mid ≡ pages) (leads : LeadsToLeaf shape pages h page key (Ok leaf)) where
    filled_in : (r : Result Bool Fault) → FillsFromLeaf shape mid leaf (entry_of shape.width key) entry r
        → (t : TreeOf h) (low high : Bound) → IsTree shape pages h page low high t → IsAnswer r (λ done. IsFound (entry_of shape.width key) (entries_of h t) (filled entry done))
    filled_in r fills t low high tree =
        let is = (leads t low high tree).answer in
        if_ok r (λ done. IsFound (entry_of shape.width key) is.entries (filled entry done)) (λ done. IsFound (entry_of shape.width key) (entries_of h t) (filled entry done)) (λ done found. found ∙ sym is.same)
        (fills is.entries (subst (λ (m : PageMap). IsLeafAt shape m leaf is.entries) (sym same) is.at) is.rises)

    pub leaf_fails : (fault : Fault) (out : Result (Option (ArrayVec ℕ)) Fault) → FillsFromLeaf shape mid leaf (entry_of shape.width key) entry (Err fault) → IsErrAnd out (λ e. e ≡ fault)
        → Finds shape pages h page (entry_of shape.width key) out
    leaf_fails fault out fills was t low high tree = fails out fault (IsFound (entry_of shape.width key) (entries_of h t)) was (filled_in (Err fault) fills t low high tree).no_damage

    pub leaf_found : (done : Bool) → FillsFromLeaf shape mid leaf (entry_of shape.width key) entry (Ok done) → Finds shape pages h page (entry_of shape.width key) (Ok (filled entry done))
    leaf_found done fills t low high tree = record { answer = (filled_in (Ok done) fills t low high tree).answer; no_damage = tt }

-- ---- the first entry at a key or behind it

pub next_leaf : (shape : NodeShape) (pages : PageMap) (h page : ℕ) (look : List (List ℕ) → Option (List ℕ)) (out : Result (Option (ArrayVec ℕ)) Fault) → h ≡ 0 → FindsInLeaf shape pages page look out → FindsFilled shape pages h page look out
next_leaf shape pages zero page look out none finds t low high tree filled = finds t.1 (subst (λ (n : ℕ). IsLeafAt shape pages n t.1) tree.root tree.holds) tree.ordered.0
next_leaf shape pages (suc h) page look out none finds t low high tree filled = absurd (omega arith)

-- behind the child
pub record Behind (shape : NodeShape) (pages : PageMap) (k : ℕ) (below : List ℕ) (i : ℕ) (back : List (TreeOf k)) : Type 0 where
  pub holds : Each (Holds shape pages k) back
  pub filled : Each (λ c. (least_entries shape k ≤ size_of k c) × IsHalfFull shape k c) back
  pub first : 0 < length back → slice_index below (i + 1) ≡ slice_index (map (page_of k) back) 0

pub behind : (shape : NodeShape) (pages : PageMap) (k page : ℕ) (low high : Bound) (key : List ℕ) (t : TreeOf (suc k)) (step : StepDown) → IsTree shape pages (suc k) page low high t → IsHalfFull shape (suc k) t
    → (b : Below_ shape pages k page low high key t step) → Behind shape pages k (map (page_of k) t.2) step.place b.row.back
behind shape pages k page low high key t step tree filled b =
    let row = b.row in
    let holds = each_right (Holds shape pages k) row.front (row.here ∷ row.back) (rw row.is at tree.holds.1) in
    let fill = each_right (λ c. (least_entries shape k ≤ size_of k c) × IsHalfFull shape k c) row.front (row.here ∷ row.back) (rw row.is at filled) in
    record { holds = holds.1; filled = fill.1; first = λ some. next_page row.front row.here row.back t.2 row.is row.at some }
  where
    next_page : (front : List (TreeOf k)) (here : TreeOf k) (back : List (TreeOf k)) (xs : List (TreeOf k)) → xs ≡ front ++ here ∷ back → length front ≡ step.place → 0 < length back
        → slice_index (map (page_of k) xs) (step.place + 1) ≡ slice_index (map (page_of k) back) 0
    next_page front here [] xs is at some = absurd (omega arith)
    next_page front here (y ∷ back) xs is at some =
        let split : map (page_of k) xs ≡ (map (page_of k) front ++ page_of k here ∷ []) ++ page_of k y ∷ map (page_of k) back =
        ap (map (page_of k)) is ∙ map-append (page_of k) front (here ∷ y ∷ back) ∙ sym (append_assoc (map (page_of k) front) (page_of k here ∷ []) (page_of k y ∷ map (page_of k) back)) in
        let long : length (map (page_of k) front ++ page_of k here ∷ []) ≡ step.place + 1 = length-append (map (page_of k) front) (page_of k here ∷ []) ∙ ap (λ (n : ℕ). n + 1) (length-map front (page_of k) ∙ at) in
        ap (λ (l : List ℕ). slice_index l (step.place + 1)) split ∙ get_or_at (map (page_of k) front ++ page_of k here ∷ []) (page_of k y) (map (page_of k) back) 0 (step.place + 1) long

pub back_length : (shape : NodeShape) (pages : PageMap) (k page : ℕ) (low high : Bound) (key : List ℕ) (t : TreeOf (suc k)) (step : StepDown) → IsTree shape pages (suc k) page low high t
    → (b : Below_ shape pages k page low high key t step) → step.place + length b.row.back ≡ length t.1
back_length shape pages k page low high key t step tree b =
    let row = b.row in
    let all = row_length (IsOrdered shape.width k) low t.1 t.2 high tree.ordered.1 in
    let parts = ap length row.is ∙ length-append row.front (row.here ∷ row.back) in
    let at = row.at in
    omega arith

or_head : (o : Option (List ℕ)) (h : Option (List ℕ)) → o ≡ None → option_or o h ≡ h
or_head o h none = ap (λ (x : Option (List ℕ)). option_or x h) none

module _ (shape : NodeShape) (pages : PageMap) (h k page : ℕ) (key : List ℕ) (past : Bool) (one : h ≡ suc k) where
  pub next_down_fails : (fault : Fault) (out : Result (Option (ArrayVec ℕ)) Fault) → Steps shape pages page key (Err fault) → IsErrAnd out (λ e. e ≡ fault) → FindsFilled shape pages h page (first_of past shape.width key) out
  next_down_fails fault out steps was = subst (λ (n : ℕ). FindsFilled shape pages n page (first_of past shape.width key) out) (sym one) (λ t low high tree filled.
      fails out fault (IsFound (first_of past shape.width key) (entries_of (suc k) t)) was (step_of shape pages k page low high key t (Err fault) tree steps).no_damage)

  module _ (mid : PageMap) (same : mid ≡ pages) (step : StepDown) (steps : Steps shape pages page key (Ok step)) where
    child_answer : (out : Result (Option (ArrayVec ℕ)) Fault) → FindsFilled shape mid k step.child (first_of past shape.width key) out → (low high : Bound) (t : TreeOf (suc k)) (tree : IsTree shape pages (suc k) page low high t) → IsHalfFull shape (suc k) t
        → (b : Below_ shape pages k page low high key t step) → IsAnswer out (IsFound (first_of past shape.width key) (entries_of k b.row.here))
    child_answer out finds low high t tree filled b =
        let fill = (each_right (λ c. (least_entries shape k ≤ size_of k c) × IsHalfFull shape k c) b.row.front (b.row.here ∷ b.row.back) (rw b.row.is at filled)).0 in
        finds b.row.here b.row.from b.row.to (subst (λ (m : PageMap). IsTree shape m k step.child b.row.from b.row.to b.row.here) (sym same) b.child) fill.1

    found_below : (low high : Bound) (t : TreeOf (suc k)) → IsTree shape pages (suc k) page low high t → Below_ shape pages k page low high key t step
    found_below low high t tree = below shape pages k page low high key t step tree (step_of shape pages k page low high key t (Ok step) tree steps).answer

    pub next_child_fails : (fault : Fault) (out : Result (Option (ArrayVec ℕ)) Fault) → FindsFilled shape mid k step.child (first_of past shape.width key) (Err fault) → IsErrAnd out (λ e. e ≡ fault)
        → FindsFilled shape pages h page (first_of past shape.width key) out
    next_child_fails fault out finds was = subst (λ (n : ℕ). FindsFilled shape pages n page (first_of past shape.width key) out) (sym one) (λ t low high tree filled.
        fails out fault (IsFound (first_of past shape.width key) (entries_of (suc k) t)) was (child_answer (Err fault) finds low high t tree filled (found_below low high t tree)).no_damage)

    pub next_found : (found : ArrayVec ℕ) → FindsFilled shape mid k step.child (first_of past shape.width key) (Ok (Some found)) → FindsFilled shape pages h page (first_of past shape.width key) (Ok (Some found))
    next_found found finds = subst (λ (n : ℕ). FindsFilled shape pages n page (first_of past shape.width key) (Ok (Some found))) (sym one) (λ t low high tree filled.
        let b = found_below low high t tree in
        let got = (child_answer (Ok (Some found)) finds low high t tree filled b).answer in
        record { answer = sym (first_in_row shape.width key past k low high t.1 t.2 step.place b.row ∙ ap (λ (o : Option (List ℕ)). option_or o (head_of (flat_map (entries_of k) b.row.back))) (sym got)); no_damage = tt })

    pub next_none : step.count ≤ step.place → FindsFilled shape mid k step.child (first_of past shape.width key) (Ok None) → FindsFilled shape pages h page (first_of past shape.width key) (Ok None)
    next_none last finds = subst (λ (n : ℕ). FindsFilled shape pages n page (first_of past shape.width key) (Ok None)) (sym one) (λ t low high tree filled.
        let b = found_below low high t tree in
        let got = (child_answer (Ok None) finds low high t tree filled b).answer in
        let is = (step_of shape pages k page low high key t (Ok step) tree steps).answer in
        let count = is.count in
        let long = back_length shape pages k page low high key t step tree b in
        let none : length b.row.back ≡ 0 = omega arith in
        record { answer = sym (first_in_row shape.width key past k low high t.1 t.2 step.place b.row ∙ or_head _ _ (sym got) ∙ ap (λ (l : List (TreeOf k)). head_of (flat_map (entries_of k) l)) (empty b.row.back none)); no_damage = tt })
      where
        empty : (xs : List (TreeOf k)) → length xs ≡ 0 → xs ≡ []
        empty [] e = refl
        empty (x ∷ xs) e = absurd (omega arith)

    first_behind : (late : PageMap) (r : Result (ArrayVec ℕ) Fault) → late ≡ pages → step.place < step.count → FindsFirstEntry shape late k step.next r → (low high : Bound) (t : TreeOf (suc k)) (tree : IsTree shape pages (suc k) page low high t)
        → IsHalfFull shape (suc k) t → (b : Below_ shape pages k page low high key t step) → IsAnswer r (λ e. head_of (flat_map (entries_of k) b.row.back) ≡ Some e.items)
    first_behind late r same' more finds low high t tree filled b =
        let is = (step_of shape pages k page low high key t (Ok step) tree steps).answer in
        let count = is.count in
        let long = back_length shape pages k page low high key t step tree b in
        let some : 0 < length b.row.back = omega arith in
        let inside : step.place < length t.1 = omega arith in
        let rest = behind shape pages k page low high key t step tree filled b in
        cons_first shape late k step.next b.row.back r some (subst (λ (m : PageMap). Each (Holds shape m k) b.row.back) (sym same') rest.holds) (is.next inside ∙ rest.first some) rest.filled finds

    pub next_behind : (late : PageMap) (entry : ArrayVec ℕ) → late ≡ pages → step.place < step.count → FindsFilled shape mid k step.child (first_of past shape.width key) (Ok None) → FindsFirstEntry shape late k step.next (Ok entry)
        → FindsFilled shape pages h page (first_of past shape.width key) (Ok (Some entry))
    next_behind late entry same' more finds first = subst (λ (n : ℕ). FindsFilled shape pages n page (first_of past shape.width key) (Ok (Some entry))) (sym one) (λ t low high tree filled.
        let b = found_below low high t tree in
        let got = (child_answer (Ok None) finds low high t tree filled b).answer in
        let e = (first_behind late (Ok entry) same' more first low high t tree filled b).answer in
        record { answer = sym (first_in_row shape.width key past k low high t.1 t.2 step.place b.row ∙ or_head _ _ (sym got) ∙ e); no_damage = tt })

    pub next_behind_fails : (late : PageMap) (fault : Fault) (out : Result (Option (ArrayVec ℕ)) Fault) → late ≡ pages → step.place < step.count → FindsFirstEntry shape late k step.next (Err fault) → IsErrAnd out (λ e. e ≡ fault)
        → FindsFilled shape pages h page (first_of past shape.width key) out
    next_behind_fails late fault out same' more first was = subst (λ (n : ℕ). FindsFilled shape pages n page (first_of past shape.width key) out) (sym one) (λ t low high tree filled.
        fails out fault (IsFound (first_of past shape.width key) (entries_of (suc k) t)) was (first_behind late (Err fault) same' more first low high t tree filled (found_below low high t tree)).no_damage)

-- ---- last entries

last_append : (xs ys : List (List ℕ)) (e : List ℕ) → last_of ys ≡ Some e → last_of (xs ++ ys) ≡ Some e
last_append [] ys e h = h
last_append (x ∷ []) [] e h = absurd (let none : None ≡ Some e = h in cc)
last_append (x ∷ []) (y ∷ ys) e h = h
last_append (x ∷ (y ∷ xs)) ys e h = last_append (y ∷ xs) ys e h

pub last_index : (xs : List (List ℕ)) (n : ℕ) → n + 1 ≡ length xs → last_of xs ≡ Some (get_or xs n [])
last_index [] n h = absurd (omega arith)
last_index (x ∷ []) zero h = refl
last_index (x ∷ []) (suc n) h = absurd (omega arith)
last_index (x ∷ y ∷ xs) zero h = absurd (omega arith)
last_index (x ∷ y ∷ xs) (suc n) h = last_index (y ∷ xs) n (omega arith)

pub last_nothing : (xs : List (List ℕ)) → length xs ≡ 0 → last_of xs ≡ None
last_nothing [] h = refl
last_nothing (x ∷ xs) h = absurd (omega arith)

-- there is a last entry
record HasLast (es : List (List ℕ)) : Type 0 where
  pub entry : List ℕ
  pub is : last_of es ≡ Some entry

some_last : (es : List (List ℕ)) → 1 ≤ length es → HasLast es
some_last [] h = absurd (omega arith)
some_last (x ∷ xs) h = record { entry = get_or (x ∷ xs) (length xs) []; is = last_index (x ∷ xs) (length xs) (add-one (length xs)) }

-- the last member of a row
record LastOf {X : Type 0} (P : Bound → Bound → X → Type 0) (ss : List (List ℕ)) (xs : List X) (high : Bound) : Type 0 where
  pub front : List X
  pub here : X
  pub from : Bound
  pub is : xs ≡ front ++ here ∷ []
  pub at : length front ≡ length ss
  pub between : P from high here

last_of_row : {X : Type 0} (P : Bound → Bound → X → Type 0) (low : Bound) (ss : List (List ℕ)) (xs : List X) (high : Bound) → IsRow P low ss xs high → LastOf P ss xs high
last_of_row P low [] [] high row = absurd row
last_of_row P low [] (x ∷ []) high row = record { front = []; here = x; from = low; is = refl; at = refl; between = row }
last_of_row P low [] (x ∷ y ∷ xs) high row = absurd row
last_of_row P low (s ∷ ss) [] high row = absurd row
last_of_row P low (s ∷ ss) (x ∷ xs) high row =
    let rec = last_of_row P (Some s) ss xs high row.3 in
    record { front = x ∷ rec.front; here = rec.here; from = rec.from; is = ap (λ (l : List _). x ∷ l) rec.is; at = ap suc rec.at; between = rec.between }

tree_last : (shape : NodeShape) (h : ℕ) (low high : Bound) (t : TreeOf h) → IsOrdered shape.width h low high t → IsHalfFull shape h t → 1 ≤ size_of h t → HasLast (entries_of h t)
tree_last shape zero low high t ordered filled some = some_last t.1 some
tree_last shape (suc k) low high t ordered filled some =
    let l = last_of_row (IsOrdered shape.width k) low t.1 t.2 high ordered.1 in
    let fill = (each_right (λ c. (least_entries shape k ≤ size_of k c) × IsHalfFull shape k c) l.front (l.here ∷ []) (rw l.is at filled)).0 in
    let below = tree_last shape k l.from high l.here l.between fill.1 (full_some shape k (size_of k l.here) fill.0) in
    record {
      entry = below.entry;
      is = ap (λ (x : List (TreeOf k)). last_of (flat_map (entries_of k) x)) l.is ∙ ap last_of (flat_map-append (entries_of k) l.front (l.here ∷ []) ∙ ap (λ (x : List (List ℕ)). flat_map (entries_of k) l.front ++ x) (append-nil (entries_of k l.here)))
          ∙ last_append (flat_map (entries_of k) l.front) (entries_of k l.here) below.entry below.is;
    }

pub last_leaf : (shape : NodeShape) (pages : PageMap) (h page : ℕ) (out : Result (Option (ArrayVec ℕ)) Fault) → h ≡ 0 → LastOfLeaf shape pages page out → FindsLast shape pages h page out
last_leaf shape pages zero page out none last t low high tree filled = last t.1 (subst (λ (n : ℕ). IsLeafAt shape pages n t.1) tree.root tree.holds)
last_leaf shape pages (suc h) page out none last t low high tree filled = absurd (omega arith)

module _ (shape : NodeShape) (pages : PageMap) (h k page : ℕ) (one : h ≡ suc k) where
  pub last_down_fails : (fault : Fault) (out : Result (Option (ArrayVec ℕ)) Fault) → LastChild shape pages page (Err fault) → IsErrAnd out (λ e. e ≡ fault) → FindsLast shape pages h page out
  last_down_fails fault out child was = subst (λ (n : ℕ). FindsLast shape pages n page out) (sym one) (λ t low high tree filled.
      fails out fault (IsFound last_of (entries_of (suc k) t)) was (child t.1 (map (page_of k) t.2) (subst (λ (n : ℕ). IsInnerAt shape pages n t.1 (map (page_of k) t.2)) tree.root tree.holds.0)).no_damage)

  pub last_inner : (mid : PageMap) (child : ℕ) (out : Result (Option (ArrayVec ℕ)) Fault) → mid ≡ pages → LastChild shape pages page (Ok child) → FindsLast shape mid k child out → FindsLast shape pages h page out
  last_inner mid child out same answer last = subst (λ (n : ℕ). FindsLast shape pages n page out) (sym one) (λ t low high tree filled.
      let at = subst (λ (n : ℕ). IsInnerAt shape pages n t.1 (map (page_of k) t.2)) tree.root tree.holds.0 in
      let is_child = (answer t.1 (map (page_of k) t.2) at).answer in
      let l = last_of_row (IsOrdered shape.width k) low t.1 t.2 high tree.ordered.1 in
      let fill = (each_right (λ c. (least_entries shape k ≤ size_of k c) × IsHalfFull shape k c) l.front (l.here ∷ []) (rw l.is at filled)).0 in
      let holds = (each_right (Holds shape pages k) l.front (l.here ∷ []) (rw l.is at tree.holds.1)).0 in
      let split : map (page_of k) t.2 ≡ map (page_of k) l.front ++ page_of k l.here ∷ [] = ap (map (page_of k)) l.is ∙ map-append (page_of k) l.front (l.here ∷ []) in
      let root : page_of k l.here ≡ child = sym (is_child ∙ ap (λ (x : List ℕ). slice_index x (length t.1)) split ∙ get_or_at (map (page_of k) l.front) (page_of k l.here) [] 0 (length t.1) (length-map l.front (page_of k) ∙ l.at)) in
      let below = tree_last shape k l.from high l.here l.between fill.1 (full_some shape k (size_of k l.here) fill.0) in
      let whole : last_of (flat_map (entries_of k) t.2) ≡ last_of (entries_of k l.here) =
      ap (λ (x : List (TreeOf k)). last_of (flat_map (entries_of k) x)) l.is ∙ ap last_of (flat_map-append (entries_of k) l.front (l.here ∷ []) ∙ ap (λ (x : List (List ℕ)). flat_map (entries_of k) l.front ++ x) (append-nil (entries_of k l.here)))
      ∙ last_append (flat_map (entries_of k) l.front) (entries_of k l.here) below.entry below.is ∙ sym below.is in
      if_ok out (IsFound last_of (entries_of k l.here)) (IsFound last_of (entries_of (suc k) t)) (λ found is. is ∙ sym whole)
      (last l.here l.from high (record { holds = subst (λ (m : PageMap). Holds shape m k l.here) (sym same) holds; root = root; ordered = l.between }) fill.1))
