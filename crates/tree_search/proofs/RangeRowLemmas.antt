-- A range below an inner node, from the range below its children.
use Rattle.std.proofs.Common.{◌≡◌, ℕ, zero, suc, ◌<◌, ◌≤◌, Bool, true, false, List, [], ◌∷◌, ◌++◌, length, take, get_or, map, Option, Some, None, Ok, Err, Result, refl, ap, sym, subst, ◌∙◌, arith, flat_map, slice_index, append_assoc}
use Rattle.std.specs.Prelude.{IsErrAnd, IsTrue, IsSome, is_some}
use Rattle.std.proofs.lemmas.List.{append-nil}
use Rattle.std.proofs.lemmas.List.Elements.{filter-append}
use Rattle.std.proofs.lemmas.Grind.{flat_map-append}
use Rattle.arrayvec.specs.ArrayVec.{ArrayVec}
use Rattle.io_state.specs.declared.fault.Fault.{Fault}
use Rattle.tree_node.specs.declared.shape.NodeShape.{NodeShape}
use Rattle.pages.specs.Each.{Each}
use Rattle.tree_node.specs.Leaf.{IsLeaf, leaf_entries}
use Rattle.tree_node.specs.Order.{less, IsRank}
use Rattle.tree_node.proofs.OrderLemmas.{less_itself, not_less, Each-weaker}
use Rattle.tree_node.proofs.LeafLemmas.{leaf_room_some}
use Rattle.pages.specs.PageMap.{PageMap}
use Rattle.pages.specs.Answer.{IsAnswer}
use Rattle.tree_node.specs.Fill.{least_entries}
use Rattle.tree_search.specs.declared.range.First.{First}
use Rattle.tree_search.specs.declared.range.Fork.{Fork}
use Rattle.tree_search.specs.declared.range.Sight.{Sight}
use Rattle.tree_search.specs.Tree.{TreeOf, page_of, entries_of, Bound, IsRow, IsOrdered}
use Rattle.tree_search.specs.Calls.{size_of, IsHalfFull, IsTree}
use Rattle.tree_search.specs.Stored.{Holds, IsLeafAt, IsInnerAt}
use Rattle.tree_search.specs.Search.{FirstChild, filled}
use Rattle.tree_search.specs.Range.{is_within, IsFirst, within, Begin, only, IsBeyond, IsSight, Sights, SightsInLeaf, Fronts, FrontsInLeaf, HasFront, IsFork, Forks, Seen, Settled, Open, first_with, told_first, told_seen, alone}
use Rattle.tree_search.proofs.RowLemmas.{each_left, each_right}
use Rattle.tree_search.proofs.RowLemmas.{Each-append, row_head}
use Rattle.tree_search.proofs.DescentLemmas.{Below_, below, bounded}
use Rattle.tree_search.proofs.AnswerLemmas.{fails}
use Rattle.tree_search.proofs.DescentLemmas.{tree_ascends}
use Rattle.tree_search.proofs.SearchLemmas.{if_ok, kids_some, behind, back_length}
use Rattle.tree_search.proofs.RangeLemmas.{none_beyond, behind_front, is_first}

-- ---- what a look tells, and the entry that it fills

pub first_fails : (entry : ArrayVec ℕ) (fault : Fault) (r : Result (Option Bool) Fault) → IsErrAnd r (λ e. e ≡ fault) → IsErrAnd (told_first entry r) (λ e. e ≡ fault)
first_fails entry fault (Ok found) was = was
first_fails entry fault (Err e) was = was

pub seen_fails : (entry : ArrayVec ℕ) (fault : Fault) (r : Result Sight Fault) → IsErrAnd r (λ e. e ≡ fault) → IsErrAnd (told_seen entry r) (λ e. e ≡ fault)
seen_fails entry fault (Ok sight) was = was
seen_fails entry fault (Err e) was = was

-- one entry alone, if there is one
pub begins_alone : (entry : ArrayVec ℕ) (here : Bool) (others : List (List ℕ)) → Begin others None → Begin (only (filled entry here) ++ others) (first_with entry (alone here))
begins_alone entry true [] none = (refl, refl)
begins_alone entry true (e ∷ es) none = absurd none
begins_alone entry false others none = none

-- and others behind it, where some are
pub begins_before : (entry : ArrayVec ℕ) (told : Bool) (front : Option First) → told ≡ is_some front → (others : List (List ℕ)) → Begin others front → Begin (only (Some entry) ++ others) (first_with entry (Some told))
begins_before entry told None is [] h = (refl, is)
begins_before entry told None is (e ∷ es) h = absurd h
begins_before entry told (Some first) is [] h = absurd h
begins_before entry told (Some first) is (e ∷ es) h = (refl, is)

pub same_some : (entry : ArrayVec ℕ) (found : Option Bool) → is_some found ≡ is_some (first_with entry found)
same_some entry None = refl
same_some entry (Some followed) = refl

pub has_front_fails : (shape : NodeShape) (pages : PageMap) (h page : ℕ) (to : List ℕ) (fault : Fault) (out : Result Bool Fault) → Fronts shape pages h page to (Err fault) → IsErrAnd out (λ e. e ≡ fault) → HasFront shape pages h page to out
has_front_fails shape pages h page to fault (Ok told) fronts was = absurd was
has_front_fails shape pages h page to fault (Err e) fronts was = subst (λ (f : Fault). Fronts shape pages h page to (Err f)) (sym was) fronts

-- ---- in a leaf

-- the bytes that a leaf's page shows have its entries
pub shown : (shape : NodeShape) (pages : PageMap) (page : ℕ) (entries : List (List ℕ)) (bytes : List ℕ) → IsLeafAt shape pages page entries → (IsSome (pages page) → pages page ≡ Some bytes) → leaf_entries shape bytes ≡ entries
shown shape pages page entries bytes at shows =
    ap (leaf_entries shape) (same bytes at.bytes (sym (shows (rw at.there refl)) ∙ at.there)) ∙ at.holds
  where
    same : (a b : List ℕ) → Some a ≡ Some b → a ≡ b
    same a b e = cc

pub is_there : (shape : NodeShape) (pages : PageMap) (page : ℕ) (entries : List (List ℕ)) → IsLeafAt shape pages page entries → IsSome (pages page)
is_there shape pages page entries at = rw at.there refl

pub is_leaf_there : (shape : NodeShape) (pages : PageMap) (page : ℕ) (entries : List (List ℕ)) (bytes : List ℕ) → IsLeafAt shape pages page entries → (IsSome (pages page) → pages page ≡ Some bytes) → IsLeaf shape bytes
is_leaf_there shape pages page entries bytes at shows = subst (IsLeaf shape) (same at.bytes bytes (sym at.there ∙ shows (rw at.there refl))) at.leaf
  where
    same : (a b : List ℕ) → Some a ≡ Some b → a ≡ b
    same a b e = cc

-- a leaf that is no root has two entries at least
pub leaf_large : (shape : NodeShape) (n : ℕ) → least_entries shape 0 ≤ n → 2 ≤ n
leaf_large shape n h = let room = leaf_room_some shape in omega arith

-- nothing comes before the first place
pub rank_none : (width : ℕ) (from : List ℕ) (es : List (List ℕ)) → Each (λ e. less (take width e) from ≡ false) es → IsRank width from es 0
rank_none width from es start = record { within = omega arith; below = tt; above = start }

pub sights_leaf : (shape : NodeShape) (pages : PageMap) (h page : ℕ) (from to : List ℕ) (out : Result Seen Fault) → h ≡ 0 → SightsInLeaf shape pages page from to out → Sights shape pages h page from to out
sights_leaf shape pages zero page from to out none sights t low high tree filled =
    sights t.1 high (subst (λ (n : ℕ). IsLeafAt shape pages n t.1) tree.root tree.holds) tree.ordered.0
    (Each-weaker _ _ (λ e b. b.1) t.1 tree.ordered.1)
sights_leaf shape pages (suc h) page from to out none sights t low high tree filled = absurd (omega arith)

pub fronts_leaf : (shape : NodeShape) (pages : PageMap) (h page : ℕ) (to : List ℕ) (out : Result (Option First) Fault) → h ≡ 0 → FrontsInLeaf shape pages page to out → Fronts shape pages h page to out
fronts_leaf shape pages zero page to out none fronts from t low high tree filled large start =
    fronts from t.1 high (subst (λ (n : ℕ). IsLeafAt shape pages n t.1) tree.root tree.holds) tree.ordered.0
    (Each-weaker _ _ (λ e b. b.1) t.1 tree.ordered.1) large start
fronts_leaf shape pages (suc h) page to out none fronts from t low high tree filled large start = absurd (omega arith)

-- ---- the front of a row

module _ (shape : NodeShape) (k : ℕ) (from to : List ℕ) where
  front_row : (late : PageMap) (low high : Bound) (ss : List (List ℕ)) (xs : List (TreeOf k)) (child : ℕ) (r : Result (Option First) Fault) → IsRow (IsOrdered shape.width k) low ss xs high → 0 < length xs
      → Each (Holds shape late k) xs → Each (λ c. (least_entries shape k ≤ size_of k c) × IsHalfFull shape k c) xs → child ≡ slice_index (map (page_of k) xs) 0
      → Each (λ e. less (take shape.width e) from ≡ false) (flat_map (entries_of k) xs) → Fronts shape late k child to r
      → IsAnswer r (λ found. (others : List (List ℕ)) → Each (IsBeyond shape.width high) others → Begin (within shape.width from to (flat_map (entries_of k) xs ++ others)) found)
  front_row late low high ss [] child r row some holds filled is start fronts = absurd (omega arith)
  front_row late low high ss (x ∷ xs) child r row some holds filled is start fronts =
      let head = row_head shape.width (IsOrdered shape.width k) (entries_of k) (bounded shape.width k) low ss x xs high row in
      if_ok r (λ found. IsSight shape.width from to head.to (entries_of k x) (Settled found))
      (λ found. (others : List (List ℕ)) → Each (IsBeyond shape.width high) others → Begin (within shape.width from to (flat_map (entries_of k) (x ∷ xs) ++ others)) found)
      (λ found sight others beyond. subst (λ (l : List (List ℕ)). Begin (within shape.width from to l) found) (sym (append_assoc (entries_of k x) (flat_map (entries_of k) xs) others))
      (sight (flat_map (entries_of k) xs ++ others) (Each-append (IsBeyond shape.width head.to) (flat_map (entries_of k) xs) others head.beyond
      (Each-weaker (IsBeyond shape.width high) (IsBeyond shape.width head.to) head.further others beyond))))
      (fronts from x low head.to (record { holds = holds.0; root = sym is; ordered = head.between }) filled.0.1 filled.0.0
      (each_left (λ e. less (take shape.width e) from ≡ false) (entries_of k x) (flat_map (entries_of k) xs) start))

module _ (shape : NodeShape) (pages : PageMap) (h k page : ℕ) (to : List ℕ) (one : h ≡ suc k) where
  pub fronts_fail : (fault : Fault) (out : Result (Option First) Fault) → FirstChild shape pages page (Err fault) → IsErrAnd out (λ e. e ≡ fault) → Fronts shape pages h page to out
  fronts_fail fault out child was = subst (λ (n : ℕ). Fronts shape pages n page to out) (sym one) (λ from t low high tree filled large start.
      fails out fault (λ found. IsSight shape.width from to high (entries_of (suc k) t) (Settled found)) was
      (child t.1 (map (page_of k) t.2) (subst (λ (n : ℕ). IsInnerAt shape pages n t.1 (map (page_of k) t.2)) tree.root tree.holds.0)).no_damage)

  pub fronts_inner : (mid : PageMap) (child : ℕ) (out : Result (Option First) Fault) → mid ≡ pages → FirstChild shape pages page (Ok child) → Fronts shape mid k child to out → Fronts shape pages h page to out
  fronts_inner mid child out same answer fronts = subst (λ (n : ℕ). Fronts shape pages n page to out) (sym one) (λ from t low high tree filled large start.
      let at = subst (λ (n : ℕ). IsInnerAt shape pages n t.1 (map (page_of k) t.2)) tree.root tree.holds.0 in
      let is_child = (answer t.1 (map (page_of k) t.2) at).answer in
      front_row shape k from to mid low high t.1 t.2 child out tree.ordered.1 (kids_some shape pages k page t.1 t.2 at)
      (subst (λ (m : PageMap). Each (Holds shape m k) t.2) (sym same) tree.holds.1) filled is_child start fronts)

-- ---- below an inner node

module _ (shape : NodeShape) (pages : PageMap) (h k page : ℕ) (from to : List ℕ) (one : h ≡ suc k) where
  fork_of : (low high : Bound) (t : TreeOf (suc k)) (r : Result Fork Fault) → IsTree shape pages (suc k) page low high t → Forks shape pages page from to r → IsAnswer r (IsFork shape.width from to t.1 (map (page_of k) t.2))
  fork_of low high t r tree forks = forks t.1 (map (page_of k) t.2) (subst (λ (n : ℕ). IsInnerAt shape pages n t.1 (map (page_of k) t.2)) tree.root tree.holds.0)

  pub sights_fail : (fault : Fault) (out : Result Seen Fault) → Forks shape pages page from to (Err fault) → IsErrAnd out (λ e. e ≡ fault) → Sights shape pages h page from to out
  sights_fail fault out forks was = subst (λ (n : ℕ). Sights shape pages n page from to out) (sym one) (λ t low high tree filled.
      fails out fault (IsSight shape.width from to high (entries_of (suc k) t)) was (fork_of low high t (Err fault) tree forks).no_damage)

  module _ (mid : PageMap) (same : mid ≡ pages) (fork : Fork) (forks : Forks shape pages page from to (Ok fork)) where
    under : (low high : Bound) (t : TreeOf (suc k)) → IsTree shape pages (suc k) page low high t → Below_ shape pages k page low high from t fork.step
    under low high t tree = below shape pages k page low high from t fork.step tree (fork_of low high t (Ok fork) tree forks).answer.step

    child_sight : (out : Result Seen Fault) → Sights shape mid k fork.step.child from to out → (low high : Bound) (t : TreeOf (suc k)) (tree : IsTree shape pages (suc k) page low high t) → IsHalfFull shape (suc k) t
        → (b : Below_ shape pages k page low high from t fork.step) → IsAnswer out (IsSight shape.width from to b.row.to (entries_of k b.row.here))
    child_sight out sights low high t tree filled b =
        let fill = (each_right (λ c. (least_entries shape k ≤ size_of k c) × IsHalfFull shape k c) b.row.front (b.row.here ∷ b.row.back) (rw b.row.is at filled)).0 in
        sights b.row.here b.row.from b.row.to (subst (λ (m : PageMap). IsTree shape m k fork.step.child b.row.from b.row.to b.row.here) (sym same) b.child) fill.1

    -- what is in front of the child comes before the range
    from_child : (low high : Bound) (t : TreeOf (suc k)) (b : Below_ shape pages k page low high from t fork.step) (others : List (List ℕ))
        → within shape.width from to (entries_of (suc k) t ++ others) ≡ within shape.width from to (entries_of k b.row.here ++ (flat_map (entries_of k) b.row.back ++ others))
    from_child low high t b others =
        let row = b.row in
        let f = flat_map (entries_of k) row.front in
        let e = entries_of k row.here in
        let r = flat_map (entries_of k) row.back in
        ap (λ (l : List (TreeOf k)). within shape.width from to (flat_map (entries_of k) l ++ others)) row.is
        ∙ ap (λ (l : List (List ℕ)). within shape.width from to (l ++ others)) (flat_map-append (entries_of k) row.front (row.here ∷ row.back))
        ∙ ap (within shape.width from to) (append_assoc f (e ++ r) others ∙ ap (λ (l : List (List ℕ)). f ++ l) (append_assoc e r others))
        ∙ behind_front shape.width from to f (e ++ (r ++ others)) row.below

    -- and what others stand behind the node stand behind the child
    behind_child : (low high : Bound) (t : TreeOf (suc k)) (b : Below_ shape pages k page low high from t fork.step) (others : List (List ℕ)) → Each (IsBeyond shape.width high) others
        → Each (IsBeyond shape.width b.row.to) (flat_map (entries_of k) b.row.back ++ others)
    behind_child low high t b others beyond =
        Each-append (IsBeyond shape.width b.row.to) (flat_map (entries_of k) b.row.back) others b.row.beyond (Each-weaker (IsBeyond shape.width high) (IsBeyond shape.width b.row.to) b.row.further others beyond)

    pub sights_child_fails : (fault : Fault) (out : Result Seen Fault) → Sights shape mid k fork.step.child from to (Err fault) → IsErrAnd out (λ e. e ≡ fault) → Sights shape pages h page from to out
    sights_child_fails fault out sights was = subst (λ (n : ℕ). Sights shape pages n page from to out) (sym one) (λ t low high tree filled.
        fails out fault (IsSight shape.width from to high (entries_of (suc k) t)) was (child_sight (Err fault) sights low high t tree filled (under low high t tree)).no_damage)

    pub sights_settled : (found : Option First) → Sights shape mid k fork.step.child from to (Ok (Settled found)) → Sights shape pages h page from to (Ok (Settled found))
    sights_settled found sights = subst (λ (n : ℕ). Sights shape pages n page from to (Ok (Settled found))) (sym one) (λ t low high tree filled.
        let b = under low high t tree in
        let got = (child_sight (Ok (Settled found)) sights low high t tree filled b).answer in
        record {
          answer = λ others beyond. subst (λ (l : List (List ℕ)). Begin l found) (sym (from_child low high t b others))
              (got (flat_map (entries_of k) b.row.back ++ others) (behind_child low high t b others beyond));
          no_damage = tt;
        })

    pub sights_open : (last : Option (ArrayVec ℕ)) → fork.step.count ≤ fork.step.place → Sights shape mid k fork.step.child from to (Ok (Open last)) → Sights shape pages h page from to (Ok (Open last))
    sights_open last end sights = subst (λ (n : ℕ). Sights shape pages n page from to (Ok (Open last))) (sym one) (λ t low high tree filled.
        let b = under low high t tree in
        let got = (child_sight (Ok (Open last)) sights low high t tree filled b).answer in
        let is = (fork_of low high t (Ok fork) tree forks).answer.step in
        let count = is.count in
        let long = back_length shape pages k page low high from t fork.step tree b in
        let none : length b.row.back ≡ 0 = omega arith in
        record {
          answer = ap (within shape.width from to) (sym (append-nil (entries_of (suc k) t))) ∙ from_child low high t b []
              ∙ ap (λ (l : List (TreeOf k)). within shape.width from to (entries_of k b.row.here ++ (flat_map (entries_of k) l ++ []))) (empty b.row.back none)
              ∙ ap (within shape.width from to) (append-nil (entries_of k b.row.here)) ∙ got;
          no_damage = tt;
        })
      where
        empty : (xs : List (TreeOf k)) → length xs ≡ 0 → xs ≡ []
        empty [] e = refl
        empty (x ∷ xs) e = absurd (omega arith)

    -- one entry at most is in the child, and then what is behind it
    two_parts : (last : Option (ArrayVec ℕ)) (es others : List (List ℕ)) → within shape.width from to es ≡ only last → within shape.width from to (es ++ others) ≡ only last ++ within shape.width from to others
    two_parts last es others is = filter-append (is_within shape.width from to) es others ∙ ap (λ (l : List (List ℕ)). l ++ within shape.width from to others) is

    pub sights_past : (last : Option (ArrayVec ℕ)) (found : Option First) → IsTrue fork.past → ((others : List (List ℕ)) → Begin others None → Begin (only last ++ others) found)
        → Sights shape mid k fork.step.child from to (Ok (Open last)) → Sights shape pages h page from to (Ok (Settled found))
    sights_past last found past joined sights = subst (λ (n : ℕ). Sights shape pages n page from to (Ok (Settled found))) (sym one) (λ t low high tree filled.
        let b = under low high t tree in
        let got = (child_sight (Ok (Open last)) sights low high t tree filled b).answer in
        let is = (fork_of low high t (Ok fork) tree forks).answer in
        let bound = b.row.to_is (is.inside past) in
        record {
          answer = λ others beyond.
              let rest = flat_map (entries_of k) b.row.back ++ others in
              let none : within shape.width from to rest ≡ [] =
              none_beyond shape.width from to (get_or t.1 fork.step.place []) (is.above past) rest
              (subst (λ (o : Bound). Each (IsBeyond shape.width o) rest) bound (behind_child low high t b others beyond)) in
              subst (λ (l : List (List ℕ)). Begin l found)
              (sym (from_child low high t b others ∙ two_parts last (entries_of k b.row.here) rest got ∙ ap (λ (l : List (List ℕ)). only last ++ l) none))
              (joined [] tt);
          no_damage = tt;
        })

    front_behind : (late : PageMap) (r : Result (Option First) Fault) → late ≡ pages → fork.step.place < fork.step.count → Fronts shape late k fork.step.next to r
        → (low high : Bound) (t : TreeOf (suc k)) (tree : IsTree shape pages (suc k) page low high t) → IsHalfFull shape (suc k) t → (b : Below_ shape pages k page low high from t fork.step)
        → IsAnswer r (λ found. (others : List (List ℕ)) → Each (IsBeyond shape.width high) others → Begin (within shape.width from to (flat_map (entries_of k) b.row.back ++ others)) found)
    front_behind late r same' more fronts low high t tree filled b =
        let is = (fork_of low high t (Ok fork) tree forks).answer.step in
        let count = is.count in
        let long = back_length shape pages k page low high from t fork.step tree b in
        let some : 0 < length b.row.back = omega arith in
        let inside : fork.step.place < length t.1 = omega arith in
        let rest = behind shape pages k page low high from t fork.step tree filled b in
        let tail = b.row.tail some in
        front_row shape k from to late b.row.to high tail.0 b.row.back fork.step.next r tail.1 some (subst (λ (m : PageMap). Each (Holds shape m k) b.row.back) (sym same') rest.holds) rest.filled
        (is.next inside ∙ rest.first some)
        (Each-weaker (λ e. less from (take shape.width e) ≡ true) (λ e. less (take shape.width e) from ≡ false) (λ e h. not_less from (take shape.width e) from h (less_itself from))
        (flat_map (entries_of k) b.row.back) b.row.above) fronts

    pub sights_behind : (late : PageMap) (last : Option (ArrayVec ℕ)) (front found : Option First) → late ≡ pages → fork.step.place < fork.step.count → Sights shape mid k fork.step.child from to (Ok (Open last))
        → Fronts shape late k fork.step.next to (Ok front) → ((others : List (List ℕ)) → Begin others front → Begin (only last ++ others) found) → Sights shape pages h page from to (Ok (Settled found))
    sights_behind late last front found same' more sights fronts joined = subst (λ (n : ℕ). Sights shape pages n page from to (Ok (Settled found))) (sym one) (λ t low high tree filled.
        let b = under low high t tree in
        let got = (child_sight (Ok (Open last)) sights low high t tree filled b).answer in
        let next = (front_behind late (Ok front) same' more fronts low high t tree filled b).answer in
        record {
          answer = λ others beyond.
              let rest = flat_map (entries_of k) b.row.back ++ others in
              subst (λ (l : List (List ℕ)). Begin l found) (sym (from_child low high t b others ∙ two_parts last (entries_of k b.row.here) rest got))
              (joined (within shape.width from to rest) (next others beyond));
          no_damage = tt;
        })

    pub sights_behind_fails : (late : PageMap) (fault : Fault) (out : Result Seen Fault) → late ≡ pages → fork.step.place < fork.step.count → Fronts shape late k fork.step.next to (Err fault) → IsErrAnd out (λ e. e ≡ fault)
        → Sights shape pages h page from to out
    sights_behind_fails late fault out same' more fronts was = subst (λ (n : ℕ). Sights shape pages n page from to out) (sym one) (λ t low high tree filled.
        fails out fault (IsSight shape.width from to high (entries_of (suc k) t)) was (front_behind late (Err fault) same' more fronts low high t tree filled (under low high t tree)).no_damage)

-- ---- in a whole tree

module _ (shape : NodeShape) (pages : PageMap) (h page : ℕ) (from to : List ℕ) (t : TreeOf h) (tree : IsTree shape pages h page None None t) (filled : IsHalfFull shape h t) where
  whole_first : (found : Option First) → Begin (within shape.width from to (entries_of h t)) found → IsAnswer (Ok found) (IsFirst shape.width from to (entries_of h t))
  whole_first found begin = record { answer = is_first shape.width from to (entries_of h t) found (tree_ascends shape.width h None None t tree.ordered) begin; no_damage = tt }

  pub whole_settled : (found : Option First) → Sights shape pages h page from to (Ok (Settled found)) → IsAnswer (Ok found) (IsFirst shape.width from to (entries_of h t))
  whole_settled found sights =
      let sight = (sights t None None tree filled).answer in
      whole_first found (subst (λ (es : List (List ℕ)). Begin (within shape.width from to es) found) (append-nil (entries_of h t)) (sight [] tt))

  pub whole_open : (last : Option (ArrayVec ℕ)) (found : Option First) → Sights shape pages h page from to (Ok (Open last)) → ((others : List (List ℕ)) → Begin others None → Begin (only last ++ others) found)
      → IsAnswer (Ok found) (IsFirst shape.width from to (entries_of h t))
  whole_open last found sights joined =
      let sight = (sights t None None tree filled).answer in
      whole_first found (subst (λ (l : List (List ℕ)). Begin l found) (append-nil (only last) ∙ sym sight) (joined [] tt))
