-- What is wrong with a tree, and the pages that a walk of it marks.
use Rattle.std.proofs.Common.{◌≡◌, ◌≢◌, ◌⊎◌, ℕ, zero, suc, ◌+◌, ◌-◌, ◌<◌, ◌≤◌, Bool, true, false, List, [], ◌∷◌, length, get_or, Some, None, refl, ap, sym, ◌∙◌, arith, subst, inl, inr}
use Rattle.std.specs.Prelude.{nat_eq}
use Rattle.std.proofs.lemmas.Bool.{eqb-true, eqb-false}
use Rattle.std.proofs.lemmas.List.{length-map}
use Rattle.pages.specs.declared.fault_place.FaultPlace.{FaultPlace}
use Rattle.pages.specs.declared.fault_place.FaultPlace.TheVariants.{Page}
use Rattle.pages.specs.declared.damage.Damage.{Damage}
use Rattle.pages.specs.declared.damage.Damage.TheVariants.{Shared, Node, Order, Heap, Index, Lost}
use Rattle.pages.specs.Marks.{IsUnmarked, Marks, marked_in}
use Rattle.pages.specs.PageList.{pages_in}
use Rattle.tree_node.specs.declared.shape.NodeShape.{NodeShape}
use Rattle.tree_node.specs.Inner.{separators, children}
use Rattle.tree_node.specs.Fill.{least_entries}
use Rattle.tree_search.specs.Tree.{Bound}
use Rattle.bplus_tree.specs.declared.tree.Tree.{Tree}
use Rattle.bplus_tree.specs.Fields.{tree_shape, tree_root, tree_levels, tree_count}
use Rattle.page_walks.specs.declared.spot.LeafSpot.{LeafSpot}
use Rattle.page_walks.specs.declared.tree_walk.Limits.{Limits}
use Rattle.page_walks.specs.Spots.{entry_at_spot}
use Rattle.page_walks.specs.TreeFaults.{HasChild, HasOtherCount, IsEarlier, IsNodeFault, IsSomewhereBelow, IsTreeFault, LeadsDown, LeadsEarlier, LeadsThereToo, MarksBelow, MarksFront, NodePlace, bound_behind, bytes_there, child_place, node_place, place_below, root_place}
use Rattle.page_walks.specs.TreeWalk.{Walked, bound_at, reach_of}
use Rattle.page_walks.proofs.WalkLemmas.{rooted}

-- ---- the bounds of a child

pub behind_inside : (ss : List (List ℕ)) (i : ℕ) (high : Bound) → i < length ss → bound_behind ss i high ≡ Some (get_or ss i [])
behind_inside [] i high few = absurd (omega arith)
behind_inside (s ∷ ss) zero high few = refl
behind_inside (s ∷ ss) (suc i) high few = behind_inside ss i high (omega arith)

pub behind_last : (ss : List (List ℕ)) (i : ℕ) (high : Bound) → i ≡ length ss → bound_behind ss i high ≡ high
behind_last [] i high end = refl
behind_last (s ∷ ss) zero high end = absurd (omega arith)
behind_last (s ∷ ss) (suc i) high end = behind_last ss i high (omega arith)

-- a child, with other names for what its place is
abbrev pub place_with : (levels page parent least : ℕ) → (low high : Bound) → NodePlace
place_with levels page parent least low high = record { levels = levels; page = page; parent = parent; least = least; low = low; high = high }

pub child_is : (shape : NodeShape) (list : List (List ℕ)) (at : NodePlace) (i page floor : ℕ) (low high : Bound) → page ≡ get_or (children shape (bytes_there list at)) i 0 → floor ≡ least_entries shape (at.levels - 1)
    → low ≡ bound_at at.low (separators shape (bytes_there list at)) i → high ≡ bound_behind (separators shape (bytes_there list at)) i at.high
    → place_with (at.levels - 1) page at.page floor low high ≡ child_place shape list at i
child_is shape list at i page floor low high a b c d =
    let child = child_place shape list at i in
    ap (λ (n : ℕ). place_with (at.levels - 1) n at.page floor low high) a
    ∙ ap (λ (n : ℕ). place_with (at.levels - 1) child.page at.page n low high) b
    ∙ ap (λ (l : Bound). place_with (at.levels - 1) child.page at.page child.least l high) c
    ∙ ap (λ (h : Bound). place_with (at.levels - 1) child.page at.page child.least child.low h) d

module _ (shape : NodeShape) (list : List (List ℕ)) (at : NodePlace) where
  -- ---- what is wrong with the node itself

  pub beyond_the_list : (marks : List Bool) → length list ≤ at.page → IsSomewhereBelow shape list at marks Node (Page at.parent)
  beyond_the_list marks past = ([], tt, inl (refl, past))

  pub reached_before : (marks : List Bool) → at.page < length list → (IsUnmarked marks at.page → ⊥) → IsSomewhereBelow shape list at marks Shared (Page at.page)
  reached_before marks inside never = ([], tt, (refl, inside, λ free. absurd (never free)))

  pub wrong_there : (marks : List Bool) → at.page < length list → (fault : Damage) (place : FaultPlace) → IsNodeFault shape (bytes_there list at) at fault place
      → IsSomewhereBelow shape list at marks fault place
  wrong_there marks inside Shared place h = absurd h
  wrong_there marks inside Node place h = ([], tt, inr (inside, h))
  wrong_there marks inside Order place h = ([], tt, (inside, h))
  wrong_there marks inside Heap place h = absurd h
  wrong_there marks inside Index place h = absurd h
  wrong_there marks inside Lost place h = absurd h

  -- ---- the page of the node is marked

  marked_one : (T : Type 0) (before after : List Bool) → Marks (marked_in before) (marked_in after) (at.page ∷ []) → length after ≡ length before → (n : ℕ) → (LeadsDown shape list at [] n → T)
      → IsUnmarked before n → IsUnmarked after n ⊎ T
  marked_one T before after marks long n give free = go (nat_eq n at.page) refl
    where
      go : (b : Bool) → nat_eq n at.page ≡ b → IsUnmarked after n ⊎ T
      go true e = inr (give (record { children = tt; page = sym (eqb-true n at.page e) }))
      go false e = inl (subst (λ (k : ℕ). n < k) (sym long) free.0, marks.others n (eqb-false n at.page e, tt) ∙ free.1)

  pub marks_page : (before after : List Bool) → Marks (marked_in before) (marked_in after) (at.page ∷ []) → length after ≡ length before → MarksBelow shape list at before after
  marks_page before after marks long n free = marked_one ((is : List ℕ) × LeadsDown shape list at is n) before after marks long n (λ l. ([], l)) free

  pub marks_first : (before after : List Bool) → Marks (marked_in before) (marked_in after) (at.page ∷ []) → length after ≡ length before → MarksFront shape list at 0 before after
  marks_first before after marks long n free = marked_one (LeadsEarlier shape list at 0 n) before after marks long n (λ l. ([], tt, l)) free

  -- ---- one child after another

  module _ (i : ℕ) (child : HasChild shape list at i) where
    down : (is : List ℕ) (n : ℕ) → LeadsDown shape list (child_place shape list at i) is n → LeadsDown shape list at (i ∷ is) n
    down is n leads = record { children = (child, leads.children); page = leads.page }

    later : (is : List ℕ) → IsEarlier i is → IsEarlier (i + 1) is
    later [] early = tt
    later (j ∷ js) early = let less : j < i = early in (let more : j < i + 1 = omega (arith, less) in more)

    pub marks_next : (before now after : List Bool) → MarksFront shape list at i before now → MarksBelow shape list (child_place shape list at i) now after → MarksFront shape list at (i + 1) before after
    marks_next before now after front below n free = one (front n free)
      where
        two : IsUnmarked after n ⊎ ((is : List ℕ) × LeadsDown shape list (child_place shape list at i) is n) → IsUnmarked after n ⊎ LeadsEarlier shape list at (i + 1) n
        two (inl still) = inl still
        two (inr led) = inr (i ∷ led.0, (let e : i < i + 1 = omega arith in e), down led.0 n led.1)

        one : IsUnmarked now n ⊎ LeadsEarlier shape list at i n → IsUnmarked after n ⊎ LeadsEarlier shape list at (i + 1) n
        one (inl still) = two (below n still)
        one (inr led) = inr (led.0, later led.0 led.1, led.2)

    pub marks_done : (before now after : List Bool) → MarksFront shape list at i before now → MarksBelow shape list (child_place shape list at i) now after → MarksBelow shape list at before after
    marks_done before now after front below n free = one (marks_next before now after front below n free)
      where
        one : IsUnmarked after n ⊎ LeadsEarlier shape list at (i + 1) n → IsUnmarked after n ⊎ ((is : List ℕ) × LeadsDown shape list at is n)
        one (inl still) = inl still
        one (inr led) = inr (led.0, led.2)

    -- what is wrong below a child is below the node
    not_same : (others is : List ℕ) → IsEarlier i others → others ≢ i ∷ is
    not_same [] is early same = cc same
    not_same (j ∷ js) is early same = let head : j ≡ i = cc same in let less : j < i = early in omega (arith, head, less)

    not_both : (others is : List ℕ) → others ≢ is → (i ∷ others) ≢ (i ∷ is)
    not_both others is differ same = let tail : others ≡ is = cc same in differ tail

    pub below_child : (before now : List Bool) → MarksFront shape list at i before now → (fault : Damage) (place : FaultPlace)
        → IsSomewhereBelow shape list (child_place shape list at i) now fault place → IsSomewhereBelow shape list at before fault place
    below_child before now front Shared place h =
        let is = h.0 in
        let n = (place_below shape list (child_place shape list at i) is).page in
        (i ∷ is, (child, h.1), (h.2.0, h.2.1, λ free. again is n h.2.2 (front n free)))
      where
        again : (is : List ℕ) (n : ℕ) → (IsUnmarked now n → LeadsThereToo shape list (child_place shape list at i) is n) → IsUnmarked now n ⊎ LeadsEarlier shape list at i n
            → LeadsThereToo shape list at (i ∷ is) n
        again is n other (inl still) = let o = other still in (i ∷ o.0, not_both o.0 is o.1, down o.0 n o.2)
        again is n other (inr led) = (led.0, not_same led.0 is led.1, led.2)
    below_child before now front Node place h = (i ∷ h.0, (child, h.1), h.2)
    below_child before now front Order place h = (i ∷ h.0, (child, h.1), h.2)
    below_child before now front Heap place h = absurd h.2
    below_child before now front Index place h = absurd h.2
    below_child before now front Lost place h = absurd h.2

-- ---- leaves and inner nodes

pub leaf_there : (shape : NodeShape) (bytes : List ℕ) (levels page : ℕ) (limits : Limits) → levels ≡ 0 → (fault : Damage) (place : FaultPlace)
    → IsNodeFault shape bytes (node_place 0 page limits) fault place → IsNodeFault shape bytes (node_place levels page limits) fault place
leaf_there shape bytes levels page limits none fault place h = subst (λ (k : ℕ). IsNodeFault shape bytes (node_place k page limits) fault place) (sym none) h

pub inner_there : (shape : NodeShape) (bytes : List ℕ) (levels page : ℕ) (limits : Limits) → 1 ≤ levels → (fault : Damage) (place : FaultPlace)
    → IsNodeFault shape bytes (node_place 1 page limits) fault place → IsNodeFault shape bytes (node_place levels page limits) fault place
inner_there shape bytes zero page limits some fault place h = absurd (omega arith)
inner_there shape bytes (suc k) page limits some Shared place h = h
inner_there shape bytes (suc k) page limits some Node place h = h
inner_there shape bytes (suc k) page limits some Order place h = h
inner_there shape bytes (suc k) page limits some Heap place h = h
inner_there shape bytes (suc k) page limits some Index place h = h
inner_there shape bytes (suc k) page limits some Lost place h = h

-- ---- the whole tree

pub in_tree : (tree : Tree) (list : List (List ℕ)) (marks : List Bool) (fault : Damage) (place : FaultPlace) → IsSomewhereBelow (tree_shape tree) list (root_place tree) marks fault place
    → IsTreeFault tree list marks fault place
in_tree tree list marks Shared place h = h
in_tree tree list marks Node place h = h
in_tree tree list marks Order place h = h
in_tree tree list marks Heap place h = absurd h.2
in_tree tree list marks Index place h = absurd h.2
in_tree tree list marks Lost place h = absurd h.2

pub other_count : (tree : Tree) (list : List (List ℕ)) (floor : ℕ) (before after : List Bool) (spots : List LeafSpot) → (1 ≤ tree_levels tree → 1 ≤ floor)
    → Walked (tree_shape tree) (pages_in list) (tree_levels tree) (tree_root tree) floor None None (reach_of (tree_shape tree) list before []) (reach_of (tree_shape tree) list after spots)
    → length spots ≢ tree_count tree → HasOtherCount tree list
other_count tree list floor before after spots some walked differ = record {
  value = walked.tree;
  whole = record { stands = walked.stands; apart = walked.marks.apart; filled = walked.filled; rooted = rooted (tree_levels tree) walked.tree floor some walked.large };
  other = λ same. differ (sym (length-map spots (entry_at_spot (tree_shape tree) list)) ∙ ap (λ (es : List (List ℕ)). length es) walked.adds ∙ same);
}
