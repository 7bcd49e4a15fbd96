use Rattle.std.proofs.Common.{List, ◌≡◌, IfErr, ◌-◌, ◌+◌, suc, ◌<◌, ◌≤◌, ℕ, length, drop, [], get_or, arith, add-one, sym, subst, refl, ap, ◌∙◌, slice_index_or, Some}
use Rattle.std.specs.Option.{option_copied}
use Rattle.tree_node.specs.Inner.{separators, children}
use Rattle.tree_node.proofs.InnerLemmas.{length_children, length_separators}
use Rattle.tree_node.specs.Fill.{least_entries}
use Rattle.pages.specs.PageList.{pages_in}
use Rattle.page_walks.specs.Spots.{spots_in}
use Rattle.page_walks.specs.TreeWalk.{bound_at, reach_of, IsInnerWithin, IsLeafWithin}
use Rattle.page_walks.proofs.WalkLemmas.{on_ok, bound_next, walked_as, leaf_walked, front_none, front_next, node_walked}
use Rattle.page_walks.specs.TreeAhead.{RowAhead, TreeAhead}
use Rattle.pages.specs.Marks.{IsUnmarked}
use Rattle.pages.proofs.RefusedLemmas.{err_refuses_more, handed_on, refused}
use Rattle.page_walks.proofs.TreeAheadLemmas.{ahead_as, ahead_children, ahead_inner, ahead_leaf, ahead_there, ahead_unmarked, only_memory, row_end, row_first, row_rest, row_split}
use Rattle.tree_search.specs.Tree.{Bound}
use Rattle.pages.specs.declared.fault_place.FaultPlace.TheVariants.{Page}
use Rattle.pages.specs.declared.damage.Damage.TheVariants.{Node, Shared}
use Rattle.pages.specs.Told.{TellsOfFault}
use Rattle.pages.specs.Refused.{RefusesRightly}
use Rattle.page_walks.specs.TreeFaults.{IsNodeFault, IsSomewhereBelow, MarksBelow, NodePlace, child_place, node_place}
use Rattle.pages.proofs.ToldLemmas.{err_tells_more, handed_told, never_free, only_memory_told, tells_on, told}
use Rattle.page_walks.proofs.TreeFaultLemmas.{behind_inside, behind_last, below_child, beyond_the_list, child_is, inner_there, leaf_there, marks_done, marks_first, marks_next, marks_page, reached_before, wrong_there}
use Rattle.pages.proofs.SourceLemmas.{none_is, there_is}
use Rattle.page_walks.proofs.tree_walk.+walk_below.Goals as goal

pub returns-then-levels-eq0-clause-walked : goal.returns-then-levels-eq0-clause-walked
returns-then-levels-eq0-clause-walked g t c = λ list has.
    let was = has in
    let at_page = sym (c.page.ensures.page list was) ∙ c.in-Some.is in
    let here = there_is list c.args.page c.in-Some.bytes at_page in
    let inside : c.args.page < length list = here.0 in
    on_ok c.push_leaf.result
    (leaf_walked c.args.shape list c.args.levels c.args.page c.args.limits.least (option_copied c.args.limits.low) (option_copied c.args.limits.high)
    (reach_of c.args.shape list c.args.reached.now (spots_in c.args.leaves.now.items)) (reach_of c.args.shape list c.mark.new.reached (spots_in c.push_leaf.new.leaves.items))
    c.if-levels-eq0.true (omega arith) c.in_ok-mark.ensures.marked (subst (λ (b : List ℕ). IsLeafWithin c.args.shape b c.args.limits) (sym here.1) c.in_ok-check_leaf.ensures.fits))
    (c.push_leaf.ensures.adds list at_page)

pub children-init : goal.children-init
children-init g t c = record {
  within = omega arith;
  before = λ list has. has;
  low = λ list has. refl;
  there = λ list has all. all;
  marks = λ list has. marks_first c.args.shape list (node_place c.args.levels c.args.page c.args.limits) c.args.reached.now c.mark.new.reached c.in_ok-mark.ensures.marked c.in_ok-mark.ensures.long;
  ahead = λ list has a. ahead_children c.args.shape list c.args.page c.args.limits.least (option_copied c.args.limits.low) (option_copied c.args.limits.high) c.args.reached.now c.args.levels (c.args.levels - 1)
      c.mark.new.reached (omega arith) c.in_ok-mark.ensures.marked c.in_ok-mark.ensures.long a;
  front = λ list has. front_none c.args.shape (pages_in list) (c.args.levels - 1) (option_copied c.args.limits.low) (separators c.args.shape (slice_index_or list c.args.page []))
      (children c.args.shape (slice_index_or list c.args.page [])) _;
}

pub children-preserved : goal.children-preserved
children-preserved g t c = record {
  within = omega arith;
  before = λ list has. c.children.invariant.before list (c.walk_below.ensures.before list has);
  low = λ list has.
      let h1 = c.walk_below.ensures.before list has in
      let was = c.children.invariant.before list h1 in
      let at_page = sym (c.page.ensures.page list was) ∙ c.in-Some.is in
      let here = there_is list c.args.page c.in-Some.bytes at_page in
      let inside : c.args.page < length list = here.0 in
      let shape = c.args.shape in
      let bytes = slice_index_or list c.args.page [] in
      let ss = separators shape bytes in
      let below = children shape bytes in
      let low = option_copied c.args.limits.low in
      let k = c.args.levels - 1 in
      let i = c.children.i in
      let many : c.count-count.result ≡ length ss = (c.count-count.ensures.value ∙ ap (λ (b : List ℕ). length (separators c.args.shape b)) (sym here.1)) in
      let more : length below ≡ length ss + 1 = length_children shape bytes ∙ ap (λ (n : ℕ). n + 1) (sym (length_separators shape bytes)) in
      let few : i < length ss = omega arith in
      let start = reach_of shape list c.mark.new.reached (spots_in c.args.leaves.now.items) in
      let before = reach_of shape list c.children.reached (spots_in c.children.leaves.items) in
      let after = reach_of shape list c.walk_below.new.reached (spots_in c.walk_below.new.leaves.items) in
      let child = walked_as shape (pages_in list) k c.child.result (get_or below i 0) c.least_in-least.result (least_entries shape k)
      (option_copied c.children.low) (bound_at low ss i) (Some c.separator.result.now) (Some (get_or ss i [])) before after
      (c.child.ensures ∙ ap (λ (b : List ℕ). get_or (children c.args.shape b) c.children.i 0) (sym here.1)) c.least_in-least.ensures (c.children.invariant.low list h1) (ap Some (c.separator.ensures.value ∙ ap (λ (b : List ℕ). get_or (separators c.args.shape b) c.children.i []) (sym here.1))) (c.in_ok-walk_below.ensures.walked list has) in
      rw add-one (ap Some (c.separator.ensures.value ∙ ap (λ (b : List ℕ). get_or (separators c.args.shape b) c.children.i []) (sym here.1)) ∙ sym (bound_next low ss i few));
  there = λ list has.
      let h1 = c.walk_below.ensures.before list has in
      let was = c.children.invariant.before list h1 in
      let at_page = sym (c.page.ensures.page list was) ∙ c.in-Some.is in
      let here = there_is list c.args.page c.in-Some.bytes at_page in
      let inside : c.args.page < length list = here.0 in
      let shape = c.args.shape in
      let bytes = slice_index_or list c.args.page [] in
      let ss = separators shape bytes in
      let below = children shape bytes in
      let low = option_copied c.args.limits.low in
      let k = c.args.levels - 1 in
      let i = c.children.i in
      let many : c.count-count.result ≡ length ss = (c.count-count.ensures.value ∙ ap (λ (b : List ℕ). length (separators c.args.shape b)) (sym here.1)) in
      let more : length below ≡ length ss + 1 = length_children shape bytes ∙ ap (λ (n : ℕ). n + 1) (sym (length_separators shape bytes)) in
      let few : i < length ss = omega arith in
      let start = reach_of shape list c.mark.new.reached (spots_in c.args.leaves.now.items) in
      let before = reach_of shape list c.children.reached (spots_in c.children.leaves.items) in
      let after = reach_of shape list c.walk_below.new.reached (spots_in c.walk_below.new.leaves.items) in
      let child = walked_as shape (pages_in list) k c.child.result (get_or below i 0) c.least_in-least.result (least_entries shape k)
      (option_copied c.children.low) (bound_at low ss i) (Some c.separator.result.now) (Some (get_or ss i [])) before after
      (c.child.ensures ∙ ap (λ (b : List ℕ). get_or (children c.args.shape b) c.children.i 0) (sym here.1)) c.least_in-least.ensures (c.children.invariant.low list h1) (ap Some (c.separator.ensures.value ∙ ap (λ (b : List ℕ). get_or (separators c.args.shape b) c.children.i []) (sym here.1))) (c.in_ok-walk_below.ensures.walked list has) in
      λ all. (c.in_ok-walk_below.ensures.there list has) ((c.children.invariant.there list h1) all);
  marks = λ list has.
      let h1 = c.walk_below.ensures.before list has in
      let was = c.children.invariant.before list h1 in
      let at_page = sym (c.page.ensures.page list was) ∙ c.in-Some.is in
      let here = there_is list c.args.page c.in-Some.bytes at_page in
      let inside : c.args.page < length list = here.0 in
      let shape = c.args.shape in
      let bytes = slice_index_or list c.args.page [] in
      let ss = separators shape bytes in
      let below = children shape bytes in
      let low = option_copied c.args.limits.low in
      let k = c.args.levels - 1 in
      let i = c.children.i in
      let many : c.count-count.result ≡ length ss = (c.count-count.ensures.value ∙ ap (λ (b : List ℕ). length (separators c.args.shape b)) (sym here.1)) in
      let more : length below ≡ length ss + 1 = length_children shape bytes ∙ ap (λ (n : ℕ). n + 1) (sym (length_separators shape bytes)) in
      let few : i < length ss = omega arith in
      let start = reach_of shape list c.mark.new.reached (spots_in c.args.leaves.now.items) in
      let before = reach_of shape list c.children.reached (spots_in c.children.leaves.items) in
      let after = reach_of shape list c.walk_below.new.reached (spots_in c.walk_below.new.leaves.items) in
      let child = walked_as shape (pages_in list) k c.child.result (get_or below i 0) c.least_in-least.result (least_entries shape k)
      (option_copied c.children.low) (bound_at low ss i) (Some c.separator.result.now) (Some (get_or ss i [])) before after
      (c.child.ensures ∙ ap (λ (b : List ℕ). get_or (children c.args.shape b) c.children.i 0) (sym here.1)) c.least_in-least.ensures (c.children.invariant.low list h1) (ap Some (c.separator.ensures.value ∙ ap (λ (b : List ℕ). get_or (separators c.args.shape b) c.children.i []) (sym here.1))) (c.in_ok-walk_below.ensures.walked list has) in
      (let at = node_place c.args.levels c.args.page c.args.limits in
      let some : 1 ≤ c.args.levels = omega arith in
      let within : i ≤ length ss = omega (arith, few) in
      marks_next shape list at i (record { above = some; there = inside; inner = (subst (λ (b : List ℕ). IsInnerWithin c.args.shape b c.args.limits) (sym here.1) c.in_ok-check_inner.ensures.fits).inner; within = within })
      c.args.reached.now c.children.reached c.walk_below.new.reached (c.children.invariant.marks list h1)
      (subst (λ (p : NodePlace). MarksBelow shape list p c.children.reached c.walk_below.new.reached)
      (child_is shape list at i c.child.result c.least_in-least.result (option_copied c.children.low) (Some c.separator.result.now)
      (c.child.ensures ∙ ap (λ (b : List ℕ). get_or (children c.args.shape b) c.children.i 0) (sym here.1)) c.least_in-least.ensures (c.children.invariant.low list h1) (ap Some (c.separator.ensures.value ∙ ap (λ (b : List ℕ). get_or (separators c.args.shape b) c.children.i []) (sym here.1)) ∙ sym (behind_inside ss i (option_copied c.args.limits.high) few)))
      (c.in_ok-walk_below.ensures.marks list has)));
  ahead = λ list has.
      let h1 = c.walk_below.ensures.before list has in
      let was = c.children.invariant.before list h1 in
      let at_page = sym (c.page.ensures.page list was) ∙ c.in-Some.is in
      let here = there_is list c.args.page c.in-Some.bytes at_page in
      let inside : c.args.page < length list = here.0 in
      let shape = c.args.shape in
      let bytes = slice_index_or list c.args.page [] in
      let ss = separators shape bytes in
      let below = children shape bytes in
      let low = option_copied c.args.limits.low in
      let k = c.args.levels - 1 in
      let i = c.children.i in
      let many : c.count-count.result ≡ length ss = (c.count-count.ensures.value ∙ ap (λ (b : List ℕ). length (separators c.args.shape b)) (sym here.1)) in
      let more : length below ≡ length ss + 1 = length_children shape bytes ∙ ap (λ (n : ℕ). n + 1) (sym (length_separators shape bytes)) in
      let few : i < length ss = omega arith in
      let start = reach_of shape list c.mark.new.reached (spots_in c.args.leaves.now.items) in
      let before = reach_of shape list c.children.reached (spots_in c.children.leaves.items) in
      let after = reach_of shape list c.walk_below.new.reached (spots_in c.walk_below.new.leaves.items) in
      let child = walked_as shape (pages_in list) k c.child.result (get_or below i 0) c.least_in-least.result (least_entries shape k)
      (option_copied c.children.low) (bound_at low ss i) (Some c.separator.result.now) (Some (get_or ss i [])) before after
      (c.child.ensures ∙ ap (λ (b : List ℕ). get_or (children c.args.shape b) c.children.i 0) (sym here.1)) c.least_in-least.ensures (c.children.invariant.low list h1) (ap Some (c.separator.ensures.value ∙ ap (λ (b : List ℕ). get_or (separators c.args.shape b) c.children.i []) (sym here.1))) (c.in_ok-walk_below.ensures.walked list has) in
      λ a. rw add-one (subst (λ (b : Bound). RowAhead shape (pages_in list) k b (drop (suc i) ss) (drop (suc i) below) (option_copied c.args.limits.high) c.walk_below.new.reached)
      (sym (bound_next low ss i few))
      (row_rest shape (pages_in list) k (bound_at low ss i) (get_or ss i []) (drop (suc i) ss) (get_or below i 0) (least_entries shape k) (bound_at low ss i) (Some (get_or ss i [])) (drop (suc i) below)
      (option_copied c.args.limits.high) c.children.reached c.walk_below.new.reached before after (row_split shape (pages_in list) k (bound_at low ss i) ss below i (option_copied c.args.limits.high) c.children.reached few (omega arith) ((c.children.invariant.ahead list h1) a)) refl refl c.walk_below.auto.reached child));
  front = λ list has.
      let h1 = c.walk_below.ensures.before list has in
      let was = c.children.invariant.before list h1 in
      let at_page = sym (c.page.ensures.page list was) ∙ c.in-Some.is in
      let here = there_is list c.args.page c.in-Some.bytes at_page in
      let inside : c.args.page < length list = here.0 in
      let shape = c.args.shape in
      let bytes = slice_index_or list c.args.page [] in
      let ss = separators shape bytes in
      let below = children shape bytes in
      let low = option_copied c.args.limits.low in
      let k = c.args.levels - 1 in
      let i = c.children.i in
      let many : c.count-count.result ≡ length ss = (c.count-count.ensures.value ∙ ap (λ (b : List ℕ). length (separators c.args.shape b)) (sym here.1)) in
      let more : length below ≡ length ss + 1 = length_children shape bytes ∙ ap (λ (n : ℕ). n + 1) (sym (length_separators shape bytes)) in
      let few : i < length ss = omega arith in
      let start = reach_of shape list c.mark.new.reached (spots_in c.args.leaves.now.items) in
      let before = reach_of shape list c.children.reached (spots_in c.children.leaves.items) in
      let after = reach_of shape list c.walk_below.new.reached (spots_in c.walk_below.new.leaves.items) in
      let child = walked_as shape (pages_in list) k c.child.result (get_or below i 0) c.least_in-least.result (least_entries shape k)
      (option_copied c.children.low) (bound_at low ss i) (Some c.separator.result.now) (Some (get_or ss i [])) before after
      (c.child.ensures ∙ ap (λ (b : List ℕ). get_or (children c.args.shape b) c.children.i 0) (sym here.1)) c.least_in-least.ensures (c.children.invariant.low list h1) (ap Some (c.separator.ensures.value ∙ ap (λ (b : List ℕ). get_or (separators c.args.shape b) c.children.i []) (sym here.1))) (c.in_ok-walk_below.ensures.walked list has) in
      rw add-one (front_next shape (pages_in list) k low ss below i start before after (omega arith) few (c.children.invariant.front list h1) child);
}

pub returns-clause-walked : goal.returns-clause-walked
returns-clause-walked g t c = λ list has.
    let h1 = c.walk_below-2.ensures.before list has in
    let was = c.children.invariant.before list h1 in
    let at_page = sym (c.page.ensures.page list was) ∙ c.in-Some.is in
    let here = there_is list c.args.page c.in-Some.bytes at_page in
    let inside : c.args.page < length list = here.0 in
    let shape = c.args.shape in
    let bytes = slice_index_or list c.args.page [] in
    let ss = separators shape bytes in
    let below = children shape bytes in
    let low = option_copied c.args.limits.low in
    let high = option_copied c.args.limits.high in
    let k = c.args.levels - 1 in
    let many : c.count-count.result ≡ length ss = (c.count-count.ensures.value ∙ ap (λ (b : List ℕ). length (separators c.args.shape b)) (sym here.1)) in
    let more : length below ≡ length ss + 1 = length_children shape bytes ∙ ap (λ (n : ℕ). n + 1) (sym (length_separators shape bytes)) in
    let end : c.children.i ≡ length ss = omega arith in
    let one : c.args.levels ≡ suc k = omega arith in
    let start = reach_of shape list c.args.reached.now (spots_in c.args.leaves.now.items) in
    let before = reach_of shape list c.mark.new.reached (spots_in c.args.leaves.now.items) in
    let between = reach_of shape list c.children.reached (spots_in c.children.leaves.items) in
    let after = reach_of shape list c.walk_below-2.new.reached (spots_in c.walk_below-2.new.leaves.items) in
    on_ok c.walk_below-2.result
    (λ w. node_walked shape list c.args.levels k c.args.page c.args.limits.least low high start before between after one (omega arith) (subst (λ (b : List ℕ). IsInnerWithin c.args.shape b c.args.limits) (sym here.1) c.in_ok-check_inner.ensures.fits) (omega arith)
    c.in_ok-mark.ensures.marked refl (rw end at (c.children.invariant.front list h1))
    (walked_as shape (pages_in list) k c.child-2.result (get_or below (length ss) 0) c.least_in-least.result (least_entries shape k)
    (option_copied c.children.low) (bound_at low ss (length ss)) high high between after
    ((c.child-2.ensures ∙ ap (λ (b : List ℕ). get_or (children c.args.shape b) c.count-count.result 0) (sym here.1)) ∙ ap (λ (n : ℕ). get_or below n 0) many) c.least_in-least.ensures ((c.children.invariant.low list h1) ∙ ap (bound_at low ss) end) refl w))
    (c.walk_below-2.ensures.walked list has)

pub returns-in_default-clause-refused : goal.returns-in_default-clause-refused
returns-in_default-clause-refused g t c = λ list has.
    let past : length list ≤ c.args.page = none_is list c.args.page (sym (c.page.ensures.page list has) ∙ c.in_default.is) in
    let low = option_copied c.args.limits.low in
    let high = option_copied c.args.limits.high in
    refused (TreeAhead c.args.shape (pages_in list) c.args.levels c.args.page c.args.limits.least low high c.args.reached.now) c.of_page.result _ _ c.of_page.ensures
    (λ a. (let inside : c.args.page < length list = ahead_there c.args.shape list c.args.page c.args.limits.least low high c.args.reached.now c.args.levels a in absurd (omega (arith, inside, past))))

pub returns-in_err-mark-clause-refused : goal.returns-in_err-mark-clause-refused
returns-in_err-mark-clause-refused g t c = λ list has.
    let was = has in
    let at_page = sym (c.page.ensures.page list was) ∙ c.in-Some.is in
    let here = there_is list c.args.page c.in-Some.bytes at_page in
    let inside : c.args.page < length list = here.0 in
    let low = option_copied c.args.limits.low in
    let high = option_copied c.args.limits.high in
    handed_on (IsUnmarked c.args.reached.now c.args.page) (TreeAhead c.args.shape (pages_in list) c.args.levels c.args.page c.args.limits.least low high c.args.reached.now) c.from_residual.result _
    c.from_residual.ensures.1 (ahead_unmarked c.args.shape list c.args.page c.args.limits.least low high c.args.reached.now c.args.levels) c.in_err-mark.ensures.refused

pub returns-in_err-check_leaf-clause-refused : goal.returns-in_err-check_leaf-clause-refused
returns-in_err-check_leaf-clause-refused g t c = λ list has.
    let was = has in
    let at_page = sym (c.page.ensures.page list was) ∙ c.in-Some.is in
    let here = there_is list c.args.page c.in-Some.bytes at_page in
    let inside : c.args.page < length list = here.0 in
    let low = option_copied c.args.limits.low in
    let high = option_copied c.args.limits.high in
    handed_on (IsLeafWithin c.args.shape (slice_index_or list c.args.page []) c.args.limits) (TreeAhead c.args.shape (pages_in list) c.args.levels c.args.page c.args.limits.least low high c.args.reached.now)
    c.from_residual-in_err-check_leaf.result _ c.from_residual-in_err-check_leaf.ensures.1
    (ahead_leaf c.args.shape list c.args.page c.args.limits.least low high c.args.reached.now c.args.levels c.if-levels-eq0.true) (subst (λ (b : List ℕ). RefusesRightly (IsLeafWithin c.args.shape b c.args.limits) c.in_err-check_leaf.field-0.0) (sym here.1) c.in_err-check_leaf.ensures.refused)

pub returns-then-levels-eq0-clause-refused : goal.returns-then-levels-eq0-clause-refused
returns-then-levels-eq0-clause-refused g t c = λ list has.
    let was = has in
    let at_page = sym (c.page.ensures.page list was) ∙ c.in-Some.is in
    let here = there_is list c.args.page c.in-Some.bytes at_page in
    let inside : c.args.page < length list = here.0 in
    only_memory (TreeAhead c.args.shape (pages_in list) c.args.levels c.args.page c.args.limits.least (option_copied c.args.limits.low) (option_copied c.args.limits.high) c.args.reached.now)
    c.push_leaf.result c.push_leaf.ensures.memory

pub returns-in_err-check_inner-clause-refused : goal.returns-in_err-check_inner-clause-refused
returns-in_err-check_inner-clause-refused g t c = λ list has.
    let was = has in
    let at_page = sym (c.page.ensures.page list was) ∙ c.in-Some.is in
    let here = there_is list c.args.page c.in-Some.bytes at_page in
    let inside : c.args.page < length list = here.0 in
    let low = option_copied c.args.limits.low in
    let high = option_copied c.args.limits.high in
    handed_on (IsInnerWithin c.args.shape (slice_index_or list c.args.page []) c.args.limits) (TreeAhead c.args.shape (pages_in list) c.args.levels c.args.page c.args.limits.least low high c.args.reached.now)
    c.from_residual-in_err-check_inner.result _ c.from_residual-in_err-check_inner.ensures.1
    (ahead_inner c.args.shape list c.args.page c.args.limits.least low high c.args.reached.now c.args.levels (c.args.levels - 1) (omega arith)) (subst (λ (b : List ℕ). RefusesRightly (IsInnerWithin c.args.shape b c.args.limits) c.in_err-check_inner.field-0.0) (sym here.1) c.in_err-check_inner.ensures.refused)

pub returns-in_err-walk_below-clause-refused : goal.returns-in_err-walk_below-clause-refused
returns-in_err-walk_below-clause-refused g t c = λ list has.
    let h1 = c.walk_below.ensures.before list has in
    let was = c.children.invariant.before list h1 in
    let at_page = sym (c.page.ensures.page list was) ∙ c.in-Some.is in
    let here = there_is list c.args.page c.in-Some.bytes at_page in
    let inside : c.args.page < length list = here.0 in
    let shape = c.args.shape in
    let bytes = slice_index_or list c.args.page [] in
    let ss = separators shape bytes in
    let below = children shape bytes in
    let low = option_copied c.args.limits.low in
    let high = option_copied c.args.limits.high in
    let k = c.args.levels - 1 in
    let i = c.children.i in
    let many : c.count-count.result ≡ length ss = (c.count-count.ensures.value ∙ ap (λ (b : List ℕ). length (separators c.args.shape b)) (sym here.1)) in
    let more : length below ≡ length ss + 1 = length_children shape bytes ∙ ap (λ (n : ℕ). n + 1) (sym (length_separators shape bytes)) in
    let few : i < length ss = omega arith in
    handed_on (TreeAhead shape (pages_in list) k c.child.result c.least_in-least.result (option_copied c.children.low) (Some c.separator.result.now) c.children.reached)
    (TreeAhead shape (pages_in list) c.args.levels c.args.page c.args.limits.least low high c.args.reached.now) c.from_residual-in_err-walk_below.result _ c.from_residual-in_err-walk_below.ensures.1
    (λ a. ahead_as shape (pages_in list) k c.child.result (get_or below i 0) c.least_in-least.result (least_entries shape k) (option_copied c.children.low) (bound_at low ss i)
    (Some c.separator.result.now) (Some (get_or ss i [])) c.children.reached (c.child.ensures ∙ ap (λ (b : List ℕ). get_or (children c.args.shape b) c.children.i 0) (sym here.1)) c.least_in-least.ensures (c.children.invariant.low list h1) (ap Some (c.separator.ensures.value ∙ ap (λ (b : List ℕ). get_or (separators c.args.shape b) c.children.i []) (sym here.1)))
    (row_first shape (pages_in list) k (bound_at low ss i) (get_or ss i []) (drop (suc i) ss) (get_or below i 0) (drop (suc i) below) high c.children.reached
    (row_split shape (pages_in list) k (bound_at low ss i) ss below i high c.children.reached few (omega arith) ((c.children.invariant.ahead list h1) a))))
    (c.in_err-walk_below.ensures.refused list has)

pub returns-clause-there : goal.returns-clause-there
returns-clause-there g t c = λ list has.
    let h1 = c.walk_below-2.ensures.before list has in
    let was = c.children.invariant.before list h1 in
    let at_page = sym (c.page.ensures.page list was) ∙ c.in-Some.is in
    let here = there_is list c.args.page c.in-Some.bytes at_page in
    let inside : c.args.page < length list = here.0 in
    on_ok c.walk_below-2.result (λ all old. all ((c.children.invariant.there list h1) old)) (c.walk_below-2.ensures.there list has)

pub returns-clause-refused : goal.returns-clause-refused
returns-clause-refused g t c = λ list has.
    let h1 = c.walk_below-2.ensures.before list has in
    let was = c.children.invariant.before list h1 in
    let at_page = sym (c.page.ensures.page list was) ∙ c.in-Some.is in
    let here = there_is list c.args.page c.in-Some.bytes at_page in
    let inside : c.args.page < length list = here.0 in
    let shape = c.args.shape in
    let bytes = slice_index_or list c.args.page [] in
    let ss = separators shape bytes in
    let below = children shape bytes in
    let low = option_copied c.args.limits.low in
    let high = option_copied c.args.limits.high in
    let k = c.args.levels - 1 in
    let i = c.children.i in
    let many : c.count-count.result ≡ length ss = (c.count-count.ensures.value ∙ ap (λ (b : List ℕ). length (separators c.args.shape b)) (sym here.1)) in
    let more : length below ≡ length ss + 1 = length_children shape bytes ∙ ap (λ (n : ℕ). n + 1) (sym (length_separators shape bytes)) in
    let end : i ≡ length ss = omega arith in
    err_refuses_more (TreeAhead shape (pages_in list) k c.child-2.result c.least_in-least.result (option_copied c.children.low) high c.children.reached)
    (TreeAhead shape (pages_in list) c.args.levels c.args.page c.args.limits.least low high c.args.reached.now) c.walk_below-2.result
    (λ a. ahead_as shape (pages_in list) k c.child-2.result (get_or below i 0) c.least_in-least.result (least_entries shape k) (option_copied c.children.low) (bound_at low ss i) high high c.children.reached
    ((c.child-2.ensures ∙ ap (λ (b : List ℕ). get_or (children c.args.shape b) c.count-count.result 0) (sym here.1)) ∙ ap (λ (n : ℕ). get_or below n 0) (many ∙ sym end)) c.least_in-least.ensures (c.children.invariant.low list h1) refl
    (row_end shape (pages_in list) k (bound_at low ss i) ss below i high c.children.reached end (omega arith) ((c.children.invariant.ahead list h1) a)))
    (c.walk_below-2.ensures.refused list has)

pub returns-then-levels-eq0-clause-marks : goal.returns-then-levels-eq0-clause-marks
returns-then-levels-eq0-clause-marks g t c = λ list has.
    let was = has in
    let at_page = sym (c.page.ensures.page list was) ∙ c.in-Some.is in
    let here = there_is list c.args.page c.in-Some.bytes at_page in
    let inside : c.args.page < length list = here.0 in
    on_ok c.push_leaf.result
    (λ _. marks_page c.args.shape list (node_place c.args.levels c.args.page c.args.limits) c.args.reached.now c.mark.new.reached c.in_ok-mark.ensures.marked c.in_ok-mark.ensures.long)
    (c.push_leaf.ensures.adds list at_page)

pub returns-clause-marks : goal.returns-clause-marks
returns-clause-marks g t c = λ list has.
    let h1 = c.walk_below-2.ensures.before list has in
    let was = c.children.invariant.before list h1 in
    let at_page = sym (c.page.ensures.page list was) ∙ c.in-Some.is in
    let here = there_is list c.args.page c.in-Some.bytes at_page in
    let inside : c.args.page < length list = here.0 in
    let shape = c.args.shape in
    let bytes = slice_index_or list c.args.page [] in
    let ss = separators shape bytes in
    let at = node_place c.args.levels c.args.page c.args.limits in
    let many : c.count-count.result ≡ length ss = (c.count-count.ensures.value ∙ ap (λ (b : List ℕ). length (separators c.args.shape b)) (sym here.1)) in
    let end : c.children.i ≡ length ss = omega arith in
    let some : 1 ≤ c.args.levels = omega arith in
    let within : c.children.i ≤ length ss = omega arith in
    on_ok c.walk_below-2.result
    (λ below. marks_done shape list at c.children.i (record { above = some; there = inside; inner = (subst (λ (b : List ℕ). IsInnerWithin c.args.shape b c.args.limits) (sym here.1) c.in_ok-check_inner.ensures.fits).inner; within = within })
    c.args.reached.now c.children.reached c.walk_below-2.new.reached (c.children.invariant.marks list h1)
    (subst (λ (p : NodePlace). MarksBelow shape list p c.children.reached c.walk_below-2.new.reached)
    (child_is shape list at c.children.i c.child-2.result c.least_in-least.result (option_copied c.children.low) (option_copied c.args.limits.high)
    ((c.child-2.ensures ∙ ap (λ (b : List ℕ). get_or (children c.args.shape b) c.count-count.result 0) (sym here.1)) ∙ ap (λ (n : ℕ). get_or (children shape bytes) n 0) (many ∙ sym end)) c.least_in-least.ensures (c.children.invariant.low list h1) (sym (behind_last ss c.children.i (option_copied c.args.limits.high) end)))
    below))
    (c.walk_below-2.ensures.marks list has)

pub returns-in_default-clause-told : goal.returns-in_default-clause-told
returns-in_default-clause-told g t c = λ list has.
    let at = node_place c.args.levels c.args.page c.args.limits in
    told (IsSomewhereBelow c.args.shape list at c.args.reached.now) c.of_page.result Node (Page c.args.limits.parent) c.of_page.ensures
    (beyond_the_list c.args.shape list at c.args.reached.now (none_is list c.args.page (sym (c.page.ensures.page list has) ∙ c.in_default.is)))

pub returns-in_err-mark-clause-told : goal.returns-in_err-mark-clause-told
returns-in_err-mark-clause-told g t c = λ list has.
    let was = has in
    let at_page = sym (c.page.ensures.page list was) ∙ c.in-Some.is in
    let here = there_is list c.args.page c.in-Some.bytes at_page in
    let inside : c.args.page < length list = here.0 in
    let at = node_place c.args.levels c.args.page c.args.limits in
    let P = IsSomewhereBelow c.args.shape list at c.args.reached.now in
    handed_told P c.from_residual.result _ c.from_residual.ensures.1
    (told P _ Shared (Page c.args.page) c.in_err-mark.ensures.told
    (reached_before c.args.shape list at c.args.reached.now inside
    (never_free (IsUnmarked c.args.reached.now c.args.page) _ (Page c.args.page) c.in_err-mark.ensures.told c.in_err-mark.ensures.refused)))

pub returns-in_err-check_leaf-clause-told : goal.returns-in_err-check_leaf-clause-told
returns-in_err-check_leaf-clause-told g t c = λ list has.
    let was = has in
    let at_page = sym (c.page.ensures.page list was) ∙ c.in-Some.is in
    let here = there_is list c.args.page c.in-Some.bytes at_page in
    let inside : c.args.page < length list = here.0 in
    let bytes = slice_index_or list c.args.page [] in
    let at = node_place c.args.levels c.args.page c.args.limits in
    tells_on (IsNodeFault c.args.shape bytes (node_place 0 c.args.page c.args.limits)) (IsSomewhereBelow c.args.shape list at c.args.reached.now)
    c.from_residual-in_err-check_leaf.result _ c.from_residual-in_err-check_leaf.ensures.1
    (λ fault place h. wrong_there c.args.shape list at c.args.reached.now inside fault place
    (leaf_there c.args.shape bytes c.args.levels c.args.page c.args.limits c.if-levels-eq0.true fault place h)) (subst (λ (b : List ℕ). TellsOfFault (IsNodeFault c.args.shape b (node_place 0 c.args.page c.args.limits)) c.in_err-check_leaf.field-0.0) (sym here.1) c.in_err-check_leaf.ensures.told)

pub returns-then-levels-eq0-clause-told : goal.returns-then-levels-eq0-clause-told
returns-then-levels-eq0-clause-told g t c = λ list has.
    let was = has in
    let at_page = sym (c.page.ensures.page list was) ∙ c.in-Some.is in
    let here = there_is list c.args.page c.in-Some.bytes at_page in
    let inside : c.args.page < length list = here.0 in
    only_memory_told (IsSomewhereBelow c.args.shape list (node_place c.args.levels c.args.page c.args.limits) c.args.reached.now) c.push_leaf.result c.push_leaf.ensures.memory

pub returns-in_err-check_inner-clause-told : goal.returns-in_err-check_inner-clause-told
returns-in_err-check_inner-clause-told g t c = λ list has.
    let was = has in
    let at_page = sym (c.page.ensures.page list was) ∙ c.in-Some.is in
    let here = there_is list c.args.page c.in-Some.bytes at_page in
    let inside : c.args.page < length list = here.0 in
    let bytes = slice_index_or list c.args.page [] in
    let at = node_place c.args.levels c.args.page c.args.limits in
    tells_on (IsNodeFault c.args.shape bytes (node_place 1 c.args.page c.args.limits)) (IsSomewhereBelow c.args.shape list at c.args.reached.now)
    c.from_residual-in_err-check_inner.result _ c.from_residual-in_err-check_inner.ensures.1
    (λ fault place h. wrong_there c.args.shape list at c.args.reached.now inside fault place
    (inner_there c.args.shape bytes c.args.levels c.args.page c.args.limits (let some : 1 ≤ c.args.levels = omega arith in some) fault place h)) (subst (λ (b : List ℕ). TellsOfFault (IsNodeFault c.args.shape b (node_place 1 c.args.page c.args.limits)) c.in_err-check_inner.field-0.0) (sym here.1) c.in_err-check_inner.ensures.told)

pub returns-in_err-walk_below-clause-told : goal.returns-in_err-walk_below-clause-told
returns-in_err-walk_below-clause-told g t c = λ list has.
    let h1 = c.walk_below.ensures.before list has in
    let was = c.children.invariant.before list h1 in
    let at_page = sym (c.page.ensures.page list was) ∙ c.in-Some.is in
    let here = there_is list c.args.page c.in-Some.bytes at_page in
    let inside : c.args.page < length list = here.0 in
    let shape = c.args.shape in
    let bytes = slice_index_or list c.args.page [] in
    let ss = separators shape bytes in
    let at = node_place c.args.levels c.args.page c.args.limits in
    let i = c.children.i in
    let many : c.count-count.result ≡ length ss = (c.count-count.ensures.value ∙ ap (λ (b : List ℕ). length (separators c.args.shape b)) (sym here.1)) in
    let few : i < length ss = omega arith in
    let same = child_is shape list at i c.child.result c.least_in-least.result (option_copied c.children.low) (Some c.separator.result.now)
    (c.child.ensures ∙ ap (λ (b : List ℕ). get_or (children c.args.shape b) c.children.i 0) (sym here.1)) c.least_in-least.ensures (c.children.invariant.low list h1) (ap Some (c.separator.ensures.value ∙ ap (λ (b : List ℕ). get_or (separators c.args.shape b) c.children.i []) (sym here.1)) ∙ sym (behind_inside ss i (option_copied c.args.limits.high) few)) in
    let now = c.children.reached in
    let some : 1 ≤ c.args.levels = omega arith in
    let within : i ≤ length ss = omega arith in
    tells_on (IsSomewhereBelow shape list (child_place shape list at i) now) (IsSomewhereBelow shape list at c.args.reached.now)
    c.from_residual-in_err-walk_below.result _ c.from_residual-in_err-walk_below.ensures.1
    (below_child shape list at i (record { above = some; there = inside; inner = (subst (λ (b : List ℕ). IsInnerWithin c.args.shape b c.args.limits) (sym here.1) c.in_ok-check_inner.ensures.fits).inner; within = within }) c.args.reached.now now (c.children.invariant.marks list h1))
    (subst (λ (p : NodePlace). TellsOfFault (IsSomewhereBelow shape list p now) c.in_err-walk_below.field-0.0) same (c.in_err-walk_below.ensures.told list has))

pub returns-clause-told : goal.returns-clause-told
returns-clause-told g t c = λ list has.
    let h1 = c.walk_below-2.ensures.before list has in
    let was = c.children.invariant.before list h1 in
    let at_page = sym (c.page.ensures.page list was) ∙ c.in-Some.is in
    let here = there_is list c.args.page c.in-Some.bytes at_page in
    let inside : c.args.page < length list = here.0 in
    let shape = c.args.shape in
    let bytes = slice_index_or list c.args.page [] in
    let ss = separators shape bytes in
    let at = node_place c.args.levels c.args.page c.args.limits in
    let i = c.children.i in
    let many : c.count-count.result ≡ length ss = (c.count-count.ensures.value ∙ ap (λ (b : List ℕ). length (separators c.args.shape b)) (sym here.1)) in
    let end : i ≡ length ss = omega arith in
    let same = child_is shape list at i c.child-2.result c.least_in-least.result (option_copied c.children.low) (option_copied c.args.limits.high)
    ((c.child-2.ensures ∙ ap (λ (b : List ℕ). get_or (children c.args.shape b) c.count-count.result 0) (sym here.1)) ∙ ap (λ (n : ℕ). get_or (children shape bytes) n 0) (many ∙ sym end)) c.least_in-least.ensures (c.children.invariant.low list h1) (sym (behind_last ss i (option_copied c.args.limits.high) end)) in
    let now = c.children.reached in
    let some : 1 ≤ c.args.levels = omega arith in
    let within : i ≤ length ss = omega arith in
    err_tells_more (IsSomewhereBelow shape list (child_place shape list at i) now) (IsSomewhereBelow shape list at c.args.reached.now) c.walk_below-2.result
    (below_child shape list at i (record { above = some; there = inside; inner = (subst (λ (b : List ℕ). IsInnerWithin c.args.shape b c.args.limits) (sym here.1) c.in_ok-check_inner.ensures.fits).inner; within = within }) c.args.reached.now now (c.children.invariant.marks list h1))
    (subst (λ (p : NodePlace). IfErr c.walk_below-2.result (TellsOfFault (IsSomewhereBelow shape list p now))) same (c.walk_below-2.ensures.told list has))

pub returns-then-levels-eq0-clause-there : goal.returns-then-levels-eq0-clause-there
returns-then-levels-eq0-clause-there g t c = λ list has.
    c.push_leaf.ensures.there list (sym (c.page.ensures.page list has) ∙ c.in-Some.is)
