-- A root that has one child only.
use Rattle.std.proofs.Common.{◌≡◌, ◌≢◌, ℕ, zero, suc, ◌≤◌, List, [], ◌∷◌, length, map, Some, None, Ok, Err, Result, IsSome, refl, ap, sym, subst, ◌∙◌, arith, flat_map, slice_index}
use Rattle.std.specs.Prelude.{IsErrAnd}
use Rattle.std.proofs.lemmas.List.{append-nil}
use Rattle.io_state.specs.declared.fault.Fault.{Fault}
use Rattle.tree_node.specs.declared.shape.NodeShape.{NodeShape}
use Rattle.pages.specs.Each.{Each}
use Rattle.pages.specs.PageMap.{PageMap}
use Rattle.bplus_tree.specs.declared.collapse.RootLevel.{RootLevel}
use Rattle.tree_node.specs.Fill.{least_entries}
use Rattle.tree_search.specs.Tree.{TreeOf, page_of, entries_of, pages_of, Bound, IsRow, IsOrdered}
use Rattle.tree_search.specs.Calls.{size_of, IsHalfFull, IsRooted, IsTree}
use Rattle.tree_search.specs.Stored.{Holds, IsInnerAt}
use Rattle.pages.specs.Owners.{IsOutside, AreApart, ChangesPages}
use Rattle.bplus_tree.specs.Collapse.{CollapsesInner, HasCollapsed, Collapses, HasSettledRoot}
use Rattle.bplus_tree.proofs.PageLemmas.{holds_still}
use Rattle.tree_search.proofs.AnswerLemmas.{fails}
use Rattle.bplus_tree.proofs.RemoveLemmas.{full_rooted}
use Rattle.tree_node.proofs.OrderLemmas.{Each-weaker}

pub node_there : (shape : NodeShape) (pages : PageMap) (page : ℕ) (ss : List (List ℕ)) (below : List ℕ) → IsInnerAt shape pages page ss below → IsSome (pages page)
node_there shape pages page ss below at = rw at.there refl

-- the only child
record Only {X : Type 0} (P : Bound → Bound → X → Type 0) (xs : List X) : Type 0 where
  pub child : X
  pub is : xs ≡ child ∷ []
  pub between : P None None child

only : {X : Type 0} (P : Bound → Bound → X → Type 0) (ss : List (List ℕ)) (xs : List X) → length ss ≡ 0 → IsRow P None ss xs None → Only P xs
only P [] [] none row = absurd row
only P [] (x ∷ []) none row = record { child = x; is = refl; between = row }
only P [] (x ∷ y ∷ xs) none row = absurd row
only P (s ∷ ss) xs none row = absurd (omega arith)

at_root : (shape : NodeShape) (before : PageMap) (k root : ℕ) (t : TreeOf (suc k)) → IsTree shape before (suc k) root None None t → IsInnerAt shape before root t.1 (map (page_of k) t.2)
at_root shape before k root t tree = subst (λ (n : ℕ). IsInnerAt shape before n t.1 (map (page_of k) t.2)) tree.root tree.holds.0

collapsed_child : (shape : NodeShape) (before after : PageMap) (is_sound : Type 0) (k root child : ℕ) (t : TreeOf (suc k)) → IsTree shape before (suc k) root None None t → AreApart (pages_of (suc k) t) → IsHalfFull shape (suc k) t
    → HasCollapsed before after root t.1 (map (page_of k) t.2) (Some child) → HasSettledRoot shape before after (suc k) t (record { root = child; levels = k })
collapsed_child shape before after is_sound k root child t tree apart filled collapse_inner =
    let one = only (IsOrdered shape.width k) t.1 t.2 collapse_inner.0 tree.ordered.1 in
    let x = one.child in
    let full = subst (Each (λ c. (least_entries shape k ≤ size_of k c) × IsHalfFull shape k c)) one.is filled in
    let kids : map (page_of k) t.2 ≡ page_of k x ∷ [] = ap (map (page_of k)) one.is in
    let is : page_of k x ≡ child = sym (collapse_inner.1 ∙ ap (λ (l : List ℕ). slice_index l 0) kids) in
    let own : flat_map (pages_of k) t.2 ≡ pages_of k x = ap (flat_map (pages_of k)) one.is ∙ append-nil (pages_of k x) in
    let off : IsOutside (pages_of k x) root = subst (λ (n : ℕ). IsOutside (pages_of k x) n) tree.root (subst (λ (l : List ℕ). IsOutside l t.0) own apart.0) in
    let frame = collapse_inner.3 in
    let still = Each-weaker (λ n. root ≢ n) (λ n. after n ≡ before n) (λ n ne. frame n (λ e. ne (sym e))) (pages_of k x) off in
    let holds = (subst (Each (Holds shape before k)) one.is tree.holds.1).0 in
    record {
      tree = x;
      whole = record {
        stands = record { holds = holds_still shape before after k x holds still; root = is; ordered = one.between };
        apart = subst AreApart own apart.1;
        filled = full.0.1;
        rooted = full_rooted shape k x full.0.0;
      };
      has = sym (ap (flat_map (entries_of k)) one.is ∙ append-nil (entries_of k x));
      changes = record {
        others = λ n here out. let ne : n ≢ root = λ e. out.0 (e ∙ sym tree.root) in (frame n ne, subst (λ (l : List ℕ). IsOutside l n) own out.1);
        no_stray = λ n here out.
            let ne : n ≢ root = λ e. let gone : IsSome (after root) = subst (λ m. IsSome (after m)) e here in cc (gone, collapse_inner.2) in
            (rw (← frame n ne) here, ((λ e. ne (e ∙ tree.root)), subst (λ (l : List ℕ). IsOutside l n) (sym own) out));
        apart = subst AreApart own apart.1;
      };
    }

changes_none : (before after : PageMap) (own : List ℕ) → after ≡ before → AreApart own → ChangesPages before after own own
changes_none before after own same apart = record {
  others = λ n here out. (ap (λ (m : PageMap). m n) same, out);
  no_stray = λ n here out. (subst (λ (m : PageMap). IsSome (m n)) same here, out);
  apart = apart;
}

collapsed_same : (shape : NodeShape) (before after : PageMap) (h root : ℕ) (t : TreeOf h) → after ≡ before → IsTree shape before h root None None t → AreApart (pages_of h t) → IsHalfFull shape h t → IsRooted h t
    → HasSettledRoot shape before after h t (record { root = root; levels = h })
collapsed_same shape before after h root t same tree apart filled rooted =
    record {
      tree = t;
      whole = record { stands = subst (λ (m : PageMap). IsTree shape m h root None None t) (sym same) tree; apart = apart; filled = filled; rooted = rooted };
      has = refl;
      changes = changes_none before after (pages_of h t) same apart;
    }

module _ (shape : NodeShape) (before after : PageMap) (is_sound : Type 0) (h k root : ℕ) (one : h ≡ suc k) where
  pub collapses_none : CollapsesInner shape root (Ok None) before after is_sound → Collapses shape h root (Ok (record { root = root; levels = h })) before after is_sound
  collapses_none collapses = subst (λ (n : ℕ). Collapses shape n root (Ok (record { root = root; levels = n })) before after is_sound) (sym one) (λ t tree apart filled.
      let a = (collapses t.1 (map (page_of k) t.2) (at_root shape before k root t tree)).answer in
      record { answer = (collapsed_same shape before after (suc k) root t a.0.1 tree apart filled a.0.0, a.1); no_damage = tt })

  pub collapses_some : (child : ℕ) → CollapsesInner shape root (Ok (Some child)) before after is_sound → Collapses shape h root (Ok (record { root = child; levels = k })) before after is_sound
  collapses_some child collapses = subst (λ (n : ℕ). Collapses shape n root (Ok (record { root = child; levels = k })) before after is_sound) (sym one) (λ t tree apart filled.
      let a = (collapses t.1 (map (page_of k) t.2) (at_root shape before k root t tree)).answer in
      record { answer = (collapsed_child shape before after is_sound k root child t tree apart filled a.0, a.1); no_damage = tt })

  pub collapses_fault : (fault : Fault) (out : Result RootLevel Fault) → CollapsesInner shape root (Err fault) before after is_sound → IsErrAnd out (λ e. e ≡ fault) → Collapses shape h root out before after is_sound
  collapses_fault fault out collapses was = subst (λ (n : ℕ). Collapses shape n root out before after is_sound) (sym one) (λ t tree apart filled.
      let a = collapses t.1 (map (page_of k) t.2) (at_root shape before k root t tree) in
      fails out fault (λ base. HasSettledRoot shape before after (suc k) t base × is_sound) was a.no_damage)
