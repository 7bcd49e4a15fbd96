-- Where an entry that was found stands.
use Rattle.std.proofs.Common.{◌≡◌, ◌≢◌, ℕ, zero, suc, ◌<◌, ◌≤◌, Bool, true, false, List, [], ◌∷◌, ◌++◌, length, get_or, map, Option, Some, None, Ok, Err, Result, refl, ap, sym, subst, ◌∙◌, arith, flat_map, slice_index, append_assoc}
use Rattle.std.specs.Prelude.{IfOk, IsErrAnd}
use Rattle.std.proofs.lemmas.List.{append-nil}
use Rattle.std.proofs.lemmas.Grind.{flat_map-append}
use Rattle.arrayvec.specs.ArrayVec.{ArrayVec}
use Rattle.io_state.specs.declared.fault.Fault.{Fault}
use Rattle.tree_node.specs.declared.shape.NodeShape.{NodeShape}
use Rattle.pages.specs.Each.{Each}
use Rattle.pages.specs.PageMap.{PageMap}
use Rattle.pages.specs.Owners.{IsOutside}
use Rattle.tree_search.specs.declared.descent.StepDown.{StepDown}
use Rattle.tree_search.specs.declared.spot.Spot.{Spot}
use Rattle.tree_node.specs.Fill.{least_entries}
use Rattle.tree_search.specs.Tree.{TreeOf, page_of, entries_of, pages_of}
use Rattle.tree_search.specs.Calls.{size_of, IsHalfFull}
use Rattle.tree_search.specs.Stored.{Holds, IsLeafAt, IsInnerAt}
use Rattle.tree_search.specs.Descent.{Steps}
use Rattle.tree_search.specs.Search.{first_of, head_of, IsFound, IsPlace, FirstChild}
use Rattle.tree_search.specs.Spot.{IsInLeaf, IsInLeafIf, IsEntryAt, IsAtSpot, FoundAt, Spots, SpotsFirst, SpotsInLeaf, SpotsFirstInLeaf}
use Rattle.tree_search.proofs.RowLemmas.{each_left, each_right}
use Rattle.tree_search.proofs.DescentLemmas.{step_of}
use Rattle.tree_search.proofs.DescentLemmas.{below}
use Rattle.tree_search.proofs.SearchLemmas.{from_past, from_at, after_past, after_at, head_at, kids_some, full_some, behind, back_length}

-- ---- in a leaf

pub placed : (past : Bool) (width : ℕ) (key : List ℕ) (es : List (List ℕ)) (leaf place : ℕ) (spot : Spot) (found : Option (ArrayVec ℕ)) → IsPlace past width key es place → IsEntryAt leaf place es spot found
    → IsFound (first_of past width key) es found
placed false width key es leaf place spot None is at = sym (from_past width key es place is at)
placed false width key es leaf place spot (Some e) is at =
    let inside : place < length es = subst (λ (n : ℕ). n < length es) at.0 at.1.within in
    ap Some (at.1.entry_is ∙ ap (λ (n : ℕ). get_or es n []) at.0) ∙ sym (from_at width key es place is inside)
placed true width key es leaf place spot None is at = sym (after_past width key es place is at)
placed true width key es leaf place spot (Some e) is at =
    let inside : place < length es = subst (λ (n : ℕ). n < length es) at.0 at.1.within in
    ap Some (at.1.entry_is ∙ ap (λ (n : ℕ). get_or es n []) at.0) ∙ sym (after_at width key es place is inside)

pub in_leaf : (leaf place : ℕ) (es : List (List ℕ)) (spot : Spot) (found : Option (ArrayVec ℕ)) → IsEntryAt leaf place es spot found → IsInLeafIf leaf es spot found
in_leaf leaf place es spot None at = tt
in_leaf leaf place es spot (Some e) at = at.1

-- an entry of a tree that is one leaf
pub whole_leaf : (shape : NodeShape) (pages : PageMap) (page : ℕ) (es : List (List ℕ)) (spot : Spot) (entry : List ℕ) → IsLeafAt shape pages page es → IsInLeaf page es spot entry → IsAtSpot shape pages (page ∷ []) es spot entry
whole_leaf shape pages page es spot entry at is = record {
  before = [];
  here = es;
  behind = [];
  parts = sym (append-nil es);
  leaf = subst (λ (n : ℕ). IsLeafAt shape pages n es) (sym is.leaf_is) at;
  inside = λ out. out.0 is.leaf_is;
  within = is.within;
  count = is.count;
  entry_is = is.entry_is;
}

whole_leaf_if : (shape : NodeShape) (pages : PageMap) (page : ℕ) (es : List (List ℕ)) (spot : Spot) (found : Option (ArrayVec ℕ)) → IsLeafAt shape pages page es → IsInLeafIf page es spot found
    → FoundAt shape pages (page ∷ []) es spot found
whole_leaf_if shape pages page es spot None at is = tt
whole_leaf_if shape pages page es spot (Some e) at is = whole_leaf shape pages page es spot e.items at is

-- ---- below an inner node

in_row : (shape : NodeShape) (pages : PageMap) (k page : ℕ) (xs : List (TreeOf k)) (front : List (TreeOf k)) (here : TreeOf k) (back : List (TreeOf k)) (spot : Spot) (entry : List ℕ) → xs ≡ front ++ here ∷ back
    → IsAtSpot shape pages (pages_of k here) (entries_of k here) spot entry → IsAtSpot shape pages (page ∷ flat_map (pages_of k) xs) (flat_map (entries_of k) xs) spot entry
in_row shape pages k page xs front here back spot entry is at =
    let f = flat_map (entries_of k) front in
    let b = flat_map (entries_of k) back in
    record {
      before = f ++ at.before;
      here = at.here;
      behind = at.behind ++ b;
      parts = ap (flat_map (entries_of k)) is ∙ flat_map-append (entries_of k) front (here ∷ back)
          ∙ ap (λ (l : List (List ℕ)). f ++ (l ++ b)) at.parts
          ∙ ap (λ (l : List (List ℕ)). f ++ l) (append_assoc at.before (at.here ++ at.behind) b ∙ ap (λ (l : List (List ℕ)). at.before ++ l) (append_assoc at.here at.behind b))
          ∙ sym (append_assoc f at.before (at.here ++ (at.behind ++ b)));
      leaf = at.leaf;
      inside = λ out. at.inside (each_left (λ m. spot.leaf ≢ m) (pages_of k here) (flat_map (pages_of k) back)
          (each_right (λ m. spot.leaf ≢ m) (flat_map (pages_of k) front) (pages_of k here ++ flat_map (pages_of k) back)
          (subst (λ (l : List ℕ). IsOutside l spot.leaf) (ap (flat_map (pages_of k)) is ∙ flat_map-append (pages_of k) front (here ∷ back)) out.1)));
      within = at.within;
      count = at.count;
      entry_is = at.entry_is;
    }

-- ---- the first entry

pub first_entry : (leaf : ℕ) (es : List (List ℕ)) (spot : Spot) (e : ArrayVec ℕ) → 1 ≤ length es → IsEntryAt leaf 0 es spot (Some e) → head_of es ≡ Some e.items
first_entry leaf es spot e some at = head_at es some ∙ ap Some (sym (at.1.entry_is ∙ ap (λ (n : ℕ). get_or es n []) at.0))

pub spots_first_leaf : (shape : NodeShape) (pages : PageMap) (h page : ℕ) (spot : Spot) (out : Result (ArrayVec ℕ) Fault) → h ≡ 0 → SpotsFirstInLeaf shape pages page spot out → SpotsFirst shape pages h page spot out
spots_first_leaf shape pages zero page spot (Ok e) none first t holds is filled some =
    let at = subst (λ (n : ℕ). IsLeafAt shape pages n t.1) is holds in
    subst (λ (n : ℕ). IsAtSpot shape pages (n ∷ []) t.1 spot e.items) (sym is) (whole_leaf shape pages page t.1 spot e.items at (first t.1 at))
spots_first_leaf shape pages zero page spot (Err e) none first t holds is filled some = tt
spots_first_leaf shape pages (suc h) page spot out none first t holds is filled some = absurd (omega arith)

first_in_row : (shape : NodeShape) (pages : PageMap) (k child : ℕ) (xs : List (TreeOf k)) (spot : Spot) (out : Result (ArrayVec ℕ) Fault) → 0 < length xs → Each (Holds shape pages k) xs
    → child ≡ slice_index (map (page_of k) xs) 0 → Each (λ c. (least_entries shape k ≤ size_of k c) × IsHalfFull shape k c) xs → SpotsFirst shape pages k child spot out
    → (page : ℕ) (front all : List (TreeOf k)) → all ≡ front ++ xs → IfOk out (λ e. IsAtSpot shape pages (page ∷ flat_map (pages_of k) all) (flat_map (entries_of k) all) spot e.items)
first_in_row shape pages k child [] spot out some holds is filled first page front all split = absurd (omega arith)
first_in_row shape pages k child (x ∷ xs) spot (Err e) some holds is filled first page front all split = tt
first_in_row shape pages k child (x ∷ xs) spot (Ok e) some holds is filled first page front all split =
    in_row shape pages k page all front x xs spot e.items split (first x holds.0 (sym is) filled.0.1 (full_some shape k (size_of k x) filled.0.0))

pub spots_first_inner : (shape : NodeShape) (pages : PageMap) (h k page : ℕ) (spot : Spot) (one : h ≡ suc k) (mid : PageMap) (child : ℕ) (out : Result (ArrayVec ℕ) Fault) → mid ≡ pages → FirstChild shape pages page (Ok child)
    → SpotsFirst shape mid k child spot out → SpotsFirst shape pages h page spot out
spots_first_inner shape pages h k page spot one mid child out same answer first = subst (λ (n : ℕ). SpotsFirst shape pages n page spot out) (sym one) (λ t holds is filled some.
    let at = subst (λ (n : ℕ). IsInnerAt shape pages n t.1 (map (page_of k) t.2)) is holds.0 in
    let is_child = (answer t.1 (map (page_of k) t.2) at).answer in
    first_in_row shape pages k child t.2 spot out (kids_some shape pages k page t.1 t.2 at) holds.1 is_child filled (subst (λ (m : PageMap). SpotsFirst shape m k child spot out) same first) t.0 [] t.2 refl)

pub spots_first_fails : (shape : NodeShape) (pages : PageMap) (h page : ℕ) (spot : Spot) (fault : Fault) (out : Result (ArrayVec ℕ) Fault) → IsErrAnd out (λ e. e ≡ fault) → SpotsFirst shape pages h page spot out
spots_first_fails shape pages h page spot fault (Ok e) was t holds is filled some = absurd was
spots_first_fails shape pages h page spot fault (Err e) was t holds is filled some = tt

-- ---- the first entry at a key or behind it

pub spots_leaf : (shape : NodeShape) (pages : PageMap) (h page : ℕ) (spot : Spot) (out : Result (Option (ArrayVec ℕ)) Fault) → h ≡ 0 → SpotsInLeaf shape pages page spot out → Spots shape pages h page spot out
spots_leaf shape pages zero page spot (Ok found) none spots t low high tree filled =
    let at = subst (λ (n : ℕ). IsLeafAt shape pages n t.1) tree.root tree.holds in
    subst (λ (n : ℕ). FoundAt shape pages (n ∷ []) t.1 spot found) (sym tree.root) (whole_leaf_if shape pages page t.1 spot found at (spots t.1 at))
spots_leaf shape pages zero page spot (Err e) none spots t low high tree filled = tt
spots_leaf shape pages (suc h) page spot out none spots t low high tree filled = absurd (omega arith)

pub spots_fails : (shape : NodeShape) (pages : PageMap) (h page : ℕ) (spot : Spot) (fault : Fault) (out : Result (Option (ArrayVec ℕ)) Fault) → IsErrAnd out (λ e. e ≡ fault) → Spots shape pages h page spot out
spots_fails shape pages h page spot fault (Ok found) was t low high tree filled = absurd was
spots_fails shape pages h page spot fault (Err e) was t low high tree filled = tt

module _ (shape : NodeShape) (pages : PageMap) (h k page : ℕ) (key : List ℕ) (one : h ≡ suc k) (step : StepDown) (steps : Steps shape pages page key (Ok step)) (spot : Spot) where
  pub spots_below : (mid : PageMap) (found : ArrayVec ℕ) → mid ≡ pages → Spots shape mid k step.child spot (Ok (Some found)) → Spots shape pages h page spot (Ok (Some found))
  spots_below mid found same spots = subst (λ (n : ℕ). Spots shape pages n page spot (Ok (Some found))) (sym one) (λ t low high tree filled.
      let b = below shape pages k page low high key t step tree (step_of shape pages k page low high key t (Ok step) tree steps).answer in
      let fill = (each_right (λ c. (least_entries shape k ≤ size_of k c) × IsHalfFull shape k c) b.row.front (b.row.here ∷ b.row.back) (rw b.row.is at filled)).0 in
      in_row shape pages k t.0 t.2 b.row.front b.row.here b.row.back spot found.items b.row.is
      (subst (λ (m : PageMap). Spots shape m k step.child spot (Ok (Some found))) same spots b.row.here b.row.from b.row.to b.child fill.1))

  pub spots_behind : (late : PageMap) (entry : ArrayVec ℕ) → late ≡ pages → step.place < step.count → SpotsFirst shape late k step.next spot (Ok entry) → Spots shape pages h page spot (Ok (Some entry))
  spots_behind late entry same more first = subst (λ (n : ℕ). Spots shape pages n page spot (Ok (Some entry))) (sym one) (λ t low high tree filled.
      let is = (step_of shape pages k page low high key t (Ok step) tree steps).answer in
      let b = below shape pages k page low high key t step tree is in
      let count = is.count in
      let long = back_length shape pages k page low high key t step tree b in
      let some : 0 < length b.row.back = omega arith in
      let inside : step.place < length t.1 = omega arith in
      let rest = behind shape pages k page low high key t step tree filled b in
      first_in_row shape pages k step.next b.row.back spot (Ok entry) some rest.holds (is.next inside ∙ rest.first some) rest.filled
      (subst (λ (m : PageMap). SpotsFirst shape m k step.next spot (Ok entry)) same first) t.0 (b.row.front ++ b.row.here ∷ []) t.2
      (b.row.is ∙ sym (append_assoc b.row.front (b.row.here ∷ []) b.row.back)))
