-- A cursor and its tree.
use Rattle.std.proofs.Common.{◌≡◌, ◌≢◌, ℕ, zero, suc, ◌+◌, ◌<◌, Bool, true, false, List, [], ◌∷◌, ◌++◌, length, take, get_or, Option, Some, None, Result, Ok, Err, refl, ap, sym, subst, ◌∙◌, arith}
use Rattle.std.proofs.lemmas.List.{length-append}
use Rattle.std.specs.Option.{option_map_or}
use Rattle.arrayvec.specs.ArrayVec.{ArrayVec}
use Rattle.tree_node.specs.Order.{less, Ascends}
use Rattle.tree_node.proofs.OrderLemmas.{less_itself, upto_through, above_through}
use Rattle.pages.specs.PageMap.{PageMap}
use Rattle.bplus_tree.specs.declared.tree.Tree.{Tree}
use Rattle.bplus_tree.specs.declared.cursor.Cursor.{Cursor}
use Rattle.tree_search.specs.declared.spot.Spot.{Spot}
use Rattle.tree_search.specs.Calls.{first_after}
use Rattle.bplus_tree.specs.Standing.{TreeStands, one_more}
use Rattle.io_state.specs.declared.fault.Fault.{Fault}
use Rattle.io_state.specs.declared.fault.Fault.TheVariants.{Damage}
use Rattle.pages.specs.Answer.{IsAnswer}
use Rattle.pages.specs.Owners.{IsOutside}
use Rattle.tree_search.specs.Stored.{IsLeafAt}
use Rattle.tree_search.specs.Spot.{CopiesEntry, TellsStart, begins_with, IsAtSpot}
use Rattle.bplus_tree.specs.Cursor.{IsCursorAt, Belongs, HasNeighbour, IsBehind, HasMoved}
use Rattle.tree_search.proofs.SearchLemmas.{after_at}
use Rattle.tree_search.proofs.DescentLemmas.{tree_ascends}

-- ---- the entry behind another one

in_front : (here behind : List (List ℕ)) (n : ℕ) → n < length here → get_or (here ++ behind) n [] ≡ get_or here n []
in_front [] behind n h = absurd (omega arith)
in_front (x ∷ xs) behind zero h = refl
in_front (x ∷ xs) behind (suc n) h = in_front xs behind n (omega arith)

between : (before here behind : List (List ℕ)) (n : ℕ) → n < length here → get_or (before ++ (here ++ behind)) (length before + n) [] ≡ get_or here n []
between [] here behind n h =
    let e : 0 + n ≡ n = omega arith in
    ap (λ (m : ℕ). get_or (here ++ behind) m []) e ∙ in_front here behind n h
between (x ∷ before) here behind n h =
    let e : length (x ∷ before) + n ≡ suc (length before + n) = omega arith in
    ap (λ (m : ℕ). get_or (x ∷ (before ++ (here ++ behind))) m []) e ∙ between before here behind n h

rises_at : (width : ℕ) (es : List (List ℕ)) (i : ℕ) → suc i < length es → Ascends width es → less (take width (get_or es i [])) (take width (get_or es (suc i) [])) ≡ true
rises_at width [] i h rises = absurd (omega arith)
rises_at width (x ∷ []) i h rises = absurd (omega arith)
rises_at width (x ∷ y ∷ es) zero h rises = rises.0.0
rises_at width (x ∷ y ∷ es) (suc i) h rises = rises_at width (y ∷ es) i (omega arith) rises.1

after_entry : (width : ℕ) (key : List ℕ) (es : List (List ℕ)) (i : ℕ) → suc i < length es → Ascends width es → take width (get_or es i []) ≡ key → first_after width key es ≡ Some (get_or es (suc i) [])
after_entry width key es i inside rises is =
    let here : i < length es = omega arith in
    let not_above : less key (take width (get_or es i [])) ≡ false = subst (λ (k : List ℕ). less key k ≡ false) (sym is) (less_itself key) in
    let above : less key (take width (get_or es (suc i) [])) ≡ true = subst (λ (k : List ℕ). less k (take width (get_or es (suc i) [])) ≡ true) is (rises_at width es i inside rises) in
    after_at width key es (suc i)
    (record { within = omega arith; upto = upto_through width key es i [] here rises not_above; above = above_through width key es (suc i) [] inside rises above }) inside

-- the entry behind that of the cursor in its leaf is the one behind it in the tree
pub neighbour : (cursor : Cursor) (tree : Tree) (pages : PageMap) (entries : List (List ℕ)) (own : List ℕ) → TreeStands tree pages entries own → (is : IsCursorAt cursor tree pages entries own) → cursor.spot.place + 1 < cursor.spot.count
    → first_after tree.shape.width cursor.key.items entries ≡ Some (get_or is.stands.here (cursor.spot.place + 1) [])
neighbour cursor tree pages entries own stands is more =
    let at = is.stands in
    let width = tree.shape.width in
    let count = at.count in
    let inside : suc cursor.spot.place < length at.here = omega arith in
    let rises : Ascends width (at.before ++ (at.here ++ at.behind)) = subst (Ascends width) (stands.has ∙ at.parts)
    (tree_ascends width tree.levels None None stands.value stands.whole.stands.ordered) in
    let i = length at.before + cursor.spot.place in
    let long : length (at.before ++ (at.here ++ at.behind)) ≡ length at.before + (length at.here + length at.behind) = length-append at.before (at.here ++ at.behind) ∙ ap (λ (n : ℕ). length at.before + n) (length-append at.here at.behind) in
    let within : suc i < length (at.before ++ (at.here ++ at.behind)) = omega arith in
    let key : take width (get_or (at.before ++ (at.here ++ at.behind)) i []) ≡ cursor.key.items =
    ap (take width) (between at.before at.here at.behind cursor.spot.place at.within ∙ sym at.entry_is) ∙ is.key in
    let next : suc i ≡ length at.before + suc cursor.spot.place = omega arith in
    let plus : suc cursor.spot.place ≡ cursor.spot.place + 1 = omega arith in
    ap (first_after width cursor.key.items) at.parts
    ∙ after_entry width cursor.key.items (at.before ++ (at.here ++ at.behind)) i within rises key
    ∙ ap (λ (n : ℕ). Some (get_or (at.before ++ (at.here ++ at.behind)) n [])) next
    ∙ ap Some (between at.before at.here at.behind (suc cursor.spot.place) inside)
    ∙ ap (λ (n : ℕ). Some (get_or at.here n [])) plus

is_at : (cursor : Cursor) (tree : Tree) (pages : PageMap) (entries : List (List ℕ)) (own : List ℕ) → Belongs cursor tree pages entries own → HasNeighbour cursor tree → IsCursorAt cursor tree pages entries own
is_at cursor tree pages entries own belongs near =
    let more = near.more in
    let some : 0 < cursor.spot.count = omega arith in
    belongs.at near.unchanged near.counted some

module _ (cursor : Cursor) (tree : Tree) (pages : PageMap) (entries : List (List ℕ)) (own : List ℕ) (stands : TreeStands tree pages entries own) (belongs : Belongs cursor tree pages entries own) (near : HasNeighbour cursor tree)
    (place : ℕ) (is_place : place ≡ cursor.spot.place + 1) (spot : Spot) where
  pub stepped : (e : ArrayVec ℕ) → spot.leaf ≡ cursor.spot.leaf → spot.place ≡ place → spot.count ≡ cursor.spot.count → CopiesEntry tree.shape pages cursor.spot.leaf place e.items (Ok true)
      → IsBehind cursor tree pages entries own spot (Some e)
  stepped e leaf_is at_place count_is at =
      let is = is_at cursor tree pages entries own belongs near in
      let here = is.stands.here in
      let found = (at here is.stands.leaf).answer in
      let inside = found.0 in
      let same : get_or here place [] ≡ get_or here (cursor.spot.place + 1) [] = ap (λ (n : ℕ). get_or here n []) is_place in
      record {
        found_is = ap Some (found.1 ∙ same) ∙ sym (neighbour cursor tree pages entries own stands is near.more);
        at = record {
          before = is.stands.before;
          here = here;
          behind = is.stands.behind;
          parts = is.stands.parts;
          leaf = subst (λ (n : ℕ). IsLeafAt tree.shape pages n here) (sym leaf_is) is.stands.leaf;
          inside = subst (λ (n : ℕ). IsOutside own n → ⊥) (sym leaf_is) is.stands.inside;
          within = omega arith;
          count = count_is ∙ is.stands.count;
          entry_is = found.1 ∙ ap (λ (n : ℕ). get_or here n []) (sym at_place);
        };
      }

  pub has_next : (entry : List ℕ) → CopiesEntry tree.shape pages cursor.spot.leaf place entry (Ok false) → ⊥
  has_next entry at =
      let is = is_at cursor tree pages entries own belongs near in
      let past = (at is.stands.here is.stands.leaf).answer in
      let more = near.more in
      let count = is.stands.count in
      omega arith

  pub no_damage : (entry : List ℕ) (fault : Fault) → CopiesEntry tree.shape pages cursor.spot.leaf place entry (Err fault) → fault ≢ Damage
  no_damage entry fault at =
      let is = is_at cursor tree pages entries own belongs near in
      (at is.stands.here is.stands.leaf).no_damage

-- how the entry behind that of the cursor in its leaf begins, the next entry begins
pub told_near : (cursor : Cursor) (tree : Tree) (pages : PageMap) (entries : List (List ℕ)) (own : List ℕ) → TreeStands tree pages entries own → Belongs cursor tree pages entries own → HasNeighbour cursor tree
    → (start : List ℕ) (result : Result Bool Fault) → TellsStart tree.shape pages cursor.spot.leaf (cursor.spot.place + 1) start result
    → IsAnswer result (λ told. told ≡ option_map_or (begins_with start) (first_after tree.shape.width cursor.key.items entries) false)
told_near cursor tree pages entries own stands belongs near start result told =
    let is = is_at cursor tree pages entries own belongs near in
    let more = near.more in
    let count = is.stands.count in
    let within : cursor.spot.place + 1 < length is.stands.here = omega arith in
    subst (λ (o : Option (List ℕ)). IsAnswer result (λ told. told ≡ option_map_or (begins_with start) o false)) (sym (neighbour cursor tree pages entries own stands is near.more)) (told is.stands.here is.stands.leaf within)

-- ---- the cursor after a step

pub moved : (old new : Cursor) (tree : Tree) (pages : PageMap) (entries : List (List ℕ)) (own : List ℕ) (spot : Spot) (e : ArrayVec ℕ) → IsBehind old tree pages entries own spot (Some e)
    → new.key.items ≡ take tree.shape.width e.items → new.changes ≡ tree.changes → new.spot ≡ spot → HasMoved old new tree pages entries own (Some e)
moved old new tree pages entries own spot e is key changes at = record {
  found_is = is.found_is;
  belongs = record {
    earlier = λ low. omega arith;
    at = λ same low some. record { entry = e.items; stands = subst (λ (s : Spot). IsAtSpot tree.shape pages own entries s e.items) (sym at) is.at; key = sym key };
  };
  kept = λ here.
      let within = is.at.within in
      let count = is.at.count in
      let some : 0 < spot.count = omega arith in
      record { unchanged = changes; somewhere = subst (λ (s : Spot). 0 < s.count) (sym at) some };
}

-- ---- the cursor of a tree that changes, and of one that does not
