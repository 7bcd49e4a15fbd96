-- A root over the nodes of a level, and the levels between.
use Rattle.std.proofs.Common.{◌≡◌, ℕ, suc, ◌+◌, ◌-◌, ◌*◌, ◌^◌, ◌<◌, ◌≤◌, List, [], ◌∷◌, length, drop, get_or, None, refl, ap, sym, subst, ◌∙◌, arith, flat_map}
use Rattle.std.proofs.lemmas.Nat.{pow-add}
use Rattle.std.proofs.lemmas.List.{length-map, length-drop}
use Rattle.tree_node.specs.declared.shape.NodeShape.{NodeShape}
use Rattle.tree_node.specs.Order.{Ascends}
use Rattle.tree_node.specs.declared.separator.Separator.{Separator}
use Rattle.pages.specs.PageMap.{PageMap}
use Rattle.pages.specs.Owners.{AreApart, ChangesPages}
use Rattle.tree_search.specs.Tree.{TreeOf, entries_of, pages_of}
use Rattle.tree_search.specs.Stored.{Holds}
use Rattle.bplus_tree.proofs.RemoveLemmas.{changes_trans}
use Rattle.tree_building.specs.declared.rising.BuiltRoot.{BuiltRoot}
use Rattle.tree_building.specs.Level.{keys_of, leads_to, IsLevel}
use Rattle.std.specs.Global.{Vec}
use Rattle.std.specs.Prelude.{Result, Ok, Err}
use Rattle.io_state.specs.declared.fault.Fault.{Fault}
use Rattle.pages.specs.Answer.{IsAnswer}
use Rattle.tree_building.specs.Nodes.{HasAdded, AddsNode}
use Rattle.tree_building.specs.Filled.{AreFilled}
use Rattle.tree_building.specs.Rising.{HasNextLevel, HasRootOver, Rises, Roots}
use Rattle.tree_building.proofs.LedLemmas.{led_ordered, no_bounds}
use Rattle.tree_building.proofs.CountLemmas.{le_or, append_none}
use Rattle.tree_building.proofs.PageLemmas.{changes_more, changes_same, keeps_on}
use Rattle.tree_building.proofs.RisingLemmas.{tree_over, kids_live, node_holds, kids_filled, kids_led, entries_over, level_pages, level_length}

pub first_lead : (nodes : List Separator) (page : ℕ) (d : Separator) → leads_to nodes ≡ page ∷ [] → (get_or nodes 0 d).child ≡ page
first_lead [] page d e = cc e
first_lead (n ∷ ns) page d e = cc e

-- one node over all
pub rooted_over : (shape : NodeShape) (before after : PageMap) (h : ℕ) (kids : List (TreeOf h)) (nodes now : List Separator) (root levels : ℕ)
    → IsLevel shape before h nodes kids → 2 ≤ length nodes → AreApart (flat_map (pages_of h) kids) → (added : HasAdded shape nodes before after [] now)
    → root ≡ added.page → levels ≡ suc h → (left left_now : ℕ) → left_now + 1 ≡ left
    → HasRootOver shape left left_now before after h kids (record { root = root; levels = levels })
rooted_over shape before after h kids nodes now root levels level several apart added root_is levels_are left left_now one =
    let own = flat_map (pages_of h) kids in
    let t = tree_over h added.page (keys_of nodes) kids in
    let none = changes_same before [] tt in
    let here : Holds shape after (suc h) t = node_holds shape before before after h kids [] [] nodes [] now level none apart added in
    let filled = kids_filled shape h kids level.below in
    let led = kids_led shape before h nodes kids level in
    let dropped = length-drop 1 (keys_of nodes) in
    let keys = length-map nodes (λ (n : Separator). n.key.items) in
    let some : 1 ≤ length (drop 1 (keys_of nodes)) = omega arith in
    let changes : ChangesPages before after own (added.page ∷ own) =
    changes_more before before after [] own [] added.page added.bytes none added.takes apart (kids_live shape before h kids level.holds) tt in
    let at : HasRootOver shape left left_now before after h kids (record { root = added.page; levels = suc h }) = record {
      tree = t;
      whole = λ rises. record {
        stands = record { holds = here; root = refl; ordered = led_ordered shape (suc h) None None t filled led some rises (no_bounds shape.width (flat_map (entries_of h) kids)) };
        apart = changes.apart;
        filled = filled;
        rooted = some;
      };
      has = refl;
      filled = λ all. (
        record { front = []; last = length kids ∷ []; are = refl; few = omega arith; full = tt },
        subst (AreFilled shape h) (sym (append_none kids)) all,
      );
      taken = omega arith;
      changes = changes;
    } in
    subst (λ (r : ℕ). HasRootOver shape left left_now before after h kids (record { root = r; levels = levels })) (sym root_is)
    (subst (λ (l : ℕ). HasRootOver shape left left_now before after h kids (record { root = added.page; levels = l })) (sym levels_are) at)

-- a root over the level that was added
pub rooted_on : (shape : NodeShape) (before mid after : PageMap) (h : ℕ) (trees : List (TreeOf h)) (above : List Separator) (base : BuiltRoot)
    → (left left_mid left_now : ℕ) → left_mid + length above ≡ left
    → (risen : HasNextLevel shape before mid h trees above) → HasRootOver shape left_mid left_now mid after (suc h) risen.trees base
    → HasRootOver shape left left_now before after h trees base
rooted_on shape before mid after h trees above base left left_mid left_now took risen root =
    let same = entries_over shape before mid h trees above risen in
    record {
      tree = root.tree;
      whole = λ rises. root.whole (subst (Ascends shape.width) (sym same) rises);
      has = root.has ∙ same;
      filled = λ all. root.filled (risen.filled, subst (AreFilled shape h) (sym risen.over) all);
      taken =
          let all = root.taken in
          let many = level_pages h risen.trees in
          let nodes = level_length shape mid (suc h) above risen.trees risen.level in
          let below : length (flat_map (pages_of h) (flat_map (λ (t : TreeOf (suc h)). t.2) risen.trees)) ≡ length (flat_map (pages_of h) trees) =
          ap (λ (l : List (TreeOf h)). length (flat_map (pages_of h) l)) risen.over in
          omega arith;
      changes = changes_trans before mid after (flat_map (pages_of h) trees) (flat_map (pages_of (suc h)) risen.trees) (pages_of base.levels root.tree) risen.changes root.changes;
    }

pub answer_map : {X : Type 0} {r : Result X Fault} {P Q : X → Type 0} → IsAnswer r P → ((x : X) → P x → Q x) → IsAnswer r Q
answer_map {r = Ok x} is f = record { answer = f x is.answer; no_damage = tt }
answer_map {r = Err e} is f = record { answer = tt; no_damage = is.no_damage }

pub roots_on : (shape : NodeShape) (before mid after : PageMap) (nodes : List Separator) (levels : ℕ) (above : Vec Separator) (result : Result BuiltRoot Fault) (left left_mid left_now : ℕ)
    {is_sound still : Type 0} → left_mid + length above.items ≡ left
    → Rises shape nodes (Ok above) before mid is_sound → Roots shape above.items (levels + 1) result left_mid left_now mid after still
    → Roots shape nodes levels result left left_now before after still
roots_on shape before mid after nodes levels above result left left_mid left_now took rises roots = record {
  rooted = λ h trees same level apart.
      let risen = (rises.risen h trees level apart).answer in
      answer_map (roots.rooted (suc h) risen.trees (omega arith) risen.level risen.changes.apart)
      (λ base root. rooted_on shape before mid after h trees above.items base left left_mid left_now took risen root);
  kept = keeps_on rises.kept roots.kept;
  sound = roots.sound;
}

pub root_is_over : (shape : NodeShape) (before after : PageMap) (is_sound : Type 0) (nodes none now : List Separator) (levels : ℕ) (first : Separator) → 2 ≤ length nodes → none ≡ []
    → first ≡ get_or now 0 first → (left left_now : ℕ) → left_now + 1 ≡ left → AddsNode shape nodes none now (Ok tt) before after is_sound
    → Roots shape nodes levels (Ok (record { root = first.child; levels = levels + 1 })) left left_now before after is_sound
root_is_over shape before after is_sound nodes none now levels first several is_none is left left_now one adds =
    let added : HasAdded shape nodes before after [] now = subst (λ (l : List Separator). HasAdded shape nodes before after l now) is_none adds.added.answer in
    record {
      rooted = λ h trees same level apart. record {
        answer = rooted_over shape before after h trees nodes now first.child (levels + 1) level several apart added
            (ap (λ (n : Separator). n.child) is ∙ first_lead now added.page first added.leads) (omega arith) left left_now one;
        no_damage = tt;
      };
      kept = adds.kept;
      sound = adds.sound;
    }

-- each level has a sixteenth as many nodes, and one more at most

sixteen : (x : ℕ) → 2 ^ (4 + x) ≡ 16 * 2 ^ x
sixteen x = pow-add 2 4 x

few_more : (levels x many above : ℕ) → 64 - 4 * levels ≡ 4 + x → 64 - 4 * (levels + 1) ≡ x → many ≤ 2 ^ (64 - 4 * levels) + 1 → 16 * above ≤ many + 16
    → above ≤ 2 ^ (64 - 4 * (levels + 1)) + 1
few_more levels x many above e e' few share =
    let here : many ≤ 2 ^ (4 + x) + 1 = subst (λ k. many ≤ 2 ^ k + 1) e few in
    let there : many ≤ 16 * 2 ^ x + 1 = subst (λ k. many ≤ k + 1) (sixteen x) here in
    subst (λ k. above ≤ 2 ^ k + 1) (sym e') (omega arith)

pub few_above : (levels many above : ℕ) → many ≤ 2 ^ (64 - 4 * levels) + 1 → 16 < many → 16 * above ≤ many + 16
    → (above ≤ 2 ^ (64 - 4 * (levels + 1)) + 1) × (levels + 1 ≤ 16)
few_above levels many above few more share =
    le_or levels 15 ((above ≤ 2 ^ (64 - 4 * (levels + 1)) + 1) × (levels + 1 ≤ 16))
    (λ low. (few_more levels (64 - 4 * (levels + 1)) many above (omega arith) refl few share, omega arith))
    (λ high. let none : 64 - 4 * levels ≡ 0 = omega arith in let two : many ≤ 2 ^ 0 + 1 = subst (λ k. many ≤ 2 ^ k + 1) none few in absurd (omega arith))
