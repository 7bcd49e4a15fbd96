-- One entry or separator more in a node: from its bytes to its pages.
use Rattle.std.proofs.Common.{◌≡◌, ℕ, ◌+◌, ◌-◌, ◌<◌, List, [], ◌∷◌, ◌++◌, length, take, drop, get_or, Option, Some, None, Ok, Err, Result, refl, ap, sym, subst, ◌∙◌, arith, add-one}
use Rattle.std.specs.Prelude.{IfOk, option_map, insert}
use Rattle.std.proofs.Math.Seq.{drop-cons}
use Rattle.std.proofs.lemmas.List.{take-append-drop, length-drop}
use Rattle.arrayvec.specs.ArrayVec.{ArrayVec}
use Rattle.io_state.specs.declared.fault.Fault.{Fault}
use Rattle.tree_node.specs.declared.shape.NodeShape.{NodeShape}
use Rattle.tree_node.specs.Leaf.{leaf_entries}
use Rattle.tree_node.specs.Inner.{separators, children}
use Rattle.tree_node.proofs.InnerLemmas.{inner_room_some}
use Rattle.pages.specs.PageMap.{PageMap}
use Rattle.tree_node.specs.declared.separator.Separator.{Separator}
use Rattle.tree_search.specs.Stored.{IsLeafAt, IsInnerAt}
use Rattle.pages.specs.Answer.{IsAnswer}
use Rattle.tree_node.specs.Put.{PutInLeaf, PutInInner}
use Rattle.bplus_tree.specs.Split.{IsSplitOrWhole, WritesParts}
use Rattle.bplus_tree.specs.Grow.{HasAddedToLeaf, HasAddedToInner}

-- an answer says as much of what follows from it
pub answer_map : {X : Type 0} {r : Result X Fault} {P Q : X → Type 0} → IsAnswer r P → ((x : X) → P x → Q x) → IsAnswer r Q
answer_map {r = Ok x} a f = record { answer = f x a.answer; no_damage = tt }
answer_map {r = Err e} a f = record { answer = tt; no_damage = a.no_damage }

module _ (shape : NodeShape) (before after : PageMap) (page : ℕ) (lower upper : List ℕ) where
  leaf_parts : (entries : List (List ℕ)) (key : Option (ArrayVec ℕ)) (up : Option Separator) → PutInLeaf shape lower upper entries key → IsSplitOrWhole before after page lower upper key up
      → option_map (λ (s : Separator). s.key) up ≡ key → HasAddedToLeaf shape before after page entries up
  leaf_parts entries None None put parts same =
      record { leaf = record { bytes = lower; there = parts.page; leaf = put.leaf; holds = put.has }; others = parts.others }
  leaf_parts entries (Some key) (Some separator) put parts same =
      let m = put.middle in
      let is : separator.key ≡ key = cc same in
      record {
        lower = leaf_entries shape lower;
        upper = leaf_entries shape upper;
        has = ap (λ (l : List (List ℕ)). l ++ leaf_entries shape upper) put.cut.below ∙ ap (λ (l : List (List ℕ)). take m entries ++ l) put.cut.above ∙ take-append-drop m entries;
        first = record { bytes = lower; there = parts.first; leaf = put.leaf; holds = refl };
        second = record { bytes = upper; there = parts.second; leaf = put.upper_leaf; holds = refl };
        full = put.full;
        key = ap (λ (k : ArrayVec ℕ). k.items) is ∙ put.first;
        free = parts.free;
        others = parts.others;
      }
  leaf_parts entries None (Some separator) put parts same = absurd parts
  leaf_parts entries (Some key) None put parts same = absurd parts

  inner_parts : (seps : List (List ℕ)) (below : List ℕ) (key : Option (ArrayVec ℕ)) (up : Option Separator) → PutInInner shape lower upper seps below key → IsSplitOrWhole before after page lower upper key up
      → option_map (λ (s : Separator). s.key) up ≡ key → HasAddedToInner shape before after page seps below up
  inner_parts seps below None None put parts same =
      record { inner = record { bytes = lower; there = parts.page; inner = put.inner; rises = put.has; leads = put.leads }; others = parts.others }
  inner_parts seps below (Some key) (Some separator) put parts same =
      let m = put.middle in
      let is : separator.key ≡ key = cc same in
      let room = inner_room_some shape in
      let some = put.full.1 in
      let long : length (separators shape upper) ≡ length seps - (m + 1) = ap length put.split.above ∙ length-drop (m + 1) seps in
      let inside : m < length seps = omega arith in
      let behind : separator.key.items ∷ separators shape upper ≡ drop m seps =
      ap (λ (k : ArrayVec ℕ). k.items ∷ separators shape upper) is ∙ ap (λ (k : List ℕ). k ∷ separators shape upper) put.split.between ∙ ap (λ (l : List (List ℕ)). get_or seps m [] ∷ l) (put.split.above ∙ ap (λ (n : ℕ). drop n seps) (add-one m))
      ∙ sym (drop-cons seps m [] inside) in
      record {
        lower = separators shape lower;
        upper = separators shape upper;
        lower_children = children shape lower;
        upper_children = children shape upper;
        has = ap (λ (l : List (List ℕ)). l ++ separator.key.items ∷ separators shape upper) put.split.below ∙ ap (λ (l : List (List ℕ)). take m seps ++ l) behind ∙ take-append-drop m seps;
        leads = ap (λ (l : List ℕ). l ++ children shape upper) put.cut.below ∙ ap (λ (l : List ℕ). take (m + 1) below ++ l) put.cut.above ∙ take-append-drop (m + 1) below;
        first = record { bytes = lower; there = parts.first; inner = put.inner; rises = refl; leads = refl };
        second = record { bytes = upper; there = parts.second; inner = put.upper_inner; rises = refl; leads = refl };
        full = put.full;
        free = parts.free;
        others = parts.others;
      }
  inner_parts seps below None (Some separator) put parts same = absurd parts
  inner_parts seps below (Some key) None put parts same = absurd parts

both_ok : {X : Type 0} (r : Result X Fault) (P Q R : X → Type 0) → ((x : X) → P x → Q x → R x) → IsAnswer r P → IfOk r Q → IsAnswer r R
both_ok (Ok x) P Q R f a q = record { answer = f x a.answer q; no_damage = tt }
both_ok (Err e) P Q R f a q = record { answer = tt; no_damage = a.no_damage }

-- a copy of a node was changed and written back
module _ (shape : NodeShape) (before mid after : PageMap) (is_sound : Type 0) (page place : ℕ) (bytes lower upper : List ℕ) (key : Option (ArrayVec ℕ)) (result : Result (Option Separator) Fault)
    (same : mid ≡ before) (there : before page ≡ Some bytes) (written : WritesParts page lower upper key result mid after is_sound) (keyed : IfOk result (λ up. option_map (λ (s : Separator). s.key) up ≡ key)) where
  wrote : IsAnswer result (λ up. IsSplitOrWhole before after page lower upper key up × is_sound)
  wrote = (subst (λ (m : PageMap). WritesParts page lower upper key result m after is_sound) same written) (rw there refl)

  pub leaf_rebuilt : (e : List ℕ) (entries : List (List ℕ)) → IsLeafAt shape before page entries → PutInLeaf shape lower upper (insert (leaf_entries shape bytes) place e) key
      → IsAnswer result (λ up. HasAddedToLeaf shape before after page (insert entries place e) up × is_sound)
  leaf_rebuilt e entries at put =
      let is : bytes ≡ at.bytes = cc (there, at.there) in
      let had : leaf_entries shape bytes ≡ entries = ap (leaf_entries shape) is ∙ at.holds in
      let put' = subst (λ (l : List (List ℕ)). PutInLeaf shape lower upper (insert l place e) key) had put in
      both_ok result (λ up. IsSplitOrWhole before after page lower upper key up × is_sound) (λ up. option_map (λ (s : Separator). s.key) up ≡ key) (λ up. HasAddedToLeaf shape before after page (insert entries place e) up × is_sound)
      (λ up parts k. (leaf_parts shape before after page lower upper (insert entries place e) key up put' parts.0 k, parts.1)) wrote keyed

  pub inner_rebuilt : (new : Separator) (seps : List (List ℕ)) (below : List ℕ) → IsInnerAt shape before page seps below
      → PutInInner shape lower upper (insert (separators shape bytes) place new.key.items) (insert (children shape bytes) (place + 1) new.child) key
      → IsAnswer result (λ up. HasAddedToInner shape before after page (insert seps place new.key.items) (insert below (place + 1) new.child) up × is_sound)
  inner_rebuilt new seps below at put =
      let is : bytes ≡ at.bytes = cc (there, at.there) in
      let had : separators shape bytes ≡ seps = ap (separators shape) is ∙ at.rises in
      let led : children shape bytes ≡ below = ap (children shape) is ∙ at.leads in
      let put' = subst (λ (l : List (List ℕ)). PutInInner shape lower upper (insert l place new.key.items) (insert below (place + 1) new.child) key) had
      (subst (λ (l : List ℕ). PutInInner shape lower upper (insert (separators shape bytes) place new.key.items) (insert l (place + 1) new.child) key) led put) in
      both_ok result (λ up. IsSplitOrWhole before after page lower upper key up × is_sound) (λ up. option_map (λ (s : Separator). s.key) up ≡ key)
      (λ up. HasAddedToInner shape before after page (insert seps place new.key.items) (insert below (place + 1) new.child) up × is_sound)
      (λ up parts k. (inner_parts shape before after page lower upper (insert seps place new.key.items) (insert below (place + 1) new.child) key up put' parts.0 k, parts.1)) wrote keyed
