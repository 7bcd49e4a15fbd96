-- Slots whose lines are held and counted.
use Rattle.std.proofs.Common.{◌≡◌, ℕ, ◌+◌, Bool, true, false, cond, List, [], ◌∷◌, ◌++◌, length, sym, ap, subst, ◌∙◌, append-nil, arith}
use Rattle.std.specs.Prelude.{vec_capacity, Option}
use Rattle.std.proofs.lemmas.List.{length-append}
use Rattle.std.proofs.lemmas.List.Elements.{filter-append}
use Rattle.std.proofs.lemmas.Grind.{flat_map-append}
use Rattle.record_text.specs.Room.{IsLineRoom}
use Rattle.streams.specs.Output.{HoldsText}
use Rattle.salvaged_records.specs.declared.held_lines.HeldLines.{HeldLines}
use Rattle.salvaged_records.specs.declared.slot_list.SlotList.{SlotList}
use Rattle.salvaged_records.specs.Lines.{salvaged_line, salvaged_lines}
use Rattle.salvaged_records.specs.Slots.{FoundSlot}
use Rattle.salvaged_records.specs.Writing.{HoldsSlots, is_of_kind, listed_slots}
use Rattle.salvaged_records.proofs.LineLemmas.{both_held, none_held}

module _ (list : SlotList) where
  -- of one slot
  listed_one : (slot : FoundSlot) (b : Bool) → is_of_kind list.kind list.doubts.now slot ≡ b → listed_slots list (slot ∷ []) ≡ cond b (slot ∷ []) []
  listed_one slot b is = ap (λ (c : Bool). cond c (slot ∷ []) []) is

  -- nothing was held
  pub holds_none : (a : Option (List ℕ)) (held : HeldLines) → IsLineRoom list.form.now 4077 (vec_capacity held.line) → HoldsSlots list a a held held []
  holds_none a held room = record { held = none_held a held.lines; counted = omega arith; roomy = room }

  pub holds_passed : (a : Option (List ℕ)) (held : HeldLines) (slot : FoundSlot) → is_of_kind list.kind list.doubts.now slot ≡ false → IsLineRoom list.form.now 4077 (vec_capacity held.line)
      → HoldsSlots list a a held held (slot ∷ [])
  holds_passed a held slot is room =
      let none = listed_one slot false is in
      record {
        held = subst (λ (l : List FoundSlot). HoldsText a a held.lines held.lines (salvaged_lines list.lead list.form.now l)) (sym none) (none_held a held.lines);
        counted = let zero : length (listed_slots list (slot ∷ [])) ≡ 0 = ap (λ (l : List FoundSlot). length l) none in omega (arith, zero);
        roomy = room;
      }

  pub holds_one : (a b : Option (List ℕ)) (old new : HeldLines) (slot : FoundSlot) → is_of_kind list.kind list.doubts.now slot ≡ true
      → HoldsText a b old.lines new.lines (salvaged_line list.lead list.form.now slot) → new.count ≡ old.count + 1 → IsLineRoom list.form.now 4077 (vec_capacity new.line) → HoldsSlots list a b old new (slot ∷ [])
  holds_one a b old new slot is held count room =
      let one = listed_one slot true is in
      record {
        held = subst (HoldsText a b old.lines new.lines)
            (sym (append-nil (salvaged_line list.lead list.form.now slot)) ∙ sym (ap (salvaged_lines list.lead list.form.now) one)) held;
        counted = let first : length (listed_slots list (slot ∷ [])) ≡ 1 = ap (λ (l : List FoundSlot). length l) one in omega (arith, first, count);
        roomy = room;
      }

  -- slots were held one after another
  pub holds_on : (a b c : Option (List ℕ)) (x y z : HeldLines) (first more : List FoundSlot) → HoldsSlots list a b x y first → HoldsSlots list b c y z more → HoldsSlots list a c x z (first ++ more)
  holds_on a b c x y z first more one other =
      let both : listed_slots list (first ++ more) ≡ listed_slots list first ++ listed_slots list more = filter-append (is_of_kind list.kind list.doubts.now) first more in
      let lines : salvaged_lines list.lead list.form.now (listed_slots list (first ++ more))
      ≡ salvaged_lines list.lead list.form.now (listed_slots list first) ++ salvaged_lines list.lead list.form.now (listed_slots list more) =
      ap (salvaged_lines list.lead list.form.now) both ∙ flat_map-append (salvaged_line list.lead list.form.now) (listed_slots list first) (listed_slots list more) in
      let many : length (listed_slots list (first ++ more)) ≡ length (listed_slots list first) + length (listed_slots list more) =
      ap (λ (l : List FoundSlot). length l) both ∙ length-append (listed_slots list first) (listed_slots list more) in
      let here = one.counted in
      let there = other.counted in
      record {
        held = subst (HoldsText a c x.lines z.lines) (sym lines)
            (both_held a b c x.lines y.lines z.lines (salvaged_lines list.lead list.form.now (listed_slots list first)) (salvaged_lines list.lead list.form.now (listed_slots list more)) one.held other.held);
        counted = omega (arith, here, there, many);
        roomy = other.roomy;
      }
