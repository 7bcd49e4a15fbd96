-- Lines of slots on their way to the writer, and more of them.
use Rattle.std.proofs.Common.{◌≡◌, ◌<◌, ℕ, ◌+◌, List, [], ◌∷◌, ◌++◌, length, map, take, get_or, Option, sym, ap, subst, ◌∙◌, append_assoc, append-nil, arith}
use Rattle.std.specs.Prelude.{◌≤◌, Vec, vec_capacity, Result, Ok, Err, OnOk}
use Rattle.std.specs.Io.KnownBytes.{Appends}
use Rattle.std.proofs.KnownBytes.{Appends-nil, Appends-trans}
use Rattle.std.proofs.lemmas.List.{map_push, take_more}
use Rattle.std.proofs.lemmas.Grind.{flat_map-append}
use Rattle.record_text.specs.Room.{AddsInRoom, Grows}
use Rattle.record_text.specs.declared.form.Form.{Form}
use Rattle.streams.specs.Output.{HoldsText}
use Rattle.salvaged_records.specs.declared.used_slot.UsedSlot.{UsedSlot}
use Rattle.salvaged_records.specs.Slots.{found_slot}
use Rattle.salvaged_records.specs.declared.lead.Lead.{Lead}
use Rattle.salvaged_records.specs.Lines.{salvaged_line, salvaged_lines}

-- nothing more is held
pub none_held : (a : Option (List ℕ)) (held : List ℕ) → HoldsText a a held held []
none_held a held = record { taken = []; text_is = append-nil held; appends = Appends-nil a }

-- two texts are held one after the other
pub both_held : (a b c : Option (List ℕ)) (held then now first second : List ℕ) → HoldsText a b held then first → HoldsText b c then now second → HoldsText a c held now (first ++ second)
both_held a b c held then now first second one other = record {
  taken = one.taken ++ other.taken;
  text_is = sym (append_assoc held first second) ∙ ap (λ (l : List ℕ). l ++ second) one.text_is ∙ append_assoc one.taken then second
      ∙ ap (λ (l : List ℕ). one.taken ++ l) other.text_is ∙ sym (append_assoc one.taken other.taken now);
  appends = Appends-trans a b c one.taken other.taken one.appends other.appends;
}

-- a line that was put together in a room that has it
pub line_added : {Z E : Type 0} (line : List ℕ) (old new : Vec ℕ Z) (result : Result Unit E) → AddsInRoom old new line result → old.items ≡ [] → length line ≤ vec_capacity old → Grows old new line
line_added line old new (Ok done) adds none fits = adds
line_added line old new (Err fault) adds none fits =
    let empty = ap (λ (l : List ℕ). length l) none in
    let long = old.ok.0 in
    absurd (omega (arith, adds, fits, empty, long))

-- the lines of one slot more
lines_on : (lead : Lead) (form : Form) (slots : List UsedSlot) (i : ℕ) (slot : UsedSlot) → i < length slots → slot ≡ get_or slots i slot
    → salvaged_lines lead form (map found_slot (take (i + 1) slots)) ≡ salvaged_lines lead form (map found_slot (take i slots)) ++ salvaged_line lead form (found_slot slot)
lines_on lead form slots i slot within is =
    let more : take (i + 1) slots ≡ take i slots ++ slot ∷ [] = take_more slots i slot within ∙ ap (λ (s : UsedSlot). take i slots ++ s ∷ []) (sym is) in
    ap (λ (s : List UsedSlot). salvaged_lines lead form (map found_slot s)) more
    ∙ ap (salvaged_lines lead form) (map_push found_slot (take i slots) slot)
    ∙ flat_map-append (salvaged_line lead form) (map found_slot (take i slots)) (found_slot slot ∷ [])
    ∙ ap (λ (l : List ℕ). salvaged_lines lead form (map found_slot (take i slots)) ++ l) (append-nil (salvaged_line lead form (found_slot slot)))

pub slot_more : (lead : Lead) (form : Form) (slots : List UsedSlot) (i : ℕ) (slot : UsedSlot) → i < length slots → slot ≡ get_or slots i slot → (a b c : Option (List ℕ)) (held then now : List ℕ)
    → HoldsText a b held then (salvaged_lines lead form (map found_slot (take i slots))) → HoldsText b c then now (salvaged_line lead form (found_slot slot))
    → HoldsText a c held now (salvaged_lines lead form (map found_slot (take (i + 1) slots)))
slot_more lead form slots i slot within is a b c held then now one other =
    subst (HoldsText a c held now) (sym (lines_on lead form slots i slot within is))
    (both_held a b c held then now (salvaged_lines lead form (map found_slot (take i slots))) (salvaged_line lead form (found_slot slot)) one other)

-- what is held is handed over
pub handed : (a b c : Option (List ℕ)) (held now text : List ℕ) → HoldsText a b held now text → Appends b c now → Appends a c (held ++ text)
handed a b c held now text one over = subst (Appends a c) (sym one.text_is) (Appends-trans a b c one.taken now one.appends over)

-- a text is held first, and then what is held is written with more
pub all_handed : (a b c : Option (List ℕ)) (held now first more : List ℕ) → held ≡ [] → HoldsText a b held now first → Appends b c (now ++ more) → Appends a c (first ++ more)
all_handed a b c held now first more none one over =
    let text : first ≡ one.taken ++ now = ap (λ (l : List ℕ). l ++ first) (sym none) ∙ one.text_is in
    subst (Appends a c) (sym (ap (λ (l : List ℕ). l ++ more) text ∙ append_assoc one.taken now more)) (Appends-trans a b c one.taken (now ++ more) one.appends over)

-- what stands before a line is held, and then the line
pub second_held : {E : Type 0} (result : Result Unit E) (a b c : Option (List ℕ)) (held then now first second lead line : List ℕ) → first ≡ lead → second ≡ line → HoldsText a b held then first
    → OnOk result (HoldsText b c then now second) → OnOk result (HoldsText a c held now (lead ++ line))
second_held (Ok done) a b c held then now first second lead line lead_is line_is one other =
    both_held a b c held then now lead line (subst (HoldsText a b held then) lead_is one) (subst (HoldsText b c then now) line_is other)
second_held (Err fault) a b c held then now first second lead line lead_is line_is one other = tt

-- what is held is handed over, unless the writer refuses it
pub handed_if : {E : Type 0} (result : Result Unit E) (a b c : Option (List ℕ)) (held now text : List ℕ) → HoldsText a b held now text → OnOk result (Appends b c now) → OnOk result (Appends a c (held ++ text))
handed_if (Ok done) a b c held now text one over = handed a b c held now text one over
handed_if (Err fault) a b c held now text one over = tt
