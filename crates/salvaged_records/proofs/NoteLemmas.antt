-- Values that are noted, of slots that are picked out.
use Rattle.std.proofs.Common.{◌≡◌, ℕ, Bool, true, false, cond, List, [], ◌∷◌, ◌++◌, sym, ap, subst, ◌∙◌, append-nil}
use Rattle.std.specs.BTreeSet.{BTreeSet}
use Rattle.std.specs.Global.{Vec}
use Rattle.record_layout.specs.declared.schema.KeyPart.{KeyPart}
use Rattle.salvaged_records.specs.Doubt.{prime_values, value_in}
use Rattle.salvaged_records.specs.Picking.{NotesSlots, is_picked, picked_values}
use Rattle.salvaged_records.specs.Slots.{FoundSlot}
use Rattle.salvaged_records.specs.Values.{HasDoubles, HasValues, NotesValue}
use Rattle.salvaged_records.specs.declared.noting.Noting.{Noting}
use Rattle.salvaged_records.specs.declared.picking.Picks.{Picks}

-- the values of one slot, where it is picked out, and where it is not
one_picked : (picks : Picks) (prime : KeyPart) (slot : FoundSlot) → is_picked picks prime slot ≡ true → picked_values picks prime (slot ∷ []) ≡ value_in prime slot ∷ []
one_picked picks prime slot is = ap (λ (b : Bool). prime_values prime (cond b (slot ∷ []) [])) is

none_picked : (picks : Picks) (prime : KeyPart) (slot : FoundSlot) → is_picked picks prime slot ≡ false → picked_values picks prime (slot ∷ []) ≡ []
none_picked picks prime slot is = ap (λ (b : Bool). prime_values prime (cond b (slot ∷ []) [])) is

-- the value of a slot that is picked out was noted
pub noted : (old new : Noting) (slot : FoundSlot) (value : List ℕ) → new.prime ≡ old.prime → new.picks ≡ old.picks → is_picked old.picks old.prime slot ≡ true → value ≡ value_in old.prime slot
    → NotesValue value old.seen new.seen old.twice new.twice → NotesSlots old new (slot ∷ [])
noted old new slot value prime_is picks_are picked is notes = record {
  prime_is = prime_is;
  picks_are = picks_are;
  noted = λ values has doubles.
      let one : values ++ value ∷ [] ≡ values ++ picked_values old.picks old.prime (slot ∷ []) =
      ap (λ (v : List ℕ). values ++ v ∷ []) is ∙ ap (λ (l : List (List ℕ)). values ++ l) (sym (one_picked old.picks old.prime slot picked)) in
      let both = notes values has doubles in
      (subst (HasValues new.seen) one both.0, subst (HasDoubles new.twice) one both.1);
}

-- a slot that is not was passed over
pub passed : (old new : Noting) (slot : FoundSlot) → new.prime ≡ old.prime → new.picks ≡ old.picks → new.seen ≡ old.seen → new.twice ≡ old.twice → is_picked old.picks old.prime slot ≡ false
    → NotesSlots old new (slot ∷ [])
passed old new slot prime_is picks_are same still not_so = record {
  prime_is = prime_is;
  picks_are = picks_are;
  noted = λ values has doubles.
      let none : values ≡ values ++ picked_values old.picks old.prime (slot ∷ []) =
      sym (append-nil values) ∙ ap (λ (l : List (List ℕ)). values ++ l) (sym (none_picked old.picks old.prime slot not_so)) in (
        subst (λ (s : BTreeSet (Vec ℕ)). HasValues s (values ++ picked_values old.picks old.prime (slot ∷ []))) (sym same) (subst (HasValues old.seen) none has),
        subst (λ (s : BTreeSet (Vec ℕ)). HasDoubles s (values ++ picked_values old.picks old.prime (slot ∷ []))) (sym still) (subst (HasDoubles old.twice) none doubles),
      );
}
