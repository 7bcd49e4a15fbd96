-- Slots that are taken one after another.
use Rattle.std.specs.Prelude.{◌≡◌, ℕ, List, [], ◌++◌, filter, refl}
use Rattle.std.proofs.Common.{sym, ap, subst, ◌∙◌, append_assoc, append-nil}
use Rattle.std.proofs.lemmas.List.{map-append}
use Rattle.std.proofs.lemmas.List.Elements.{filter-append}
use Rattle.record_layout.specs.declared.schema.KeyPart.{KeyPart}
use Rattle.salvaged_records.specs.Doubt.{prime_values, value_in}
use Rattle.salvaged_records.specs.Picking.{NotesSlots, is_picked, picked_values}
use Rattle.salvaged_records.specs.Sifting.{IsSifted, SiftsSlots}
use Rattle.salvaged_records.specs.Slots.{FoundSlot}
use Rattle.salvaged_records.specs.Values.{HasDoubles, HasValues}
use Rattle.salvaged_records.specs.declared.noting.Noting.{Noting}
use Rattle.salvaged_records.specs.declared.picking.Picks.{Picks}
use Rattle.salvaged_records.specs.declared.sifting.Sifting.{Sifting}

-- no slot was sifted, and more were
pub sifts_none : (a : Sifting) → SiftsSlots a a []
sifts_none a = record {
  prime_is = refl;
  sifted = λ values is. subst (IsSifted a.filter.words.items a.candidates) (sym (append-nil values)) is;
}

pub sifts_on : (a b c : Sifting) (first more : List FoundSlot) → SiftsSlots a b first → SiftsSlots b c more → SiftsSlots a c (first ++ more)
sifts_on a b c first more ab bc = record {
  prime_is = bc.prime_is ∙ ab.prime_is;
  sifted = λ values is.
      subst (IsSifted c.filter.words.items c.candidates)
      (append_assoc values (prime_values a.prime first) (prime_values b.prime more)
      ∙ ap (λ (p : KeyPart). values ++ (prime_values a.prime first ++ prime_values p more)) ab.prime_is
      ∙ ap (λ (l : List (List ℕ)). values ++ l) (sym (map-append (value_in a.prime) first more)))
      (bc.sifted (values ++ prime_values a.prime first) (ab.sifted values is));
}

-- the values of slots that are picked out, and of more
more_picked : (picks : Picks) (prime : KeyPart) (first more : List FoundSlot) → picked_values picks prime (first ++ more) ≡ picked_values picks prime first ++ picked_values picks prime more
more_picked picks prime first more =
    ap (prime_values prime) (filter-append (is_picked picks prime) first more)
    ∙ map-append (value_in prime) (filter (is_picked picks prime) first) (filter (is_picked picks prime) more)

-- no slot was noted, and more were
pub notes_none : (a : Noting) → NotesSlots a a []
notes_none a = record {
  prime_is = refl;
  picks_are = refl;
  noted = λ values has doubles. (subst (HasValues a.seen) (sym (append-nil values)) has, subst (HasDoubles a.twice) (sym (append-nil values)) doubles);
}

pub notes_on : (a b c : Noting) (first more : List FoundSlot) → NotesSlots a b first → NotesSlots b c more → NotesSlots a c (first ++ more)
notes_on a b c first more ab bc =
    let on : (values : List (List ℕ)) → (values ++ picked_values a.picks a.prime first) ++ picked_values b.picks b.prime more ≡ values ++ picked_values a.picks a.prime (first ++ more) =
    λ values. append_assoc values (picked_values a.picks a.prime first) (picked_values b.picks b.prime more)
    ∙ ap (λ (p : Picks). values ++ (picked_values a.picks a.prime first ++ picked_values p b.prime more)) ab.picks_are
    ∙ ap (λ (p : KeyPart). values ++ (picked_values a.picks a.prime first ++ picked_values a.picks p more)) ab.prime_is
    ∙ ap (λ (l : List (List ℕ)). values ++ l) (sym (more_picked a.picks a.prime first more)) in
    record {
      prime_is = bc.prime_is ∙ ab.prime_is;
      picks_are = bc.picks_are ∙ ab.picks_are;
      noted = λ values has doubles.
          let one = ab.noted values has doubles in
          let two = bc.noted (values ++ picked_values a.picks a.prime first) one.0 one.1 in
          (subst (HasValues c.seen) (on values) two.0, subst (HasDoubles c.twice) (on values) two.1);
    }
