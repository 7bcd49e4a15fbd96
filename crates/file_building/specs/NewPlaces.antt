-- Where the records of a heap lie in another one.
use Rattle.std.specs.Prelude.{◌≡◌, ◌≢◌, ◌⊎◌, ◌≤◌, ◌<◌, ◌+◌, ◌*◌, ℕ, nat_lt, length, slice_index_or, List, Option, Some, None, Result, OnOk, IfErr}
use Rattle.std.specs.Prelude.{if◌then◌else◌}
use Rattle.io_state.specs.declared.fault.Fault.{Fault}
use Rattle.io_state.specs.declared.fault.Fault.TheVariants.{Memory, Damage}
use Rattle.pages.specs.Answer.{IsAnswer}
use Rattle.record_heap.specs.declared.shape.Place.{Place}
use Rattle.key_index.specs.declared.entry.PrimeEntry.{PrimeEntry}
use Rattle.key_index.specs.Stored.{entry_at}
use Rattle.file_building.specs.declared.new_places.NewPlaces.{NewPlaces}

-- no place: it is in page 0
abbrev pub nowhere : Place
nowhere = record { page = 0; slot = 0 }

-- the number of a slot, where each page has so many
abbrev pub slot_number : ℕ → Place → ℕ
slot_number room p = p.page * room + p.slot

-- the same, where pages have such a slot
abbrev pub number_within : ℕ → Place → Option ℕ
number_within room p = if nat_lt p.slot room then Some (slot_number room p) else None

-- what is told at this number, if it is one
abbrev pub told_at : List Place → Option ℕ → Place
told_at places None = nowhere
told_at places (Some number) = slice_index_or places number nowhere

-- where the record lies now that was at a place: nowhere, where that is not known
abbrev pub new_place : NewPlaces → Place → Place
new_place places p = told_at places.places.items (number_within places.room p)

abbrev pub HasNewPlace : NewPlaces → Place → Type 0
HasNewPlace places p = 1 ≤ (new_place places p).page

-- an entry of the prime index, with the place that its record has now
abbrev pub moved_entry : NewPlaces → PrimeEntry → PrimeEntry
moved_entry places e = entry_at e.value.items (new_place places e.place)

-- of no place it is known
pub record AreNowhere (room : ℕ) (places : NewPlaces) : Type 0 where
  pub room_is : places.room ≡ room
  pub none : (p : Place) → new_place places p ≡ nowhere

-- a call that makes room for what is told of so many slots
pub record MakesRoomForPlaces (old new : NewPlaces) (count : ℕ) (result : Result Unit Fault) : Type 0 where
  pub made : OnOk result (count ≤ length new.places.items)
  pub same : (i : ℕ) → told_at new.places.items (Some i) ≡ told_at old.places.items (Some i)
  pub room : new.room ≡ old.room
  pub memory : IfErr result (λ fault. fault ≡ Memory)

-- a call that tells the new place of one, and leaves what is told of the others
pub record PutsPlace (old new : NewPlaces) (from to : Place) (result : Result Unit Fault) : Type 0 where
  pub put : from.slot < old.room → IsAnswer result (λ done. new_place new from ≡ to)
  pub others : OnOk result ((p : Place) → p ≢ from → new_place new p ≡ new_place old p)
  pub room : new.room ≡ old.room
  pub cause : IfErr result (λ fault. (fault ≡ Memory) ⊎ (fault ≡ Damage))
