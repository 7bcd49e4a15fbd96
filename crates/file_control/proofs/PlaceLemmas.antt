-- The item that a length depends on is one of the items.
use Rattle.std.proofs.Common.{◌≡◌, ℕ, suc, List, [], ◌∷◌, ◌++◌, length, Option, Some, None, ap}
use Rattle.std.proofs.lemmas.Option.{slice_get_within}
use Rattle.deck_entries.specs.declared.record_length.RecordLength.{RecordLength}
use Rattle.deck_entries.specs.declared.record_length.RecordLength.TheVariants.{Fixed, Varying}
use Rattle.deck_entries.specs.FileDescription.{StorageEntry}
use Rattle.file_control.specs.Description.{LengthItem, DependsOn, AreItems}
use Rattle.file_control.specs.Described.{IsPlaceIn}

nowhere : (count : ℕ) (place : Option ℕ) → place ≡ None → IsPlaceIn count place
nowhere count None e = tt
nowhere count (Some place) e = absurd (cc)

pub place_within : (storage : List StorageEntry) (lengths : Option RecordLength) (place : Option ℕ) → DependsOn storage lengths place → IsPlaceIn (length storage) place
place_within storage None place h = nowhere (length storage) place h
place_within storage (Some (Fixed n)) place h = nowhere (length storage) place h
place_within storage (Some (Varying lengths)) None h = absurd h
place_within storage (Some (Varying lengths)) (Some place) h = slice_get_within storage place h.1.0 h.1.1

-- there are as many items as entries of the working storage
pub as_many_items : (names : List (List ℕ)) (storage : List StorageEntry) (items : List LengthItem) → AreItems names storage items → length items ≡ length storage
as_many_items names [] items h = ap (λ (items : List LengthItem). length items) h
as_many_items names (entry ∷ storage) [] h = absurd h
as_many_items names (entry ∷ storage) (item ∷ items) h = ap (λ n. suc n) (as_many_items (names ++ entry.name ∷ []) storage items h.3)
