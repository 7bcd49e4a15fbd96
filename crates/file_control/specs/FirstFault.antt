-- The first fault of the entries of a deck, and of the files and the 77-level items that they
-- describe, by its line and its code. In which order they are looked at is ours.
use Rattle.std.specs.Prelude.{◌≡◌, ◌≤◌, ◌⊎◌, ℕ, Bool, true, not, List, [], ◌∷◌, ◌++◌, length, drop, codes, find}
use Rattle.std.specs.Prelude.{Option, Some, None, is_some, position, bytes_eq, IsTrue, IsFalse, Result, IfErr}
use Rattle.deck_parser.specs.Class.{this, begins}
use Rattle.deck_parser.specs.Rule.{Stop, stop_at, stop_behind}
use Rattle.deck_parser.specs.Unfit.{IsFirstLine}
use Rattle.deck_parser.specs.Fault.{IsFault, told, fault_of}
use Rattle.deck_parser.specs.Word.{Word}
use Rattle.deck_parser.specs.declared.fault.DeckFault.{DeckFault}
use Rattle.deck_parser.specs.declared.fault.ParseRefusal.{ParseRefusal}
use Rattle.record_layout.specs.Layout.{IsLayout, length_of}
use Rattle.deck_entries.specs.FileControlEntry.{FileControlEntry}
use Rattle.deck_entries.specs.FileDescription.{FileDescription, StorageEntry}
use Rattle.deck_entries.specs.declared.divisions.Divisions.{Divisions}
use Rattle.deck_entries.specs.declared.record_length.RecordLength.{RecordLength}
use Rattle.deck_entries.specs.declared.record_length.RecordLength.TheVariants.{Fixed, Varying}
use Rattle.deck_entries.specs.Divisions.{SpellsDivisions, reads_divisions, divisions_stop}
use Rattle.file_control.specs.Checks.{are_keys_named, are_new}
use Rattle.file_control.specs.Description.{FileDesc, IsFile, GivesKeys, DependsOn, HasDigits}
use Rattle.file_control.specs.Description.{least_length, has_name, with_names}

-- ---- what is looked at, one after another

-- this has to be so, or else the first fault is this one; it may be a later one where it is so
abbrev pub Needs : Bool → DeckFault → (DeckFault → Type 0) → DeckFault → Type 0
Needs is_so lacking Later fault = (IsFalse is_so × (fault ≡ lacking)) ⊎ (IsTrue is_so × Later fault)

-- there has to be one of which this is so, or else the first fault is this one
abbrev pub NeedsOne : {A : Type 0} → (A → Type 0) → DeckFault → (A → DeckFault → Type 0) → DeckFault → Type 0
NeedsOne {A} Is lacking Later fault =
    (((x : A) → Is x → ⊥) × (fault ≡ lacking)) ⊎ ((x : A) × Is x × Later x fault)

-- ---- 77-level items

-- the first fault of these items, each told at its level number, behind these data names: 4 for a
-- name that is there already, 7 for a picture that is not one of digits
abbrev pub IsItemFault : List (List ℕ) → List StorageEntry → DeckFault → Type 0
IsItemFault names [] fault = ⊥
IsItemFault names (entry ∷ entries) fault =
    Needs (not (has_name names entry.name)) (fault_of entry.line 4)
    (NeedsOne (HasDigits entry.picture) (fault_of entry.line 7)
    (λ digits fault. IsItemFault (names ++ entry.name ∷ []) entries fault)) fault

-- ---- files

-- where a record's length depends on an item, there is an item of this name
abbrev pub has_length_item : List StorageEntry → Option RecordLength → Bool
has_length_item storage None = true
has_length_item storage (Some (Fixed n)) = true
has_length_item storage (Some (Varying lengths)) =
    is_some (position (λ entry. bytes_eq entry.name lengths.item) storage)

-- the first fault of a file, told at SELECT or at FD, behind the data names of earlier files. In
-- this order: the keys are items, the items are a record, the lengths are those of the record, no
-- name is there already, DEPENDING ON names an item that has digits enough, the keys are a file's
abbrev pub IsFileFault : List (List ℕ) → List StorageEntry → FileControlEntry → FileDescription
    → DeckFault → Type 0
IsFileFault names storage entry description =
    Needs (are_keys_named description.items entry) (fault_of entry.line 3)
    (NeedsOne (IsLayout description.items) (fault_of description.line 7) (λ layout.
    NeedsOne (λ least. least_length description.lengths (length_of layout) ≡ Some least)
    (fault_of description.line 7) (λ least.
    Needs (are_new names description.items) (fault_of description.line 4)
    (Needs (has_length_item storage description.lengths) (fault_of description.line 3)
    (NeedsOne (DependsOn storage description.lengths) (fault_of description.line 7) (λ place.
    NeedsOne (GivesKeys layout least entry) (fault_of entry.line 7) (λ schema fault. ⊥)))))))

-- the first fault of the files of these entries, in their order, and then of the items: 3 at SELECT
-- where a file has no description
abbrev pub IsFilesFault : List FileDescription → List StorageEntry → List (List ℕ) → List FileControlEntry
    → DeckFault → Type 0
IsFilesFault descriptions storage names [] fault = IsItemFault names storage fault
IsFilesFault descriptions storage names (entry ∷ entries) fault =
    NeedsOne (λ description. find (λ description. bytes_eq description.name entry.name) descriptions
    ≡ Some description) (fault_of entry.line 3) (λ description fault.
    IsFileFault names storage entry description fault
    ⊎ ((file : FileDesc) × IsFile names storage entry description file
    × IsFilesFault descriptions storage (with_names names description.items) entries fault)) fault

-- ---- descriptions

-- the first fault of what the divisions describe
abbrev pub IsContentsFault : Divisions → DeckFault → Type 0
IsContentsFault divisions = IsFilesFault divisions.descriptions divisions.storage [] divisions.entries

-- some words at the front are these divisions, and the word PROCEDURE stands behind them
abbrev pub HasDivisions : List Word → Divisions → Type 0
HasDivisions words divisions =
    (count : ℕ) × (count ≤ length words) × SpellsDivisions divisions words (drop count words)
    × IsTrue (begins (this (codes "PROCEDURE") ∷ []) (drop count words))

-- where the reading of words stops that have no divisions: where the rules stop, or, with code 2, at
-- the first word behind what they read
abbrev pub entries_stop : List Word → Stop
entries_stop words = stop_behind (reads_divisions words) (divisions_stop words) (λ read. stop_at read.1 2)

-- the words have no divisions, and the fault is told where their reading stops: in the line of the
-- word there, and with the code that it has
pub record IsEntriesFault (words : List Word) (fault : DeckFault) : Type 0 where
  pub none : (divisions : Divisions) → HasDivisions words divisions → ⊥
  pub line : IsFirstLine (entries_stop words).words fault.line
  pub code : fault.code ≡ (entries_stop words).code

-- the words have no description: they have no divisions, or these have a fault, and this is the first
abbrev pub IsDescriptionFault : List Word → DeckFault → Type 0
IsDescriptionFault words fault = IsEntriesFault words fault
    ⊎ ((divisions : Divisions) × HasDivisions words divisions × IsContentsFault divisions fault)

-- ---- what is told

-- where a call is refused, but for want of memory, what is told of it is a fault of which this is so
abbrev pub TellsFault : {T : Type 0} → (DeckFault → Type 0) → Result T ParseRefusal → Type 0
TellsFault Is result = IfErr result (λ refused. IsFault refused → Is (told refused))
