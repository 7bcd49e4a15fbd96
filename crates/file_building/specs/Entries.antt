-- The entries that an alternate key has of records.
use Rattle.std.specs.Prelude.{◌≡◌, ℕ, ◌+◌, ◌*◌, ◌/◌, List, [], ◌∷◌, ◌++◌, true, length, map, take, if◌then◌else◌}
use Rattle.record_layout.specs.Schema.{Schema, key_at, value_of, prime_of, has_duplicates}
use Rattle.pages.specs.Chunks.{chunks}
use Rattle.key_index.specs.declared.entry.AltEntry.{AltEntry}
use Rattle.key_index.specs.Stored.{entry_to}
use Rattle.file_building.specs.declared.ranked.Ranked.{Ranked}
use Rattle.file_building.specs.declared.kept_fronts.KeptFronts.{KeptFronts}

-- the stamp that a new record has in key k, 0 in a unique one
abbrev pub stamp_of_key : Schema → ℕ → ℕ → ℕ
stamp_of_key schema k stamp = if has_duplicates (key_at schema k) then stamp else 0

-- the entry that key k has of a new record
abbrev pub entry_of_new : Schema → ℕ → ℕ → List ℕ → AltEntry
entry_of_new schema k stamp bytes =
    entry_to (value_of schema k bytes) (stamp_of_key schema k stamp) (prime_of schema bytes)

-- the entry that is seen in its parts
abbrev pub entry_in : Ranked → AltEntry
entry_in ranked = entry_to ranked.value.now ranked.stamp ranked.prime.now

abbrev pub ranked_entries : List Ranked → List AltEntry
ranked_entries entries = map entry_in entries

-- the entries of records, of which the first takes this stamp
abbrev pub entries_from : Schema → ℕ → ℕ → List (List ℕ) → List AltEntry
entries_from schema k stamp [] = []
entries_from schema k stamp (bytes ∷ records) =
    entry_of_new schema k stamp bytes ∷ entries_from schema k (stamp + 1) records

-- the entries of records by their fronts, which lie one behind another; the first takes stamp 1
abbrev pub entries_of_fronts : Schema → ℕ → List ℕ → List AltEntry
entries_of_fronts schema k fronts =
    entries_from schema k 1 (chunks schema.least (length fronts / schema.least) fronts)

-- the front of each record, as many bytes as the shortest has: a value of each key is in it
pub record AreFronts (schema : Schema) (records : List (List ℕ)) (fronts : List ℕ) : Type 0 where
  pub long : length fronts ≡ length records * schema.least
  pub are : chunks schema.least (length records) fronts ≡ map (take schema.least) records

-- all fronts are kept that are to be
abbrev pub AreKeptFronts : Schema → List (List ℕ) → KeptFronts → Type 0
AreKeptFronts schema records fronts = fronts.are_all ≡ true → AreFronts schema records fronts.bytes.items

-- a call that keeps one more, where all are kept
pub record KeepsFront (old new : KeptFronts) (front : List ℕ) : Type 0 where
  pub were : new.are_all ≡ true → old.are_all ≡ true
  pub kept : new.are_all ≡ true → new.bytes.items ≡ old.bytes.items ++ front
