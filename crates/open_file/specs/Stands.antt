-- An open file stands for a list of rows.
use Rattle.std.specs.Prelude.{◌≡◌, ℕ, ◌+◌, ◌<◌, ◌≤◌, ◌^◌, Bool, ◌==◌, ◌&&◌, List, ◌∷◌, length, map}
use Rattle.std.specs.Prelude.{slice_index_or, drop, find, IsSome, IsTrue}
use Rattle.record_layout.specs.Schema.{Schema, IsSchema, key_at}
use Rattle.indexed_file.specs.File.{Row, File}
use Rattle.indexed_file.specs.Sound.{is_file}
use Rattle.indexed_file.specs.Room.{Room, Pages}
use Rattle.pages.specs.PageMap.{PageMap}
use Rattle.key_index.specs.declared.prime_index.PrimeIndex.{PrimeIndex}
use Rattle.key_index.specs.declared.alt_index.AltIndex.{AltIndex}
use Rattle.key_index.specs.Standing.{prime_height, alt_height, alt_key}
use Rattle.record_heap.specs.declared.heap.Heap.{Heap}
use Rattle.record_heap.specs.declared.shape.Place.{Place}
use Rattle.record_heap.specs.Chain.{Slots}
use Rattle.record_heap.specs.Standing.{slot_shape}
use Rattle.open_file.specs.InOrder.{alt_entries, prime_entries}
use Rattle.open_file.specs.Stored.{AreAt, stamps_length}
use Rattle.open_file.specs.Parts.{Parts}
use Rattle.open_file.specs.Paths.{IsOnPath}
use Rattle.open_file.specs.declared.open_file.OpenFile.{OpenFile}

-- the parts are made for this schema: known of every open file, whatever its pages hold
pub record HasParts (schema : Schema) (heap : Heap) (prime : PrimeIndex)
    (alternates : List AltIndex) : Type 0 where
  pub is_schema : IsSchema schema
  -- an index for each alternate key
  pub keys : length schema.keys ≡ length alternates + 1
  pub prime_width : prime.width ≡ (key_at schema 0).length
  pub widths : (j : ℕ) (index : AltIndex) → j < length alternates → index ≡ slice_index_or alternates j index
      → (index.width ≡ (key_at schema (j + 1)).length) × (index.prime ≡ (key_at schema 0).length)
  pub numbers : (j : ℕ) (index : AltIndex) → j < length alternates
      → index ≡ slice_index_or alternates j index → alt_key index ≡ j + 1
  -- a slot has room for the stamps and the longest record
  pub stamps : (slot_shape heap).stamps ≡ stamps_length (drop 1 schema.keys)
  pub least : (slot_shape heap).least ≡ schema.least
  pub greatest : (slot_shape heap).greatest ≡ schema.greatest

abbrev pub IsShaped : OpenFile → Type 0
IsShaped opened = HasParts opened.schema opened.heap opened.prime opened.alternates.items

abbrev pub is_same : Place → Place → Bool
is_same p q = (p.page == q.page) && (p.slot == q.slot)

-- the places of the rows, in the order of the rows
pub record IsPlaced (schema : Schema) (slots : Slots) (places : List Place) (rows : List Row) : Type 0 where
  pub rows_at : AreAt schema slots places rows
  -- no other slot is in use
  pub no_more : (p : Place) → IsSome (slots p) → IsSome (find (is_same p) places)

-- the pages stand for a file
pub record Stands (opened : OpenFile) (pages : PageMap) (file : File) : Type 0 where
  pub sound : IsTrue (is_file opened.schema file)
  pub stamp : opened.next_stamp ≡ file.next_stamp
  pub few : opened.next_stamp ≤ 2 ^ 63
  pub places : List Place
  pub slots : Slots
  pub placed : IsPlaced opened.schema slots places file.rows
  pub parts : Parts opened.heap opened.prime opened.alternates.items pages slots
      (prime_entries opened.schema places file.rows) (λ j. alt_entries opened.schema (j + 1) file.rows)
  pub on_path : IsOnPath opened.path opened.prime opened.alternates.items pages
      (prime_entries opened.schema places file.rows)
      (λ j. alt_entries opened.schema (j + 1) file.rows) parts.owns

-- the height of each key's tree
abbrev pub heights_in : PrimeIndex → List AltIndex → List ℕ
heights_in prime alternates = prime_height prime ∷ map alt_height alternates

abbrev pub heights_of : OpenFile → List ℕ
heights_of opened = heights_in opened.prime opened.alternates.items

-- the room of an open file
abbrev pub room_of : OpenFile → ℕ → Room
room_of opened available = Pages (heights_of opened) available
