-- What the shelf of a file's bytes shows.
use Rattle.std.specs.Prelude.{List, [], ◌∷◌, ℕ, Bool, true, false, Some, map}
use Rattle.page_store.specs.DeviceFile.{DeviceFile, absent, synced}
use Rattle.page_store.specs.ShelfState.{ShelfState}
use Rattle.record_listing.specs.declared.file_bytes.FileBytes.{FileBytes}

-- a file of these bytes, all of them on the disk
abbrev pub file_of_bytes : List ℕ → DeviceFile
file_of_bytes bytes = record { seen = Some bytes; log = synced bytes ∷ [] }

abbrev pub is_nil : List ℕ → Bool
is_nil [] = true
is_nil (byte ∷ bytes) = false

-- the empty name is that of the file, and no other
abbrev pub file_under : List ℕ → (name : List ℕ) → DeviceFile
file_under bytes [] = file_of_bytes bytes
file_under bytes (byte ∷ name) = absent

abbrev pub shelf_state_of : FileBytes → ShelfState
shelf_state_of shelf = record {
  names = map (λ name. name.bytes) shelf.units.items;
  file = file_under shelf.bytes.items;
  is_honest = true;
}
