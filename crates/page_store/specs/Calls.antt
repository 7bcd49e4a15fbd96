-- What the calls of a shelf do to a file.
use Rattle.std.specs.Prelude.{◌≡◌, ◌⊎◌, ℕ, Bool, is_some, List, [], ◌∷◌, ◌++◌, length, take, drop, Some}
use Rattle.page_store.specs.DeviceFile.{DeviceFile, created, wrote, synced, overlay, Torn, content}

-- whether the file is there
abbrev pub TellsWhetherThere : DeviceFile → Bool → Type 0
TellsWhetherThere file there = there ≡ is_some file.seen

-- how many bytes it has
abbrev pub TellsSize : DeviceFile → ℕ → Type 0
TellsSize file size = size ≡ length (content file)

-- these are the file's bytes at `at`
pub record ReadsBytes (file : DeviceFile) (at : ℕ) (bytes : List ℕ) : Type 0 where
  pub is : bytes ≡ take (length bytes) (drop at (content file))

-- the file is made, without a byte
pub record Created (old new : DeviceFile) : Type 0 where
  pub is : new ≡ record { seen = Some []; log = old.log ++ created ∷ [] }

-- a file that could not be made may be there after a crash, and may be seen or not
abbrev pub CreateFails : DeviceFile → DeviceFile → Type 0
CreateFails old new = (new ≡ old) ⊎ (Created old new
    ⊎ (new ≡ record { seen = old.seen; log = old.log ++ created ∷ [] }))

-- these bytes now stand at `at`
pub record WrittenAt (at : ℕ) (bytes : List ℕ) (old new : DeviceFile) : Type 0 where
  pub is : new ≡ record {
    seen = Some (overlay (content old) at bytes);
    log = old.log ++ wrote at (length bytes) ∷ [];
  }

-- a write that failed may have changed its range, and then counts as one; no other byte has changed
abbrev pub WriteFails : ℕ → ℕ → DeviceFile → DeviceFile → Type 0
WriteFails at n old new =
    (new ≡ old) ⊎ ((now : List ℕ) × Torn at n (content old) now
    × (new ≡ record { seen = Some now; log = old.log ++ wrote at n ∷ [] }))

-- what reads give is on the disk
pub record Synced (old new : DeviceFile) : Type 0 where
  pub is : new ≡ record { seen = Some (content old); log = old.log ++ synced (content old) ∷ [] }

-- a sync that failed may have been done
abbrev pub SyncFails : DeviceFile → DeviceFile → Type 0
SyncFails old new = (new ≡ old) ⊎ Synced old new
