-- The gate: the first byte of a file says whether its pages can be relied on.
use Rattle.std.specs.Prelude.{◌≡◌, ◌⊎◌, ℕ, ◌<◌, ◌==◌, if◌then◌else◌, List, [], ◌∷◌, length, drop, Option}
use Rattle.std.specs.Prelude.{Some, None}
use Rattle.page_store.specs.DeviceFile.{DeviceFile, IsWithin, content}
use Rattle.page_store.specs.Images.{Leaves, IsSettled}
use Rattle.page_store.specs.Calls.{WrittenAt, WriteFails, Synced, SyncFails}

-- 'C' is the byte of a closed gate
abbrev pub IsClosed : List ℕ → Type 0
IsClosed [] = ⊥
IsClosed (x ∷ bytes) = x ≡ 67

-- there, and shorter than a page, or with an open gate
abbrev pub IsRefused : Option (List ℕ) → Type 0
IsRefused None = ⊥
IsRefused (Some bytes) = (length bytes < 4096) ⊎ (¬ (IsClosed bytes))

-- each image that a crash now may leave is refused
abbrev pub AllRefused : DeviceFile → Type 0
AllRefused file = (c : Option (List ℕ)) → Leaves file c → IsRefused c

-- there, with an open gate or empty
abbrev pub IsOpen : Option (List ℕ) → Type 0
IsOpen None = ⊥
IsOpen (Some bytes) = ¬ (IsClosed bytes)

-- each image that a crash now may leave has an open gate
abbrev pub AllOpen : DeviceFile → Type 0
AllOpen file = (c : Option (List ℕ)) → Leaves file c → IsOpen c

-- the bytes with another first byte
abbrev pub with_gate : ℕ → List ℕ → List ℕ
with_gate gate bytes = gate ∷ drop 1 bytes

-- what a crash could leave of this file already, or a refused file
abbrev pub WasOrRefused : DeviceFile → Option (List ℕ) → Type 0
WasOrRefused old c = Leaves old c ⊎ IsRefused c

-- what reads give is as it was, or is refused
abbrev pub SameOrRefused : DeviceFile → DeviceFile → Type 0
SameOrRefused old new = (new.seen ≡ old.seen) ⊎ IsRefused new.seen

-- no byte but the first has changed, and that one is there
pub record OnlyGate (old new : DeviceFile) : Type 0 where
  pub there : IsWithin 1 new
  pub long : length (content new) ≡ length (content old)
  pub rest : drop 1 (content new) ≡ drop 1 (content old)

-- the content of this file with a closed gate, or a refused file
abbrev pub ClosedOrRefused : DeviceFile → Option (List ℕ) → Type 0
ClosedOrRefused old c = (c ≡ Some (with_gate 67 (content old))) ⊎ IsRefused c

-- the first byte is written and synced
pub record GateWritten (gate : ℕ) (old new : DeviceFile) : Type 0 where
  pub unsynced : DeviceFile
  pub written : WrittenAt 0 (gate ∷ []) old unsynced
  pub synced : Synced unsynced new

-- the first byte is written and synced, but the write or the sync failed
abbrev pub GateFails : ℕ → DeviceFile → DeviceFile → Type 0
GateFails gate old new = WriteFails 0 1 old new ⊎ ((unsynced : DeviceFile)
    × WrittenAt 0 (gate ∷ []) old unsynced × SyncFails unsynced new)

-- a file made anew: without bytes it gets the open gate as its only one, and a closed gate is opened
abbrev pub opened_gate : List ℕ → List ℕ
opened_gate [] = 68 ∷ []
opened_gate (x ∷ bytes) = (if x == 67 then 68 else x) ∷ bytes

-- the gate is open, and on the disk
pub record Opens (old new : DeviceFile) : Type 0 where
  pub bytes : content new ≡ opened_gate (content old)
  pub settled : IsSettled new
