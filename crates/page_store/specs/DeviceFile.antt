-- A file on a shelf: what reads give, and what has been asked of it since the shelf first met it.
use Rattle.std.specs.Prelude.{◌≡◌, ℕ, ◌+◌, ◌<◌, ◌≤◌, max, List, [], ◌++◌, length, take, drop, slice_index}
use Rattle.std.specs.Prelude.{Option, None, IsTrue, is_some, unwrap_or, ◌*◌}

-- what matters to a crash: the file was made, n bytes were written (or tried) at `at`, or it was
-- synced, and these were its bytes
pub data FileStep : Type 0 where
  created : FileStep
  wrote : ℕ → ℕ → FileStep
  synced : List ℕ → FileStep

pub record DeviceFile : Type 0 where
  -- what reads give, or nothing where the file is absent
  pub seen : Option (List ℕ)
  -- the oldest first
  pub log : List FileStep

-- a file that has never been there
abbrev pub absent : DeviceFile
absent = record { seen = None; log = [] }

abbrev pub bytes_or_none : Option (List ℕ) → List ℕ
bytes_or_none seen = unwrap_or seen []

-- the bytes of a file, none where it is absent
abbrev pub content : DeviceFile → List ℕ
content file = unwrap_or file.seen []

-- the file is there and has at least n bytes
pub record IsWithin (n : ℕ) (file : DeviceFile) : Type 0 where
  pub there : IsTrue (is_some file.seen)
  pub long : n ≤ length (content file)

-- the file is there
abbrev pub IsThere : DeviceFile → Type 0
IsThere file = IsWithin 0 file

-- the file is there, without a byte
pub record IsEmpty (file : DeviceFile) : Type 0 where
  pub there : IsThere file
  pub empty : content file ≡ []

-- it has as many bytes, or more
abbrev pub IsNoShorter : DeviceFile → DeviceFile → Type 0
IsNoShorter old new = length (content old) ≤ length (content new)

-- these bytes over those at `at`, and past the end
abbrev pub overlay : List ℕ → ℕ → List ℕ → List ℕ
overlay old at bytes = take at old ++ bytes ++ drop (at + length bytes) old

-- no shorter, longer at most up to the end of the range, and the same outside the range
pub record Torn (at n : ℕ) (old new : List ℕ) : Type 0 where
  pub no_shorter : length old ≤ length new
  pub no_longer : length new ≤ max (length old) (at + n)
  pub below : (i : ℕ) → i < length old → i < at → slice_index new i ≡ slice_index old i
  pub above : (i : ℕ) → i < length old → at + n ≤ i → slice_index new i ≡ slice_index old i

-- page n of these bytes
abbrev pub page_of_bytes : List ℕ → ℕ → List ℕ
page_of_bytes bytes n = take 4096 (drop (4096 * n) bytes)
