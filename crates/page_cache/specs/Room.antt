-- A place whose page may go.
use Rattle.std.specs.Prelude.{◌≡◌, ℕ, ◌<◌, ◌≤◌, length, IsTrue, slice_get, Some}
use Rattle.page_store.specs.DeviceFile.{content, page_of_bytes}
use Rattle.page_store.specs.ShelfState.{ShelfState, unit_file}
use Rattle.page_cache.specs.declared.cache.Cache.{Cache}
use Rattle.page_cache.specs.HeldFrames.{Frame, IsSeated}

-- what stands at the place is in the file
pub record IsInFile (place : ℕ) (cache : Cache) (shelf : ShelfState) : Type 0 where
  pub settled : IsTrue shelf.is_honest → (n : ℕ) (frame : Frame)
      → slice_get cache.frames.entries place ≡ Some (n, frame)
      → frame.page ≡ page_of_bytes (content (unit_file shelf cache.store.unit)) n

-- so, and a page may be put there
pub record HasRoom (place : ℕ) (cache : Cache) (shelf : ShelfState) : Type 0 where
  pub written : IsInFile place cache shelf
  pub seated : IsSeated cache.frames
  pub next : place ≤ length cache.frames.entries
  pub room : place < cache.frames.cap
