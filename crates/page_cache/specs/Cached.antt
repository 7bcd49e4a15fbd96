-- The pages of a file, some of them in memory.
use Rattle.std.specs.Prelude.{◌≡◌, ℕ, ◌-◌, ◌^◌, ◌<◌, ◌≤◌, ltb, ◌&&◌, if◌then◌else◌, Bool, false, IsTrue}
use Rattle.std.specs.Prelude.{nat_eq, List, [], length, Option, Some, None, option_map}
use Rattle.std.specs.Option.{option_map_or}
use Rattle.std.specs.Map.{lookup}
use Rattle.page_cache.specs.HeldFrames.{Frame, held_frames}
use Rattle.page_store.specs.declared.store.Store.{Store}
use Rattle.page_store.specs.DeviceFile.{DeviceFile, content, page_of_bytes}
use Rattle.page_store.specs.Pages.{HoldsPages}
use Rattle.page_store.specs.ShelfState.{ShelfState, HasUnit, unit_file, WhereHonest}
use Rattle.page_cache.specs.declared.cache.Cache.{Cache}

-- its store, how often a page was asked for, how many pages are in memory, and how many may be
abbrev pub store_of : Cache → Store
store_of cache = cache.store

abbrev pub pages_asked : Cache → ℕ
pages_asked cache = cache.asked

abbrev pub pages_held : Cache → ℕ
pages_held cache = length cache.frames.entries

abbrev pub most_frames : Cache → ℕ
most_frames cache = cache.frames.cap

-- the same, with no page asked for yet
abbrev pub count_restarted : Cache → Cache
count_restarted cache = record cache { asked = 0 }

-- the frame of page n, if it is in memory
abbrev pub frame_of : Cache → ℕ → Option Frame
frame_of cache n = lookup (nat_eq n) cache.frames.entries

-- the bytes of page n, if it is in memory
abbrev pub bytes_held : Cache → ℕ → Option (List ℕ)
bytes_held cache n = option_map (λ frame. frame.page) (frame_of cache n)

-- n is a page of the store, and not the header
abbrev pub is_counted_page : Cache → ℕ → Bool
is_counted_page cache n = ltb 0 n && ltb n cache.store.pages

-- each page of the store as the cache shows it over a file; the header and what is past the last
-- page have no bytes here
abbrev pub cached_pages_in : Cache → DeviceFile → ℕ → List ℕ
cached_pages_in cache file n = option_map_or (λ frame. frame.page) (frame_of cache n)
    (if is_counted_page cache n then page_of_bytes (content file) n else [])

-- the pages over the unit's file
abbrev pub cached_pages_of : Cache → ShelfState → ℕ → List ℕ
cached_pages_of cache shelf = cached_pages_in cache (unit_file shelf cache.store.unit)

-- what a cache needs of the shelf that it is over
pub record IsOver (cache : Cache) (shelf : ShelfState) : Type 0 where
  pub attached : HasUnit shelf cache.store.unit
  -- a frame is of a page of the store
  pub counted : (n : ℕ) (frame : Frame) → frame_of cache n ≡ Some frame → IsTrue (is_counted_page cache n)
  pub pages : WhereHonest shelf cache.store.unit (HoldsPages cache.store.pages)
  -- a page that was not changed is that of the file
  pub clean : IsTrue shelf.is_honest → (n : ℕ) (frame : Frame) → frame_of cache n ≡ Some frame
      → frame.changed ≡ false → frame.page
      ≡ page_of_bytes (content (unit_file shelf cache.store.unit)) n

-- so, and n is a page of the store
pub record IsOverPage (n : ℕ) (cache : Cache) (shelf : ShelfState) : Type 0 where
  pub over : IsOver cache shelf
  pub page : IsTrue (is_counted_page cache n)

-- so, and it is not in memory
pub record IsOverMissing (n : ℕ) (cache : Cache) (shelf : ShelfState) : Type 0 where
  pub over : IsOver cache shelf
  pub page : IsTrue (is_counted_page cache n)
  pub absent : frame_of cache n ≡ None

-- so, and n is the page behind the last one
pub record IsOverNext (n : ℕ) (cache : Cache) (shelf : ShelfState) : Type 0 where
  pub over : IsOver cache shelf
  pub page : (0 < n) × (n ≡ cache.store.pages) × (n < 2 ^ 32 - 1)

-- so, and n is that one, or a page of the store
pub record IsOverPageOrNext (n : ℕ) (cache : Cache) (shelf : ShelfState) : Type 0 where
  pub over : IsOver cache shelf
  pub page : (0 < n) × (n ≤ cache.store.pages) × (n < 2 ^ 32 - 1)

-- it is over a file that has a header
pub record IsOverHeader (cache : Cache) (shelf : ShelfState) : Type 0 where
  pub over : IsOver cache shelf
  pub header : 0 < cache.store.pages

-- no page is in memory, at most so many may be, and none was asked for; it shows the pages of the
-- file, over each shelf that has them
pub record IsEmptyCache (store : Store) (most : ℕ) (cache : Cache) : Type 0 where
  pub store_is : cache.store ≡ store
  pub frames : cache.frames ≡ held_frames [] most
  pub asked : cache.asked ≡ 0
  pub over : (shelf : ShelfState) → HasUnit shelf store.unit
      → WhereHonest shelf store.unit (HoldsPages store.pages) → IsOver cache shelf
  pub pages : (shelf : ShelfState) (n : ℕ) → cached_pages_of cache shelf n
      ≡ (if is_counted_page cache n then page_of_bytes (content (unit_file shelf store.unit)) n else [])

-- no page in memory was changed since it was written
pub record IsClean (cache : Cache) : Type 0 where
  pub clean : (n : ℕ) (frame : Frame) → frame_of cache n ≡ Some frame → frame.changed ≡ false
