-- A file that is open, and what its making and its closing leave.
use Rattle.std.specs.Prelude.{◌≡◌, ◌⊎◌, ℕ, ◌*◌, ◌≤◌, if◌then◌else◌, List, [], ◌∷◌, length, drop, true, false}
use Rattle.std.specs.Prelude.{Bool, IsTrue, Some, Result, Err, OnErr}
use Rattle.io_state.specs.declared.fault.Fault.{Fault}
use Rattle.io_state.specs.declared.fault.Fault.TheVariants.{Memory}
use Rattle.page_cache.specs.HeaderCalls.{MayRefuse}
use Rattle.page_store.specs.DeviceFile.{DeviceFile, content, page_of_bytes}
use Rattle.page_store.specs.Images.{IsSettled}
use Rattle.page_store.specs.Moments.{Throughout}
use Rattle.page_store.specs.Gate.{IsClosed, IsRefused, AllOpen, AllRefused, SameOrRefused}
use Rattle.page_store.specs.Pages.{HoldsPages}
use Rattle.page_store.specs.ShelfState.{ShelfState, HasUnit, unit_file, WhereHonest, FileGoes, KeepsOthers}
use Rattle.page_store.specs.ShelfState.{FaultHasCause}
use Rattle.page_store.specs.declared.store.Store.{Store}
use Rattle.page_cache.specs.declared.cache.Cache.{Cache}
use Rattle.page_cache.specs.Cached.{store_of, pages_asked, most_frames, count_restarted}
use Rattle.page_cache.specs.Cached.{cached_pages_of, is_counted_page, IsClean}
use Rattle.page_alloc.specs.declared.pager.Pager.{Pager}
use Rattle.page_alloc.specs.declared.paged_file.PagedFile.{PagedFile}
use Rattle.page_alloc.specs.Joining.{IsJoined}

-- its cache, and its numbers of pages
abbrev pub cache_of : PagedFile → Cache
cache_of held = held.cache

abbrev pub counts_of : PagedFile → Pager
counts_of held = held.pager

-- whether a change was begun, and the file where one is
abbrev pub is_begun : PagedFile → Bool
is_begun held = held.changed

abbrev pub begun_from : PagedFile → PagedFile
begun_from held = record held { changed = true }

-- the unit of its file, how often a page was asked for, and how many may be in memory
abbrev pub unit_of_pages : PagedFile → ℕ
unit_of_pages held = (store_of held.cache).unit

abbrev pub times_asked : PagedFile → ℕ
times_asked held = pages_asked held.cache

abbrev pub most_held : PagedFile → ℕ
most_held held = most_frames held.cache

-- the same pages, with no page asked for yet
abbrev pub asked_anew : PagedFile → PagedFile
asked_anew held = record held { cache = count_restarted held.cache }

-- calls may be made, and the gate is open on the disk where a change was begun; where none was, no
-- page was changed
pub record IsOpenOver (held : PagedFile) (shelf : ShelfState) : Type 0 where
  pub joined : IsJoined held.cache held.pager shelf
  pub clean : held.changed ≡ false → IsClean held.cache
  pub gate : held.changed ≡ true → IsTrue shelf.is_honest → AllOpen (unit_file shelf (unit_of_pages held))

-- the pages of this unit, of which none but the header is counted, behind an open gate
pub record IsNewPagedFile (held : PagedFile) (unit limit : ℕ) : Type 0 where
  pub unit_is : unit_of_pages held ≡ unit
  pub pager : held.pager ≡ record { count = 1; first = 0; free = 0; limit = limit }
  pub asked : times_asked held ≡ 0
  pub changed : held.changed ≡ true

-- what reads give is as it was, or is refused, or the file is refused after every crash
abbrev pub IsKeptOrRefused : DeviceFile → DeviceFile → Type 0
IsKeptOrRefused old new = SameOrRefused old new ⊎ AllRefused new

-- of shelves that show this state and count their faults so: a call that makes this unit's file and
-- changes no other. At each moment a crash leaves what it could leave before, or a refused file, and
-- after a fault the file has gone so. It gives up where a call on the unit failed, or where memory
-- lacked before the first
pub record MakesPagedFile {H X : Type 0} (state : H → ShelfState) (count : H → ℕ) (unit : ℕ) (before after : H)
    (result : Result X Fault) : Type 0 where
  pub images : MayRefuse unit (state before) (state after)
  pub failed : OnErr result (IsTrue (state after).is_honest
      → FileGoes unit (state before) (state after) IsKeptOrRefused)
  pub others : KeepsOthers unit (state before) (state after)
  pub no_fewer : count before ≤ count after
  pub cause : FaultHasCause (count before) (count after) result ⊎ ((result ≡ Err Memory) × (after ≡ before))

-- these bytes have a closed gate, this header, and the pages that the cache showed, each of them whole
pub record IsClosedWith (page : List ℕ) (cache : Cache) (shelf : ShelfState) (bytes : List ℕ) : Type 0 where
  pub closed : IsClosed bytes
  pub long : 4096 * (store_of cache).pages ≤ length bytes
  pub header : page_of_bytes bytes 0 ≡ 67 ∷ drop 1 page
  pub pages : (k : ℕ) → IsTrue (is_counted_page cache k) → page_of_bytes bytes k
      ≡ cached_pages_of cache shelf k

-- the file has them, and a crash leaves nothing else
pub record ClosedWith (header : List ℕ) (cache : Cache) (shelf : ShelfState)
    (file : DeviceFile) : Type 0 where
  pub bytes : IsClosedWith header cache shelf (content file)
  pub settled : IsSettled file

-- at each moment a crash leaves a refused file, or such bytes
abbrev pub ClosesPages : List ℕ → Cache → ShelfState → DeviceFile → DeviceFile → Type 0
ClosesPages header cache shelf old new = Throughout (λ c. IsRefused c
    ⊎ ((bytes : List ℕ) × (c ≡ Some bytes) × IsClosedWith header cache shelf bytes)) old new

-- where the shelf is honest and a change was begun: at each moment a crash leaves a refused file,
-- or that which is closed at the end
abbrev pub MayShut : List ℕ → PagedFile → ShelfState → ShelfState → Type 0
MayShut header held before after = IsTrue after.is_honest → held.changed ≡ true
    → ClosesPages header held.cache before (unit_file before (unit_of_pages held))
    (unit_file after (unit_of_pages held))

-- where the shelf is honest and a change was begun, the file is closed with this header and the pages
abbrev pub IsShut : List ℕ → PagedFile → ShelfState → ShelfState → Type 0
IsShut header held before after = IsTrue after.is_honest → held.changed ≡ true
    → ClosedWith header held.cache before (unit_file after (unit_of_pages held))

-- the pages of a file that is there, with these numbers of pages and at most so many frames, of
-- which none was asked for; it shows the pages of the file, over each shelf that has them
pub record IsOldPagedFile (stored : Store) (most : ℕ) (numbers : Pager) (held : PagedFile) : Type 0 where
  pub pager : held.pager ≡ numbers
  pub changed : held.changed ≡ false
  pub store : store_of held.cache ≡ stored
  pub asked : times_asked held ≡ 0
  pub frames : most_held held ≡ most
  pub ready : (shelf : ShelfState) → HasUnit shelf stored.unit
      → WhereHonest shelf stored.unit (HoldsPages stored.pages) → IsOpenOver held shelf
  pub pages : (shelf : ShelfState) (n : ℕ) → cached_pages_of held.cache shelf n
      ≡ (if is_counted_page held.cache n then page_of_bytes (content (unit_file shelf stored.unit)) n else [])
