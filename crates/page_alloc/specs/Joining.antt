-- A cache, a pager and a shelf, as the pages of a file.
use Rattle.std.specs.Prelude.{◌≡◌, ℕ, ◌+◌, ◌-◌, ◌^◌, ◌<◌, ◌≤◌, min, is_some, List, Option}
use Rattle.page_store.specs.ShelfState.{ShelfState}
use Rattle.page_cache.specs.declared.cache.Cache.{Cache}
use Rattle.page_cache.specs.Cached.{store_of, pages_asked, most_frames, cached_pages_of, IsOver}
use Rattle.page_cache.specs.Quietly.{GoesQuietly}
use Rattle.pages.specs.PagesState.{PagesState}
use Rattle.page_alloc.specs.declared.pager.Pager.{Pager}
use Rattle.page_alloc.specs.Chain.{chain, used}

-- how many pages are counted, the first free one, how many are free, and the greatest count
abbrev pub pages_counted : Pager → ℕ
pages_counted pager = pager.count

abbrev pub first_free_page : Pager → ℕ
first_free_page pager = pager.first

abbrev pub pages_free : Pager → ℕ
pages_free pager = pager.free

abbrev pub page_limit : Pager → ℕ
page_limit pager = pager.limit

abbrev pub pager_with : (count first free limit : ℕ) → Pager
pager_with count first free limit = record { count = count; first = first; free = free; limit = limit }

-- the free pages, the one to be taken next first; nothing where the chain is not what it should be
abbrev pub free_pages : Cache → Pager → ShelfState → Option (List ℕ)
free_pages cache pager shelf = chain (cached_pages_of cache shelf) pager.count pager.first pager.free

-- how many pages can be taken: the free ones, and the new ones up to the limit
abbrev pub available_of : Pager → ℕ
available_of pager = pager.free + (pager.limit - pager.count)

abbrev pub HasNoRoom : Pager → Type 0
HasNoRoom pager = available_of pager ≡ 0

abbrev pub pages_state : Cache → Pager → ShelfState → PagesState
pages_state cache pager shelf = record {
  live = used (cached_pages_of cache shelf) pager.count (free_pages cache pager shelf);
  available = available_of pager;
  asked = pages_asked cache;
  is_sound = is_some (free_pages cache pager shelf);
  is_honest = shelf.is_honest;
}

-- calls may be made
pub record IsJoined (cache : Cache) (pager : Pager) (shelf : ShelfState) : Type 0 where
  pub over : IsOver cache shelf
  -- the store has the pages that are counted
  pub counted : pager.count ≤ (store_of cache).pages
  pub header : 0 < pager.count

-- so, and there is a free page
pub record CanTakeFree (cache : Cache) (pager : Pager) (shelf : ShelfState) : Type 0 where
  pub ready : IsJoined cache pager shelf
  pub free : 0 < pager.free

-- so, and there is none
pub record CanTakeNew (cache : Cache) (pager : Pager) (shelf : ShelfState) : Type 0 where
  pub ready : IsJoined cache pager shelf
  pub free : pager.free ≡ 0

-- what a call leaves of cache and shelf, at a fault too: the unit, as many frames, no fewer pages,
-- a count of pages asked for that does not fall, other files; the unit's file went quietly
pub record PartsGo (old new : Cache) (before after : ShelfState) (failed fails : ℕ) : Type 0 where
  pub unit : (store_of new).unit ≡ (store_of old).unit
  pub cap : most_frames new ≡ most_frames old
  pub pages : (store_of old).pages ≤ (store_of new).pages
  pub asked : pages_asked old ≤ pages_asked new
  pub quietly : GoesQuietly (store_of old).unit before after
  pub faults : failed ≤ fails

-- the count of the device's faults rose, or stands at its greatest value
abbrev pub FaultsRose : ℕ → ℕ → Type 0
FaultsRose before after = min (before + 1) (2 ^ 64 - 1) ≤ after
