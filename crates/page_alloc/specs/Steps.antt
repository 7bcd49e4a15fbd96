-- What every call on the pages of an open file keeps, at a fault too.
use Rattle.std.specs.Prelude.{◌≡◌, ℕ, ◌≤◌, false, IsTrue}
use Rattle.page_store.specs.ShelfState.{ShelfState, unit_file, KeepsOthers}
use Rattle.page_cache.specs.HeaderCalls.{MayRefuse}
use Rattle.pages.specs.PagesState.{PagesState, KeepsEachPage}
use Rattle.page_alloc.specs.declared.paged_file.PagedFile.{PagedFile}
use Rattle.page_alloc.specs.Joining.{pages_state, PartsGo}
use Rattle.page_alloc.specs.PagedFile.{unit_of_pages, times_asked, most_held, IsOpenOver, IsKeptOrRefused}

-- what the pages of an open file show
abbrev pub pages_state_of : PagedFile → ShelfState → PagesState
pages_state_of held shelf = pages_state held.cache held.pager shelf

-- a call that leaves the gate and the limit of pages: behind a closed gate nothing is written,
-- behind an open one each crash image begins as some image before did
pub record KeepsGate (old new : PagedFile) (before after : ShelfState) (failed fails : ℕ) : Type 0 where
  pub parts : PartsGo old.cache new.cache before after failed fails
  pub gate : new.changed ≡ old.changed
  pub limit : new.pager.limit ≡ old.pager.limit
  pub ready : IsOpenOver old before → IsOpenOver new after
  pub still : IsOpenOver old before → old.changed ≡ false → after.file ≡ before.file

-- a call that only reads
pub record ReadsFilePages (old new : PagedFile) (before after : ShelfState) (failed fails : ℕ) : Type 0 where
  pub goes : KeepsGate old new before after failed fails
  pub pager : new.pager ≡ old.pager
  pub rests : KeepsEachPage (pages_state_of old before) (pages_state_of new after)

-- a call that may open the gate: at each moment a crash leaves what it could leave before, or a
-- refused file. As many frames stay, and the limit of pages; the count of pages asked for does not
-- fall
pub record MayOpenGate (old new : PagedFile) (before after : ShelfState) (failed fails : ℕ) : Type 0 where
  pub unit : unit_of_pages new ≡ unit_of_pages old
  pub cap : most_held new ≡ most_held old
  pub limit : new.pager.limit ≡ old.pager.limit
  pub asked : times_asked old ≤ times_asked new
  pub others : KeepsOthers (unit_of_pages old) before after
  pub faults : failed ≤ fails
  pub ready : IsOpenOver old before → IsOpenOver new after
  pub images : IsOpenOver old before → MayRefuse (unit_of_pages old) before after
  pub stands : IsOpenOver old before → IsTrue after.is_honest →
      IsKeptOrRefused (unit_file before (unit_of_pages old)) (unit_file after (unit_of_pages old))

-- so, of shelves that show this state and count their faults so
abbrev pub MayOpenGateOnShelf : {H : Type 0} → (H → ShelfState) → (H → ℕ) → (old new : PagedFile) → H → H
    → Type 0
MayOpenGateOnShelf state count old new before after =
    MayOpenGate old new (state before) (state after) (count before) (count after)
