-- What the calls of a cache keep of its pages.
use Rattle.std.specs.Prelude.{◌≡◌, ◌≢◌, ℕ, ◌+◌, ◌-◌, ◌^◌, ◌≤◌, min, max, IsTrue, IsSome}
use Rattle.std.specs.Prelude.{Result, IfOk, OnOk, OnErr}
use Rattle.io_state.specs.declared.fault.Fault.{Fault}
use Rattle.page_store.specs.ShelfState.{ShelfState, FaultHasCause}
use Rattle.page_cache.specs.declared.cache.Cache.{Cache}
use Rattle.page_cache.specs.Cached.{frame_of, cached_pages_of, IsOver, IsClean}
use Rattle.page_cache.specs.HeldFrames.{settled}
use Rattle.page_cache.specs.Room.{IsInFile, HasRoom}
use Rattle.page_cache.specs.Quietly.{GoesQuietly}
use Rattle.page_cache.specs.Rewrites.{IsZeros}

-- the same unit and pages, with as many frames
pub record KeepsStore (old new : Cache) : Type 0 where
  pub store : new.store ≡ old.store
  pub cap : new.frames.cap ≡ old.frames.cap

-- it shows the pages that it showed, and may go on over its shelf
pub record ShowsSame (old new : Cache) (before after : ShelfState) : Type 0 where
  pub over : IsOver new after
  pub pages : IsTrue after.is_honest → cached_pages_of new after ≡ cached_pages_of old before

-- so, of the same store, and nothing was written but quietly
pub record KeepsPages (old new : Cache) (before after : ShelfState) : Type 0 where
  pub over : IsOver new after
  pub pages : IsTrue after.is_honest → cached_pages_of new after ≡ cached_pages_of old before
  pub keeps : KeepsStore old new
  pub goes : GoesQuietly old.store.unit before after

-- page n holds zeros, and every other page what it held
pub record Zeroed (n : ℕ) (old new : Cache) (before after : ShelfState) : Type 0 where
  pub zeros : IsTrue after.is_honest → IsZeros (cached_pages_of new after n)
  pub others : IsTrue after.is_honest → (k : ℕ) → k ≢ n → cached_pages_of new after k
      ≡ cached_pages_of old before k
  pub store : new.store ≡ record old.store { pages = max old.store.pages (n + 1) }

-- it may go on over its shelf with as many frames, and nothing was written but quietly
pub record MayGoOn (old new : Cache) (before after : ShelfState) : Type 0 where
  pub over : IsOver new after
  pub cap : new.frames.cap ≡ old.frames.cap
  pub goes : GoesQuietly old.store.unit before after

-- where no page was changed, nothing is written and no page becomes changed
pub record OnlyLooks (old new : Cache) (before after : ShelfState) : Type 0 where
  pub clean : IsClean old → IsClean new
  pub file : IsClean old → after.file ≡ before.file

-- how often a page was asked for, with one time more
abbrev pub asked_once : Cache → ℕ
asked_once cache = min (cache.asked + 1) (2 ^ 64 - 1)

-- of shelves that show this state and count their faults so
module _ {H X : Type 0} (state : H → ShelfState) (count : H → ℕ) where
  -- a call that leaves all pages as they were, and pages asked for so many times
  pub record PagesStay (times : ℕ) (old new : Cache) (before after : H)
      (result : Result X Fault) : Type 0 where
    pub kept : KeepsPages old new (state before) (state after)
    pub asked : new.asked ≡ times
    pub cause : FaultHasCause (count before) (count after) result

  -- so, and it writes nothing where no page was changed
  pub record LooksUp (times : ℕ) (old new : Cache) (before after : H) (result : Result X Fault) : Type 0 where
    pub kept : KeepsPages old new (state before) (state after)
    pub asked : new.asked ≡ times
    pub grows : old.asked ≤ new.asked
    pub looks : OnlyLooks old new (state before) (state after)
    pub cause : FaultHasCause (count before) (count after) result

  -- so, and page n is held after it
  pub record BringsPage (n times : ℕ) (old new : Cache) (before after : H)
      (result : Result X Fault) : Type 0 where
    pub held : OnOk result (IsSome (frame_of new n))
    pub looks : LooksUp times old new before after result

  -- so, the cache is the same, and what stands at a place is so in the file after it
  pub record WritesPlace (place : ℕ) (old new : Cache) (before after : H) (result : Result X Fault) : Type 0
    where
      pub written : OnOk result (IsInFile place new (state after))
      pub same : new ≡ old
      pub looks : LooksUp old.asked old new before after result

  -- so, and it is marked as not changed
  pub record SettlesPlace (place : ℕ) (old new : Cache) (before after : H) (result : Result X Fault) : Type 0
    where
      pub settles : OnOk result (new.frames.entries ≡ settled place old.frames.entries)
      pub stay : PagesStay old.asked old new before after result

  -- a call that writes each page that was changed
  pub record WritesChanged (old new : Cache) (before after : H) (result : Result X Fault) : Type 0 where
    pub clean : OnOk result (IsClean new)
    pub stay : PagesStay old.asked old new before after result

  -- a call that makes page n one of zeros; a fault leaves all pages as they were
  pub record PutsZeros (n times : ℕ) (old new : Cache) (before after : H)
      (result : Result X Fault) : Type 0 where
    pub zeroed : OnOk result (Zeroed n old new (state before) (state after))
    pub kept : OnErr result (KeepsPages old new (state before) (state after))
    pub goes_on : MayGoOn old new (state before) (state after)
    pub asked : new.asked ≡ times
    pub grows : old.asked ≤ new.asked
    pub cause : FaultHasCause (count before) (count after) result

-- of shelves that show this state and count their faults so
module _ {H : Type 0} (state : H → ShelfState) (count : H → ℕ) where
  -- a place is answered at which a page may be put, and the cache is the same
  pub record MakesRoom (old new : Cache) (before after : H) (result : Result ℕ Fault) : Type 0 where
    pub room : IfOk result (λ place. HasRoom place new (state after))
    pub same : new ≡ old
    pub looks : LooksUp state count old.asked old new before after result
