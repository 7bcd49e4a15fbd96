-- Pages taken and given back, and why a call on them gave up.
use Rattle.std.specs.Prelude.{◌≡◌, ◌≢◌, ℕ, ◌+◌, ◌≤◌, IsTrue, IsSome, List}
use Rattle.io_state.specs.declared.fault.Fault.{Fault}
use Rattle.io_state.specs.declared.fault.Fault.TheVariants.{Damage}
use Rattle.page_cache.specs.declared.cache.Cache.{Cache}
use Rattle.page_cache.specs.Cached.{cached_pages_of}
use Rattle.page_store.specs.ShelfState.{ShelfState}
use Rattle.pages.specs.PageMap.{Takes, Gives}
use Rattle.pages.specs.PagesState.{PagesState}
use Rattle.pages.specs.Cause.{IsCaused}
use Rattle.page_alloc.specs.FreePage.{is_free, next_of}

-- page n was free, or is new, and is in use now; one page fewer can be taken
pub record Taken (old new : PagesState) (n : ℕ) : Type 0 where
  pub number : 1 ≤ n
  pub page : IsTrue new.is_honest → IsTrue old.is_sound → (bytes : List ℕ) × Takes old.live new.live n bytes
  pub sound : IsTrue new.is_honest → IsTrue old.is_sound → IsTrue new.is_sound
  pub one : new.available + 1 ≡ old.available

-- page n was in use, and is free now; one page more can be taken
pub record GivenBack (old new : PagesState) (n : ℕ) : Type 0 where
  pub page : IsTrue new.is_honest → IsSome (old.live n) → Gives old.live new.live n
  pub sound : IsTrue new.is_honest → IsSome (old.live n) → new.is_sound ≡ old.is_sound
  pub one : new.available ≡ old.available + 1

-- page n is a free one now, in front of this one, and every other page is as it was
pub record Freed (n next : ℕ) (old new : Cache) (before after : ShelfState) : Type 0 where
  pub free : IsTrue (is_free (cached_pages_of new after n))
  pub linked : next_of (cached_pages_of new after n) ≡ next
  pub others : IsTrue after.is_honest → (k : ℕ) → k ≢ n → cached_pages_of new after k
      ≡ cached_pages_of old before k

-- Damage only where the pages were not what they should be; other faults as elsewhere
pub record CallFails (sound failed lacks_room : Type 0) (fault : Fault) : Type 0 where
  pub caused : IsCaused failed lacks_room fault
  pub damage : sound → fault ≢ Damage
