-- What the calls that write a page of a frame require and ensure.
use Rattle.std.specs.Prelude.{◌≡◌, ℕ, ◌-◌, ◌^◌, ◌<◌, List, Result, OnOk}
use Rattle.io_state.specs.declared.fault.Fault.{Fault}
use Rattle.page_store.specs.ShelfState.{ShelfState}
use Rattle.page_store.specs.declared.store.Store.{Store}
use Rattle.page_cache.specs.HeaderCalls.{HoldsPage}
use Rattle.page_cache.specs.Quietly.{WritesQuietly}
use Rattle.page_cache.specs.Rewrites.{IsOnShelf, Rewrites, Extends, AddsOrStays, IsZeros}

-- the store has page n, which is not the header
pub record HasPageToWrite (n : ℕ) (store : Store) (shelf : ShelfState) : Type 0 where
  pub page : (0 < n) × (n < store.pages)
  pub stored : IsOnShelf store shelf

-- page n is the one behind the last page of the store
pub record HasPageToAdd (n : ℕ) (store : Store) (shelf : ShelfState) : Type 0 where
  pub page : (0 < n) × (n ≡ store.pages) × (n < 2 ^ 32 - 1)
  pub stored : IsOnShelf store shelf

-- of shelves that show this state and count their faults so
module _ {H X : Type 0} (state : H → ShelfState) (count : H → ℕ) where
  -- a call that writes these bytes as page n, and no other page
  pub record WritesBack (n : ℕ) (page : List ℕ) (old new : Store) (before after : H)
      (result : Result X Fault) : Type 0 where
    pub store : new ≡ old
    pub written : OnOk result (HoldsPage old.unit n (state after) page)
    pub rewrites : Rewrites old n (state before) (state after)
    pub writes : WritesQuietly state count old.unit before after result

  -- a call that adds page n, of zeros
  pub record AddsZeros (n : ℕ) (page : List ℕ) (old new : Store) (before after : H)
      (result : Result X Fault) : Type 0 where
    pub added : AddsOrStays n page old new (state after) result
    pub zeros : IsZeros page
    pub extends : Extends old new (state before) (state after)
    pub writes : WritesQuietly state count old.unit before after result
