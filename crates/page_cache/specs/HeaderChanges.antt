-- What the calls on the header page, and the one that closes the gate, ensure.
use Rattle.std.specs.Prelude.{◌≡◌, ℕ, List, Result, OnOk}
use Rattle.io_state.specs.declared.fault.Fault.{Fault}
use Rattle.page_store.specs.ShelfState.{ShelfState, FileGoes, OnlyAnswers, ChangesOnly, FaultHasCause}
use Rattle.page_cache.specs.declared.cache.Cache.{Cache}
use Rattle.page_cache.specs.Cached.{IsOver}
use Rattle.page_cache.specs.Calls.{ShowsSame, PagesStay}
use Rattle.page_cache.specs.HeaderCalls.{WasPage, HoldsHeader, MayClose, IsClosedAnew}

-- of shelves that show this state and count their faults so
module _ {H X : Type 0} (state : H → ShelfState) (count : H → ℕ) where
  -- a call that reads the header page
  pub record ReadsHeader (cache : Cache) (page : List ℕ) (before after : H)
      (result : Result X Fault) : Type 0 where
    pub answer : OnOk result (WasPage cache.store.unit 0 (state before) (state after) page)
    pub over : IsOver cache (state after)
    pub only : OnlyAnswers (state before) (state after)
    pub cause : FaultHasCause (count before) (count after) result

  -- a call that writes these bytes as the header page, but for the gate
  pub record WritesHeader (page : List ℕ) (old new : Cache) (before after : H)
      (result : Result X Fault) : Type 0 where
    pub written : OnOk result (HoldsHeader old.store.unit (state before) (state after) page)
    pub same : new ≡ old
    pub stay : PagesStay state count old.asked old new before after result

  -- a call that closes the gate, and changes no other file
  pub record FinishesChange (cache : Cache) (before after : H) (result : Result X Fault) : Type 0 where
    pub images : MayClose cache.store.unit (state before) (state after)
    pub closed : OnOk result (FileGoes cache.store.unit (state before) (state after) IsClosedAnew)
    pub same : OnOk result (ShowsSame cache cache (state before) (state after))
    pub only : ChangesOnly cache.store.unit (state before) (state after)
    pub cause : FaultHasCause (count before) (count after) result
