-- What the calls that take pages and give them back leave, at a fault too.
use Rattle.std.specs.Prelude.{◌≡◌, ℕ, ◌+◌, ◌≤◌, IsTrue, IsSome, Result, IfOk, IfErr, OnOk, OnErr, ⊤}
use Rattle.io_state.specs.declared.fault.Fault.{Fault}
use Rattle.page_store.specs.ShelfState.{ShelfState}
use Rattle.page_cache.specs.declared.cache.Cache.{Cache}
use Rattle.page_cache.specs.Cached.{pages_asked, cached_pages_of}
use Rattle.page_cache.specs.Calls.{KeepsPages}
use Rattle.pages.specs.PagesState.{KeepsEachPage}
use Rattle.page_alloc.specs.declared.pager.Pager.{Pager}
use Rattle.page_alloc.specs.FreePage.{is_free, next_of}
use Rattle.page_alloc.specs.Joining.{pages_state, free_pages, HasNoRoom, IsJoined, PartsGo, FaultsRose}
use Rattle.page_alloc.specs.Order.{TakesInOrder, GivesInOrder}
use Rattle.page_alloc.specs.Taking.{Taken, GivenBack, CallFails}

module _ {H : Type 0} (count : H → ℕ) where
  -- a fault of the call is no Damage where the pages were sound, and Full only where room was lacking
  abbrev pub FailsOnly : {X : Type 0} → Type 0 → Type 0 → H → H → Result X Fault → Type 0
  FailsOnly sound lacks_room before after result =
      IfErr result (CallFails sound (FaultsRose (count before) (count after)) lacks_room)

-- of shelves that show this state and count their faults so
module _ {H : Type 0} (state : H → ShelfState) (count : H → ℕ) where
  -- a call that asks for one page at most
  pub record AsksOnce (old new : Cache) (before after : H) : Type 0 where
    pub asked : pages_asked new ≤ pages_asked old + 1
    pub goes : PartsGo old new (state before) (state after) (count before) (count after)

  -- so, and further calls may be made, with the same limit of pages
  pub record PagerGoes (old new : Cache) (from to : Pager) (before after : H) : Type 0 where
    pub asked : pages_asked new ≤ pages_asked old + 1
    pub limit : to.limit ≡ from.limit
    pub goes : PartsGo old new (state before) (state after) (count before) (count after)
    pub ready : IsJoined new to (state after)

module _ {H : Type 0} (state : H → ShelfState) where
  -- the shelf is honest after a call before which the free pages were what they should be
  abbrev pub WasSound : Cache → Pager → H → H → Type 0
  WasSound cache pager before after = IsTrue (state after).is_honest
      × IsTrue (pages_state cache pager (state before)).is_sound

  -- the shelf is honest after a call before which page n was in use
  abbrev pub WasInUse : ℕ → Cache → Pager → H → H → Type 0
  WasInUse n cache pager before after = IsTrue (state after).is_honest
      × IsSome ((pages_state cache pager (state before)).live n)

  -- the shelf is honest after a call before which page n was marked as a free one
  abbrev pub WasMarked : ℕ → Cache → H → H → Type 0
  WasMarked n cache before after = IsTrue (state after).is_honest
      × IsTrue (is_free (cached_pages_of cache (state before) n))

  -- where the shelf is honest, the page that a free page links to is answered
  abbrev pub AnswersNext : {X : Type 0} → ℕ → Cache → H → H → Result ℕ X → Type 0
  AnswersNext n cache before after result = IsTrue (state after).is_honest
      → IfOk result (λ next. next ≡ next_of (cached_pages_of cache (state before) n))

  -- a call that takes a page, or leaves all of them as they were
  pub record TakesPage (old new : Cache) (from to : Pager) (before after : H)
      (result : Result ℕ Fault) : Type 0 where
    pub taken : IfOk result (Taken (pages_state old from (state before)) (pages_state new to (state after)))
    pub kept : OnErr result (KeepsEachPage (pages_state old from (state before))
        (pages_state new to (state after)))
    pub order : IsTrue (state after).is_honest → TakesInOrder from to (free_pages old from (state before))
        (free_pages new to (state after)) result

  -- a call that gives page n back, or leaves all pages as they were
  pub record GivesPage {X : Type 0} (n : ℕ) (old new : Cache) (from to : Pager) (before after : H)
      (result : Result X Fault) : Type 0 where
    pub given : OnOk result (GivenBack (pages_state old from (state before))
        (pages_state new to (state after)) n)
    pub kept : OnErr result (KeepsEachPage (pages_state old from (state before))
        (pages_state new to (state after)))
    pub order : IsTrue (state after).is_honest → IsSome ((pages_state old from (state before)).live n)
        → GivesInOrder n from to (free_pages old from (state before)) (free_pages new to (state after)) result

-- of shelves that show this state and count their faults so
module _ {H : Type 0} (state : H → ShelfState) (count : H → ℕ) where
  -- a call that takes a page: it is no Damage where the pages were sound, and Full only where room
  -- was lacking
  pub record PagerTakes (sound lacks_room : Type 0) (old new : Cache) (from to : Pager) (before after : H)
      (result : Result ℕ Fault) : Type 0 where
    pub takes : TakesPage state old new from to before after result
    pub fails : FailsOnly count sound lacks_room before after result
    pub goes : PagerGoes state count old new from to before after

  -- whichever: no Damage where the free pages were what they should be, and Full where none is left
  abbrev pub TakesAnyPage : (old new : Cache) (from to : Pager) → H → H → Result ℕ Fault → Type 0
  TakesAnyPage old new from to before after result = PagerTakes (WasSound state old from before after)
      (HasNoRoom from) old new from to before after result

  -- a free one: never Full
  abbrev pub TakesFreePage : (old new : Cache) (from to : Pager) → H → H → Result ℕ Fault → Type 0
  TakesFreePage old new from to before after result = PagerTakes (WasSound state old from before after)
      ⊥ old new from to before after result

  -- a new one: never Damage
  abbrev pub TakesNewPage : (old new : Cache) (from to : Pager) → H → H → Result ℕ Fault → Type 0
  TakesNewPage old new from to before after result = PagerTakes ⊤
      (HasNoRoom from) old new from to before after result

-- of shelves that show this state and count their faults so
module _ {H : Type 0} (state : H → ShelfState) (count : H → ℕ) {X : Type 0} where
  -- a fault of a call that gives page n back is no Damage where it was in use
  abbrev pub FailsToGive : ℕ → Cache → Pager → H → H → Result X Fault → Type 0
  FailsToGive n cache pager before after result =
      FailsOnly count (WasInUse state n cache pager before after) ⊥ before after result

  -- one of a call that follows free page n is no Damage where it was marked as free
  abbrev pub FailsToFollow : ℕ → Cache → H → H → Result X Fault → Type 0
  FailsToFollow n cache before after result =
      FailsOnly count (WasMarked state n cache before after) ⊥ before after result

-- of shelves that show this state and count their faults so
module _ {H : Type 0} (state : H → ShelfState) (count : H → ℕ) where
  -- a call that follows free page n
  pub record FollowsFree (n : ℕ) (old new : Cache) (before after : H) (result : Result ℕ Fault) : Type 0 where
    pub next : AnswersNext state n old before after result
    pub kept : KeepsPages old new (state before) (state after)
    pub fails : FailsToFollow state count n old before after result
    pub asks : AsksOnce state count old new before after
