-- What the pages of a file show, and what a loan of one leaves of it.
use Rattle.std.specs.Prelude.{◌≡◌, ℕ, Bool, IsTrue, List, Some, IsSome}
use Rattle.pages.specs.PageMap.{PageMap, Writes}

pub record PagesState : Type 0 where
  -- the pages in use
  pub live : PageMap
  -- how many pages can be taken
  pub available : ℕ
  -- how often a page was asked for
  pub asked : ℕ
  -- the free pages are what they should be
  pub is_sound : Bool
  -- no wrong answer of the device was taken as true; it may fall at any call, and no code can tell
  pub is_honest : Bool

-- these are the bytes of page n, where it is in use
abbrev pub Shows : PagesState → ℕ → List ℕ → Type 0
Shows pages n bytes = IsSome (pages.live n) → pages.live n ≡ Some bytes

-- no page has changed, and none was taken or given back
pub record KeepsEachPage (old new : PagesState) : Type 0 where
  pub live : IsTrue new.is_honest → new.live ≡ old.live
  pub sound : IsTrue new.is_honest → new.is_sound ≡ old.is_sound
  pub available : new.available ≡ old.available
  pub honest : IsTrue new.is_honest → IsTrue old.is_honest

-- page n was lent for writing, and these bytes were left in it
pub record LeavesPage (n : ℕ) (bytes : List ℕ) (old new : PagesState) : Type 0 where
  pub live : IsTrue new.is_honest → IsSome (old.live n) → Writes old.live new.live n bytes
  pub sound : IsTrue new.is_honest → IsSome (old.live n) → new.is_sound ≡ old.is_sound
  pub available : new.available ≡ old.available
  pub honest : IsTrue new.is_honest → IsTrue old.is_honest
