-- What the pages of an open file show to a proof.
use Rattle.pages.specs.PagesState.{PagesState}

-- of pages that are S
pub record ShownPages (S : Type 0) : Type 1 where
  -- what they show
  pub state : S → PagesState
  -- calls may be made, whatever the pages hold
  pub IsReady : S → Type 0
  -- pages may be changed: the gate of the file is open
  pub CanChange : S → Type 0
  -- what every call keeps that only reads, at a fault too
  pub Reads : S → S → Type 0
  -- what every call keeps, at a fault too, but one that may open the gate: each crash image begins
  -- as some image before it did
  pub Writes : S → S → Type 0
  -- what every call keeps, at a fault too
  pub Begins : S → S → Type 0
  -- the device has failed since
  pub HasFailed : S → S → Type 0
