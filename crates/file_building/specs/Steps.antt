-- What each call keeps that builds.
use Rattle.std.specs.Prelude.{◌≡◌, Result, IfErr, IsTrue}
use Rattle.io_state.specs.declared.fault.Fault.{Fault}
use Rattle.pages.specs.ShownPages.{ShownPages}
use Rattle.tree_building.specs.Fresh.{IsBuildCause}

-- between two states there was one in which no page could be taken
pub record RanOutOfPages {S : Type 0} (shown : ShownPages S) (before after : S) : Type 0 where
  pub at : S
  pub since : shown.Writes before at
  pub until : shown.Writes at after
  pub none : (shown.state at).available ≡ 0

-- what it keeps, at a fault too: why it gave up
pub record KeepsWhileBuilding {S X : Type 0} (shown : ShownPages S) (before after : S)
    (result : Result X Fault) : Type 0 where
  pub cause : IfErr result (IsBuildCause (shown.HasFailed before after) (RanOutOfPages shown before after))
  pub step : shown.Writes before after

-- what is so where no wrong answer of the device was taken as true, and the pages were sound
abbrev pub WhereBuiltHonestly : {S : Type 0} → ShownPages S → (before after : S) → Type 0 → Type 0
WhereBuiltHonestly shown before after fact =
    IsTrue (shown.state after).is_honest → IsTrue (shown.state before).is_sound → fact
