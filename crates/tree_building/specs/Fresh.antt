-- A page that was not in use, and what a call keeps that writes no other.
use Rattle.std.specs.Prelude.{◌≡◌, ◌≢◌, ◌≤◌, ◌<◌, ◌+◌, ◌^◌, ℕ, List, Result, IsSome, IfErr, OnOk}
use Rattle.io_state.specs.declared.fault.Fault.{Fault}
use Rattle.io_state.specs.declared.fault.Fault.TheVariants.{Device, Full, Memory, Broken}
use Rattle.pages.specs.PageMap.{PageMap, Takes}
use Rattle.pages.specs.ShownPages.{ShownPages}
use Rattle.pages.specs.Answer.{IsAnswer}
use Rattle.bplus_tree.specs.Changes.{WhereSound}

-- every page that was in use is as it was
abbrev pub KeepsInUse : PageMap → PageMap → Type 0
KeepsInUse before after = (n : ℕ) → IsSome (before n) → after n ≡ before n

-- a page that was not in use has these bytes; a fault too keeps the pages in use
pub record PutsPage (bytes : List ℕ) (result : Result ℕ Fault) (before after : PageMap)
    (is_sound : Type 0) : Type 0 where
  pub put : IsAnswer result (λ n. Takes before after n bytes)
  pub kept : KeepsInUse before after
  pub sound : is_sound

-- Device only where the device has failed, Full only under this condition, and never Broken
pub record IsBuildCause (failed lacks_room : Type 0) (fault : Fault) : Type 0 where
  pub device : fault ≡ Device → failed
  pub full : fault ≡ Full → lacks_room
  pub not_broken : fault ≢ Broken

-- what a call leaves of the pages, and how many can be taken before and after it
abbrev pub WhereCounted : {S : Type 0} → ShownPages S → (old new : S)
    → (ℕ → ℕ → PageMap → PageMap → Type 0 → Type 0) → Type 0
WhereCounted shown old new Leaves =
    WhereSound shown old new (Leaves (shown.state old).available (shown.state new).available)

-- so many pages were taken
abbrev pub TakesExactly : {S X : Type 0} → ShownPages S → ℕ → (old new : S) → Result X Fault
    → Type 0
TakesExactly shown count old new result =
    OnOk result ((shown.state new).available + count ≡ (shown.state old).available)

-- a page was taken for each leaf that was written: so many were before, and so many are now
abbrev pub TakesForLeaves : {S X : Type 0} → ShownPages S → (were are : ℕ) → (old new : S) → Result X Fault
    → Type 0
TakesForLeaves shown were are old new result =
    OnOk result (are + (shown.state new).available ≡ were + (shown.state old).available)

-- memory lacks only once a page was taken
abbrev pub LacksMemoryLate : {S X : Type 0} → ShownPages S → (old new : S) → Result X Fault → Type 0
LacksMemoryLate shown old new result =
    IfErr result (λ fault. fault ≡ Memory
    → (shown.state new).available < (shown.state old).available)

-- what a call keeps, at a fault too, that takes pages and gives none back; it answers Full only
-- where no page is left, and Memory only where it took one
pub record TakesNewPages {S X : Type 0} (shown : ShownPages S) (old new : S)
    (result : Result X Fault) : Type 0 where
  pub few : (shown.state new).available ≤ (shown.state old).available
  pub cause : IfErr result (IsBuildCause (shown.HasFailed old new) ((shown.state new).available ≡ 0))
  pub memory : LacksMemoryLate shown old new result
  pub step : shown.Writes old new

-- the same of a call that adds one to so many entries, of which there are fewer than 2^64
pub record TakesForEntry {S X : Type 0} (shown : ShownPages S) (count : ℕ) (old new : S)
    (result : Result X Fault) : Type 0 where
  pub few : (shown.state new).available ≤ (shown.state old).available
  pub cause : IfErr result (IsBuildCause (shown.HasFailed old new) ((shown.state new).available ≡ 0))
  pub memory : count + 1 < 2 ^ 64 → LacksMemoryLate shown old new result
  pub step : shown.Writes old new
