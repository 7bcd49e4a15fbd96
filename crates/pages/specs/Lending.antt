-- What a loan of a page leaves: of pages that are R and show this, where page n was asked for.
use Rattle.std.specs.Prelude.{ℕ, ◌+◌, ◌≤◌, List, Result, IsTrue, IfOk, IfErr, ⊤}
use Rattle.std.specs.Borrow.{LendsSoOk, follows_so, RattleType, Bor, MutBor, Fml, Array, u8}
use mathlib.Core.Option.{none}
use Rattle.io_state.specs.declared.fault.Fault.{Fault}
use Rattle.pages.specs.PagesState.{Shows, KeepsEachPage, LeavesPage}
use Rattle.pages.specs.PageChanges.{FindsNoDamage}
use Rattle.pages.specs.Cause.{IsCaused}
use Rattle.pages.specs.ShownPages.{ShownPages}

module _ {S : Type 0} (shown : ShownPages S) where
  -- one page was asked for at most
  abbrev pub AsksForOne : S → S → Type 0
  AsksForOne old new = (shown.state new).asked ≤ (shown.state old).asked + 1

  -- a fault tells of the device only where it has failed, and is never Full, Memory or Broken
  abbrev pub FailsByCause : {X : Type 0} → S → S → Result X Fault → Type 0
  FailsByCause old new result = IfErr result (IsCaused (shown.HasFailed old new) ⊥)

module _ (R : RattleType) (shown : ShownPages R.Denot) (s : MutBor R.Denot) (n : ℕ) where
  -- a page in use is shown as it is, and every page stays
  abbrev pub LendsToRead : Result (Bor (List ℕ)) Fault → Fml
  LendsToRead result = follows_so R R s.ghost_name none (λ _ _. ⊤) (λ after.
      KeepsEachPage (shown.state s.now) (shown.state after) × AsksForOne shown s.now after
      × shown.Reads s.now after
      × (IsTrue (shown.state after).is_honest → IfOk result (λ page. Shows (shown.state s.now) n page.now))
      × FindsNoDamage n (shown.state s.now) (shown.state after) result
      × FailsByCause shown s.now after result)

  -- a page in use is shown as it is, and holds what is left in it; a fault leaves every page
  abbrev pub LendsToWrite : Result (MutBor (List ℕ)) Fault → Fml
  LendsToWrite result = LendsSoOk R (Array u8 4096) s result
      (λ after bytes. LeavesPage n bytes (shown.state s.now) (shown.state after)
      × AsksForOne shown s.now after × shown.Writes s.now after
      × (IsTrue (shown.state after).is_honest → IfOk result (λ page. Shows (shown.state s.now) n page.now)))
      (λ after. KeepsEachPage (shown.state s.now) (shown.state after) × AsksForOne shown s.now after
      × shown.Reads s.now after
      × FindsNoDamage n (shown.state s.now) (shown.state after) result
      × FailsByCause shown s.now after result)
