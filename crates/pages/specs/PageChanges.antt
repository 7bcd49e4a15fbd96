-- What a call leaves of the pages that takes one, gives one back, writes one, or opens the gate.
use Rattle.std.specs.Prelude.{◌≡◌, ◌≢◌, ℕ, ◌+◌, ◌≤◌, List, Some, IsSome, IsTrue, Result, IfOk, IfErr, OnOk}
use Rattle.std.specs.Prelude.{OnErr}
use Rattle.io_state.specs.declared.fault.Fault.{Fault}
use Rattle.io_state.specs.declared.fault.Fault.TheVariants.{Damage}
use Rattle.pages.specs.PageMap.{Writes, Takes, Gives}
use Rattle.pages.specs.PagesState.{PagesState, KeepsEachPage}
use Rattle.pages.specs.Cause.{IsCaused}
use Rattle.pages.specs.ShownPages.{ShownPages}
use Rattle.pages.specs.PageCalls.{WritesPages}

-- where the free pages were sound before a call, and no wrong answer of the device was taken as true
abbrev pub WhereSoundBefore : PagesState → PagesState → Type 0 → Type 0
WhereSoundBefore old new fact = IsTrue new.is_honest → IsTrue old.is_sound → fact

-- where page n was in use before a call, and no wrong answer of the device was taken as true
abbrev pub WhereInUse : ℕ → PagesState → PagesState → Type 0 → Type 0
WhereInUse n old new fact = IsTrue new.is_honest → IsSome (old.live n) → fact

-- a fault is no damage where page n was in use
abbrev pub FindsNoDamage : {X : Type 0} → ℕ → PagesState → PagesState → Result X Fault → Type 0
FindsNoDamage n old new result = WhereInUse n old new (IfErr result (λ e. e ≢ Damage))

-- the bytes of page n, where it was in use
abbrev pub CopiesOut : {X : Type 0} → ℕ → List ℕ → PagesState → PagesState → Result X Fault → Type 0
CopiesOut n bytes old new result = WhereInUse n old new (OnOk result (old.live n ≡ Some bytes))

-- a fault leaves all pages in use as they were
abbrev pub KeepsAtFault : {X : Type 0} → PagesState → PagesState → Result X Fault → Type 0
KeepsAtFault old new result = IsTrue new.is_honest → OnErr result (new.live ≡ old.live)

module _ {S : Type 0} (shown : ShownPages S) where
  -- a page that was not in use is taken, of which the bytes have no meaning: one page fewer is
  -- available, and the free pages stay sound; a fault leaves all pages
  pub record TakesUnused (old new : S) (result : Result ℕ Fault) : Type 0 where
    pub taken : WhereSoundBefore (shown.state old) (shown.state new) (IfOk result (λ n. (1 ≤ n)
        × ((bytes : List ℕ) × Takes (shown.state old).live (shown.state new).live n bytes)))
    pub kept : KeepsAtFault (shown.state old) (shown.state new) result
    pub sound : WhereSoundBefore (shown.state old) (shown.state new) (IsTrue (shown.state new).is_sound)
    pub one : OnOk result ((shown.state new).available + 1 ≡ (shown.state old).available)
    pub none : OnErr result ((shown.state new).available ≡ (shown.state old).available)
    pub damage : WhereSoundBefore (shown.state old) (shown.state new) (IfErr result (λ e. e ≢ Damage))
    pub honest : IsTrue (shown.state new).is_honest → IsTrue (shown.state old).is_honest
    pub writes : WritesPages shown 1 ((shown.state old).available ≡ 0) old new result

  -- page n, which was in use, is given back: one page more is available, and the free pages are as
  -- sound as they were; a fault leaves all pages
  pub record GivesBack {X : Type 0} (n : ℕ) (old new : S) (result : Result X Fault) : Type 0 where
    pub given : WhereInUse n (shown.state old) (shown.state new)
        (OnOk result (Gives (shown.state old).live (shown.state new).live n))
    pub kept : KeepsAtFault (shown.state old) (shown.state new) result
    pub sound : WhereInUse n (shown.state old) (shown.state new)
        ((shown.state new).is_sound ≡ (shown.state old).is_sound)
    pub one : OnOk result ((shown.state new).available ≡ (shown.state old).available + 1)
    pub none : OnErr result ((shown.state new).available ≡ (shown.state old).available)
    pub damage : FindsNoDamage n (shown.state old) (shown.state new) result
    pub honest : IsTrue (shown.state new).is_honest → IsTrue (shown.state old).is_honest
    pub writes : WritesPages shown 1 ⊥ old new result

  -- page n, which was in use, holds these bytes now; a fault leaves all pages
  pub record StoresPage {X : Type 0} (n : ℕ) (bytes : List ℕ) (old new : S) (result : Result X Fault)
      : Type 0 where
    pub stored : WhereInUse n (shown.state old) (shown.state new)
        (OnOk result (Writes (shown.state old).live (shown.state new).live n bytes))
    pub kept : KeepsAtFault (shown.state old) (shown.state new) result
    pub sound : WhereInUse n (shown.state old) (shown.state new)
        ((shown.state new).is_sound ≡ (shown.state old).is_sound)
    pub available : (shown.state new).available ≡ (shown.state old).available
    pub damage : FindsNoDamage n (shown.state old) (shown.state new) result
    pub writes : WritesPages shown 1 ⊥ old new result

  -- the gate is open, and all pages are as they were, at a fault too, which is no damage
  pub record OpensForChange {X : Type 0} (old new : S) (result : Result X Fault) : Type 0 where
    pub «open» : OnOk result (shown.CanChange new)
    pub rests : KeepsEachPage (shown.state old) (shown.state new)
    pub asked : (shown.state new).asked ≡ (shown.state old).asked
    pub damage : IfErr result (λ e. e ≢ Damage)
    pub cause : IfErr result (IsCaused (shown.HasFailed old new) ⊥)
    pub begins : shown.Begins old new
