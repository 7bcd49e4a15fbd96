-- What calls that look something up answer and keep.
use Rattle.std.specs.Prelude.{◌≡◌, ℕ, ◌+◌, ◌*◌, ◌≤◌, Result, Ok, Option, None, IsTrue}
use Rattle.io_state.specs.declared.fault.Fault.{Fault}
use Rattle.pages.specs.PageMap.{PageMap}
use Rattle.pages.specs.ShownPages.{ShownPages}
use Rattle.pages.specs.PageCalls.{ReadsPages}

-- what is so of the pages in use, where no wrong answer of the device was taken as true
abbrev pub WhenHonest : {S : Type 0} → ShownPages S → (old new : S) → (PageMap → Type 0) → Type 0
WhenHonest shown old new Says = IsTrue (shown.state new).is_honest → Says (shown.state old).live

-- the answer of a look-up, and what it keeps, at a fault too
pub record LooksUp {S X : Type 0} (shown : ShownPages S) (most : ℕ) (Says : PageMap → Result X Fault
    → Type 0) (old new : S) (result : Result X Fault) : Type 0 where
  pub found : IsTrue (shown.state new).is_honest → Says (shown.state old).live result
  pub reads : ReadsPages shown most old new result

-- of one that asks for a page a level in a tree with so many levels above its leaves
abbrev pub LooksBelow : {S X : Type 0} → ShownPages S → (levels : ℕ) → (PageMap → Result X Fault → Type 0)
    → (old new : S) → Result X Fault → Type 0
LooksBelow shown levels Says old new result = LooksUp shown (levels + 1) Says old new result

-- of one that may go down twice, as where the entry behind a key stands in the next leaf
abbrev pub LooksAcross : {S X : Type 0} → ShownPages S → (levels : ℕ) → (PageMap → Result X Fault → Type 0)
    → (old new : S) → Result X Fault → Type 0
LooksAcross shown levels Says old new result = LooksUp shown (2 * (levels + 1)) Says old new result

-- one that may go down twice does so only where it finds something
pub record AsksFewForNone {S X : Type 0} (shown : ShownPages S) (levels : ℕ) (old new : S)
    (result : Result (Option X) Fault) : Type 0 where
  pub none : result ≡ Ok None → (shown.state new).asked ≤ (shown.state old).asked + (levels + 1)
  pub reads : ReadsPages shown (2 * (levels + 1)) old new result
