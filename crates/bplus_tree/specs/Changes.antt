-- What calls that change pages ask for, and what they leave.
use Rattle.std.specs.Prelude.{◌≡◌, ◌≤◌, ◌<◌, ◌+◌, ℕ, List, length, Result, IsTrue, IsSome, IfErr}
use Rattle.io_state.specs.declared.fault.Fault.{Fault}
use Rattle.tree_node.specs.declared.shape.NodeShape.{NodeShape}
use Rattle.pages.specs.Cause.{IsCaused}
use Rattle.pages.specs.PageMap.{PageMap}
use Rattle.pages.specs.ShownPages.{ShownPages}
use Rattle.bplus_tree.specs.declared.tree.Tree.{Tree}

-- calls may be made, and pages may be changed
pub record CanWrite {S : Type 0} (shown : ShownPages S) (pages : S) : Type 0 where
  pub ready : shown.IsReady pages
  pub changing : shown.CanChange pages

-- and the entry is as long as the entries of the tree
pub record CanInsert {S : Type 0} (shown : ShownPages S) (shape : NodeShape) (entry : List ℕ)
    (pages : S) : Type 0 where
  pub size : length entry ≡ shape.entry
  pub ready : shown.IsReady pages
  pub changing : shown.CanChange pages

-- What a call leaves of the pages in use, and whether the free pages are sound then, where no wrong
-- answer of the device was taken as true and the free pages were sound.
abbrev pub WhereSound : {S : Type 0} → ShownPages S → (old new : S) → (PageMap → PageMap → Type 0 → Type 0)
    → Type 0
WhereSound shown old new Leaves =
    IsTrue (shown.state new).is_honest → IsTrue (shown.state old).is_sound
    → Leaves (shown.state old).live (shown.state new).live (IsTrue (shown.state new).is_sound)

-- a call on a page that is in use leaves the free pages as sound as they were
abbrev pub KeepsSound : {S : Type 0} → ShownPages S → ℕ → (old new : S) → Type 0
KeepsSound shown page old new =
    IsTrue (shown.state new).is_honest → IsSome ((shown.state old).live page)
    → (shown.state new).is_sound ≡ (shown.state old).is_sound

-- What a call keeps, at a fault too, that takes no page and gives none back.
pub record EditsPages {S X : Type 0} (shown : ShownPages S) (most : ℕ) (old new : S)
    (result : Result X Fault) : Type 0 where
  pub available : (shown.state new).available ≡ (shown.state old).available
  pub cause : IfErr result (IsCaused (shown.HasFailed old new) ⊥)
  pub asked : (shown.state new).asked ≤ (shown.state old).asked + most
  pub step : shown.Writes old new

-- of one that takes no page, and may give pages back
pub record GivesPages {S X : Type 0} (shown : ShownPages S) (most : ℕ) (old new : S)
    (result : Result X Fault) : Type 0 where
  pub few : (shown.state old).available ≤ (shown.state new).available
  pub cause : IfErr result (IsCaused (shown.HasFailed old new) ⊥)
  pub asked : (shown.state new).asked ≤ (shown.state old).asked + most
  pub step : shown.Writes old new

-- of one that may take a page, and answers Full only where none is available
pub record TakesOne {S X : Type 0} (shown : ShownPages S) (most : ℕ) (old new : S)
    (result : Result X Fault) : Type 0 where
  pub few : (shown.state old).available ≤ (shown.state new).available + 1
  pub cause : IfErr result (IsCaused (shown.HasFailed old new) ((shown.state old).available ≡ 0))
  pub asked : (shown.state new).asked ≤ (shown.state old).asked + most
  pub step : shown.Writes old new

-- of one that may take so many pages, and answers Full only where fewer are available
pub record TakesUpTo {S X : Type 0} (shown : ShownPages S) (taken most : ℕ) (old new : S)
    (result : Result X Fault) : Type 0 where
  pub few : (shown.state old).available ≤ (shown.state new).available + taken
  pub cause : IfErr result (IsCaused (shown.HasFailed old new) ((shown.state old).available < taken))
  pub asked : (shown.state new).asked ≤ (shown.state old).asked + most
  pub step : shown.Writes old new

-- What a call does to pages, where the free pages were sound, and what it keeps, at a fault too.
pub record Alters {S X : Type 0} (shown : ShownPages S)
    (Keeps : ShownPages S → ℕ → S → S → Result X Fault → Type 0) (most : ℕ)
    (Leaves : Result X Fault → PageMap → PageMap → Type 0 → Type 0) (old new : S)
    (result : Result X Fault) : Type 0 where
  pub leaves : WhereSound shown old new (Leaves result)
  pub writes : Keeps shown most old new result

-- one that edits pages of a tree with so many levels above its leaves, and asks for one a level
abbrev pub EditsDown : {S X : Type 0} → ShownPages S → (levels : ℕ)
    → (Result X Fault → PageMap → PageMap → Type 0 → Type 0) → (old new : S) → Result X Fault → Type 0
EditsDown shown levels Leaves old new result = Alters shown EditsPages (levels + 1) Leaves old new result

-- the tree has the shape that it had, and at most so many levels above its leaves
pub record KeepsShape (most : ℕ) (old new : Tree) : Type 0 where
  pub shape : new.shape ≡ old.shape
  pub height : new.levels ≤ most
