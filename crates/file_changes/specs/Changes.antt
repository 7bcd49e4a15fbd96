-- A change of an open file, said once for all that make it: what is answered and left, when nothing
-- is changed, and when the file breaks.
use Rattle.std.specs.Prelude.{◌≡◌, ◌≢◌, ◌≤◌, ◌+◌, ℕ, Bool, true, false, Result, Err, IsTrue, IsFalse, IfOk}
use Rattle.std.specs.Prelude.{IfErr, OnOk}
use Rattle.io_state.specs.declared.fault.Fault.{Fault}
use Rattle.io_state.specs.declared.fault.Fault.TheVariants.{Full, Broken}
use Rattle.record_layout.specs.Schema.{Schema}
use Rattle.indexed_file.specs.File.{File}
use Rattle.indexed_file.specs.Room.{Room, most_to_change}
use Rattle.pages.specs.Answer.{IsAnswer}
use Rattle.open_file.specs.Faults.{IsCausedIn}
use Rattle.indexed_file.specs.FileChange.{FileChange, has_room_for, LacksRoomFor}

-- what an open file shows, wherever its pages are
pub record ShownFile (T : Type 0) : Type 1 where
  -- no wrong answer of the device was taken as true
  pub is_honest : T → Bool
  -- its free pages are what they should be
  pub IsSound : T → Type 0
  -- its pages stand for this file
  pub StandsFor : T → File → Type 0
  pub is_broken : T → Bool
  pub schema : T → Schema
  pub room : T → Room
  -- how often a page was asked for
  pub asked : T → ℕ
  -- calls may be made, whatever the pages hold
  pub IsReady : T → Type 0
  -- pages may be changed: the gate of the file is open
  pub CanChange : T → Type 0
  -- what a call keeps that changes nothing
  pub Reads : T → T → Type 0
  -- what every call keeps
  pub Begins : T → T → Type 0
  -- the device has failed since
  pub HasFailed : T → T → Type 0

-- the answer is the one of the definitions, and the pages stand for the file that they leave
pub record HasChanged {X : Type 0} (StandsFor : File → Type 0) (IsSound : Type 0) (change : FileChange X)
    (file : File) (x : X) : Type 0 where
  pub answers : x ≡ change.answer file
  pub stands : StandsFor (change.leaves file)
  pub sound : IsSound

-- whatever it answers, a change keeps this, and asks for no more pages
pub record KeepsFile {T : Type 0} (shown : ShownFile T) (before after : T) : Type 0 where
  pub schema : shown.schema after ≡ shown.schema before
  pub ready : shown.IsReady after
  pub begins : shown.Begins before after
  pub asked : shown.asked after ≤ shown.asked before + most_to_change (shown.room before)

-- a change was made, or it was not: Full exactly where it does not clash and lacks room, and the
-- gate is open where something was changed
pub record Changes {T X : Type 0} (shown : ShownFile T) (change : FileChange X) (before after : T)
    (result : Result X Fault) : Type 0 where
  pub done : IsTrue (shown.is_honest after) → shown.IsSound before → (file : File)
      → shown.StandsFor before file
      → IsAnswer result (HasChanged (shown.StandsFor after) (shown.IsSound after) change file)
  pub unmade : IfOk result (λ x. change.is_made x ≡ false → shown.Reads before after)
  pub begun : IfOk result (λ x. change.is_made x ≡ true → shown.CanChange after)
  pub room : IsTrue (shown.is_honest after) → (file : File) → shown.StandsFor before file
      → OnOk result (IsTrue (has_room_for (shown.room before) change file))
  pub full : result ≡ Err Full → shown.Reads before after
  pub lacks : result ≡ Err Full → IsTrue (shown.is_honest after) → (file : File) → shown.StandsFor before file
      → LacksRoomFor (shown.room before) change file
  pub keeps : KeepsFile shown before after

-- a broken file answers Broken, and a fault other than Full breaks it
pub record MayBreak {T X : Type 0} (shown : ShownFile T) (takes_pages : Bool) (before after : T)
    (result : Result X Fault) : Type 0 where
  pub broken : IsTrue (shown.is_broken before) → (result ≡ Err Broken) × shown.Reads before after
  pub breaks : IfErr result (λ fault. fault ≢ Full → IsTrue (shown.is_broken after))
  pub unbroken : OnOk result (IsFalse (shown.is_broken after))
  pub cause : IfErr result (IsCausedIn (shown.is_broken before) (shown.HasFailed before after)
      (IsTrue takes_pages × IsFalse (shown.is_broken before)))
