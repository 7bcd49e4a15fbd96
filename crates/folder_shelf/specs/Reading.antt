-- Calls that only read, and what is read by them.
use Rattle.std.specs.Prelude.{◌≡◌, ◌⊎◌, ◌<◌, ◌≤◌, ℕ, List, [], ◌∷◌, ◌++◌, length, Option, Some, None, ⊤}
use Rattle.std.specs.Prelude.{Result, Ok, Err, IfOk, OnErr}
use Rattle.std.specs.Global.{Vec}
use Rattle.system_files.specs.Front.{EndsInLongLine}
use Rattle.system_files.specs.declared.front.ReadFault.{ReadFault}
use Rattle.folder_shelf.specs.Calls.{Call, looked, made, measured, read, held, written, flushed}
use Rattle.folder_shelf.specs.Calls.{entered, asked_of_folder, taken, taken_shared, streams_held}
use Rattle.folder_shelf.specs.SystemState.{SystemState, with_call}

-- a call that changes no file, and no unit
abbrev pub IsReading : Call → Type 0
IsReading (looked path found) = ⊤
IsReading (made path done) = ⊥
IsReading (measured path size) = ⊤
IsReading (read path done at bytes) = ⊤
IsReading (held path done) = ⊥
IsReading (written path at took bytes) = ⊥
IsReading (flushed path done) = ⊥
IsReading (entered path) = ⊥
IsReading (asked_of_folder path found) = ⊤
IsReading (taken path most bytes) = ⊤
IsReading (taken_shared path most bytes) = ⊤
IsReading (streams_held done) = ⊤

-- each of these calls is one
abbrev pub AreReading : List Call → Type 0
AreReading [] = ⊤
AreReading (call ∷ calls) = IsReading call × AreReading calls

-- calls are noted with their answers, the newest in front
abbrev pub with_calls : List Call → SystemState → SystemState
with_calls calls system = record system { calls = calls ++ system.calls }

-- between two states calls were made that only read, and no others, and this is so of them
pub record ByReads (IsSo : List Call → Type 0) (old new : SystemState) : Type 0 where
  pub calls : List Call
  pub noted : new ≡ with_calls calls old
  pub reading : AreReading calls
  pub so : IsSo calls

-- a text was given, and it is noted that so many of the first bytes were asked for: more than the
-- file has, unless the text ends in the midst of a line that has so many bytes at least; or it is
-- noted that they did not come
pub record TakesText (longest : ℕ) (path : List ℕ) (old new : SystemState)
    (result : Result (Vec ℕ) ReadFault) : Type 0 where
  pub came : IfOk result (λ text. (most : ℕ) × (new ≡ with_call (taken path most (Some text.items)) old)
      × ((length text.items < most) ⊎ EndsInLongLine longest text.items))
  pub failed : OnErr result (new ≡ with_call (taken path longest None) old)
