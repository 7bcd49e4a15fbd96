-- What a call asks of what a unit holds, and what it leaves.
use Rattle.std.specs.Prelude.{◌≡◌, ℕ, ◌<◌, ◌≤◌, List, length, length as count_of, Option, Result, OnOk, OnErr}
use Rattle.std.specs.Prelude.{IfOk, IsTrue}
use Rattle.arrayvec.specs.ArrayVec.{ArrayVec}
use Rattle.io_state.specs.declared.fault.Fault.{Fault}
use Rattle.indexed_file.specs.Answers.{area_after}
use Rattle.indexed_file.specs.World.{Holding, is_open, schema_in}
use Rattle.indexed_file.specs.declared.answer.Found.{Found}
use Rattle.list_library.specs.declared.wanted.Wanted.{Wanted}
use Rattle.list_library.specs.Units.{file_or_empty, AnswersBroken}
use Rattle.list_library.specs.Wanted.{first_wanted, found_wanted, key_wanted}

-- a value of key k may be looked for in what the open unit holds
pub record MaySeekIn (holding : Holding) (k : ℕ) : Type 0 where
  pub opened : IsTrue (is_open holding)
  pub key : k < length (schema_in holding).keys

-- a record may be looked for by key k in what the open unit holds, and read into an area of these bytes
pub record MayFindIn (holding : Holding) (k : ℕ) (area : List ℕ) : Type 0 where
  pub opened : IsTrue (is_open holding)
  pub key : k < length (schema_in holding).keys
  pub length : count_of area ≡ (schema_in holding).greatest

-- this record may be put into what the open unit holds
pub record MayPutInto (holding : Holding) (bytes : List ℕ) : Type 0 where
  pub opened : IsTrue (is_open holding)
  pub least : (schema_in holding).least ≤ length bytes
  pub greatest : length bytes ≤ (schema_in holding).greatest

-- the row of least rank by key k among those wanted is told, and its record read into the area;
-- the area stays where the unit is broken
pub record FindsWanted (holding : Holding) (k : ℕ) (wanted : Wanted) (before after : List ℕ)
    (result : Result (Option Found) Fault) : Type 0 where
  pub found : IfOk result (λ found. found ≡ found_wanted (schema_in holding) k wanted (file_or_empty holding))
  pub area : OnOk result
      (after ≡ area_after before (first_wanted (schema_in holding) k wanted (file_or_empty holding)))
  pub err : OnErr result (after ≡ before)
  pub fault : AnswersBroken holding result

-- the full value of key k of that row is told
pub record SeeksWanted (holding : Holding) (k : ℕ) (wanted : Wanted)
    (result : Result (Option (ArrayVec ℕ)) Fault) : Type 0 where
  pub found : IfOk result (λ found. found ≡ key_wanted (schema_in holding) k wanted (file_or_empty holding))
  pub fault : AnswersBroken holding result
