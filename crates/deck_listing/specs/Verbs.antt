-- The verbs of a deck, as its transcript numbers them.
use Rattle.std.specs.Prelude.{ℕ, ◌+◌, List, [], Option, Some, None, slice_get}
use Rattle.std.specs.Option.{option_map_or}
use Rattle.io_state.specs.declared.statement.FileStatement.{FileStatement}
use Rattle.file_control.specs.Description.{FileDesc}
use Rattle.deck_reader.specs.declared.statement.Statement.{Statement}
use Rattle.deck_reader.specs.declared.statement.Statement.TheVariants.{Perform, Move, MoveLength}
use Rattle.deck_reader.specs.declared.statement.Statement.TheVariants.{StopRun}

-- a verb: its number, from 1, the name of its file, and what it does there
pub record NumberedVerb : Type 0 where
  pub number : ℕ
  pub file : List ℕ
  pub statement : FileStatement

-- the name of the file of a place
abbrev pub file_name_at : List FileDesc → ℕ → List ℕ
file_name_at files u = option_map_or (λ file. file.name) (slice_get files u) []

-- the verb that a statement is, behind so many verbs; MOVE and STOP RUN are none
abbrev pub verb_of : List FileDesc → ℕ → Statement → Option NumberedVerb
verb_of files before (Perform u statement) =
    Some (record { number = before + 1; file = file_name_at files u; statement = statement })
verb_of files before (Move u field source) = None
verb_of files before (MoveLength i source) = None
verb_of files before StopRun = None
