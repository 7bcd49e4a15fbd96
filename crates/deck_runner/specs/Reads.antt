-- READ and START change no file. All of this is ours.
use Rattle.std.specs.Prelude.{◌≡◌, ℕ, Bool, true, false, List, ◌++◌, All, map, IsTrue}
use Rattle.indexed_file.specs.Images.{Stays}
use Rattle.indexed_file.specs.Shown.{Shown}
use Rattle.io_state.specs.declared.statement.FileStatement.{FileStatement}
use Rattle.io_state.specs.declared.statement.FileStatement.TheVariants.{Open, Close, ReadNext, Read, Start}
use Rattle.io_state.specs.declared.statement.FileStatement.TheVariants.{Write, Rewrite, Delete}
use Rattle.deck_reader.specs.declared.statement.Statement.{Statement}
use Rattle.deck_runner.specs.Line.{Line}
use Rattle.deck_runner.specs.Stretches.{Point, IsBrokenOff}

abbrev pub only_reads : FileStatement → Bool
only_reads (Open mode) = false
only_reads (Close lock) = false
only_reads ReadNext = true
only_reads (Read key) = true
only_reads (Start key length relation) = true
only_reads Write = false
only_reads Rewrite = false
only_reads Delete = false

-- the line of a statement that only reads
abbrev pub IsOfReading : Line → Type 0
IsOfReading line = IsTrue (only_reads line.statement)

-- what the names of the run's files stand for, the rows of those files and the images of every name stay
pub record FilesStay {S : Type 0} (library : Shown S) (before after : Point S) : Type 0 where
  pub named : map (λ file. file.state.named) after.run.files ≡ map (λ file. file.state.named) before.run.files
  pub rows : map (λ file. file.state.file) after.run.files ≡ map (λ file. file.state.file) before.run.files
  pub images : (name : List ℕ) → Stays library.moments before.library after.library name

-- the law: in a run that was broken off, where all lines behind the first ones are of statements
-- that only read, the files are as they were behind the first ones
abbrev pub ReadsChangeNoFile : {S : Type 0} → Shown S → Type 0
ReadsChangeNoFile {S} library =
    (statements : List Statement) → (run : Point S) → (first behind : List Line) → (next : Point S)
    → IsBrokenOff library statements run (first ++ behind) next → All IsOfReading behind
    → (there : Point S) × IsBrokenOff library statements run first there × FilesStay library there next
