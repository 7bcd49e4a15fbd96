-- Lines that are held back while no file can change, and then handed to the writer. All of this is ours.
use Rattle.std.specs.Prelude.{◌≡◌, ◌<◌, ◌⊎◌, ℕ, List, [], ◌∷◌, ◌++◌, All, length, flat_map, Option, IsTrue}
use Rattle.std.specs.Io.KnownBytes.{Appends}
use Rattle.io_state.specs.declared.statement.FileStatement.{FileStatement}
use Rattle.deck_runner.specs.declared.run_end.RunEnd.{RunEnd}
use Rattle.deck_runner.specs.Line.{Line, transcript_line}
use Rattle.deck_runner.specs.Reads.{only_reads, IsOfReading}
use Rattle.deck_runner.specs.RunEnd.{end_of}

-- before a statement the writer took all that was held, or the statement only reads and nothing was done
abbrev pub MakesWay : (written written_after : Option (List ℕ)) → (held held_after : List ℕ)
    → FileStatement → Type 0
MakesWay written written_after held held_after statement =
    (IsTrue (only_reads statement) × Appends written written_after [] × (held_after ≡ held))
    ⊎ (Appends written written_after held × (held_after ≡ []))

-- the text of a run so far: what the writer has, if that is known, and what is held
pub record SoFar : Type 0 where
  pub written : Option (List ℕ)
  pub held : List ℕ

abbrev pub so_far : Option (List ℕ) → List ℕ → SoFar
so_far written held = record { written = written; held = held }

-- each line behind the first is of a statement that only reads
abbrev pub ReadBehindFirst : List Line → Type 0
ReadBehindFirst [] = Unit {0}
ReadBehindFirst (line ∷ lines) = All IsOfReading lines

-- the text that is held is that of these lines
pub record AreHeld (held : List ℕ) (lines : List Line) : Type 0 where
  pub text : held ≡ flat_map transcript_line lines
  pub reads : ReadBehindFirst lines

-- of these lines, which were held or have come since, the writer took the first ones, and the others are held
pub record GoOut (old new : SoFar) (lines : List Line) : Type 0 where
  pub taken : List Line
  pub kept : List Line
  pub lines_are : lines ≡ taken ++ kept
  pub appends : Appends old.written new.written (flat_map transcript_line taken)
  pub held : AreHeld new.held kept

-- of these lines the writer took the first ones, and then a proper front of one; those behind that
-- one are of statements that only read
pub record AreRefused (old new : Option (List ℕ)) (lines : List Line) : Type 0 where
  pub taken : List Line
  pub failed : Line
  pub behind : List Line
  pub front : List ℕ
  pub rest : List ℕ
  pub lines_are : lines ≡ taken ++ failed ∷ behind
  pub text : transcript_line failed ≡ front ++ rest
  pub some : 0 < length rest
  pub appends : Appends old new (flat_map transcript_line taken ++ front)
  pub reads : All IsOfReading behind

-- lines of which this is so came behind those that were held, and this is told of them
abbrev pub Come : (old new : SoFar) → RunEnd → (List Line → Type 0) → Type 0
Come old new end AreLines =
    (lines : List Line) × (end ≡ end_of lines) × AreLines lines
    × ((held : List Line) → AreHeld old.held held → GoOut old new (held ++ lines))

-- the same, but the writer refused one of them, or of those that were held
abbrev pub ComeInPart : (old : SoFar) → (new : Option (List ℕ)) → (List Line → Type 0) → Type 0
ComeInPart old new AreLines =
    (lines : List Line) × AreLines lines × ((held : List Line) → AreHeld old.held held
    → AreRefused old.written new (held ++ lines))
