-- A verb as it is written, in a transcript and in a listing. Its form is ours.
use Rattle.std.specs.Prelude.{ℕ, List, codes}
use Rattle.io_state.specs.declared.modes.OpenMode.TheVariants.{Input, Output, InputOutput, Extend}
use Rattle.io_state.specs.declared.statement.FileStatement.{FileStatement}
use Rattle.io_state.specs.declared.statement.FileStatement.TheVariants.{Open, Close, ReadNext, Read, Start}
use Rattle.io_state.specs.declared.statement.FileStatement.TheVariants.{Write, Rewrite, Delete}

-- a verb as it is written
abbrev pub verb_text : FileStatement → List ℕ
verb_text (Open Input) = codes "OPEN INPUT"
verb_text (Open Output) = codes "OPEN OUTPUT"
verb_text (Open InputOutput) = codes "OPEN I-O"
verb_text (Open Extend) = codes "OPEN EXTEND"
verb_text (Close lock) = codes "CLOSE"
verb_text ReadNext = codes "READ NEXT"
verb_text (Read key) = codes "READ"
verb_text (Start key length relation) = codes "START"
verb_text Write = codes "WRITE"
verb_text Rewrite = codes "REWRITE"
verb_text Delete = codes "DELETE"
