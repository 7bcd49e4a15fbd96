-- What a crash may leave of a file at each moment of a load. All of this is ours.
use Rattle.std.specs.Prelude.{List, ℕ}
use Rattle.indexed_file.specs.Shown.{Shown}

-- where each image of the name really was absent, closed or refused at first, each one is so at
-- each moment from the one library to the other
abbrev pub StaysReal : {S : Type 0} → Shown S → S → S → List ℕ → Type 0
StaysReal shown old new name = shown.moments.AreReal old old name → shown.moments.AreReal old new name

-- and so it is of every name
abbrev pub AllStayReal : {S : Type 0} → Shown S → S → S → Type 0
AllStayReal shown old new = (name : List ℕ) → StaysReal shown old new name
