-- What is left in a writer.
use Rattle.std.specs.Prelude.{◌≡◌, ℕ, List, ◌++◌, Option, Result, Ok, Err}
use Rattle.std.specs.Io.KnownBytes.{Appends}

-- the writer took the text; or a front of it, or all and did not hand it on
abbrev pub Sends : {E : Type 0} → Option (List ℕ) → Option (List ℕ) → List ℕ → Result Unit E → Type 0
Sends old new text (Ok _) = Appends old new text
Sends old new text (Err fault) = (front : List ℕ) × (rest : List ℕ) × (text ≡ front ++ rest)
    × Appends old new front
