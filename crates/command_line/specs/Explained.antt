-- What is told of a number that is explained. All of this is ours.
use Rattle.std.specs.Prelude.{ℕ, List, Option, Some, None}
use Rattle.std.specs.Io.KnownBytes.{Appends}
use Rattle.explanations.specs.Tables.{explanation}

-- the text was written, if there is one
abbrev pub WritesExplanation : Option (List ℕ) → (before behind : Option (List ℕ)) → Type 0
WritesExplanation None before behind = ⊥
WritesExplanation (Some text) before behind = Appends before behind text

-- the text that two words name was written: the kind, and the number as it is written
abbrev pub Explains : {W : Type 0} → (kind number : List ℕ) → (W → Option (List ℕ)) → (old new : W) → Type 0
Explains kind number contents old new =
    WritesExplanation (explanation kind number) (contents old) (contents new)
