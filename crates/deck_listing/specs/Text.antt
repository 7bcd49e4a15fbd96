-- Texts that are cut. All of this is ours.
use Rattle.std.specs.Prelude.{◌≡◌, ℕ, List, ◌++◌, codes}

-- the text goes on behind its front
abbrev pub IsFrontOf : (text front : List ℕ) → Type 0
IsFrontOf text front = (behind : List ℕ) × (text ≡ front ++ behind)

-- what is told of a text that is too long: a front of it, and two points
abbrev pub IsCutTo : (text told : List ℕ) → Type 0
IsCutTo text told = (front : List ℕ) × IsFrontOf text front × (told ≡ front ++ codes "..")
