-- A text in UTF-8 that is to be loaded, as a list in ASCII has it.
use Rattle.std.specs.Prelude.{◌≡◌, ◌<◌, ℕ, List, [], ◌∷◌, ◌++◌, length, if◌then◌else◌}
use Rattle.streams.specs.Characters.{is_character, latin_byte}
use Rattle.streams.specs.Escapes.{escape_of}
use Rattle.streams.specs.declared.backslashes.Backslashes.{Backslashes}
use Rattle.streams.specs.declared.to_ascii.FirstCharacter.{FirstCharacter}

-- the text with each character U+00A0 to U+00FF replaced by the escape of its byte; all else is as it was
abbrev pub in_ascii : Backslashes → List ℕ → List ℕ
in_ascii backslashes [] = []
in_ascii backslashes (lead ∷ []) = lead ∷ []
in_ascii backslashes (lead ∷ next ∷ rest) =
    if is_character lead next then escape_of backslashes (latin_byte lead next) ++ in_ascii backslashes rest
    else lead ∷ in_ascii backslashes (next ∷ rest)

-- a text begins with the character of this byte, and this is what is behind it
pub record BeginsWithCharacter (text : List ℕ) (first : FirstCharacter) : Type 0 where
  pub is : (backslashes : Backslashes)
      → in_ascii backslashes text ≡ escape_of backslashes first.byte ++ in_ascii backslashes first.behind.now
  pub shorter : length first.behind.now < length text

-- a text begins with none: its first byte stays as it is
abbrev pub BeginsWithNoCharacter : List ℕ → Type 0
BeginsWithNoCharacter text = (backslashes : Backslashes) (first : ℕ) (rest : List ℕ) → text ≡ first ∷ rest
    → in_ascii backslashes text ≡ first ∷ in_ascii backslashes rest
