-- The text of a list in UTF-8.
use Rattle.std.specs.Prelude.{◌≡◌, ◌<◌, ℕ, ◌==◌, ◌&&◌, List, ◌∷◌, ◌++◌, length, if◌then◌else◌}
use Rattle.streams.specs.Characters.{two_bytes}
use Rattle.streams.specs.Escapes.{is_escape, byte_of}
use Rattle.streams.specs.declared.backslashes.Backslashes.{Backslashes}
use Rattle.streams.specs.declared.backslashes.Backslashes.TheVariants.{One, Two}
use Rattle.streams.specs.declared.to_utf_8.FirstEscape.{FirstEscape}

-- the text with each escape of a byte from a0 to ff replaced by its character; all else is as it was
abbrev pub in_utf_8 : Backslashes → List ℕ → List ℕ
in_utf_8 One (a ∷ b ∷ c ∷ rest) =
    if is_escape a b c then two_bytes (byte_of b c) ++ in_utf_8 One rest
    else a ∷ in_utf_8 One (b ∷ c ∷ rest)
in_utf_8 Two (a ∷ b ∷ c ∷ d ∷ rest) =
    if a == 92 && is_escape b c d then two_bytes (byte_of c d) ++ in_utf_8 Two rest
    else a ∷ in_utf_8 Two (b ∷ c ∷ d ∷ rest)
in_utf_8 backslashes text = text

-- a text begins with the escape of this byte, and this is what is behind it
pub record BeginsWithEscape (backslashes : Backslashes) (text : List ℕ) (escape : FirstEscape) : Type 0 where
  pub is : in_utf_8 backslashes text ≡ two_bytes escape.byte ++ in_utf_8 backslashes escape.behind.now
  pub shorter : length escape.behind.now < length text

-- a text begins with none: its first byte stays as it is
abbrev pub BeginsWithNoEscape : Backslashes → List ℕ → Type 0
BeginsWithNoEscape backslashes text = (first : ℕ) (rest : List ℕ) → text ≡ first ∷ rest
    → in_utf_8 backslashes text ≡ first ∷ in_utf_8 backslashes rest
