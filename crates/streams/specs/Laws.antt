-- How lists in UTF-8 and in ASCII belong together.
use Rattle.std.specs.Prelude.{◌≡◌, ◌≢◌, ◌<◌, ℕ, Bool, true, nat_lt, ◌||◌, List, [], ◌∷◌, ◌++◌, flat_map, if◌then◌else◌}
use Rattle.std.specs.List.{list_all}
use Rattle.std.specs.Str.{IsAscii}
use Rattle.streams.specs.Characters.{is_latin, two_bytes}
use Rattle.streams.specs.Escapes.{escape_of}
use Rattle.streams.specs.InUtf8.{in_utf_8}
use Rattle.streams.specs.InAscii.{in_ascii}
use Rattle.streams.specs.declared.backslashes.Backslashes.{Backslashes}

-- a list in ASCII that was written in UTF-8 is read back as it was
abbrev pub ReadsBack : Type 0
ReadsBack = (backslashes : Backslashes) (text : List ℕ) → IsAscii text
    → in_ascii backslashes (in_utf_8 backslashes text) ≡ text

-- a character of ASCII, or one from U+00A0 to U+00FF
abbrev pub is_taken : ℕ → Bool
is_taken code = nat_lt code 128 || is_latin code

-- its bytes in UTF-8
abbrev pub character : ℕ → List ℕ
character code = if nat_lt code 128 then code ∷ [] else two_bytes code

-- a text of such characters
pub record HasOnlyCharacters (text : List ℕ) : Type 0 where
  pub codes : List ℕ
  pub taken : list_all is_taken codes ≡ true
  pub is : text ≡ flat_map character codes

-- a text of which a list in ASCII is made has no others
abbrev pub TakesOnlyCharacters : Type 0
TakesOnlyCharacters = (backslashes : Backslashes) (text : List ℕ) → IsAscii (in_ascii backslashes text)
    → HasOnlyCharacters text

-- a byte that has an escape, as it stands in UTF-8
abbrev pub shown_in_utf_8 : Backslashes → ℕ → List ℕ
shown_in_utf_8 backslashes byte = if is_latin byte then two_bytes byte else escape_of backslashes byte

-- in UTF-8 the escape of each byte from a0 to ff is its character; other escapes, and what is no
-- backslash, are as they were
pub record EncodesEachEscape : Type 0 where
  pub escapes : (backslashes : Backslashes) (byte : ℕ) (behind : List ℕ) → byte < 256
      → in_utf_8 backslashes (escape_of backslashes byte ++ behind)
      ≡ shown_in_utf_8 backslashes byte ++ in_utf_8 backslashes behind
  pub others : (backslashes : Backslashes) (byte : ℕ) (behind : List ℕ) → byte ≢ 92
      → in_utf_8 backslashes (byte ∷ behind) ≡ byte ∷ in_utf_8 backslashes behind
