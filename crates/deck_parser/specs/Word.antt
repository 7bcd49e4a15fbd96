-- A word of a deck, as contracts see it.
use Rattle.std.specs.Prelude.{ℕ, Bool, true, false, if◌then◌else◌, List, [], ◌∷◌, codes, Option, Some, None}
use Rattle.deck_parser.specs.declared.word.Sign.{Sign as SignOf}
use Rattle.deck_parser.specs.declared.word.Sign.TheVariants.{Equal, Greater, GreaterOrEqual, Less}
use Rattle.deck_parser.specs.declared.word.WordText.{WordText}
use Rattle.deck_parser.specs.declared.word.WordText.TheVariants as says

-- what a word is, by its bytes alone
pub data WordKind : Type 0 where
  Plain : WordKind
  Literal : WordKind
  Sign : WordKind
  Period : WordKind

-- a word, and the line of its first byte, from 1
pub record Word : Type 0 where
  pub line : ℕ
  pub kind : WordKind
  pub text : List ℕ

abbrev pub word_of : ℕ → WordKind → List ℕ → Word
word_of line kind text = record { line = line; kind = kind; text = text }

abbrev pub sign_text : SignOf → List ℕ
sign_text Equal = codes "="
sign_text Greater = codes ">"
sign_text GreaterOrEqual = codes ">="
sign_text Less = codes "<"

abbrev pub kind_of_word : WordText → WordKind
kind_of_word (says.Plain name) = Plain
kind_of_word (says.Literal text) = Literal
kind_of_word (says.Sign sign) = Sign
kind_of_word says.Period = Period

abbrev pub text_of_word : WordText → List ℕ
text_of_word (says.Plain name) = name.bytes
text_of_word (says.Literal text) = text
text_of_word (says.Sign sign) = sign_text sign
text_of_word says.Period = codes "."

abbrev pub is_same_kind : WordKind → WordKind → Bool
is_same_kind Plain Plain = true
is_same_kind Literal Literal = true
is_same_kind Sign Sign = true
is_same_kind Period Period = true
is_same_kind _ _ = false

-- the text of a plain word, and of a literal
abbrev pub plain_text : Word → Option (List ℕ)
plain_text word = if is_same_kind Plain word.kind then Some word.text else None

abbrev pub literal_text : Word → Option (List ℕ)
literal_text word = if is_same_kind Literal word.kind then Some word.text else None

-- the line of the first word, and 0 where no word is left
abbrev pub first_line : List Word → ℕ
first_line [] = 0
first_line (word ∷ words) = word.line
