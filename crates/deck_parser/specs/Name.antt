-- Names, numbers and reserved words.
-- ANSI X3.23-1985, Nucleus module, user-defined words and reserved words. That names may have no
-- more than these bytes, and which words are reserved, is ours: the words in capitals of the
-- grammar.
use Rattle.std.specs.Prelude.{ℕ, ◌==◌, ◌-◌, Bool, not, ◌&&◌, ◌||◌, List, [], ◌∷◌, length, slice_index, nat_lt}
use Rattle.std.specs.Prelude.{codes}
use Rattle.std.specs.Char.{is_ascii_digit}
use Rattle.std.specs.List.{list_all, list_any}
use Rattle.std.specs.Str.{bytes_eq}
use Rattle.io_state.specs.FileName.{is_capital}

-- the words of the divisions, and those that the procedure alone has
abbrev pub reserved_words : List (List ℕ)
reserved_words =
    codes "ACCESS" ∷ codes "ALTERNATE" ∷ codes "ARE" ∷ codes "ASSIGN" ∷ codes "BLOCK" ∷ codes "CHARACTERS" ∷
    codes "CONTAINS" ∷ codes "DATA" ∷ codes "DEPENDING" ∷ codes "DIVISION" ∷ codes "DUPLICATES" ∷
    codes "DYNAMIC" ∷ codes "ENVIRONMENT" ∷ codes "FD" ∷ codes "FILE" ∷ codes "FILE-CONTROL" ∷
    codes "FILLER" ∷ codes "FROM" ∷ codes "IDENTIFICATION" ∷ codes "IN" ∷ codes "INDEXED" ∷
    codes "INPUT-OUTPUT" ∷ codes "IS" ∷ codes "KEY" ∷ codes "LABEL" ∷ codes "MODE" ∷ codes "OMITTED" ∷
    codes "ON" ∷ codes "OPTIONAL" ∷ codes "ORGANIZATION" ∷ codes "PIC" ∷ codes "PICTURE" ∷
    codes "PROCEDURE" ∷ codes "PROGRAM-ID" ∷ codes "RANDOM" ∷ codes "RECORD" ∷ codes "RECORDS" ∷
    codes "SECTION" ∷ codes "SELECT" ∷ codes "SEQUENTIAL" ∷ codes "SIZE" ∷ codes "STANDARD" ∷
    codes "STATUS" ∷ codes "TO" ∷ codes "VARYING" ∷ codes "WITH" ∷ codes "WORKING-STORAGE" ∷ codes "CLOSE" ∷
    codes "DELETE" ∷ codes "EQUAL" ∷ codes "EXTEND" ∷ codes "GREATER" ∷ codes "HIGH-VALUE" ∷
    codes "HIGH-VALUES" ∷ codes "I-O" ∷ codes "INPUT" ∷ codes "LESS" ∷ codes "LOCK" ∷ codes "LOW-VALUE" ∷
    codes "LOW-VALUES" ∷ codes "MOVE" ∷ codes "NEXT" ∷ codes "NOT" ∷ codes "OPEN" ∷ codes "OR" ∷
    codes "OUTPUT" ∷ codes "READ" ∷ codes "REWRITE" ∷ codes "RUN" ∷ codes "SPACE" ∷ codes "SPACES" ∷
    codes "START" ∷ codes "STOP" ∷ codes "THAN" ∷ codes "WRITE" ∷ codes "ZERO" ∷ codes "ZEROES" ∷
    codes "ZEROS" ∷ []

-- a text that no name may be
unfoldable pub is_reserved : List ℕ → Bool
is_reserved text = list_any (λ word. bytes_eq word text) reserved_words

-- capitals, digits and hyphens, at least one capital, no hyphen first or last, and no reserved word
abbrev pub is_name : List ℕ → Bool
is_name text =
    list_any is_capital text && list_all (λ byte. is_capital byte || is_ascii_digit byte || byte == 45) text
    && not (slice_index text 0 == 45) && not (slice_index text (length text - 1) == 45)
    && not (is_reserved text)

-- digits alone
abbrev pub is_number : List ℕ → Bool
is_number text = nat_lt 0 (length text) && list_all is_ascii_digit text
