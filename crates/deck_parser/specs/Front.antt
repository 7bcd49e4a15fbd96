-- The piece at the front of what is left of a deck, as it is found from the front.
use Rattle.std.specs.Prelude.{ℕ, ◌+◌, ◌==◌, Bool, true, ◌&&◌, ◌||◌, if◌then◌else◌, List, [], ◌∷◌, length}
use Rattle.std.specs.Prelude.{take, drop, nat_le, nat_lt, Option, Some, None, option_map, codes}
use Rattle.std.specs.List.{list_all, list_any, prefix_len}
use Rattle.std.specs.Str.{bytes_eq}
use Rattle.deck_parser.specs.ByteClass.{is_space, is_mark, is_of_run, is_of_word}
use Rattle.deck_parser.specs.Literal.{cut_literal}
use Rattle.deck_parser.specs.Words.{run_words}
use Rattle.deck_parser.specs.Word.{Word, word_of}
use Rattle.deck_parser.specs.Word.{Literal}

-- what is left of a deck: bytes, and the line of the first one
pub record Rest : Type 0 where
  pub line : ℕ
  pub bytes : List ℕ

abbrev pub rest_of : ℕ → List ℕ → Rest
rest_of line bytes = record { line = line; bytes = bytes }

-- the text, if it is a sign
abbrev pub sign_in : List ℕ → Option (List ℕ)
sign_in text =
    if list_any (bytes_eq text) (codes "=" ∷ codes ">" ∷ codes ">=" ∷ codes "<" ∷ []) then Some text else None

-- at most 30 letters, digits, hyphens and parentheses
abbrev pub is_plain_text : List ℕ → Bool
is_plain_text text = nat_le (length text) 30 && list_all is_of_word text

abbrev pub ends_literal : List ℕ → Bool
ends_literal [] = true
ends_literal (byte ∷ after) = is_space byte || byte == 46 || byte == 44 || byte == 59

abbrev pub ends_run : List ℕ → Bool
ends_run [] = true
ends_run (byte ∷ after) = is_space byte

-- the words of a piece, and what is left behind it
abbrev pub Next : Type 0
Next = List Word × Rest

abbrev pub is_literal_cut : List ℕ × List ℕ → Bool
is_literal_cut cut = nat_lt 0 (length cut.0) && (nat_le (length cut.0) 1000 && ends_literal cut.1)

abbrev pub literal_at : ℕ → Option (List ℕ × List ℕ) → Option Next
literal_at line None = None
literal_at line (Some cut) =
    if is_literal_cut cut then Some (word_of line Literal cut.0 ∷ [], rest_of line cut.1) else None

abbrev pub run_at : ℕ → List ℕ → Option Next
run_at line bytes =
    let end = prefix_len is_of_run bytes in
    if ends_run (drop end bytes) then option_map {U = Next}
    (λ words. (words, rest_of line (drop end bytes))) (run_words line (take end bytes)) else None

abbrev pub front_of : ℕ → List ℕ → Option Next
front_of line [] = None
front_of line (byte ∷ bytes) =
    if is_space byte then Some ([], rest_of (if byte == 10 then line + 1 else line) bytes) else (
    if is_mark byte then literal_at line (cut_literal byte bytes) else run_at line (byte ∷ bytes))

unfoldable pub piece_at : Rest → Option Next
piece_at rest = front_of rest.line rest.bytes
