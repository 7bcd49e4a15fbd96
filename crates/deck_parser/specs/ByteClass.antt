-- The classes of a deck's bytes.
use Rattle.std.specs.Prelude.{ℕ, ◌-◌, ◌==◌, Bool, not, ◌&&◌, ◌||◌, if◌then◌else◌}
use Rattle.io_state.specs.FileName.{is_small, is_letter_or_digit}

-- white space: space, tab, line feed and carriage return
abbrev pub is_space : ℕ → Bool
is_space byte = byte == 32 || byte == 9 || byte == 10 || byte == 13

-- a quotation mark or an apostrophe
abbrev pub is_mark : ℕ → Bool
is_mark byte = byte == 34 || byte == 39

-- a byte of a run: neither white space nor a mark
abbrev pub is_of_run : ℕ → Bool
is_of_run byte = not (is_space byte) && not (is_mark byte)

-- a byte of a literal: neither line feed nor carriage return
abbrev pub is_of_literal : ℕ → Bool
is_of_literal byte = not (byte == 10) && not (byte == 13)

-- a byte of a plain word: a letter, a digit, a hyphen or a parenthesis
abbrev pub is_of_word : ℕ → Bool
is_of_word byte = is_letter_or_digit byte || byte == 45 || byte == 40 || byte == 41

-- the byte, or the capital of a small letter
abbrev pub capital : ℕ → ℕ
capital byte = if is_small byte then byte - 32 else byte
