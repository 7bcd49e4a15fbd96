-- The words of a deck, and its faults. A deck is cut into pieces, and each piece gives its words;
-- no order of reading is known here.
-- ANSI X3.23-1985, Nucleus module, character-strings and separators. The limits, and the two marks, are ours.
use Rattle.std.specs.Prelude.{◌≡◌, ℕ, ◌+◌, ◌-◌, ◌<◌, ◌≤◌, ◌==◌, Bool, not, ◌&&◌, ◌||◌, if◌then◌else◌, List}
use Rattle.std.specs.Prelude.{[], ◌∷◌, ◌++◌, length, take, map, flat_map, count_by, slice_index, nat_le}
use Rattle.std.specs.Prelude.{Option, Some, None, option_map, IsTrue, codes}
use Rattle.std.specs.List.{list_all, list_any}
use Rattle.std.specs.Str.{bytes_eq}
use Rattle.io_state.specs.FileName.{is_small, is_letter_or_digit}
use Rattle.deck_parser.specs.ByteClass.{is_space, is_mark}
use Rattle.deck_parser.specs.declared.fault.FaultCause.TheVariants.{BadWord, Expected, Unknown, Twice, NotAllowed}
use Rattle.deck_parser.specs.declared.fault.FaultCause.TheVariants.{Limit, Layout}
use Rattle.deck_parser.specs.declared.fault.ParseRefusal.{ParseRefusal}
use Rattle.deck_parser.specs.declared.fault.ParseRefusal.TheVariants.{Memory, Fault}
use Rattle.deck_parser.specs.Word.{Word, word_of, Plain, Literal, Sign, Period}

-- ---- runs

-- nothing, a sign, or a plain word of 1 to 30 letters, digits, hyphens and parentheses, in capitals
abbrev pub body_words : ℕ → List ℕ → Option (List Word)
body_words line body =
    let signs : List (List ℕ) = codes "=" ∷ codes ">" ∷ codes ">=" ∷ codes "<" ∷ [] in
    let is_of_word : ℕ → Bool = λ byte. is_letter_or_digit byte || byte == 45 || byte == 40 || byte == 41 in
    let capital : ℕ → ℕ = λ byte. if is_small byte then byte - 32 else byte in
    if length body == 0 then Some [] else (
    if list_any (bytes_eq body) signs then Some (word_of line Sign body ∷ []) else (
    if nat_le (length body) 30 && list_all is_of_word body
    then Some (word_of line Plain (map capital body) ∷ []) else None))

-- a point at the end is a word of its own, the period; a comma or semicolon there is dropped
abbrev pub run_words : ℕ → List ℕ → Option (List Word)
run_words line run =
    let body = take (length run - 1) run in
    let last = slice_index run (length run - 1) in
    if last == 46 then option_map (λ words. words ++ word_of line Period (codes ".") ∷ [])
    (body_words line body) else (
    if last == 44 || last == 59 then body_words line body else body_words line run)

-- ---- pieces

-- a byte of white space, a literal between two marks, or a run
pub data Piece : Type 0 where
  Space : ℕ → Piece
  Quoted : ℕ → List ℕ → Piece
  Run : List ℕ → Piece

-- the bytes of a piece: in a text between two marks such a mark is doubled
abbrev pub written_piece : Piece → List ℕ
written_piece (Space byte) = byte ∷ []
written_piece (Quoted mark text) =
    mark ∷ flat_map (λ byte. if byte == mark then mark ∷ mark ∷ [] else byte ∷ []) text ++ mark ∷ []
written_piece (Run run) = run

-- a piece at this line gives these words, where these bytes come after it: a literal has 1 to 1,000
-- bytes, none of which ends a line; behind it comes white space, a point, a comma, a semicolon or
-- the end, and behind a run white space or the end
abbrev pub GivesWords : ℕ → Piece → List ℕ → List Word → Type 0
GivesWords line (Space byte) after words = IsTrue (is_space byte) × (words ≡ [])
GivesWords line (Quoted mark text) after words =
    IsTrue (is_mark mark) × (0 < length text) × (length text ≤ 1000)
    × IsTrue (list_all (λ byte. not (byte == 10) && not (byte == 13)) text)
    × IsTrue (list_all (λ byte. is_space byte || byte == 46 || byte == 44 || byte == 59) (take 1 after))
    × (words ≡ word_of line Literal text ∷ [])
GivesWords line (Run run) after words =
    (0 < length run) × IsTrue (list_all (λ byte. not (is_space byte) && not (is_mark byte)) run)
    × IsTrue (list_all is_space (take 1 after)) × (run_words line run ≡ Some words)

-- ---- decks

-- from this line on the bytes up to the rest, which begins at that line, are cut into pieces that
-- give these words; each line feed ends its line
abbrev pub IsCutIntoWords : ℕ → List ℕ → List Piece → List Word → ℕ → List ℕ → Type 0
IsCutIntoWords line bytes [] words end rest = (line ≡ end) × (bytes ≡ rest) × (words ≡ [])
IsCutIntoWords line bytes (piece ∷ pieces) words end rest =
    (new : List Word) × (more : List Word) × (after : List ℕ) × (bytes ≡ written_piece piece ++ after)
    × GivesWords line piece after new × (words ≡ new ++ more)
    × IsCutIntoWords (line + count_by (λ byte. byte == 10) (written_piece piece)) after pieces more end rest

-- a deck has these words: it is not too long, and from line 1 on it is cut into pieces that give them
abbrev pub HasWords : List ℕ → List Word → Type 0
HasWords bytes words =
    (length bytes ≤ 1048576) × (pieces : List Piece) × (line : ℕ)
    × IsCutIntoWords 1 bytes pieces words line []

-- ---- faults

-- the same up to a rest, which begins at this line
abbrev pub HasWordsUpTo : List ℕ → List Word → ℕ → List ℕ → Type 0
HasWordsUpTo bytes words line rest =
    (length bytes ≤ 1048576) × (pieces : List Piece) × IsCutIntoWords 1 bytes pieces words line rest

-- something is left, and no piece stands at its front
abbrev pub IsStuck : ℕ → List ℕ → Type 0
IsStuck line bytes =
    (0 < length bytes)
    × ((piece : Piece) (after : List ℕ) (words : List Word) → bytes ≡ written_piece piece ++ after
    → GivesWords line piece after words → ⊥)

-- why a deck has no words: it is too long, or what is left behind some pieces begins with none; or
-- there was no memory
abbrev pub RefusesWords : List ℕ → ParseRefusal → Type 0
RefusesWords bytes Memory = Unit {0}
RefusesWords bytes (Fault line place (Limit which)) = (line ≡ 1) × (1048576 < length bytes)
RefusesWords bytes (Fault line place BadWord) =
    (words : List Word) × (rest : List ℕ) × HasWordsUpTo bytes words line rest × IsStuck line rest
RefusesWords bytes (Fault line place (Expected what)) = ⊥
RefusesWords bytes (Fault line place (Unknown what)) = ⊥
RefusesWords bytes (Fault line place (Twice what)) = ⊥
RefusesWords bytes (Fault line place (NotAllowed what)) = ⊥
RefusesWords bytes (Fault line place (Layout what)) = ⊥
