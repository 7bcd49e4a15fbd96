-- The words that are still to come at a place of a deck.
use Rattle.std.specs.Prelude.{◌≡◌, ◌+◌, ◌<◌, ◌≤◌, ℕ, zero, suc, Bool, if◌then◌else◌, List, [], ◌∷◌, ◌++◌}
use Rattle.std.specs.Prelude.{length, Option, Some, None, MatchOption, codes}
use Rattle.deck_parser.specs.Word.{Word, word_of, Period}
use Rattle.deck_parser.specs.Front.{Next, piece_at, Rest}

abbrev pub period_of : ℕ → Word
period_of line = word_of line Period (codes ".")

-- a word, if there is one, and the period behind it, if there is one
abbrev pub found : ℕ → Option Word → Bool → List Word
found line None period = if period then period_of line ∷ [] else []
found line (Some word) period = if period then word ∷ period_of line ∷ [] else word ∷ []

-- the words of a piece, and those of what is left behind it
abbrev pub with_more : (Rest → List Word) → Option Next → List Word
with_more more None = []
with_more more (Some next) = next.0 ++ more next.1

-- the words of so many pieces
abbrev pub words_within : ℕ → Rest → List Word
words_within zero rest = []
words_within (suc pieces) rest = with_more (words_within pieces) (piece_at rest)

-- the words of all pieces, up to where none stands
unfoldable pub words_from : Rest → List Word
words_from rest = words_within (length rest.bytes) rest

-- the same, behind a period that is still to come
abbrev pub words_at : Bool → Rest → List Word
words_at period rest = if period then period_of rest.line ∷ words_from rest else words_from rest

-- the words from the next one on
abbrev pub from_next : Option Word → List Word → List Word
from_next None behind = []
from_next (Some word) behind = word ∷ behind

-- the first piece that gives words, and what is left behind it; or no words come any more
abbrev pub GivesFirstWords : Rest → Option Next → Type 0
GivesFirstWords rest result = MatchOption result (words_from rest ≡ [])
    (λ piece. (words_from rest ≡ piece.0 ++ words_from piece.1)
    × (0 < length piece.0) × (piece.1.line + length piece.1.bytes ≤ 1048577))
