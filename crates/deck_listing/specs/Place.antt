-- A place of a deck: a line, and bytes that begin there.
use Rattle.std.specs.Prelude.{◌≡◌, ◌+◌, ◌==◌, ℕ, List, ◌++◌, length}
use Rattle.std.specs.List.{count_by}
use Rattle.deck_listing.specs.declared.place.DeckPlace.{DeckPlace}

-- how many line feeds there are
abbrev pub line_feeds : List ℕ → ℕ
line_feeds bytes = count_by (λ byte. byte == 10) bytes

-- the bytes stand in the deck, behind as many line feeds as there are lines above theirs
abbrev pub IsTextAtLine : List ℕ → ℕ → List ℕ → Type 0
IsTextAtLine deck line text =
    (before behind : List ℕ) × (deck ≡ before ++ (text ++ behind)) × (line ≡ line_feeds before + 1)

-- the line is one of the deck, and the bytes stand there
abbrev pub IsPlaceInDeck : List ℕ → DeckPlace → Type 0
IsPlaceInDeck deck place = IsTextAtLine deck place.line place.text.now

-- the bytes stand in the deck behind so many others
abbrev pub StandsAt : List ℕ → ℕ → List ℕ → Type 0
StandsAt deck start text =
    (before behind : List ℕ) × (deck ≡ before ++ (text ++ behind)) × (length before ≡ start)
