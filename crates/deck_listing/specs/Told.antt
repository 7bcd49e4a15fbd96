-- What is told of a deck. All of this is ours.
use Rattle.std.specs.Prelude.{◌≡◌, ◌≢◌, ◌≤◌, ℕ, List, [], length, All}
use Rattle.std.specs.List.Sorted.{IsNonDecreasingBy}
use Rattle.deck_parser.specs.Fault.{told}
use Rattle.deck_parser.specs.declared.fault.DeckFault.{DeckFault}
use Rattle.deck_parser.specs.declared.fault.ParseRefusal.{ParseRefusal}
use Rattle.deck_messages.specs.Texts.{SaysWhy}
use Rattle.deck_listing.specs.Place.{IsTextAtLine}
use Rattle.deck_listing.specs.declared.diagnosis.Diagnosis.{Diagnosis}
use Rattle.deck_listing.specs.declared.faults.DeckFaults.{DeckFaults}

-- the line is one of the deck, the word stands there, and something is said of it
abbrev pub TellsOf : List ℕ → Diagnosis → Type 0
TellsOf deck diagnosis = IsTextAtLine deck diagnosis.line diagnosis.word.items × (diagnosis.why.bytes ≢ [])

-- a text is told whole, where there is one of at most 110 bytes
abbrev pub IsToldWhole : (text said : List ℕ) → Type 0
IsToldWhole text said = text ≢ [] → length text ≤ 110 → said ≡ text

-- the fault is told of a refusal, and a text is told of its cause: the text of this cause, where it
-- has the same one in each deck
abbrev pub SaysOf : DeckFault → Diagnosis → Type 0
SaysOf fault diagnosis = (refusal : ParseRefusal) × (text : List ℕ) × (fault ≡ told refusal) × SaysWhy refusal text
    × IsToldWhole text diagnosis.why.bytes

-- at most nineteen faults of a deck are told, and no line of one is less than that of one before it
pub record AreFurther (deck : List ℕ) (further : List Diagnosis) : Type 0 where
  pub tell : All (TellsOf deck) further
  pub few : length further ≤ 19
  pub rising : IsNonDecreasingBy (λ diagnosis. diagnosis.line) further

-- a fault of a deck is told first, and then further ones
pub record AreTold (deck : List ℕ) (fault : DeckFault) (faults : DeckFaults) : Type 0 where
  pub first : TellsOf deck faults.first
  pub says : SaysOf fault faults.first
  pub further : AreFurther deck faults.further.items
