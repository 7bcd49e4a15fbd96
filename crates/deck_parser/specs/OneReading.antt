-- That a deck has one reading.
use Rattle.std.specs.Prelude.{◌≡◌, ◌≢◌, ℕ, List}
use Rattle.deck_parser.specs.Word.{Word}
use Rattle.deck_parser.specs.Words.{HasWords}
use Rattle.deck_parser.specs.Fault.{HasFault}
use Rattle.deck_parser.specs.declared.fault.DeckFault.{DeckFault}

-- of one thing no two values are so
abbrev pub Determines : {S T : Type 0} → (S → T → Type 0) → Type 0
Determines Is = (of : _) (a b : _) → Is of a → Is of b → a ≡ b

-- no two lists of words, no fault beside words, and no two faults but want of memory
pub record HaveOneReading : Type 0 where
  pub words : Determines HasWords
  pub apart : (bytes : List ℕ) (words : List Word) (fault : DeckFault)
      → HasWords bytes words → HasFault bytes fault → fault.code ≡ 8
  pub faults : (bytes : List ℕ) (a b : DeckFault) → HasFault bytes a → HasFault bytes b
      → a.code ≢ 8 → b.code ≢ 8 → a ≡ b
