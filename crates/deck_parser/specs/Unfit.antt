-- Where a refusal stands, and what is wanted there.
use Rattle.std.specs.Prelude.{◌≡◌, ℕ, List, [], ◌∷◌}
use Rattle.deck_parser.specs.Word.{Word as Seen}
use Rattle.deck_parser.specs.declared.fault.FaultCause.{FaultCause}
use Rattle.deck_parser.specs.declared.fault.FaultCause.TheVariants.{BadWord, Expected, Unknown, Twice, NotAllowed}
use Rattle.deck_parser.specs.declared.fault.FaultCause.TheVariants.{Limit, Layout}
use Rattle.deck_parser.specs.declared.fault.Expected.TheVariants.{Words, Paragraph, Indexed, RecordKey}
use Rattle.deck_parser.specs.declared.fault.ParseRefusal.{ParseRefusal}
use Rattle.deck_parser.specs.declared.fault.ParseRefusal.TheVariants.{Memory, Fault}
use Rattle.deck_parser.specs.declared.wanted.WantedClass.{WantedClass}

-- the line of the first word, or any line where no word is left
abbrev pub IsFirstLine : List Seen → ℕ → Type 0
IsFirstLine [] line = Unit {0}
IsFirstLine (word ∷ words) line = line ≡ word.line

-- the refusal is for want of memory, or told at the line of the first of the words
abbrev pub IsRefusedThere : List Seen → ParseRefusal → Type 0
IsRefusedThere words Memory = Unit {0}
IsRefusedThere words (Fault line place cause) = IsFirstLine words line × (place.line ≡ line)

-- a word does not fit for want of one of this class
abbrev pub IsWantOf : WantedClass → FaultCause → Type 0
IsWantOf wants (Expected (Words class)) = class ≡ wants
IsWantOf wants (Expected (Paragraph place)) = ⊥
IsWantOf wants (Expected Indexed) = ⊥
IsWantOf wants (Expected RecordKey) = ⊥
IsWantOf wants BadWord = ⊥
IsWantOf wants (Unknown what) = ⊥
IsWantOf wants (Twice what) = ⊥
IsWantOf wants (NotAllowed what) = ⊥
IsWantOf wants (Limit which) = ⊥
IsWantOf wants (Layout what) = ⊥

-- the refusal is for want of memory, or of a word of this class where the first of the words stands
abbrev pub IsUnfit : WantedClass → List Seen → ParseRefusal → Type 0
IsUnfit wants words Memory = Unit {0}
IsUnfit wants words (Fault line place cause) =
    IsFirstLine words line × (place.line ≡ line) × IsWantOf wants cause
