-- The texts of the causes that have the same one in each deck. All of this is ours.
use Rattle.std.specs.Prelude.{◌≡◌, ℕ, List, Option, Some, None, codes, ⊤}
use Rattle.deck_parser.specs.declared.fault.FaultCause.{FaultCause}
use Rattle.deck_parser.specs.declared.fault.FaultCause.TheVariants.{Expected, NotAllowed, Limit}
use Rattle.deck_parser.specs.declared.fault.Expected.TheVariants.{Indexed, RecordKey}
use Rattle.deck_parser.specs.declared.fault.NotAllowed.TheVariants.{KeyWithNext}
use Rattle.deck_parser.specs.declared.fault.Limit.TheVariants.{Bytes, Files, AlternateKeys}
use Rattle.deck_parser.specs.declared.fault.ParseRefusal.{ParseRefusal}
use Rattle.deck_parser.specs.declared.fault.ParseRefusal.TheVariants.{Memory, Fault}

-- the text of a cause, where it has the same one in each deck
abbrev pub text_of_cause : FaultCause → Option (List ℕ)
text_of_cause (Expected Indexed) = Some (codes "this SELECT entry ends without ORGANIZATION IS INDEXED")
text_of_cause (Expected RecordKey) =
    Some (codes "this SELECT entry ends without RECORD KEY IS and the name of an item")
text_of_cause (NotAllowed KeyWithNext) = Some (codes "a READ has NEXT or KEY, and not both")
text_of_cause (Limit Bytes) = Some (codes "the deck has more than 1,048,576 bytes")
text_of_cause (Limit Files) = Some (codes "a ninth file; a deck has at most 8")
text_of_cause (Limit AlternateKeys) = Some (codes "a ninth ALTERNATE RECORD KEY; a file has at most 8")
text_of_cause cause = None

-- what is said of a cause is its text, where it has the same one in each deck
abbrev pub SaysCause : FaultCause → (said : List ℕ) → Type 0
SaysCause cause said = (text : List ℕ) → text_of_cause cause ≡ Some text → said ≡ text

-- the same of a refusal; want of memory has no text
abbrev pub SaysWhy : ParseRefusal → (said : List ℕ) → Type 0
SaysWhy Memory said = ⊤
SaysWhy (Fault line place cause) said = SaysCause cause said
