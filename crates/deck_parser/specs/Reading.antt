-- What the steps of the parser answer, beside what a rule reads.
use Rattle.std.specs.Prelude.{◌≡◌, Bool, List, [], ◌∷◌, Option, Some, None, Result, Ok, Err, IfErr}
use Rattle.std.specs.Bool.{OnTrue, OnFalse}
use Rattle.deck_parser.specs.Class.{Class, begins}
use Rattle.deck_parser.specs.declared.fault.ParseRefusal.{ParseRefusal}
use Rattle.deck_parser.specs.declared.fault.ParseRefusal.TheVariants.{Memory, Fault}
use Rattle.deck_parser.specs.Rule.{Rule, Stop}
use Rattle.deck_parser.specs.Scanning.{map_result}
use Rattle.deck_parser.specs.Unfit.{IsFirstLine}
use Rattle.deck_parser.specs.Fault.{cause_code}
use Rattle.deck_parser.specs.Word.{Word}

-- memory ran out, or there is nothing
abbrev pub Refuses : {A : Type 0} → Option A → ParseRefusal → Type 0
Refuses found Memory = Unit {0}
Refuses found (Fault line place cause) = found ≡ None

-- the value and the words behind it are those that are read
abbrev pub Reads : {A : Type 0} → Option (A × List Word) → Result A ParseRefusal → List Word → Type 0
Reads read (Ok value) rest = read ≡ Some (value, rest)
Reads read (Err refusal) rest = Refuses read refusal

-- memory ran out, or the fault is told at the first word of the stop, with its code
abbrev pub TellsStop : Stop → ParseRefusal → Type 0
TellsStop stop Memory = Unit {0}
TellsStop stop (Fault line place cause) = IsFirstLine stop.words line × (cause_code cause ≡ stop.code)

-- where words are refused, the fault is told where the rule's reading of them stops
abbrev pub Stops : {A B : Type 0} → Rule A → List Word → Result B ParseRefusal → Type 0
Stops rule words result = IfErr result (TellsStop (rule.stops words))

-- what is read of the words, and where they are refused, is what the rule says
abbrev pub ReadsRule : {A : Type 0} → Rule A → List Word → Result A ParseRefusal → List Word → Type 0
ReadsRule rule words result rest = Reads (rule.reads words) result rest × Stops rule words result

-- the rule's value is what a function makes of the answer
abbrev pub ReadsAs : {A B : Type 0} → (A → B) → Rule B → List Word → Result A ParseRefusal → List Word → Type 0
ReadsAs seen rule words result rest = Reads (rule.reads words) (map_result seen result) rest

-- a word is taken if it is next: whether one of the class is there, and what the rule reads
pub record Eats (class : Class) (rule : Rule (Unit {0})) (old new : List Word) (result : Bool) : Type 0 where
  pub seen : result ≡ begins (class ∷ []) old
  pub taken : OnTrue result (rule.reads old ≡ Some (tt, new))
  pub kept : OnFalse result (new ≡ old)

-- the value is the one that there is
abbrev pub Makes : {A : Type 0} → Option A → Result A ParseRefusal → Type 0
Makes made (Ok value) = made ≡ Some value
Makes made (Err refusal) = Refuses made refusal
