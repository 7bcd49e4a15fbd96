-- The faults of a deck, and what is told of them.
use Rattle.std.specs.Prelude.{◌≡◌, ◌≢◌, ℕ, Result, IfOk, IfErr, List}
use Rattle.deck_parser.specs.declared.fault.FaultCause.{FaultCause}
use Rattle.deck_parser.specs.declared.fault.FaultCause.TheVariants.{BadWord, Expected, Unknown, Twice, NotAllowed}
use Rattle.deck_parser.specs.declared.fault.FaultCause.TheVariants.{Limit, Layout}
use Rattle.deck_parser.specs.declared.fault.DeckFault.{DeckFault}
use Rattle.deck_parser.specs.declared.fault.ParseRefusal.{ParseRefusal}
use Rattle.deck_parser.specs.declared.fault.ParseRefusal.TheVariants.{Memory, Fault}
use Rattle.deck_parser.specs.Words.{RefusesWords}

abbrev pub cause_code : FaultCause → ℕ
cause_code BadWord = 1
cause_code (Expected what) = 2
cause_code (Unknown what) = 3
cause_code (Twice what) = 4
cause_code (NotAllowed what) = 5
cause_code (Limit which) = 6
cause_code (Layout what) = 7

abbrev pub fault_of : ℕ → ℕ → DeckFault
fault_of line code = record { line = line; code = code }

-- a fault is told by its line and its code, and want of memory by line 0 and code 8
abbrev pub told : ParseRefusal → DeckFault
told Memory = record { line = 0; code = 8 }
told (Fault line place cause) = fault_of line (cause_code cause)

abbrev pub IsFault : ParseRefusal → Type 0
IsFault Memory = ⊥
IsFault (Fault line place cause) = Unit {0}

-- the fault is told of a refusal
abbrev pub IsTold : DeckFault → Type 0
IsTold fault = (refusal : ParseRefusal) × (fault ≡ told refusal)

-- a call is refused, but for want of memory, only where there is nothing of which this is so
abbrev pub HasNoneIfRefused : {T U : Type 0} → (U → Type 0) → Result T ParseRefusal → Type 0
HasNoneIfRefused {U = U} Is result = IfErr result (λ refusal. IsFault refusal → (x : U) → Is x → ⊥)

-- the same of a fault that is told
abbrev pub HasNoneIfTold : {T U : Type 0} → (U → Type 0) → Result T DeckFault → Type 0
HasNoneIfTold {U = U} Is result = IfErr result (λ fault. fault.code ≢ 8 → (x : U) → Is x → ⊥)

-- a call gives something of which this is so, or is refused where there is nothing
pub record GivesOrRefuses {T : Type 0} (Is : T → Type 0) (result : Result T ParseRefusal) : Type 0 where
  pub given : IfOk result Is
  pub none : HasNoneIfRefused Is result

-- the same of a fault that is told
pub record GivesOrTells {T : Type 0} (Is : T → Type 0) (result : Result T DeckFault) : Type 0 where
  pub given : IfOk result Is
  pub none : HasNoneIfTold Is result
  pub told : IfErr result IsTold

-- the fault that is told of a deck without words
abbrev pub HasFault : List ℕ → DeckFault → Type 0
HasFault bytes fault = (refusal : ParseRefusal) × (fault ≡ told refusal) × RefusesWords bytes refusal
