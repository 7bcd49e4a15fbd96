-- What the words ask for, by what a parse of them gave.
use Rattle.std.proofs.Common.{◌≡◌, ◌≢◌, ◌⊎◌, List, Option, Result, Ok, Err, IfOk, IfErr, true, refl, sym, subst, inl, inr}
use Rattle.std.proofs.lemmas.Bool.{and_parts}
use Rattle.clap.specs.Words.{App, HasKind, Row, Text, fault_of, is_simple, is_simple_and_free, kind_of, subcommand_of}
use Rattle.clap.specs.declared.error.Error.{Error}
use Rattle.clap.specs.declared.error.ErrorKind.TheVariants.{OutOfMemory}
use Rattle.clap.proofs.OnLiterals.{clap_on_literals}
use Rattle.command_words.specs.CommandLine.{program_app}
use Rattle.command_words.specs.Asks.{Ask, AskNothing, AreFaultless, IsNone, IsRequestMet, IsHelpText}
use Rattle.command_words.specs.declared.fault.WordsFault.{WordsFault}
use Rattle.command_words.specs.declared.fault.WordsFault.TheVariants.{Usage}
use Rattle.command_words.specs.declared.request.Request.{Request}
use Rattle.command_words.specs.declared.request.Request.TheVariants.{Run, Check, Serve, Schema, Explain, Deck, List as ListRecords, Cobol, Load, Stat, Salvage, Copy, Help}

-- the matches of the program's command line, and its faults, are known
is_known : is_simple_and_free program_app ≡ true
unfolding clap_on_literals
is_known = refl

pub simple_and_free : (app : App) → app ≡ program_app → is_simple_and_free app ≡ true
simple_and_free app is = subst (λ (a : App). is_simple_and_free a ≡ true) (sym is) is_known

pub simple : (app : App) → app ≡ program_app → is_simple app ≡ true
simple app is = (and_parts (is_simple app) _ (simple_and_free app is)).0

-- what was met is what the words ask for
asked : (words : List Text) (request : Request) → AreFaultless words → IsRequestMet (subcommand_of program_app words) request → Ask words request
asked words (Run deck folder limits strict wait) faultless h = ((faultless, h.0), (faultless, h.1))
asked words (Check files quiet wait) faultless h = ((faultless, h.0), (faultless, h.1))
asked words (Serve folder limits wait) faultless h = ((faultless, h.0), (faultless, h.1))
asked words (Schema file deck name) faultless h = (faultless, h)
asked words (Explain kind number) faultless h = (faultless, h)
asked words (Deck deck) faultless h = (faultless, h)
asked words (ListRecords file key from to first conditions form checked quiet wait) faultless h = ((faultless, h.0), (faultless, h.1))
asked words (Cobol deck fixed) faultless h = (faultless, h)
asked words (Load deck folder file text form encoding into limits lines rejects quiet) faultless h = (faultless, h)
asked words (Stat file) faultless h = (faultless, h)
asked words (Salvage file form places) faultless h = (faultless, h)
asked words (Copy file new key limits) faultless h = (faultless, h)
asked words (Help text) faultless h = absurd h

pub met_asked : (words : List Text) (met : Option (Text × List Row)) (result : Result Request WordsFault) → AreFaultless words
    → met ≡ subcommand_of program_app words → IfOk result (IsRequestMet met) → IfOk result (Ask words)
met_asked words met (Ok request) faultless is h =
    asked words request faultless (subst (λ (m : Option (Text × List Row)). IsRequestMet m request) is h)
met_asked words met (Err fault) faultless is h = tt

-- where it was nothing, the words ask for nothing
pub none_asked : (words : List Text) (met : Option (Text × List Row)) (result : Result Request WordsFault) → AreFaultless words
    → met ≡ subcommand_of program_app words → IfErr result (λ fault. (text : Error) → fault ≡ Usage text → IsNone met)
    → IfErr result (λ fault. (text : Error) → fault ≡ Usage text → AskNothing words text)
none_asked words met (Ok request) faultless is h = tt
none_asked words met (Err fault) faultless is h = λ text told. inr (faultless, subst IsNone is (h text told))

-- of two things, the second
second : {A B : Type 0} → A ⊎ B → (A → ⊥) → B
second (inl a) never = absurd (never a)
second (inr b) never = b

shown_is_no_memory : (text : Error) → IsHelpText text → kind_of text ≡ OutOfMemory → ⊥
shown_is_no_memory text (inl h) memory = absurd (cc)
shown_is_no_memory text (inr h) memory = absurd (cc)

-- help is what the words ask for
pub help_asked : (words : List Text) (result : Result Request WordsFault) (error : Error) → HasKind (fault_of program_app words) error
    → IfOk result (λ request. (request ≡ Help error) × IsHelpText error) → IfOk result (Ask words)
help_asked words (Ok request) error kind h = subst (Ask words) (sym h.0) (second kind (shown_is_no_memory error h.1), h.1)
help_asked words (Err fault) error kind h = tt

-- nothing is what they ask for
pub nothing_asked : (words : List Text) (result : Result Request WordsFault) (error : Error) → HasKind (fault_of program_app words) error
    → IfErr result (λ fault. (text : Error) → fault ≡ Usage text → (text ≡ error) × (IsHelpText error → ⊥) × (kind_of error ≢ OutOfMemory))
    → IfErr result (λ fault. (text : Error) → fault ≡ Usage text → AskNothing words text)
nothing_asked words (Ok request) error kind h = tt
nothing_asked words (Err fault) error kind h = λ text is.
    let facts = h text is in
    subst (AskNothing words) (sym facts.0) (inl (second kind facts.2, facts.1))
