-- What is told of a deck that is listed, or written in COBOL. All of this is ours.
use Rattle.std.specs.Prelude.{◌≡◌, ◌≢◌, ℕ, Bool, true, false, List, Option, Result, IfOk, IfErr, ⊤}
use Rattle.std.specs.Prelude.{String, string_bytes}
use Rattle.std.specs.Global.{Global}
use Rattle.std.specs.Io.KnownBytes.{Appends}
use Rattle.deck_reader.specs.declared.deck.Deck.{Deck}
use Rattle.deck_reader.specs.Deck.{IsDeck}
use Rattle.deck_listing.specs.Listing.{Lists}
use Rattle.deck_listing.specs.Told.{AreTold}
use Rattle.cobol_program.specs.Layout.{IsLaidOut}
use Rattle.cobol_program.specs.declared.form.SourceForm.{SourceForm}
use Rattle.cobol_program.specs.declared.form.SourceForm.TheVariants.{Free, Fixed}
use Rattle.folder_shelf.specs.Calls.{Call}
use Rattle.command_support.specs.Front.{IsDeckNamed}
use Rattle.command_support.specs.Status.{status_of}
use Rattle.command_support.specs.declared.outcome.Outcome.{Outcome}
use Rattle.command_support.specs.declared.outcome.Outcome.TheVariants.{Listed, InCobol}
use Rattle.command_support.specs.declared.fault.CommandFault.{CommandFault}
use Rattle.command_support.specs.declared.fault.RefusedDeck.{RefusedDeck}
use Rattle.command_support.specs.declared.fault.CommandFault.TheVariants.{NotListed, Input, Output, Memory}

-- the list of the deck that the bytes are was written
abbrev pub WritesList : List ℕ → (before behind : Option (List ℕ)) → Type 0
WritesList bytes before behind = (text : List ℕ) × Lists bytes text × Appends before behind text

-- the bytes are no deck, the fault is not want of memory, and it is told first, with further faults
-- behind it, each by a word that stands in the bytes, at the line that is told
abbrev pub IsDeckRefused : List ℕ → RefusedDeck → Type 0
IsDeckRefused bytes refused =
    (refused.fault.code ≢ 8) × ((deck : Deck) → IsDeck bytes deck → ⊥) × AreTold bytes refused.fault refused.faults

-- the form that a flag asks for
abbrev pub form_of : Bool → SourceForm
form_of true = Fixed
form_of false = Free

-- the bytes are a deck, and the text is laid out in this form
abbrev pub IsInCobol : List ℕ → SourceForm → (text : List ℕ) → Type 0
IsInCobol bytes form text = ((deck : Deck) × IsDeck bytes deck) × IsLaidOut form text

-- a program of the deck that the bytes are was written, in fixed form or in free form
abbrev pub WritesCobol : List ℕ → (fixed : Bool) → (before behind : Option (List ℕ)) → Type 0
WritesCobol bytes fixed before behind = (text : List ℕ) × IsInCobol bytes (form_of fixed) text
    × Appends before behind text

-- why a deck is not listed: it is refused, or the input, the output or memory failed
abbrev pub IsListFault : CommandFault → Type 0
IsListFault (NotListed fault) = ⊤
IsListFault Input = ⊤
IsListFault Output = ⊤
IsListFault Memory = ⊤
IsListFault fault = ⊥

-- a fault by which a deck is refused is one of these bytes
abbrev pub IsRefusalOf : List ℕ → CommandFault → Type 0
IsRefusalOf bytes fault = (told : RefusedDeck) → fault ≡ NotListed told → IsDeckRefused bytes told

-- a text of the deck that the bytes are, or the fault by which it is refused
pub record GivesText (IsText : List ℕ → Type 0) (bytes : List ℕ)
    (result : Result (String Global) CommandFault) : Type 0 where
  pub text : IfOk result (λ text. IsText (string_bytes text))
  pub refused : IfErr result (IsRefusalOf bytes)
  pub fault : IfErr result IsListFault

-- the deck that was read so was told, and this is what was done and so of what was written; or it was
-- refused, or the input, the output or memory failed. Unless one of these failed, nothing is written
-- of a deck that is refused
pub record TellsDeck {W : Type 0} (IsRead IsWritten : List ℕ → Type 0) (told : Outcome) (old new : W)
    (result : Result Outcome CommandFault) : Type 0 where
  pub done : IfOk result (λ outcome. outcome ≡ told)
  pub written : IfOk result (λ _. (bytes : List ℕ) × IsRead bytes × IsWritten bytes)
  pub refused : IfErr result (λ fault. (why : RefusedDeck) → fault ≡ NotListed why
      → (bytes : List ℕ) × IsRead bytes × IsDeckRefused bytes why)
  pub untouched : IfErr result (λ fault. status_of fault ≢ 4 → new ≡ old)
  pub fault : IfErr result IsListFault

-- the deck of a path, or of the input where the path is a hyphen, and its list was written
abbrev pub ListsDeckAt : {W : Type 0} → (input : Option (List ℕ)) → (path : List ℕ) → (W → Option (List ℕ))
    → (old new : W) → Result Outcome CommandFault → List Call → Type 0
ListsDeckAt input path contents old new result calls =
    TellsDeck (IsDeckNamed calls input path)
    (λ bytes. WritesList bytes (contents old) (contents new)) Listed old new result

-- or a program of it, in fixed form or in free form
abbrev pub WritesCobolAt : {W : Type 0} → (input : Option (List ℕ)) → (path : List ℕ) → (fixed : Bool)
    → (W → Option (List ℕ)) → (old new : W) → Result Outcome CommandFault → List Call → Type 0
WritesCobolAt input path fixed contents old new result calls =
    TellsDeck (IsDeckNamed calls input path)
    (λ bytes. WritesCobol bytes fixed (contents old) (contents new)) InCobol old new result
