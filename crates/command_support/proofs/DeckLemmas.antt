-- Why there is no file of a deck, and which one has a name.
use Rattle.std.proofs.Common.{◌≡◌, ℕ, Bool, List, IsTrue, bytes_eq}
use Rattle.std.proofs.lemmas.Slice.Eq.{bytes_eq-Decides}
use Rattle.std.proofs.lemmas.Bool.Decides.{same_from_decides}
use Rattle.deck_runner.specs.declared.fault.RunFault.{RunFault}
use Rattle.deck_runner.specs.declared.fault.RunFault.TheVariants.{Deck as DeckRefused, Output as LineRefused, Memory as NoMemory}
use Rattle.command_support.specs.DeckFile.{IsDeckFault}
use Rattle.command_support.specs.Status.{status_of}
use Rattle.command_support.specs.Told.{told_as}
use Rattle.command_support.specs.declared.fault.CommandFault.{CommandFault}
use Rattle.command_support.specs.declared.fault.CommandFault.TheVariants.{Input, Output, Memory}

-- two texts are compared by their bytes
pub same_test : (r : Bool) (a b : List ℕ) → (IsTrue r → a ≡ b) × (a ≡ b → IsTrue r) → r ≡ bytes_eq a b
same_test r a b both = same_from_decides r (bytes_eq a b) both (bytes_eq-Decides a b)

-- a refused deck and want of memory are faults of a file of a deck
pub of_a_deck : (fault : RunFault) → IsDeckFault (told_as fault)
of_a_deck (DeckRefused fault) = tt
of_a_deck LineRefused = tt
of_a_deck NoMemory = tt

-- and so are those of the input, the output and memory
pub not_there : (fault : CommandFault) → status_of fault ≡ 4 → IsDeckFault fault
not_there Input is = tt
not_there Output is = tt
not_there Memory is = tt
not_there fault is = absurd (cc)
