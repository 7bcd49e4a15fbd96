-- What is told of a run that did not end is so.
use Rattle.std.proofs.Common.{◌≡◌, List, ℕ, refl}
use Rattle.deck_parser.specs.declared.fault.DeckFault.{DeckFault}
use Rattle.deck_runner.specs.DeckRun.{IsNoDeck, IsRefusedDeck}
use Rattle.deck_runner.specs.declared.fault.RunFault.{RunFault}
use Rattle.deck_runner.specs.declared.fault.RunFault.TheVariants.{Deck as DeckRefused, Output as LineRefused, Memory as NoMemory}
use Rattle.command_support.specs.declared.fault.CommandFault.TheVariants.{Deck, Output}
use Rattle.command_support.specs.Told.{told_as}

pub line_refused : (fault : RunFault) → told_as fault ≡ Output → fault ≡ LineRefused
line_refused (DeckRefused told) is = absurd (cc)
line_refused LineRefused is = refl
line_refused NoMemory is = absurd (cc)

pub no_deck : (bytes : List ℕ) (fault : RunFault) → IsRefusedDeck bytes fault → (told : DeckFault) → told_as fault ≡ Deck told → IsNoDeck bytes told
no_deck bytes (DeckRefused fault) refused told is = let same : fault ≡ told = cc in rw (← same) refused
no_deck bytes LineRefused refused told is = absurd (cc)
no_deck bytes NoMemory refused told is = absurd (cc)
