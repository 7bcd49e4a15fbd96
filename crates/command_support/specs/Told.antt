-- How the program tells why a run did not end, and why the words of its command line ask for
-- nothing. All of this is ours.
use Rattle.deck_runner.specs.declared.fault.RunFault.{RunFault}
use Rattle.deck_runner.specs.declared.fault.RunFault.TheVariants.{Deck as DeckRefused, Output as LineRefused}
use Rattle.deck_runner.specs.declared.fault.RunFault.TheVariants.{Memory as NoMemory}
use Rattle.command_words.specs.declared.fault.WordsFault.{WordsFault}
use Rattle.command_words.specs.declared.fault.WordsFault.TheVariants.{Usage as NotUnderstood}
use Rattle.command_words.specs.declared.fault.WordsFault.TheVariants.{Memory as NoMemoryForWords}
use Rattle.command_support.specs.declared.fault.CommandFault.{CommandFault}
use Rattle.command_support.specs.declared.fault.CommandFault.TheVariants.{Deck, Usage, Output, Memory}

-- why a run did not end
abbrev pub told_as : RunFault → CommandFault
told_as (DeckRefused fault) = Deck fault
told_as LineRefused = Output
told_as NoMemory = Memory

-- why words ask for nothing
abbrev pub words_told_as : WordsFault → CommandFault
words_told_as (NotUnderstood text) = Usage text
words_told_as NoMemoryForWords = Memory
