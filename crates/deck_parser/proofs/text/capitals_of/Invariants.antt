use Rattle.std.proofs.Common.{◌≡◌, take, map}
use Rattle.deck_parser.specs.ByteClass.{capital}
use Rattle.deck_parser.proofs.text.capitals_of.Given as goal

-- the name so far is the text so far, in capitals
abbrev pub invariant-loop-byte : goal.invariant-loop-byte
invariant-loop-byte l = l.name.bytes ≡ map capital (take l.byte-index l.text)
