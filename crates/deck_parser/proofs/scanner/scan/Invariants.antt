use Rattle.std.proofs.Common.{length}
use Rattle.deck_parser.specs.Front.{rest_of}
use Rattle.deck_parser.proofs.RemainingLemmas.{Counted}
use Rattle.deck_parser.proofs.scanner.scan.Given as goal

abbrev pub invariant-more : goal.invariant-more
invariant-more l = Counted l.bytes (rest_of l.line l.rest) l.count

abbrev pub decreases-more : goal.decreases-more
decreases-more l = length l.rest
