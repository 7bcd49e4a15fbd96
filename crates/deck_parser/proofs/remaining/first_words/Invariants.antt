use Rattle.std.proofs.Common.{◌≡◌, ◌+◌, ◌≤◌, length}
use Rattle.deck_parser.specs.Front.{rest_of}
use Rattle.deck_parser.specs.Remaining.{words_from}
use Rattle.deck_parser.proofs.remaining.first_words.Given as goal

-- the pieces so far gave no words
abbrev pub invariant-more : goal.invariant-more
invariant-more l = (words_from (rest_of l.line l.bytes) ≡ words_from (rest_of l.here l.rest)) × (l.here + length l.rest ≤ 1048577)

abbrev pub decreases-more : goal.decreases-more
decreases-more l = length l.rest
