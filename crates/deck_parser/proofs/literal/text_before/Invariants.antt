use Rattle.std.proofs.Common.{◌≡◌, length}
use Rattle.deck_parser.specs.Literal.{cut_literal}
use Rattle.deck_parser.proofs.LiteralLemmas.{with_front}
use Rattle.deck_parser.proofs.literal.text_before.Given as goal

-- the text so far stands in front of what is still to be cut
abbrev pub invariant-more : goal.invariant-more
invariant-more l = cut_literal l.mark l.bytes ≡ with_front l.text.items (cut_literal l.mark l.rest)

abbrev pub decreases-more : goal.decreases-more
decreases-more l = length l.rest
