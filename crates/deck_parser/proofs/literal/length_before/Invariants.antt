use Rattle.std.proofs.Common.{◌≡◌, ◌+◌, ◌≤◌, length, option_map, List, ℕ}
use Rattle.deck_parser.specs.Literal.{cut_literal}
use Rattle.deck_parser.proofs.LiteralLemmas.{with_count}
use Rattle.deck_parser.proofs.literal.length_before.Given as goal

-- so many bytes of the text stand in front of what is still to be cut
abbrev pub invariant-more : goal.invariant-more
invariant-more l =
    (option_map (λ (c : List ℕ × List ℕ). (length c.0, c.1)) (cut_literal l.mark l.bytes) ≡ with_count l.count (cut_literal l.mark l.rest))
    × (l.count + length l.rest ≤ length l.bytes)

abbrev pub decreases-more : goal.decreases-more
decreases-more l = length l.rest
