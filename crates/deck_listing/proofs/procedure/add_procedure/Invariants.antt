use Rattle.std.proofs.Common.{◌≡◌, ◌+◌, ◌≤◌, ◌++◌, length, string_bytes}
use Rattle.deck_listing.specs.Listing.{procedure_lines}
use Rattle.deck_listing.proofs.procedure.add_procedure.Given as goal

-- what is written, with the lines of the statements that are left
abbrev pub invariant-more : goal.invariant-more
invariant-more l =
    (string_bytes l.text ++ procedure_lines l.fn.files l.fn.places.lines l.at l.verbs l.paragraphs l.left ≡ string_bytes l.fn.text ++ procedure_lines l.fn.files l.fn.places.lines 0 0 l.fn.places.paragraphs l.fn.statements)
    × (l.at + length l.left ≡ length l.fn.statements) × (l.verbs ≤ l.at)

abbrev pub decreases-more : goal.decreases-more
decreases-more l = length l.left
