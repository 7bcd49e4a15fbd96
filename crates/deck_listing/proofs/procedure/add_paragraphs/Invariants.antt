use Rattle.std.proofs.Common.{◌≡◌, ◌++◌, take, string_bytes}
use Rattle.deck_listing.specs.Listing.{paragraph_lines}
use Rattle.deck_listing.proofs.procedure.add_paragraphs.Given as goal

abbrev pub invariant-loop-paragraph : goal.invariant-loop-paragraph
invariant-loop-paragraph l = string_bytes l.text ≡ string_bytes l.fn.text ++ paragraph_lines (take l.paragraph-index l.paragraphs)
