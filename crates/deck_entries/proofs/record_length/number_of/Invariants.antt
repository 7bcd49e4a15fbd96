use Rattle.std.proofs.Common.{◌≡◌, take}
use Rattle.record_layout.specs.Picture.{number}
use Rattle.record_layout.specs.Reading.{capped_size}
use Rattle.deck_entries.proofs.record_length.number_of.Given as goal

abbrev pub invariant-loop-digit : goal.invariant-loop-digit
invariant-loop-digit l = l.n ≡ capped_size (number (take l.digit-index l.digits))
