use Rattle.std.proofs.Common.{◌≤◌, All, length}
use Rattle.deck_listing.specs.Told.{TellsOf}
use Rattle.deck_listing.proofs.faults.told_of.Given as goal

abbrev pub invariant-loop-message : goal.invariant-loop-message
invariant-loop-message l = All (TellsOf l.bytes) l.told.items × (length l.told.items ≤ 19)
