use Rattle.std.proofs.Common.{length, ◌+◌}
use Rattle.file_reports.proofs.differences.+add_key_differences.Given as goal

abbrev pub decreases-add_key_differences : goal.decreases-add_key_differences
decreases-add_key_differences l = length l.file.now + length l.deck.now
