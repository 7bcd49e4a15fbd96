use Rattle.std.proofs.Common.{length}
use Rattle.file_reports.proofs.statistics_lines.+add_keys.Given as goal

abbrev pub decreases-add_keys : goal.decreases-add_keys
decreases-add_keys l = length l.keys.now
