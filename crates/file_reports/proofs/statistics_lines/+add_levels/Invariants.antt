use Rattle.std.proofs.Common.{length}
use Rattle.file_reports.proofs.statistics_lines.+add_levels.Given as goal

abbrev pub decreases-add_levels : goal.decreases-add_levels
decreases-add_levels l = length l.levels.now
