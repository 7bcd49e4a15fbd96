use Rattle.std.proofs.Common.{length}
use Rattle.file_commands.proofs.verdict.+check_files.Given as goal

abbrev pub decreases-check_files : goal.decreases-check_files
decreases-check_files g l = length l.paths.now
