use Rattle.std.proofs.Common.{length}
use Rattle.file_reports.proofs.schema_text.+add_key_lines.Given as goal

abbrev pub decreases-add_key_lines : goal.decreases-add_key_lines
decreases-add_key_lines l = length l.keys.now
