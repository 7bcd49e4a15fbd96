use Rattle.file_reports.specs.SchemaLines.{number_line}
use Rattle.file_reports.proofs.schema_text.add_number_line.Goals as goal

pub returns : goal.returns
unfolding number_line
returns c = c.add_number_text.ensures
