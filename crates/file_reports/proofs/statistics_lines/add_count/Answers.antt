use Rattle.file_reports.specs.StatisticsLines.{count_text}
use Rattle.file_reports.proofs.statistics_lines.add_count.Goals as goal

pub returns : goal.returns
unfolding count_text
returns c = c.add_number_behind.ensures
