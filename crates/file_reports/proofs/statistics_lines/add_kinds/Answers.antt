use Rattle.std.proofs.Common.{codes}
use Rattle.file_reports.specs.StatisticsLines.{count_text, other_pages}
use Rattle.file_reports.proofs.LineLemmas.{text_behind}
use Rattle.file_reports.proofs.statistics_lines.add_kinds.Goals as goal

pub returns : goal.returns
returns c =
    text_behind c.add_other_pages.result c.args.lines.now.items (count_text (codes ": header 1, heap ") c.args.counts.now.heap) (other_pages c.args.counts.now)
    c.add_count.new.lines.items c.add_other_pages.new.lines.items c.in_ok-add_count.ensures c.add_other_pages.ensures
