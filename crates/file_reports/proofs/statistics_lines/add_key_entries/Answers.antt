use Rattle.std.proofs.Common.{codes, ◌++◌}
use Rattle.file_reports.specs.StatisticsLines.{count_text}
use Rattle.file_reports.proofs.LineLemmas.{text_behind}
use Rattle.file_reports.proofs.statistics_lines.add_key_entries.Goals as goal

pub returns : goal.returns
returns c =
    let entries = count_text (codes " entries ") c.args.key.now.entries in
    let longest = count_text (codes " longest run ") c.args.key.now.longest in
    let end = codes "\n" in
    let old = c.args.lines.now.items in
    let first = c.add_count.new.lines.items in
    let second = c.add_count-2.new.lines.items in
    let last = c.add.new.lines.items in
    text_behind c.add.result old entries (longest ++ end) first last c.in_ok-add_count.ensures
    (text_behind c.add.result first longest end second last c.in_ok-add_count-2.ensures c.add.ensures)
