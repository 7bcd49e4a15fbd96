use Rattle.std.proofs.Common.{rules, ap, ◌∙◌, ◌≡◌}
use Rattle.file_reports.specs.Differences.{differences, is_none}
use Rattle.file_reports.proofs.DifferencesLemmas.{none_where_same}
use Rattle.file_reports.proofs.differences.difference_lines.Goals as goal

pub returns-clause-none : goal.returns-clause-none
returns-clause-none c =
    let is : c.add_key_differences.new.lines.items ≡ differences c.args.file.now c.args.deck.now = search rules in
    ap is_none is ∙ none_where_same c.args.file.now c.args.deck.now
