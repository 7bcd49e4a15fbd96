use Rattle.std.proofs.Common.{rules, ◌≡◌}
use Rattle.pages.proofs.RefusedLemmas.{handed_on}
use Rattle.file_reports.specs.Statistics.{HasFile}
use Rattle.file_reports.specs.StatisticsLines.{statistics_text}
use Rattle.file_reports.specs.StatisticsListing.{IsOfSound, TellsEach}
use Rattle.file_reports.proofs.BytesLemmas.{has_file, text_for, if_ok}
use Rattle.file_reports.proofs.statistics_listing.lines_of.Goals as goal

pub returns-in_err-counts-clause-refused : goal.returns-in_err-counts-clause-refused
returns-in_err-counts-clause-refused g c = λ list has.
    handed_on (HasFile c.in_ok-header.header list) (IsOfSound list) c.from_residual-in_err-counts.result _ c.from_residual-in_err-counts.ensures.1
    (λ sound. has_file sound.0 list sound.1 c.in_ok-header.header (c.in_ok-header.ensures.header list (c.count_file.ensures.before list has)))
    (c.in_err-counts.ensures.refused list has)

pub returns-clause-lines : goal.returns-clause-lines
returns-clause-lines g c = λ list has.
    let header = c.in_ok-header.header in
    let counts = c.in_ok-counts.counts in
    let first = c.in_ok-header.ensures.header list (c.count_file.ensures.before list has) in
    if_ok (λ lines. lines.items ≡ statistics_text counts) (λ lines. TellsEach list lines.items) _
    (λ lines is bytes pages. text_for bytes list pages header first counts lines.items
    (c.in_ok-counts.ensures.counted list has (has_file bytes list pages header first)) is)
    (search rules)
