use Rattle.std.proofs.Common.{sym}
use Rattle.pages.proofs.RefusedLemmas.{refused}
use Rattle.file_reports.specs.StatisticsListing.{IsOfSound}
use Rattle.file_reports.proofs.BytesLemmas.{first_refused}
use Rattle.file_reports.proofs.statistics_listing.first_header.Goals as goal

pub returns-in-None-read-clause-refused : goal.returns-in-None-read-clause-refused
returns-in-None-read-clause-refused g c = λ list has.
    refused (IsOfSound list) c.of_page.result _ _ c.of_page.ensures
    (first_refused list c.in-Some.first (sym (c.in-Some.ensures.page list has)) (sym c.in-None-read.ensures.header))
