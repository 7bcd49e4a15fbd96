use Rattle.std.proofs.Common.{ap, ◌∙◌}
use Rattle.file_reports.specs.SchemaListing.{read_front}
use Rattle.file_reports.proofs.FirstLemmas.{refused}
use Rattle.file_reports.proofs.schema_listing.list_schema.Goals as goal

pub returns-clause-told : goal.returns-clause-told
returns-clause-told g c =
    refused (g.R.Read.remaining c.args.reader) (g.W.Write.contents c.args.out.now) c.in_ok-bytes.bytes.items c.in-Err.refusal c.in_ok-bytes.ensures.bytes
    (c.in-Err.ensures.header ∙ ap read_front c.deref.ensures.value)
