use Rattle.std.proofs.Common.{ap}
use Rattle.file_reports.proofs.FirstLemmas.{first_read}
use Rattle.file_reports.proofs.schema_listing.read_first.Goals as goal

pub returns-in-Ok-clause-bytes : goal.returns-in-Ok-clause-bytes
returns-in-Ok-clause-bytes g c =
    first_read (g.R.Read.remaining c.args.reader) (g.R.Read.remaining c.take-first.result.inner) c.take-first.result.limit 4096 c.new-bytes.result.items c.read_to_end.new.buf.items
    (ap g.R.Read.remaining c.take-first.ensures.inner) c.take-first.ensures.limit c.new-bytes.ensures.items c.in-Ok.ensures.bytes
