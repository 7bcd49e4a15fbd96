use Rattle.std.proofs.Common.{rules}
use Rattle.indexed_file.specs.World.{schema_at, file_at}
use Rattle.record_listing.specs.Reading.{rows_asked}
use Rattle.record_listing.proofs.ReadingLemmas.{behind_header, in_header}
use Rattle.record_listing.proofs.WorldLemmas.{reads_self}
use Rattle.record_listing.proofs.rows.write_rows.Goals as goal

pub returns-in-Ok-write_header-clause-writes : goal.returns-in-Ok-write_header-clause-writes
returns-in-Ok-write_header-clause-writes g c =
    let world = g.L.Library.shown.world c.args.lib.now in
    record {
      reads = c.hold_rows-held.ensures.brings.reads;
      rows = λ honest truly.
          behind_header c.args.form.now (rows_asked (schema_at world 0) (file_at world 0) c.args.asked) (g.W.Write.contents c.args.out.now) (g.W.Write.contents c.write_header.new.out) (g.W.Write.contents c.hand_over.new.out) c.hand_over.result
          c.in-Ok-write_header.ensures.written (c.hand_over.ensures.written c.args.form.now _ _ (c.hold_rows-held.ensures.brings.rows honest truly));
      cause = search rules;
    }

pub returns-in-Err-clause-writes : goal.returns-in-Err-clause-writes
returns-in-Err-clause-writes g c =
    let world = g.L.Library.shown.world c.args.lib.now in
    record {
      reads = reads_self g.L.Library.shown c.args.lib.now;
      rows = λ honest truly.
          in_header c.args.form.now (rows_asked (schema_at world 0) (file_at world 0) c.args.asked) (g.W.Write.contents c.args.out.now) (g.W.Write.contents c.write_header.new.out) c.in-Err.ensures.written;
      cause = search rules;
    }
