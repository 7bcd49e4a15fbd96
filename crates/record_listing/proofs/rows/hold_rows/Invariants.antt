use Rattle.std.proofs.Common.{IsTrue, length, vec_capacity}
use Rattle.indexed_file.specs.World.{schema_at, file_at, name_at}
use Rattle.record_text.specs.Room.{IsLineRoom}
use Rattle.record_listing.specs.Reading.{OnlyReadsUnit, rows_asked}
use Rattle.record_listing.specs.Rising.{ranks_behind}
use Rattle.record_listing.proofs.StepLemmas.{AreToCome}
use Rattle.record_listing.proofs.rows.hold_rows.Given as goal

-- unit 0 was only read so far, the lines of the rows that are still to come are not on their way, and
-- there is room for each of them
abbrev pub invariant-more : goal.invariant-more
invariant-more g l =
    let shown = g.L.Library.shown in
    let world = shown.world l.fn.lib in
    record {
      reads : OnlyReadsUnit shown l.fn.lib l.lib;
      rows : IsTrue (shown.is_honest l.lib) → shown.IsShownTruly l.fn.lib (name_at world 0)
          → AreToCome l.fn.form (rows_asked (schema_at world 0) (file_at world 0) l.fn.asked) (schema_at world 0) (file_at world 0) l.fn.asked.key l.fn.asked.to l.fn.asked.conditions.items
          l.left l.position (g.W.Write.contents l.fn.out) (g.W.Write.contents l.out) l.lines;
      room : IsLineRoom l.fn.form (length l.fn.area) (vec_capacity l.line);
    }

-- each record is behind the one before
abbrev pub decreases-more : goal.decreases-more
decreases-more g l = ranks_behind l.position
