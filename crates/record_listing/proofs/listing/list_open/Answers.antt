use Rattle.std.proofs.Common.{sym, subst, refl}
use Rattle.indexed_file.specs.World.{Closed, name_at, holding_at, schema_at, file_at}
use Rattle.record_listing.specs.Listing.{EndsList}
use Rattle.record_listing.proofs.WorldLemmas.{file_is_sound}
use Rattle.record_listing.proofs.ListingLemmas.{ends, stop_before, shut_after}
use Rattle.record_listing.proofs.listing.list_open.Goals as goal

pub returns-clause-ends : goal.returns-clause-ends
returns-clause-ends g c honest truly =
    let shown = g.L.Library.shown in
    let a = c.args.lib.now in
    let b = c.write_rows-written.new.lib in
    let d = c.shut-shut.new.self in
    let keeps = c.shut-shut.ensures.shuts.keeps in
    let world = shown.world a in
    let files = g.met.L.Library.shows_files a (name_at world 0) truly in
    let sound = file_is_sound (holding_at world 0) c.requires.file.opened (files.units 0 refl).holding in
    subst (EndsList c.args.form.now c.args.asked (Closed (schema_at world 0) (file_at world 0)) (g.W.Write.contents c.args.out.now) (g.W.Write.contents c.write_rows-written.new.out)) (sym c.end_of.ensures)
    (ends shown a d honest truly c.args.form.now (schema_at world 0) (file_at world 0) c.args.asked (g.W.Write.contents c.args.out.now) (g.W.Write.contents c.write_rows-written.new.out)
    c.write_rows-written.result c.shut-shut.result c.requires.file.key sound (c.write_rows-written.ensures.writes.rows (keeps.honest honest) truly)
    (stop_before shown a b d c.write_rows-written.result keeps c.write_rows-written.ensures.writes.cause)
    (shut_after shown a b d c.shut-shut.result c.requires.file.attached c.write_rows-written.ensures.writes.reads keeps c.requires.file.unbroken c.shut-shut.ensures.shuts.fault))
