use Rattle.std.proofs.Common.{◌∙◌, sym}
use Rattle.std.specs.Prelude.{string_bytes}
use Rattle.file_commands.specs.Since.{calls_since}
use Rattle.file_commands.proofs.ByPagesLemmas.{by_since}
use Rattle.file_commands.proofs.CountedLemmas.{not_counted, named_alone, counted_of}
use Rattle.file_commands.proofs.counting.count_since.Goals as goal

pub returns-then-is_err : goal.returns-then-is_err
returns-then-is_err g c =
    let since = g.A.SystemAsked.before in
    let now = g.S.System.state c.into_system-system.result.0 in
    by_since since now _ _ c.requires.before c.into_system-system.ensures.reading
    (not_counted g.D.Disk.unseen (string_bytes c.args.path) (g.W.Write.contents c.args.out.now) (calls_since since now))

pub returns : goal.returns
returns g c =
    let since = g.A.SystemAsked.before in
    let now = g.S.System.state c.into_system-system-2.result.0 in
    let disk = g.D.Disk.unseen in
    let path = string_bytes c.args.path in
    by_since since now _ _ c.requires.before c.into_system-system-2.ensures.reading
    (counted_of disk path (g.W.Write.contents c.args.out.now) (g.W.Write.contents c.list_statistics-shelf.new.out) (calls_since since now) _ _ _ _
    (named_alone disk path _ _ _ c.attach.result c.attach.ensures.attached (sym c.is_err.ensures.value ∙ c.if-is_err.false) c.new.ensures c.new-shelf.ensures.shows)
    c.into_system-system-2.ensures.honest c.list_statistics-shelf.result.1 c.list_statistics-shelf.ensures)
