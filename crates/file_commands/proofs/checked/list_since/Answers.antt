use Rattle.std.specs.Prelude.{string_bytes}
use Rattle.file_commands.specs.Since.{calls_since}
use Rattle.file_commands.proofs.ByPagesLemmas.{by_since}
use Rattle.file_commands.proofs.RecordsLemmas.{lists_path}
use Rattle.file_commands.proofs.checked.list_since.Goals as goal

pub returns : goal.returns
returns g c =
    let before = g.A.SystemAsked.before in
    let now = g.S.System.state c.into_system-system.result.0 in
    by_since before now (g.S.System.state c.args.system) c.into_system-system.result.1 c.requires.before c.into_system-system.ensures.reading
    (lists_path g.D.Disk.unseen (string_bytes c.args.path) (calls_since before now) _ _ c.args.first.now c.args.form.now c.args.asked (g.W.Write.contents c.args.out.now)
    (g.W.Write.contents c.list_checked_shelf-shelf.new.out) c.list_checked_shelf-shelf.result.1 c.new-shelf.ensures.shows c.into_system-system.ensures.honest c.list_checked_shelf-shelf.ensures.ends)
