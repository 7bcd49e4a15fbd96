use Rattle.file_commands.proofs.ByIndexLemmas.{aside_then, pages_listed}
use Rattle.file_commands.proofs.by_index.list_pages.Goals as goal

pub returns : goal.returns
returns g c =
    let before = g.W.Write.contents c.args.out.now in
    let behind = g.W.Write.contents c.list_at_path-system.new.out in
    aside_then (g.S.System.state c.args.system).calls c.list_at_path-system.new.aside.calls (g.S.System.state c.list_at_path-system.result.0) (g.S.System.state c.told_pages-done.new.system)
    c.list_at_path-system.ensures.ends c.told_pages-done.ensures (λ calls later lists told.
    pages_listed g.D.Disk.unseen c.args.path.now c.args.form.now c.args.asked before behind calls later c.list_at_path-system.result.1 c.told_pages-done.result lists told)
