use Rattle.folder_shelf.proofs.ReadingLemmas.{by_same}
use Rattle.file_commands.proofs.VerdictLemmas.{line_of}
use Rattle.file_commands.proofs.verdict.check_named.Goals as goal

pub returns : goal.returns
returns g c =
    let before = g.W.Write.contents c.args.out.now in
    let behind = g.W.Write.contents c.write_found.new.out in
    by_same _ _ c.verdict_of-system.ensures (λ calls finds. line_of g.D.Disk.unseen c.args.path.now before behind calls c.verdict_of-system.result.1 c.write_found.result finds c.write_found.ensures)
