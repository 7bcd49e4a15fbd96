use Rattle.folder_shelf.proofs.ReadingLemmas.{by_same, by_both}
use Rattle.file_commands.proofs.ByPagesLemmas.{looked_once, looked_twice}
use Rattle.file_commands.proofs.by_pages.examine_at_path.Goals as goal

pub returns-in-Err-Device : goal.returns-in-Err-Device
returns-in-Err-Device g c =
    by_both _ _ _ c.examine_once-system.ensures c.examine_once.ensures (λ calls later first last. looked_twice g.D.Disk.unseen c.args.path.now calls later c.examine_once.result.1 last)

pub returns-in_default : goal.returns-in_default
returns-in_default g c = by_same _ _ c.examine_once-system.ensures (λ calls first. looked_once g.D.Disk.unseen c.args.path.now calls c.examine_once-system.result.1 first)
