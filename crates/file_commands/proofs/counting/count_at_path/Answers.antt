use Rattle.std.proofs.Common.{rules, ◌≡◌, Err}
use Rattle.folder_shelf.proofs.ReadingLemmas.{by_same, by_both}
use Rattle.file_reports.specs.declared.statistics_listing.StatisticsFault.TheVariants.{Input}
use Rattle.file_commands.proofs.CountedLemmas.{counted_once, counted_twice}
use Rattle.file_commands.proofs.counting.count_at_path.Goals as goal

pub returns-in_default : goal.returns-in_default
returns-in_default g c =
    by_same _ _ c.count_once-system.ensures (λ calls counts.
    counted_once g.D.Disk.unseen c.args.path.now (g.W.Write.contents c.args.out.now) (g.W.Write.contents c.count_once-system.new.out) calls c.count_once-system.result.1 counts)

pub returns-in-Err-Input : goal.returns-in-Err-Input
returns-in-Err-Input g c =
    let failed : c.count_once-system.result.1 ≡ Err Input = search rules in
    by_both _ _ _ c.count_once-system.ensures c.count_once.ensures (λ calls later first second.
    counted_twice g.D.Disk.unseen c.args.path.now (g.W.Write.contents c.args.out.now) (g.W.Write.contents c.count_once-system.new.out) (g.W.Write.contents c.count_once.new.out) calls later
    c.count_once.result.1 c.count_once-system.result.1 failed first second)
