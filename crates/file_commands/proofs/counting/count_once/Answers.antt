use Rattle.std.proofs.Common.{[]}
use Rattle.folder_shelf.proofs.ReadingLemmas.{by_none}
use Rattle.file_commands.proofs.CountedLemmas.{not_counted}
use Rattle.file_commands.proofs.counting.count_once.Goals as goal

pub returns-in-Err : goal.returns-in-Err
returns-in-Err g c = by_none _ (not_counted g.D.Disk.unseen c.args.path.now (g.W.Write.contents c.args.out.now) [])
