use Rattle.std.proofs.Common.{Result, refl, subst}
use Rattle.folder_shelf.specs.Reading.{ByReads}
use Rattle.folder_shelf.proofs.ReadingLemmas.{by_same}
use Rattle.file_reports.specs.declared.statistics_listing.StatisticsFault.{StatisticsFault}
use Rattle.file_reports.specs.declared.statistics_listing.FileStatisticsEnd.{FileStatisticsEnd}
use Rattle.file_commands.specs.Counted.{CountsAtPath}
use Rattle.file_commands.proofs.CountedLemmas.{counted_file}
use Rattle.file_commands.proofs.counting.count_path.Goals as goal

pub returns-in-Ok : goal.returns-in-Ok
returns-in-Ok g c =
    let before = g.W.Write.contents c.args.out.now in
    let behind = g.W.Write.contents c.count_at_path-system.new.out in
    let disk = g.D.Disk.unseen in
    let counted = subst (λ (r : Result FileStatisticsEnd StatisticsFault). ByReads (CountsAtPath disk c.args.path.now before behind r) (g.S.System.state c.args.system) (g.S.System.state c.count_at_path-system.result.0))
    c.in-Ok.is c.count_at_path-system.ensures in
    by_same _ _ counted (λ calls counts. record {
      right = (c.in-Ok.end, refl, counts.ends, counted_file disk c.args.path.now before behind calls c.in-Ok.end counts);
      fault = tt;
    })

pub returns-in-Err : goal.returns-in-Err
returns-in-Err g c = by_same _ _ c.count_at_path-system.ensures (λ calls counts. record { right = tt; fault = c.fault_of-fault.ensures })
