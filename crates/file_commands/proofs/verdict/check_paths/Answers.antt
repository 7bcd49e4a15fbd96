use Rattle.std.proofs.Common.{Result, refl, subst}
use Rattle.folder_shelf.proofs.ReadingLemmas.{by_same}
use Rattle.command_support.specs.Front.{GivesSuch}
use Rattle.command_support.specs.declared.fault.CommandFault.{CommandFault}
use Rattle.command_support.specs.declared.outcome.WorstCheck.{WorstCheck}
use Rattle.file_commands.specs.Verdicts.{paths_of, WritesVerdicts}
use Rattle.file_commands.proofs.verdict.check_paths.Goals as goal

pub returns-in-Ok : goal.returns-in-Ok
returns-in-Ok g c =
    let before = g.W.Write.contents c.args.out.now in
    let behind = g.W.Write.contents c.check_files-system.new.out in
    by_same _ _ c.check_files-system.ensures (λ calls written.
    let right = subst (λ (told : Result WorstCheck CommandFault). GivesSuch (WritesVerdicts g.D.Disk.unseen (paths_of c.args.paths.now) before behind calls) told) c.in-Ok.is written in
    record { right = (c.in-Ok.worst, refl, right); fault = tt })

pub returns-in-Err : goal.returns-in-Err
returns-in-Err g c =
    let before = g.W.Write.contents c.args.out.now in
    let behind = g.W.Write.contents c.check_files-system.new.out in
    by_same _ _ c.check_files-system.ensures (λ calls written.
    record {
      right = tt;
      fault = subst (λ (told : Result WorstCheck CommandFault). GivesSuch (WritesVerdicts g.D.Disk.unseen (paths_of c.args.paths.now) before behind calls) told) c.in-Err.is written;
    })
