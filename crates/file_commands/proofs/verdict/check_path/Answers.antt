use Rattle.std.proofs.Common.{Result, refl, subst}
use Rattle.folder_shelf.proofs.ReadingLemmas.{by_same}
use Rattle.file_checker.specs.declared.verdict.Verdict.{Verdict}
use Rattle.file_commands.specs.Verdicts.{FindsVerdict}
use Rattle.file_commands.specs.declared.verdict.NoVerdict.{NoVerdict}
use Rattle.file_commands.proofs.verdict.check_path.Goals as goal

pub returns-in-Err : goal.returns-in-Err
returns-in-Err g c = by_same _ _ c.verdict_of-system.ensures (λ calls found. record { right = tt; fault = c.fault_by.ensures })

pub returns-in-Ok-write_alone : goal.returns-in-Ok-write_alone
returns-in-Ok-write_alone g c =
    by_same _ _ c.verdict_of-system.ensures (λ calls found.
    let finds = subst (λ (told : Result Verdict NoVerdict). FindsVerdict g.D.Disk.unseen c.args.path.now told calls) c.in-Ok.is found in
    record { right = (c.in-Ok.verdict, refl, finds.right, c.in-Ok-write_alone.ensures); fault = tt })

pub returns-in-Err-write_alone : goal.returns-in-Err-write_alone
returns-in-Err-write_alone g c = by_same _ _ c.verdict_of-system.ensures (λ calls found. record { right = tt; fault = c.in-Err-write_alone.ensures })
