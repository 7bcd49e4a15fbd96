use Rattle.std.proofs.Common.{Result, subst}
use Rattle.folder_shelf.proofs.ReadingLemmas.{by_same}
use Rattle.file_checker.specs.declared.verdict.Verdict.{Verdict}
use Rattle.file_commands.specs.ByPages.{ExaminesAtPath}
use Rattle.file_commands.specs.declared.by_pages.NotRead.{NotRead}
use Rattle.file_commands.proofs.VerdictLemmas.{found_verdict, found_none}
use Rattle.file_commands.proofs.verdict.verdict_of.Goals as goal

pub returns-in-Ok : goal.returns-in-Ok
returns-in-Ok g c =
    by_same _ _ c.examine_at_path-system.ensures (λ calls found.
    found_verdict g.D.Disk.unseen c.args.path.now calls c.in-Ok.verdict
    (subst (λ (told : Result Verdict NotRead). ExaminesAtPath g.D.Disk.unseen c.args.path.now told calls) c.in-Ok.is found))

pub returns-in-Err : goal.returns-in-Err
returns-in-Err g c =
    by_same _ _ c.examine_at_path-system.ensures (λ calls found.
    found_none g.D.Disk.unseen c.args.path.now calls c.in-Err.why
    (subst (λ (told : Result Verdict NotRead). ExaminesAtPath g.D.Disk.unseen c.args.path.now told calls) c.in-Err.is found) c.without_verdict-why.result c.without_verdict-why.ensures)
