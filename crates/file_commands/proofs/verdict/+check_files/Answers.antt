use Rattle.std.proofs.Common.{rules, ◌≡◌, ℕ, List, [], ◌∷◌, ◌++◌, Option, Result, Bor, sym, subst}
use Rattle.folder_shelf.proofs.ReadingLemmas.{by_none, by_same, by_both}
use Rattle.file_checker.specs.declared.verdict.Verdict.{Verdict}
use Rattle.command_support.specs.Front.{GivesSuch}
use Rattle.command_support.specs.declared.fault.CommandFault.{CommandFault}
use Rattle.command_support.specs.declared.outcome.WorstCheck.{WorstCheck}
use Rattle.command_support.specs.declared.outcome.WorstCheck.TheVariants.{AllSound}
use Rattle.file_commands.specs.Verdicts.{worse_of, paths_of, WritesLineOf, WritesVerdicts}
use Rattle.file_commands.proofs.VerdictLemmas.{no_paths, none_checked, one_more}
use Rattle.file_commands.proofs.verdict.+check_files.Goals as goal

pub returns-in_default : goal.returns-in_default
returns-in_default g t c =
    let out = g.W.Write.contents c.args.out.now in
    let none = no_paths c.args.paths.now c.in_default.ensures.cases in
    by_none _ (subst (λ (paths : List (Bor (List ℕ))). WritesVerdicts g.D.Disk.unseen (paths_of paths) out out [] AllSound) (sym none) (none_checked g.D.Disk.unseen out))

pub returns-in-Err : goal.returns-in-Err
returns-in-Err g t c =
    let before = g.W.Write.contents c.args.out.now in
    let between = g.W.Write.contents c.check_named-system.new.out in
    by_same _ _ c.check_named-system.ensures (λ calls line.
    subst (λ (told : Result (Option Verdict) CommandFault). GivesSuch (WritesLineOf g.D.Disk.unseen c.in-Some.first.now.now before between calls) told) c.in-Err.is line)

pub returns-in-Ok-others : goal.returns-in-Ok-others
returns-in-Ok-others g t c =
    let before = g.W.Write.contents c.args.out.now in
    let between = g.W.Write.contents c.check_named-system.new.out in
    let behind = g.W.Write.contents c.check_files-system.new.out in
    let found = c.in-Ok.found in
    let others = c.in-Ok-others.others in
    let both : c.args.paths.now ≡ c.in-Some.first.now ∷ c.in-Some.rest.now = search rules in
    by_both _ _ _ c.check_named-system.ensures c.check_files-system.ensures (λ calls later named checked.
    let line = subst (λ (told : Result (Option Verdict) CommandFault). GivesSuch (WritesLineOf g.D.Disk.unseen c.in-Some.first.now.now before between calls) told) c.in-Ok.is named in
    let rest = subst (λ (told : Result WorstCheck CommandFault). GivesSuch (WritesVerdicts g.D.Disk.unseen (paths_of c.in-Some.rest.now) between behind later) told) c.in-Ok-others.is checked in
    let written = one_more g.D.Disk.unseen c.in-Some.first.now.now (paths_of c.in-Some.rest.now) before between behind calls later found others line rest in
    subst (λ (worst : WorstCheck). WritesVerdicts g.D.Disk.unseen (paths_of c.args.paths.now) before behind (later ++ calls) worst) (sym c.worse_of.ensures)
    (subst (λ (paths : List (Bor (List ℕ))). WritesVerdicts g.D.Disk.unseen (paths_of paths) before behind (later ++ calls) (worse_of found others)) (sym both) written))

pub returns-in-Err-others : goal.returns-in-Err-others
returns-in-Err-others g t c =
    let between = g.W.Write.contents c.check_named-system.new.out in
    let behind = g.W.Write.contents c.check_files-system.new.out in
    by_both _ _ _ c.check_named-system.ensures c.check_files-system.ensures (λ calls later named checked.
    subst (λ (told : Result WorstCheck CommandFault). GivesSuch (WritesVerdicts g.D.Disk.unseen (paths_of c.in-Some.rest.now) between behind later) told) c.in-Err-others.is checked)
