use Rattle.std.proofs.Common.{◌≡◌, List, ℕ, Some, None, IfOk, refl, subst}
use Rattle.folder_shelf.specs.Calls.{taken_shared}
use Rattle.folder_shelf.proofs.ReadingLemmas.{by_one}
use Rattle.file_reports.specs.SchemaListing.{read_of_file}
use Rattle.file_commands.specs.Differing.{differences_of_page}
use Rattle.file_commands.proofs.DifferingLemmas.{given}
use Rattle.file_commands.proofs.differing.differences_at.Goals as goal

pub returns-in-Ok : goal.returns-in-Ok
returns-in-Ok g c =
    by_one _ _ (taken_shared c.args.path.now 4096 (Some c.in-Ok.first.items)) c.in-Ok.ensures.came tt (given c.args.path.now c.args.deck.now c.in-Ok.first.items c.differences_of.result
    (subst (λ (bytes : List ℕ). IfOk c.differences_of.result (λ lines. lines.items ≡ differences_of_page c.args.deck.now (read_of_file bytes))) c.as_slice.ensures.value c.differences_of.ensures.lines)
    c.differences_of.ensures.fault)

pub returns-in-Err : goal.returns-in-Err
returns-in-Err g c = by_one _ _ (taken_shared c.args.path.now 4096 None) c.in-Err.ensures.failed tt (record { lines = (None, refl, c.new.ensures.items); fault = tt })
