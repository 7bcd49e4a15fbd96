use Rattle.std.proofs.Common.{◌≡◌, Bool, Some, string_bytes, refl, rules, subst}
use Rattle.folder_shelf.specs.Calls.{asked_of_folder}
use Rattle.folder_shelf.specs.SystemState.{with_call, if_told}
use Rattle.command_line.proofs.InputLemmas.{folder_given, folder_refused}
use Rattle.command_support.specs.declared.fault.CommandFault.TheVariants.{Input, Memory}
use Rattle.command_line.proofs.performing.folder_at.Goals as goal

pub returns-in-Ok : goal.returns-in-Ok
returns-in-Ok g c =
    let path = c.args.path.now in
    let old = g.S.System.state c.args.system.now in
    let new = g.S.System.state c.is_folder.new.self in
    let same : string_bytes c.in-Ok.path ≡ path = search rules in
    folder_given path old new c.in-Ok.path same (subst (λ (told : Bool). new ≡ with_call (asked_of_folder path (Some told)) old) c.in-Ok-true.field-0-test c.in-Ok-true.ensures)

pub returns-in-Err : goal.returns-in-Err
returns-in-Err g c = folder_refused c.args.path.now (g.S.System.state c.args.system.now) (g.S.System.state c.is_folder.new.self) (if_told c.is_folder.result) Memory refl c.is_folder.ensures

pub returns-in_default : goal.returns-in_default
returns-in_default g c = folder_refused c.args.path.now (g.S.System.state c.args.system.now) (g.S.System.state c.is_folder.new.self) (if_told c.is_folder.result) Input refl c.is_folder.ensures
