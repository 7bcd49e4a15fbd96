use Rattle.std.proofs.Common.{Some, None, refl}
use Rattle.folder_shelf.specs.Calls.{taken}
use Rattle.folder_shelf.proofs.ReadingLemmas.{by_one}
use Rattle.command_support.specs.Front.{longest_line}
use Rattle.command_support.proofs.file_bytes.take_text.Goals as goal

pub returns-in-Ok : goal.returns-in-Ok
returns-in-Ok g c =
    let came = c.in-Ok.ensures.came in
    by_one _ _ (taken c.args.path.now came.0 (Some c.in-Ok.text.items)) came.1 tt (came.0, refl, came.2)

pub returns-in-Err : goal.returns-in-Err
returns-in-Err g c = by_one _ _ (taken c.args.path.now longest_line None) c.in-Err.ensures.failed tt c.fault_of.ensures
