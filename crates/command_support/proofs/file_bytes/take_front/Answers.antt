use Rattle.std.proofs.Common.{Some, None, refl}
use Rattle.folder_shelf.specs.Calls.{taken}
use Rattle.folder_shelf.proofs.ReadingLemmas.{by_one}
use Rattle.command_support.proofs.file_bytes.take_front.Goals as goal

pub returns-in-Ok : goal.returns-in-Ok
returns-in-Ok g c = by_one _ _ (taken c.args.path.now c.args.most (Some c.in-Ok.bytes.items)) c.in-Ok.ensures.came tt refl

pub returns-in-Err : goal.returns-in-Err
returns-in-Err g c = by_one _ _ (taken c.args.path.now c.args.most None) c.in-Err.ensures.failed tt c.fault_of.ensures
