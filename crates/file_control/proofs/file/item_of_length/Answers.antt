use Rattle.std.proofs.Common.{◌∙◌, ap, cond}
use Rattle.file_control.proofs.FaultLemmas.{item_named}
use Rattle.file_control.proofs.file.item_of_length.Goals as goal

pub returns-in-Err-clause-code : goal.returns-in-Err-clause-code
returns-in-Err-clause-code c =
    c.in-Err.ensures.code ∙ ap (λ b. cond b 7 3) (item_named c.args.storage.now c.args.length.now c.in-Varying.lengths c.item_bytes.result.now c.in-Varying.is c.item_bytes.ensures)
