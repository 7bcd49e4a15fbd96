use Rattle.std.proofs.Common.{rules, ◌<◌, length}
use Rattle.command_support.proofs.ConditionLemmas.{digits_if_some}
use Rattle.command_support.proofs.conditions.are_digits.Goals as goal

pub returns-then-not-is_empty : goal.returns-then-not-is_empty
returns-then-not-is_empty c =
    let some : 0 < length c.args.bytes.now = search rules in
    digits_if_some c.args.bytes.now c.all_digits.result some c.all_digits.ensures
