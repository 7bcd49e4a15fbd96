use Rattle.std.proofs.Common.{rules}
use Rattle.command_support.proofs.FrontLemmas.{asked_is}
use Rattle.command_support.proofs.file_bytes.asked_by.Goals as goal

pub returns : goal.returns
returns c =
    let whole = asked_is c.args.first.now c.read_u32-pages.result c.saturating_sub.result (search rules) (search rules) (search rules) in
    search rules
