use Rattle.std.proofs.Common.{take}
use Rattle.streams.proofs.FaultLemmas.{named}
use Rattle.streams.proofs.fault_lines.fault_name.Goals as goal

pub returns : goal.returns
returns c = (take c.in_ok-at.at c.in_ok-front.front.now, rw c.split_at.ensures.back (named c.args.line.now c.in_ok-front.front.now c.in_ok-at.at c.in_ok-front.ensures c.in_ok-at.ensures.0 c.in_ok-at.ensures.1))
