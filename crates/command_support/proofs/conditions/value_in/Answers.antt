use Rattle.command_support.proofs.BoundLemmas.{all_read}
use Rattle.command_support.proofs.conditions.value_in.Goals as goal

pub returns : goal.returns
returns c = all_read c.args.text.now c.more.value.items c.more.rest.now (c.next_byte.ensures.none c.in_default.is) c.more.invariant.read
