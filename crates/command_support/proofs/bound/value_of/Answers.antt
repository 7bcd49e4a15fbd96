use Rattle.command_support.proofs.BoundLemmas.{all_read}
use Rattle.command_support.proofs.bound.value_of.Goals as goal

pub returns : goal.returns
returns c =
    record {
      value = all_read c.args.text.now c.more.key.items c.more.rest.now (c.next_byte.ensures.none c.in_default.is) c.more.invariant.read;
      fault = tt;
    }
