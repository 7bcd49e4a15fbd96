use Rattle.command_support.proofs.BoundLemmas.{plain_in_front}
use Rattle.command_support.proofs.bound.next_byte.Goals as goal

pub returns-in-len1-up-clause-some : goal.returns-in-len1-up-clause-some
returns-in-len1-up-clause-some c = plain_in_front c.args.text.now c.in-len1-up.len_at_least (c.escape_at.ensures.none c.in_default.is)
