use Rattle.std.proofs.Common.{w64}
use Rattle.std.proofs.lemmas.Nat.Bits.{bit_at_set_same, bit_at_set_other, bit_at_clear_same, bit_at_clear_other}
use Rattle.page_walks.proofs.bits.with_bit.Goals as goal

pub returns-then-to-clause-here : goal.returns-then-to-clause-here
returns-then-to-clause-here c = rw c.if-to.true (bit_at_set_same w64 c.args.word c.args.k c.requires)

pub returns-then-to-clause-others : goal.returns-then-to-clause-others
returns-then-to-clause-others c j low other = bit_at_set_other w64 c.args.word c.args.k c.requires j other

pub returns-else-to-clause-here : goal.returns-else-to-clause-here
returns-else-to-clause-here c = rw c.if-to.false (bit_at_clear_same w64 c.args.word c.args.k c.requires)

pub returns-else-to-clause-others : goal.returns-else-to-clause-others
returns-else-to-clause-others c j low other = bit_at_clear_other w64 c.args.word c.args.k c.requires j low other
