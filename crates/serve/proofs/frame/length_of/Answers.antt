use Rattle.std.proofs.Common.{arith}
use Rattle.serve.proofs.InputLemmas.{head_back}
use Rattle.serve.proofs.frame.length_of.Goals as goal

pub returns : goal.returns
returns c = rw c.read_u16.ensures (head_back c.args.head.now c.requires (λ i. omega (arith, c.type_inv.head i)))
