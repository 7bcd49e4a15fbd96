use Rattle.std.proofs.Common.{refl, arith}
use Rattle.streams.proofs.EndLemmas.{passed}
use Rattle.streams.proofs.line_ends.LineEnds.pass.Goals as goal

pub returns : goal.returns
returns c = λ before h.
    let few = c.if-size-lt3.false in
    passed before c.args.bytes.now c.args.self.now _ _ _ (omega (arith, few)) refl refl refl c.requires h
