use Rattle.std.proofs.Common.{true, false, refl}
use Rattle.std.specs.Prelude.{codes}
use Rattle.deck_parser.proofs.SignLemmas.{compared, sign_found, no_sign}
use Rattle.deck_parser.proofs.run.sign_of.Goals as goal

pub returns-then-eq : goal.returns-then-eq
returns-then-eq c =
    sign_found c.args.text.now (codes "=") refl (compared c.args.text.now (codes "=") c.as_slice.result.now c.eq.result c.as_slice.ensures c.eq.ensures true c.if-eq.true)

pub returns-then-eq-2 : goal.returns-then-eq-2
returns-then-eq-2 c =
    sign_found c.args.text.now (codes ">") refl (compared c.args.text.now (codes ">") c.as_slice-2.result.now c.eq-2.result c.as_slice-2.ensures c.eq-2.ensures true c.if-eq-2.true)

pub returns-then-eq-3 : goal.returns-then-eq-3
returns-then-eq-3 c =
    sign_found c.args.text.now (codes ">=") refl (compared c.args.text.now (codes ">=") c.as_slice-3.result.now c.eq-3.result c.as_slice-3.ensures c.eq-3.ensures true c.if-eq-3.true)

pub returns-then-eq-4 : goal.returns-then-eq-4
returns-then-eq-4 c =
    sign_found c.args.text.now (codes "<") refl (compared c.args.text.now (codes "<") c.as_slice-4.result.now c.eq-4.result c.as_slice-4.ensures c.eq-4.ensures true c.if-eq-4.true)

pub returns : goal.returns
returns c =
    no_sign c.args.text.now
    (compared c.args.text.now (codes "=") c.as_slice.result.now c.eq.result c.as_slice.ensures c.eq.ensures false c.if-eq.false)
    (compared c.args.text.now (codes ">") c.as_slice-2.result.now c.eq-2.result c.as_slice-2.ensures c.eq-2.ensures false c.if-eq-2.false)
    (compared c.args.text.now (codes ">=") c.as_slice-3.result.now c.eq-3.result c.as_slice-3.ensures c.eq-3.ensures false c.if-eq-3.false)
    (compared c.args.text.now (codes "<") c.as_slice-4.result.now c.eq-4.result c.as_slice-4.ensures c.eq-4.ensures false c.if-eq-4.false)
