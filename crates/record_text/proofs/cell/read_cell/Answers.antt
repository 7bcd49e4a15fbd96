use Rattle.std.proofs.Common.{rules, ◌≡◌, ◌++◌, sym, ap, ◌∙◌}
use Rattle.record_text.specs.Quoted.{quoted_byte}
use Rattle.record_text.proofs.CellLemmas.{none_read, one_more, ended_here, ended_full}
use Rattle.record_text.proofs.cell.read_cell.Goals as goal

pub more-init : goal.more-init
more-init c = none_read c.args.quoting c.args.text.now c.args.area.now c.args.from c.args.to c.requires.order

pub returns-in_default : goal.returns-in_default
returns-in_default c =
    ended_here c.args.quoting c.args.text.now c.args.area.now c.args.from c.args.to c.more.area c.more.at c.more.rest.now c.more.invariant (c.first_quoted.ensures.none (search rules))

pub more-preserved : goal.more-preserved
more-preserved c =
    let first = c.in-Some.first in
    let at : c.more.rest.now ≡ quoted_byte c.args.quoting first.byte ++ c.split_at.result.1.now = c.in-Some.ensures.shown.0 ∙ ap (λ l. quoted_byte c.args.quoting first.byte ++ l) (sym c.split_at.ensures.back) in
    one_more c.args.quoting c.args.text.now c.args.area.now c.args.from c.args.to c.more.area c.more.at c.more.rest.now c.more.invariant first.byte c.split_at.result.1.now
    c.in-Some.ensures.byte c.more-test.true c.requires.room at

pub returns : goal.returns
returns c =
    ended_full c.args.quoting c.args.text.now c.args.area.now c.args.from c.args.to c.more.area c.more.at c.more.rest.now c.more.invariant c.more-test.false
