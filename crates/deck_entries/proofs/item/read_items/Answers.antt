use Rattle.std.proofs.Common.{◌≡◌, ◌∙◌, sym, subst, Some, List}
use Rattle.std.proofs.lemmas.Result.{err_from_is_err_and}
use Rattle.deck_parser.proofs.TurnLemmas.{begun, further, not_further, finished, turn_takes_some}
use Rattle.deck_entries.specs.FileDescription.{more_item}
use Rattle.deck_entries.proofs.DescriptionLemmas.{alike_items}
use Rattle.deck_entries.proofs.item.read_items.Goals as goal

pub more-init : goal.more-init
more-init c =
    begun more_item _ _ alike_items _ c.in_ok-items.items c.args.parser.now c.one_more.new.parser (subst (λ first. (more_item first).reads c.args.parser.now ≡ Some (c.in_ok-items.items, c.one_more.new.parser)) c.new.ensures c.in_ok-items.ensures.0)

pub returns-in_err-items-2 : goal.returns-in_err-items-2
returns-in_err-items-2 c =
    let p = err_from_is_err_and c.from_residual-in_err-items-2.result c.from_residual-in_err-items-2.ensures.1 in
    rw (p.1, p.2) (not_further more_item _ _ alike_items _ _ c.more.items c.more.parser c.in_err-items-2.field-0.0 c.more.invariant (sym (c.sees_item.ensures c.more.items) ∙ c.more-test.true) c.in_err-items-2.ensures)

pub more-smaller : goal.more-smaller
more-smaller c =
    turn_takes_some more_item _ _ alike_items c.more.items c.in_ok-items-2.items c.more.parser c.one_more-in-more.new.parser c.in_ok-items-2.ensures.0

pub more-preserved : goal.more-preserved
more-preserved c =
    further more_item _ _ alike_items _ _ c.more.items c.in_ok-items-2.items c.more.parser c.one_more-in-more.new.parser c.more.invariant (sym (c.sees_item.ensures c.more.items) ∙ c.more-test.true) c.in_ok-items-2.ensures.0

pub returns : goal.returns
returns c =
    (finished more_item _ _ alike_items _ _ c.more.items c.more.parser c.more.invariant (sym (c.sees_item.ensures c.more.items) ∙ c.more-test.false), tt)
