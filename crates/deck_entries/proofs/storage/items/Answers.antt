use Rattle.std.proofs.Common.{◌∙◌, sym}
use Rattle.std.proofs.lemmas.Result.{err_from_is_err_and}
use Rattle.deck_parser.proofs.TurnLemmas.{further, not_further, finished, turn_takes_some}
use Rattle.deck_entries.specs.FileDescription.{more_storage}
use Rattle.deck_entries.proofs.DescriptionLemmas.{alike_storage}
use Rattle.deck_entries.proofs.storage.items.Goals as goal

pub returns-in_err-items : goal.returns-in_err-items
returns-in_err-items c =
    let p = err_from_is_err_and c.from_residual.result c.from_residual.ensures.1 in
    rw (p.1, p.2) (not_further more_storage _ _ alike_storage _ _ c.more.items c.more.parser c.in_err-items.field-0.0 c.more.invariant (sym (c.sees_item.ensures c.more.items) ∙ c.more-test.true) c.in_err-items.ensures)

pub more-smaller : goal.more-smaller
more-smaller c =
    turn_takes_some more_storage _ _ alike_storage c.more.items c.in_ok-items.items c.more.parser c.one_more.new.parser c.in_ok-items.ensures.0

pub more-preserved : goal.more-preserved
more-preserved c =
    further more_storage _ _ alike_storage _ _ c.more.items c.in_ok-items.items c.more.parser c.one_more.new.parser c.more.invariant (sym (c.sees_item.ensures c.more.items) ∙ c.more-test.true) c.in_ok-items.ensures.0

pub returns : goal.returns
returns c =
    (finished more_storage _ _ alike_storage _ _ c.more.items c.more.parser c.more.invariant (sym (c.sees_item.ensures c.more.items) ∙ c.more-test.false), tt)
