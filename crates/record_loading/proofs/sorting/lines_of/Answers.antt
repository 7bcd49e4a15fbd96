use Rattle.std.proofs.Common.{rules, ◌≡◌, []}
use Rattle.record_loading.specs.LineForm.{line_form}
use Rattle.record_loading.proofs.PassingLemmas.{empty_is}
use Rattle.record_loading.proofs.SortedTextLemmas.{all_led}
use Rattle.record_loading.proofs.sorting.lines_of.Goals as goal

-- no line is left
pub returns : goal.returns
returns c =
    let none : c.more.rest.now ≡ [] = empty_is c.more.rest.now (search rules) in
    all_led c.args.schema.now (line_form c.args.form.now c.args.options) c.more.lines.items c.args.text.now c.more.rest.now c.more.invariant.1 none
