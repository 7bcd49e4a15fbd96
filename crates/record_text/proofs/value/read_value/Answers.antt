use Rattle.std.proofs.Common.{◌-◌}
use Rattle.record_text.proofs.ValueLemmas.{value_part, no_value}
use Rattle.record_text.proofs.MistakeLemmas.{value_mistake}
use Rattle.record_text.proofs.value.read_value.Goals as goal

pub returns-in-Err-clause-mistake : goal.returns-in-Err-clause-mistake
returns-in-Err-clause-mistake c = c.in-Err.ensures.mistake (c.args.to - c.args.from)

pub returns-in-Ok-passed_end-clause-read : goal.returns-in-Ok-passed_end-clause-read
returns-in-Ok-passed_end-clause-read c =
    value_part c.args.quoting c.args.is_first c.args.name.now.bytes c.args.text.now c.in-Ok.opened.now c.in-Ok.ensures.some c.args.area.now c.args.from c.args.to
    c.read_cell-cell.new.area c.read_cell-cell.result.at c.read_cell-cell.result.behind.now c.read_cell-cell.ensures c.in-Ok-passed_end.behind.now c.in-Ok-passed_end.ensures.some

pub returns-in-Err-passed_end-clause-none : goal.returns-in-Err-passed_end-clause-none
returns-in-Err-passed_end-clause-none c =
    no_value c.args.quoting c.args.is_first c.args.name.now.bytes c.args.text.now c.in-Ok.opened.now c.in-Ok.ensures.some c.args.area.now c.args.from c.args.to
    c.read_cell-cell.new.area c.read_cell-cell.result.at c.read_cell-cell.result.behind.now c.read_cell-cell.ensures c.in-Err-passed_end.ensures.none

pub returns-in-Err-passed_end-clause-mistake : goal.returns-in-Err-passed_end-clause-mistake
returns-in-Err-passed_end-clause-mistake c =
    value_mistake c.args.quoting c.args.is_first c.args.name.now.bytes c.args.text.now c.in-Ok.opened.now c.in-Ok.ensures.some c.args.area.now c.args.from c.args.to
    c.read_cell-cell.new.area c.read_cell-cell.result.at c.read_cell-cell.result.behind.now c.read_cell-cell.ensures c.in-Err-passed_end.mistake c.in-Err-passed_end.ensures.mistake
