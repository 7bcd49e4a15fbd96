use Rattle.std.proofs.Common.{◌∙◌, sym, ap, Bool, ◌||◌}
use Rattle.page_store.specs.Images.{durable, covered}
use Rattle.memory_shelf.specs.Events.{steps}
use Rattle.memory_shelf.proofs.CrashLemmas.{earlier, touched_wrote, touched_other}
use Rattle.memory_shelf.proofs.crash.+is_touched.Goals as goal

pub returns-then-is_within : goal.returns-then-is_within
returns-then-is_within t c =
    let some = c.in-len1-up.len_at_least in
    let before = covered (durable (steps (earlier c.args.log.now c.last-item.result some c.last-item.is))).ranges c.args.byte in
    c.if-is_within.true ∙ sym (touched_wrote c.args.log.now c.last-item.result some c.last-item.is c.in-Wrote.at c.in-Wrote.n c.args.byte c.in-Wrote.is ∙ ap (λ (v : Bool). v || before) (sym c.is_within.ensures ∙ c.if-is_within.true))

pub returns-else-is_within : goal.returns-else-is_within
returns-else-is_within t c =
    let some = c.in-len1-up.len_at_least in
    let before = covered (durable (steps (earlier c.args.log.now c.last-item.result some c.last-item.is))).ranges c.args.byte in
    c.is_touched.ensures ∙ sym (touched_wrote c.args.log.now c.last-item.result some c.last-item.is c.in-Wrote.at c.in-Wrote.n c.args.byte c.in-Wrote.is ∙ ap (λ (v : Bool). v || before) (sym c.is_within.ensures ∙ c.if-is_within.false))

pub returns-in-Created : goal.returns-in-Created
returns-in-Created t c = sym (touched_other c.args.log.now c.last-item.result c.in-len1-up.len_at_least c.last-item.is c.args.byte c.in-Created.is)

pub returns-in-Created-2 : goal.returns-in-Created-2
returns-in-Created-2 t c = sym (touched_other c.args.log.now c.last-item.result c.in-len1-up.len_at_least c.last-item.is c.args.byte c.in-Created.is)
