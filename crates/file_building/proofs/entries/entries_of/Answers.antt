use Rattle.std.proofs.Common.{◌∷◌, ◌++◌, [], ap, sym, ◌∙◌}
use Rattle.std.specs.Prelude.{is_ok, if◌then◌else◌}
use Rattle.file_building.specs.Entries.{ranked_entries, entries_from}
use Rattle.file_building.proofs.BuiltLemmas.{was_ok}
use Rattle.file_building.proofs.EntryLemmas.{no_chunks, entry_more}
use Rattle.file_building.proofs.entries.entries_of.Goals as goal

pub loop-i-init : goal.loop-i-init
loop-i-init c =
    ap ranked_entries c.new-entries.ensures.items ∙ sym (ap (entries_from c.args.schema.now c.args.k 1) (no_chunks c.args.schema.now.least c.args.fronts.now))

pub loop-i-preserved : goal.loop-i-preserved
loop-i-preserved c =
    let e = c.of_record-entry.result in
    let old = c.loop-i.entries.items in
    let ok = was_ok (is_ok c.push.result) c.is_err.result c.is_err.ensures.negation c.if-is_err.false in
    let items = c.push.ensures.items ∙ ap (λ b. if b then old ++ e ∷ [] else old) ok in
    ap ranked_entries items
    ∙ entry_more c.args.schema.now c.args.k c.loop-i.i c.from-least.result c.args.fronts.now old e (c.from-least.ensures ∙ c.least.ensures.least) c.of_record-entry.ensures c.loop-i.invariant
