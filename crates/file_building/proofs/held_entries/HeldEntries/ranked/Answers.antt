use Rattle.std.proofs.Common.{◌<◌, ◌∷◌, ◌++◌, [], length, map, ap, sym, ◌∙◌, arith, refl}
use Rattle.std.specs.Prelude.{is_ok, if◌then◌else◌}
use Rattle.pages.specs.Chunks.{chunks}
use Rattle.key_index.specs.Stored.{alt_entry_in}
use Rattle.file_building.specs.Entries.{entry_in, ranked_entries}
use Rattle.file_building.specs.Held.{held_size, held_count}
use Rattle.file_building.proofs.BuiltLemmas.{was_ok}
use Rattle.file_building.proofs.EntryLemmas.{no_chunks}
use Rattle.file_building.proofs.HeldLemmas.{within_run, looked_more, ranked_more}
use Rattle.file_building.proofs.held_entries.HeldEntries.ranked.Goals as goal

pub loop-i-init : goal.loop-i-init
loop-i-init c =
    ap ranked_entries c.new-entries.ensures.items ∙ sym (ap (map (alt_entry_in c.args.self.now.width)) (no_chunks (held_size c.args.self.now) c.args.self.now.bytes.items))

pub loop-i-preserved : goal.loop-i-preserved
loop-i-preserved c =
    let self = c.args.self.now in
    let size = held_size self in
    let i = c.loop-i.i in
    let r = c.at.result in
    let old = c.loop-i.entries.items in
    let below : i < held_count self = omega (arith, c.loop-i-test.true, c.len-count.ensures) in
    let within = within_run size i (held_count self) (length self.bytes.items) below self.whole in
    let ok = was_ok (is_ok c.push.result) c.is_err.result c.is_err.ensures.negation c.if-is_err.false in
    let items = c.push.ensures.items ∙ ap (λ b. if b then old ++ r ∷ [] else old) ok in
    ap ranked_entries items
    ∙ ranked_more old r (entry_in r) (map (alt_entry_in self.width) (chunks size i self.bytes.items)) c.loop-i.invariant refl
    ∙ sym (looked_more self.width size i self.bytes.items (entry_in r) within c.at.ensures)
