use Rattle.std.proofs.Common.{◌≡◌, ◌≤◌, List, ℕ, ◌++◌, length, ap, sym, subst, ◌∙◌}
use Rattle.record_text.specs.Lines.{line_in}
use Rattle.salvaged_records.specs.Slots.{found_slot}
use Rattle.salvaged_records.specs.Leads.{lead_text_of}
use Rattle.salvaged_records.proofs.LineLemmas.{line_added, second_held}
use Rattle.salvaged_records.proofs.slot_lines.hold_slot.Goals as goal

pub returns-in-Ok-clause-held : goal.returns-in-Ok-clause-held
returns-in-Ok-clause-held g c =
    let slot = c.args.slot.now in
    let line = line_in c.args.form.now slot.bytes.now in
    let fits = subst (λ (n : ℕ). length line ≤ n) (sym c.clear.ensures.capacity) (c.requires.room slot.bytes.now slot.short) in
    let added = line_added line c.clear.new.self c.append_line.new.text c.append_line.result c.append_line.ensures c.clear.ensures.items fits in
    let line_is : c.as_slice-in-Ok.result.now ≡ line = c.as_slice-in-Ok.ensures.value ∙ added.items ∙ ap (λ (l : List ℕ). l ++ line) c.clear.ensures.items in
    second_held c.hold-in-Ok.result (g.W.Write.contents c.args.out.now) (g.W.Write.contents c.hold.new.out) (g.W.Write.contents c.hold-in-Ok.new.out) c.args.lines.now c.hold.new.self c.hold-in-Ok.new.self
    c.as_slice.result.now c.as_slice-in-Ok.result.now (lead_text_of c.args.lead c.args.form.now (found_slot slot)) line (c.as_slice.ensures.value ∙ c.lead_text_of-text.ensures) line_is c.in-Ok.ensures.held
    c.hold-in-Ok.ensures.held
