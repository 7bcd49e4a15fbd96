use Rattle.std.proofs.Common.{◌≡◌, ℕ, List, length, take, sym, subst, ◌∙◌}
use Rattle.record_text.specs.Lines.{line_in}
use Rattle.record_text.specs.Room.{IsLineRoom}
use Rattle.record_listing.proofs.ReadingLemmas.{in_room, held_or_refused}
use Rattle.record_listing.proofs.rows.hold_record.Goals as goal

pub returns-clause-held : goal.returns-clause-held
returns-clause-held g c =
    let room = subst (IsLineRoom c.args.form.now (length c.args.area.now)) (sym c.clear.ensures.capacity) c.requires.room in
    let text = in_room c.args.form.now c.front_of.result.now (length c.args.area.now) c.clear.new.self c.append_line.new.text c.append_line.result c.append_line.ensures c.clear.ensures.items room c.front_of.ensures.few in
    held_or_refused (g.W.Write.contents c.args.out.now) (g.W.Write.contents c.hold.new.out) c.args.lines.now c.hold.new.self c.as_slice.result.now (line_in c.args.form.now (take c.args.size c.args.area.now)) c.hold.result
    (c.as_slice.ensures.value ∙ subst (λ (bytes : List ℕ). c.append_line.new.text.items ≡ line_in c.args.form.now bytes) c.front_of.ensures.front text) c.hold.ensures.held c.hold.ensures.refused
