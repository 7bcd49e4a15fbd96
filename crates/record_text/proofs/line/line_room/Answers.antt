use Rattle.std.proofs.Common.{◌≡◌, ℕ, List, ◌++◌, replicate, rules, ap, sym, subst, ◌∙◌}
use Rattle.record_text.specs.Lines.{line_in}
use Rattle.record_text.specs.Room.{IsLineRoom}
use Rattle.record_text.proofs.RoomLemmas.{room_of, zeros_are}
use Rattle.record_text.proofs.line.line_room.Goals as goal

pub returns : goal.returns
returns c =
    let zeros : c.as_slice.result.now ≡ replicate c.args.most 0 =
    c.as_slice.ensures.value ∙ zeros_are c.from.result c.args.most _ _ _ c.in_ok-resize.ensures.items c.new-zeros.ensures.items c.new-zeros.ensures.len (search rules) in
    let items : c.append_line.new.text.items ≡ line_in c.args.form.now (replicate c.args.most 0) =
    c.in_ok-append_line.ensures.items ∙ ap (λ (l : List ℕ). l ++ line_in c.args.form.now c.as_slice.result.now) c.new-line.ensures.items ∙ ap (line_in c.args.form.now) zeros in
    subst (IsLineRoom c.args.form.now c.args.most) (sym c.clear.ensures.capacity) (room_of c.args.form.now c.args.most c.append_line.new.text items)
