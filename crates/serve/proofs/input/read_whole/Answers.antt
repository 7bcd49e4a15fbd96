use Rattle.std.proofs.Common.{rules, ◌≡◌, ◌≤◌, ◌-◌, length, ◌∙◌, arith}
use Rattle.serve.proofs.InputLemmas.{gives_on, room_more, room_whole}
use Rattle.serve.proofs.input.read_whole.Goals as goal

pub more-preserved : goal.more-preserved
more-preserved g c =
    let inside : c.more.at ≤ length c.more.room = c.more.invariant.1 in
    let long : length c.read_part.new.part ≡ length c.more.room - c.more.at = search rules in
    let whole = room_whole c.more.room c.read_part.new.part c.more.at inside long in (
      gives_on _ _ _ _ _ _ c.more.invariant.0 c.in_ok-n.ensures.bytes (room_more c.more.room c.read_part.new.part c.more.at c.in_ok-n.n inside c.in_ok-n.ensures.within),
      (let few = c.in_ok-n.ensures.within in omega arith),
      whole ∙ c.more.invariant.2,
    )
