use Rattle.std.proofs.Common.{arith, ◌≤◌, length, sym, subst, ℕ, List}
use Rattle.serve.proofs.RoomLemmas.{behind_record}
use Rattle.serve.proofs.answer.put_answer.Goals as goal

pub returns-clause-rest : goal.returns-clause-rest
returns-clause-rest c =
    let short : length c.record.result.now ≤ 4000 = subst (λ (bytes : List ℕ). length bytes ≤ 4000) (sym c.record.ensures) c.requires.record in
    let fits : c.put.result ≤ length c.put.new.room = omega (arith, c.put.ensures.end, c.put_head-head.ensures.limit, short, c.requires.room, c.put.auto.room, c.put_head-head.auto.room) in
    behind_record c.args.room.now c.put_head-head.new.room c.put.new.room c.record.result.now c.put_head-head.result c.put.result c.put_head-head.ensures.rest c.put.ensures.end fits c.put.ensures.put
