use Rattle.std.proofs.Common.{[], take, arith}
use Rattle.serve.specs.Input.{NoLength}
use Rattle.serve.specs.Serving.{Less}
use Rattle.serve.specs.declared.input.Next.TheVariants.{Frame, TooLong, End}
use Rattle.serve.proofs.InputLemmas.{came_as, gives_none}
use Rattle.serve.proofs.ServingLemmas.{begins_served, way_made, one_more}
use Rattle.serve.proofs.EndLemmas.{held_refused, one_failed, length_told, input_ended, read_failed, worn_out}
use Rattle.serve.proofs.serving.answer_all.Goals as goal

pub loop-init : goal.loop-init
loop-init g c = begins_served _ _ _ _ _ _ c.requires.none_held

pub returns-in_default : goal.returns-in_default
returns-in_default g c =
    held_refused _ _ _ _ _ _ _ (g.W.Write.contents c.make_way.new.out) c.loop.held c.make_way.new.held _ _ _ c.loop.invariant [] (Less [] (NoLength [] (omega arith))) (gives_none _) c.in_default.ensures.refused

pub returns-in-Ok-TooLong : goal.returns-in-Ok-TooLong
returns-in-Ok-TooLong g c =
    let way = way_made _ _ _ _ _ _ (g.W.Write.contents c.make_way.new.out) c.loop.held c.make_way.new.held _ _ _ c.loop.invariant c.ahead.result.now c.in-Ok.ensures.ready in
    let came = came_as _ _ _ _ TooLong c.in-Ok-TooLong.ensures c.in-Ok-TooLong.field-0-is in
    length_told _ _ _ _ _ _ _ (g.W.Write.contents c.refuse_length.new.out) c.make_way.new.held c.refuse_length.new.held _ _ _ way c.refuse_length.result came c.refuse_length.ensures

pub returns-in-Ok-End : goal.returns-in-Ok-End
returns-in-Ok-End g c =
    let way = way_made _ _ _ _ _ _ (g.W.Write.contents c.make_way.new.out) c.loop.held c.make_way.new.held _ _ _ c.loop.invariant c.ahead.result.now c.in-Ok.ensures.ready in
    let came = came_as _ _ _ _ End c.in-Ok-End.ensures c.in-Ok-End.field-0-is in
    input_ended _ _ _ _ _ _ _ (g.W.Write.contents c.finish.new.out) c.make_way.new.held c.finish.new.held _ _ _ way c.finish.result came.0 came.1 c.finish.ensures

pub returns-in-Err : goal.returns-in-Err
returns-in-Err g c =
    let way = way_made _ _ _ _ _ _ (g.W.Write.contents c.make_way.new.out) c.loop.held c.make_way.new.held _ _ _ c.loop.invariant c.ahead.result.now c.in-Ok.ensures.ready in
    read_failed _ _ _ _ _ _ _ (g.W.Write.contents c.finish-in-Err.new.out) c.make_way.new.held c.finish-in-Err.new.held _ _ _ way c.finish-in-Err.result c.in-Err.ensures.0 c.in-Err.ensures.1 c.finish-in-Err.ensures

pub returns-in_default-answer : goal.returns-in_default-answer
returns-in_default-answer g c =
    let way = way_made _ _ _ _ _ _ (g.W.Write.contents c.make_way.new.out) c.loop.held c.make_way.new.held _ _ _ c.loop.invariant c.ahead.result.now c.in-Ok.ensures.ready in
    let came = came_as _ _ _ _ (Frame c.in-Ok-Frame.size) c.in-Ok-Frame.ensures c.in-Ok-Frame.field-0-is in
    one_failed _ _ _ _ _ _ _ (g.W.Write.contents c.answer.new.out) c.make_way.new.held c.answer.new.held _ _ _ _ way (take c.in-Ok-Frame.size c.read_frame.new.buffer) came.1 c.in_default-answer.ensures.refused

pub loop-preserved : goal.loop-preserved
loop-preserved g c =
    let way = way_made _ _ _ _ _ _ (g.W.Write.contents c.make_way.new.out) c.loop.held c.make_way.new.held _ _ _ c.loop.invariant c.ahead.result.now c.in-Ok.ensures.ready in
    let came = came_as _ _ _ _ (Frame c.in-Ok-Frame.size) c.in-Ok-Frame.ensures c.in-Ok-Frame.field-0-is in
    one_more _ _ _ _ _ _ _ (g.W.Write.contents c.answer.new.out) c.make_way.new.held c.answer.new.held _ _ _ _ way (take c.in-Ok-Frame.size c.read_frame.new.buffer) came.1 c.in-Ok-answer.ensures.answered

pub returns : goal.returns
returns g c =
    worn_out _ _ _ _ _ _ (g.W.Write.contents c.finish-2.new.out) c.loop.held c.finish-2.new.held _ _ _ c.loop.invariant (let all = c.loop-test.false in omega arith) c.finish-2.result c.finish-2.ensures
