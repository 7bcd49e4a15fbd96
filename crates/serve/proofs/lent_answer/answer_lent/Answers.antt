use Rattle.std.proofs.Common.{ℕ, List, ◌++◌, take, refl, ap, ◌∙◌}
use Rattle.serve.specs.Answer.{Told}
use Rattle.serve.specs.Answers.{answer_frame, told_by}
use Rattle.serve.specs.LentAnswer.{exchange}
use Rattle.serve.proofs.RoomLemmas.{room_headed}
use Rattle.serve.proofs.lent_answer.answer_lent.Goals as goal

pub returns : goal.returns
returns g c =
    let old = c.args.session.now in
    let new = c.outcome_of-outcome.new.session in
    let told : Told = told_by new.table c.outcome_of-outcome.result in
    let answers = c.outcome_of-outcome.ensures in
    let size = c.put_head.result in
    let room = c.put_head.new.room in
    let headed = room_headed c.args.room.now room size c.put_head.ensures.rest in (
      (
        refl,
        λ _. tt,
        record {
          told = told;
          answers = answers;
          head = take size room;
          frame = ap (λ (bytes : List ℕ). take size room ++ bytes) c.record.ensures ∙ c.put_head.ensures.frame ∙ ap answer_frame c.answer_by-answer.ensures.told;
          room_is = headed.0;
          count_is = headed.1;
          no_false_file = λ start exchanges before. c.no_false_file_in_requests.ensures.next start exchanges (exchange c.args.body.now told) old new before answers;
          exact = λ start exchanges before. c.exact_in_requests.ensures.next start exchanges (exchange c.args.body.now told) old new before answers;
        },
      ),
      record { answered = tt },
    )
