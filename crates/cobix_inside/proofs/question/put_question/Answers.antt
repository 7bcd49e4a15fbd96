use Rattle.std.proofs.Common.{ap, subst, ◌∙◌, List, ℕ, OnOk, flat_map}
use Rattle.std.specs.Io.KnownBytes.{Appends}
use Rattle.byteorder.specs.Endian.{little_bytes}
use Rattle.cobix_inside.specs.Questions.{question_numbers, follows}
use Rattle.cobix_inside.proofs.StreamLemmas.{both_written}
use Rattle.cobix_inside.proofs.question.put_question.Goals as goal

pub returns : goal.returns
returns g c =
    let has = g.W.Write.contents in
    let question = c.args.question.now in
    let numbers = subst (λ (bytes : List ℕ). Appends (has c.args.output.now) (has c.write_all.new.self) bytes)
    (c.write_u64_into.ensures ∙ ap (λ (l : List ℕ). flat_map (little_bytes 8) l) c.numbers.ensures) c.in_ok-write_all.ensures.bytes in
    let rest = subst (λ (bytes : List ℕ). OnOk c.write_all-2.result (Appends (has c.write_all.new.self) (has c.write_all-2.new.self) bytes)) c.follows.ensures c.write_all-2.ensures.bytes in
    both_written (has c.args.output.now) (has c.write_all.new.self) (has c.write_all-2.new.self) (flat_map (little_bytes 8) (question_numbers question)) (follows question)
    c.write_all-2.result numbers rest
