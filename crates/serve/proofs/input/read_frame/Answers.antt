use Rattle.std.proofs.Common.{◌∙◌}
use Rattle.std.proofs.lemmas.List.{length-take-le}
use Rattle.serve.proofs.InputLemmas.{no_length, no_body}
use Rattle.serve.proofs.input.read_frame.Goals as goal

pub returns-in-Ok-false : goal.returns-in-Ok-false
returns-in-Ok-false g c = (no_length _ _ (c.in-Ok-false.ensures.short c.in-Ok-false.field-0-test), c.in-Ok-false.ensures.end c.in-Ok-false.field-0-test)

pub returns-in-Err : goal.returns-in-Err
returns-in-Err g c = (no_length _ _ c.in-Err.ensures.cut, c.in-Err.ensures.failed)

pub returns-in-Ok-false-read_whole : goal.returns-in-Ok-false-read_whole
returns-in-Ok-false-read_whole g c =
    let small = c.if-size-gt-LENGTH_LIMIT.false in
    let head = c.in-Ok-true.ensures.whole c.in-Ok-true.field-0-test in
    let is = c.length_of.ensures in
    let room = length-take-le c.from-size.result c.args.buffer.now (rw c.told-buffer small) in (
      no_body _ _ _ c.read_whole.new.room c.length_of.result _ is (rw (← c.from-size.ensures) small) (room ∙ c.from-size.ensures) head (c.in-Ok-false-read_whole.ensures.short c.in-Ok-false-read_whole.field-0-test),
      c.in-Ok-false-read_whole.ensures.end c.in-Ok-false-read_whole.field-0-test,
    )

pub returns-in-Err-read_whole : goal.returns-in-Err-read_whole
returns-in-Err-read_whole g c =
    let small = c.if-size-gt-LENGTH_LIMIT.false in
    let head = c.in-Ok-true.ensures.whole c.in-Ok-true.field-0-test in
    let is = c.length_of.ensures in
    let room = length-take-le c.from-size.result c.args.buffer.now (rw c.told-buffer small) in
    (no_body _ _ _ c.read_whole.new.room c.length_of.result _ is (rw (← c.from-size.ensures) small) (room ∙ c.from-size.ensures) head c.in-Err-read_whole.ensures.cut, c.in-Err-read_whole.ensures.failed)
