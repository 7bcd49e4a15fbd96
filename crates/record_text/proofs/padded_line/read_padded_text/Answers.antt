use Rattle.record_text.proofs.PaddedLineLemmas.{text_said}
use Rattle.record_text.proofs.padded_line.read_padded_text.Goals as goal

pub returns-clause-read : goal.returns-clause-read
returns-clause-read c =
    text_said c.args.text.now c.args.area.now c.read_text.new.area c.pad.new.item c.in-Ok.line.length c.in-Ok.line.behind.now c.in-Ok.ensures.read c.read_text.auto.area c.pad.ensures
