use Rattle.std.specs.Prelude.{codes}
use Rattle.record_loading.specs.Answer.{line_start}
use Rattle.record_loading.proofs.LineWrittenLemmas.{both_written}
use Rattle.record_loading.proofs.telling.write_start.Goals as goal

pub returns : goal.returns
returns g c =
    let has = g.W.Write.contents in
    both_written (has c.args.out.now) (has c.write_all.new.self) (has c.write_number.new.out) (codes "cobix: ") (line_start c.args.line) c.write_number.result
    c.in_ok-write_all.ensures.bytes c.write_number.ensures
