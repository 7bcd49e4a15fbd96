use Rattle.std.proofs.Common.{[], ◌∷◌}
use Rattle.std.specs.Prelude.{codes}
use Rattle.record_loading.proofs.MistakeLemmas.{three_written}
use Rattle.record_loading.proofs.mistake_line.write_lacking.Goals as goal

pub returns : goal.returns
returns g c =
    let has = g.W.Write.contents in
    three_written (has c.args.out.now) (has c.write_all.new.self) (has c.write_char.new.out) (has c.write_all-2.new.self) (codes ": no ") (c.args.char ∷ []) c.args.place.now c.write_all-2.result
    c.in_ok-write_all.ensures.bytes c.in_ok-write_char.ensures c.write_all-2.ensures.bytes
