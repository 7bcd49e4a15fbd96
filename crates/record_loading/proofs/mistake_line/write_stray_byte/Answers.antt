use Rattle.std.specs.Prelude.{codes}
use Rattle.record_loading.specs.MistakeLine.{hex_text}
use Rattle.record_loading.proofs.MistakeLemmas.{three_written}
use Rattle.record_loading.proofs.mistake_line.write_stray_byte.Goals as goal

pub returns : goal.returns
returns g c =
    let has = g.W.Write.contents in
    three_written (has c.args.out.now) (has c.write_all.new.self) (has c.write_hex.new.out) (has c.write_all-2.new.self) (codes ", then byte ") (hex_text c.args.byte) (codes ", which no list writes") c.write_all-2.result
    c.in_ok-write_all.ensures.bytes c.in_ok-write_hex.ensures c.write_all-2.ensures.bytes
