use Rattle.std.proofs.Common.{rules, ◌≡◌, codes}
use Rattle.folder_shelf.proofs.ReadingLemmas.{by_none, by_same}
use Rattle.command_support.proofs.FrontLemmas.{text_of_input, text_of_file}
use Rattle.command_support.proofs.file_bytes.read_text.Goals as goal

pub returns-then-eq : goal.returns-then-eq
returns-then-eq g c =
    let is : c.args.path.now ≡ codes "-" = search rules in
    by_none _ (text_of_input g.I.Read.remaining c.args.path.now c.args.input.now c.read_input_text.new.input c.read_input_text.result is c.read_input_text.ensures)

pub returns : goal.returns
returns g c =
    let other : (c.args.path.now ≡ codes "-" → ⊥) = search rules in
    by_same _ _ c.take_text.ensures (λ calls came. text_of_file g.I.Read.remaining c.args.path.now c.args.input.now c.take_text.result calls other came)
