use Rattle.std.proofs.Common.{rules, ◌≡◌, codes}
use Rattle.folder_shelf.proofs.ReadingLemmas.{by_none, by_same}
use Rattle.command_support.proofs.FrontLemmas.{front_of_input, front_of_file}
use Rattle.command_support.proofs.file_bytes.read_deck_bytes.Goals as goal

pub returns-then-eq : goal.returns-then-eq
returns-then-eq g c =
    let is : c.args.path.now ≡ codes "-" = search rules in
    by_none _ (front_of_input g.I.Read.remaining c.args.path.now 1048577 c.args.input.now c.read_input.new.input c.read_input.result is c.read_input.ensures)

pub returns : goal.returns
returns g c =
    let other : (c.args.path.now ≡ codes "-" → ⊥) = search rules in
    by_same _ _ c.take_front.ensures (λ calls came. front_of_file g.I.Read.remaining c.args.path.now 1048577 c.args.input.now c.take_front.result calls other came)
