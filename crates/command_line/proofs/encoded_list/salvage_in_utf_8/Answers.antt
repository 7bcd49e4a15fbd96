use Rattle.std.proofs.Common.{Some, ap, ◌∙◌, sym}
use Rattle.folder_shelf.proofs.ReadingLemmas.{by_same}
use Rattle.command_words.specs.Asks.{form_text}
use Rattle.command_line.proofs.EncodedLemmas.{in_utf_8_salvaged}
use Rattle.command_line.proofs.encoded_list.salvage_in_utf_8.Goals as goal

pub returns : goal.returns
returns g c =
    let value = c.as_slice.ensures.value in
    by_same _ _ c.salvage_path-salvaged.ensures
    (λ calls salvages. in_utf_8_salvaged (g.I.Read.remaining c.args.input.now) c.args.asked.file.now (form_text c.args.asked.form) c.args.asked.places
    g.E.Write.contents c.args.err.now c.salvage_path-salvaged.new.told calls
    (λ v. Some v.items) c.new-text.result c.salvage_path-salvaged.new.out c.as_slice.result.now c.salvage_path-salvaged.result c.backslashes_of.result
    g.W.Write.contents c.args.out.now c.hand_over.new.out c.hand_over.result
    (ap Some c.new-text.ensures.items) (ap Some (sym value)) (λ same. value ∙ ap (λ v. v.items) same ∙ c.new-text.ensures.items)
    c.requires.encoding c.backslashes_of.ensures salvages c.hand_over.ensures)
