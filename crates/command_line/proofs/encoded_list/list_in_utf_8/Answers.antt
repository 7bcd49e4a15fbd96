use Rattle.std.proofs.Common.{Some, ap, ◌∙◌, sym}
use Rattle.command_line.proofs.EncodedLemmas.{aside_so, in_utf_8_listed}
use Rattle.command_line.proofs.encoded_list.list_in_utf_8.Goals as goal

pub returns : goal.returns
returns g c =
    let value = c.as_slice.ensures.value in
    aside_so _ _ _
    (λ calls lists. in_utf_8_listed g.D.Disk.unseen (g.I.Read.remaining c.args.input.now) c.args.listing.file.now c.args.listing.bounds c.args.listing.form calls
    c.args.listing.checked (λ v. Some v.items) c.new-text.result c.list-system.new.out c.as_slice.result.now c.list-system.result.1 c.backslashes_of.result
    g.W.Write.contents c.args.out.now c.hand_over-told.new.out c.hand_over-told.result
    (ap Some c.new-text.ensures.items) (ap Some (sym value)) (λ same. value ∙ ap (λ v. v.items) same ∙ c.new-text.ensures.items)
    c.requires.encoding c.backslashes_of.ensures lists c.hand_over-told.ensures)
    c.list-system.ensures.so
