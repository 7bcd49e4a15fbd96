use Rattle.std.proofs.Common.{rules, ◌≡◌, false, subst}
use Rattle.std.specs.Result.{is_err}
use Rattle.record_listing.specs.FileList.{ListsSound}
use Rattle.record_listing.proofs.CheckedLemmas.{if_ok, on_ok, lists_sound}
use Rattle.record_listing.proofs.checked_list.list_sound_unit.Goals as goal

pub returns-clause-ends : goal.returns-clause-ends
returns-clause-ends g c =
    let state = g.S.Shelf.state in
    let before = g.W.Write.contents c.args.out.now in
    let behind = g.W.Write.contents c.list_shelf-shelf.new.out in
    let came : is_err c.read_at.result ≡ false = search rules in
    let attached : is_err c.attach.result ≡ false = search rules in
    let page : c.read_at.new.bytes ≡ c.args.first.now = search rules in
    subst (λ page. ListsSound (state c.args.shelf) (state c.list_shelf-shelf.result.0) page c.args.form.now c.args.asked before behind c.told_of.result) page
    (lists_sound (state c.args.shelf) (state c.read_at.new.self) (state c.attach.new.self) (state c.list_shelf-shelf.result.0) c.read_at.new.bytes c.args.form.now c.args.asked before behind
    c.list_shelf-shelf.result.1 c.told_of.result c.requires.sound c.requires.names c.read_at.auto.bytes (if_ok c.read_at.result came c.read_at.ensures.answer).1 c.read_at.ensures.only
    (on_ok c.attach.result attached c.attach.ensures.attached) c.list_shelf-shelf.ensures.honest c.list_shelf-shelf.ensures.ends c.told_of.ensures)
