use Rattle.std.proofs.Common.{◌<◌, length, sym, subst}
use Rattle.page_store.specs.Pages.{HoldsPages}
use Rattle.page_store.proofs.ShelfLemmas.{same_place}
use Rattle.test_store.proofs.paged_files.reopen_store.Goals as goal

pub returns-clause-ready : goal.returns-clause-ready
returns-clause-ready g c =
    let a = g.S.Shelf.state c.args.shelf.now in
    let b = g.S.Shelf.state c.read_page.new.shelf in
    let only = c.read_page.ensures.only in
    c.in_ok-open.ensures.ready b
    (record { attached = subst (λ n. c.args.store.unit < length n) (sym only.names) c.requires.unit.attached })
    (λ honest. subst (HoldsPages c.args.store.pages) (sym (same_place a b c.args.store.unit only.file only.names))
    (c.requires.pages (only.honest honest)))
