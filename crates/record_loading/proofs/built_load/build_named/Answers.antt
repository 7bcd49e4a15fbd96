use Rattle.std.proofs.Common.{[], refl, sym, ap, subst}
use Rattle.std.specs.Prelude.{IsTrue}
use Rattle.record_loading.specs.Loading.{listing_by}
use Rattle.page_store.specs.ShelfState.{ShelfState}
use Rattle.record_loading.proofs.SameLemmas.{none_tried}
use Rattle.record_loading.proofs.TriedLemmas.{of_name, detached_so}
use Rattle.record_loading.proofs.built_load.build_named.Goals as goal

pub returns-in-Ok-clause-tries : goal.returns-in-Ok-clause-tries
returns-in-Ok-clause-tries g c =
    let first = g.S.Shelf.state c.args.shelf.now in
    let begun = g.S.Shelf.state c.attach.new.self in
    let then = g.S.Shelf.state c.build_unit-tried.new.shelf in
    let last = g.S.Shelf.state c.detach.new.shelf in
    let list = listing_by c.args.form.now c.args.text.now c.args.options [] in
    detached_so c.args.name.bytes c.args.schema.now list refl first then last c.detach.ensures.file c.detach.ensures.honest c.build_unit-tried.result
    (of_name c.args.name.bytes c.args.schema.now list first begun then c.build_unit-tried.result c.in-Ok.ensures.attached c.build_unit-tried.ensures) c.detach.result c.detach.ensures.tried

pub returns-in-Err-clause-tries : goal.returns-in-Err-clause-tries
returns-in-Err-clause-tries g c =
    let same = c.in-Err.ensures.failed in
    none_tried (g.S.Shelf.state c.args.shelf.now) (g.S.Shelf.state c.attach.new.self) (ap (λ (s : ShelfState). s.file) same)
    (subst (λ (s : ShelfState). IsTrue s.is_honest → IsTrue (g.S.Shelf.state c.args.shelf.now).is_honest) (sym same) (λ honest. honest)) c.args.name.bytes c.args.schema.now
    (listing_by c.args.form.now c.args.text.now c.args.options [])
