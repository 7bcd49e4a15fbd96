use Rattle.std.proofs.Common.{◌≡◌, ◌∙◌, sym, subst, IsTrue}
use Rattle.page_store.proofs.MomentLemmas.{quiet_then}
use Rattle.page_store.specs.ShelfState.{unit_file}
use Rattle.page_store.specs.Moments.{IsQuiet}
use Rattle.page_cache.specs.Cached.{cached_pages_of, IsOver}
use Rattle.page_alloc.specs.PagedFile.{unit_of_pages}
use Rattle.page_alloc.proofs.OpenLemmas.{quiet_closes, all_closes, all_closed}
use Rattle.page_alloc.proofs.paged_file.PagedFile.close.Goals as goal

pub returns-in_err-flush-clause-images : goal.returns-in_err-flush-clause-images
returns-in_err-flush-clause-images g c honest changed =
    let unit = unit_of_pages c.args.self.now in
    quiet_closes c.args.header.now c.args.self.now.cache (g.S.Shelf.state c.args.shelf.now) (unit_file (g.S.Shelf.state c.args.shelf.now) unit) (unit_file (g.S.Shelf.state c.flush.new.shelf) unit)
    (c.requires.ready.gate changed (c.flush.ensures.stay.kept.goes.others.honest honest)) c.flush.ensures.stay.kept.goes.quiet

pub returns-in_err-write_header-clause-images : goal.returns-in_err-write_header-clause-images
returns-in_err-write_header-clause-images g c honest changed =
    let unit = unit_of_pages c.args.self.now in
    let s = g.S.Shelf.state c.args.shelf.now in
    let t = g.S.Shelf.state c.flush.new.shelf in
    let u = g.S.Shelf.state c.write_header.new.shelf in
    let quiet : IsQuiet unit t u = rw c.flush.ensures.stay.kept.keeps.store at c.write_header.ensures.stay.kept.goes.quiet in
    quiet_closes c.args.header.now c.args.self.now.cache s (unit_file s unit) (unit_file u unit)
    (c.requires.ready.gate changed (c.flush.ensures.stay.kept.goes.others.honest (c.write_header.ensures.stay.kept.goes.others.honest honest)))
    (quiet_then (unit_file s unit) (unit_file t unit) (unit_file u unit) c.flush.ensures.stay.kept.goes.quiet quiet)

pub returns-in_err-finish-clause-images : goal.returns-in_err-finish-clause-images
returns-in_err-finish-clause-images g c honest changed =
    let d = c.flush.new.self in
    let s = g.S.Shelf.state c.args.shelf.now in
    let t = g.S.Shelf.state c.flush.new.shelf in
    let u = g.S.Shelf.state c.write_header.new.shelf in
    let v = g.S.Shelf.state c.finish.new.shelf in
    let h2 : IsTrue u.is_honest = sym c.finish.ensures.only.honest ∙ honest in
    let h1 = c.write_header.ensures.stay.kept.goes.others.honest h2 in
    let all = c.requires.ready.gate changed (c.flush.ensures.stay.kept.goes.others.honest h1) in
    all_closes c.args.header.now c.args.self.now.cache d s t u v c.flush.ensures.stay.kept.keeps.store c.flush.ensures.stay.kept.over (subst (λ x. IsOver x u) c.write_header.ensures.same c.write_header.ensures.stay.kept.over) c.in_ok-flush.ensures.clean h1 h2
    (c.flush.ensures.stay.kept.pages h1) (subst (λ x. cached_pages_of x u ≡ cached_pages_of d t) c.write_header.ensures.same (c.write_header.ensures.stay.kept.pages h2)) (c.in_ok-write_header.ensures.written h2) c.flush.ensures.stay.kept.goes.quiet c.write_header.ensures.stay.kept.goes.quiet all
    (rw c.write_header.ensures.same at (c.finish.ensures.images honest))

pub returns-clause-closed : goal.returns-clause-closed
returns-clause-closed g c honest changed =
    let d = c.flush.new.self in
    let s = g.S.Shelf.state c.args.shelf.now in
    let t = g.S.Shelf.state c.flush.new.shelf in
    let u = g.S.Shelf.state c.write_header.new.shelf in
    let v = g.S.Shelf.state c.finish.new.shelf in
    let h2 : IsTrue u.is_honest = sym c.finish.ensures.only.honest ∙ honest in
    let h1 = c.write_header.ensures.stay.kept.goes.others.honest h2 in
    let all = c.requires.ready.gate changed (c.flush.ensures.stay.kept.goes.others.honest h1) in
    all_closed c.args.header.now c.args.self.now.cache d s t u v c.flush.ensures.stay.kept.keeps.store c.flush.ensures.stay.kept.over (subst (λ x. IsOver x u) c.write_header.ensures.same c.write_header.ensures.stay.kept.over) c.in_ok-flush.ensures.clean h1 h2
    (c.flush.ensures.stay.kept.pages h1) (subst (λ x. cached_pages_of x u ≡ cached_pages_of d t) c.write_header.ensures.same (c.write_header.ensures.stay.kept.pages h2)) (c.in_ok-write_header.ensures.written h2) c.flush.ensures.stay.kept.goes.quiet c.write_header.ensures.stay.kept.goes.quiet all
    (rw c.write_header.ensures.same at c.in_ok-finish.ensures.closed)

pub returns-clause-images : goal.returns-clause-images
returns-clause-images g c honest changed =
    let d = c.flush.new.self in
    let s = g.S.Shelf.state c.args.shelf.now in
    let t = g.S.Shelf.state c.flush.new.shelf in
    let u = g.S.Shelf.state c.write_header.new.shelf in
    let v = g.S.Shelf.state c.finish.new.shelf in
    let h2 : IsTrue u.is_honest = sym c.finish.ensures.only.honest ∙ honest in
    let h1 = c.write_header.ensures.stay.kept.goes.others.honest h2 in
    let all = c.requires.ready.gate changed (c.flush.ensures.stay.kept.goes.others.honest h1) in
    all_closes c.args.header.now c.args.self.now.cache d s t u v c.flush.ensures.stay.kept.keeps.store c.flush.ensures.stay.kept.over (subst (λ x. IsOver x u) c.write_header.ensures.same c.write_header.ensures.stay.kept.over) c.in_ok-flush.ensures.clean h1 h2
    (c.flush.ensures.stay.kept.pages h1) (subst (λ x. cached_pages_of x u ≡ cached_pages_of d t) c.write_header.ensures.same (c.write_header.ensures.stay.kept.pages h2)) (c.in_ok-write_header.ensures.written h2) c.flush.ensures.stay.kept.goes.quiet c.write_header.ensures.stay.kept.goes.quiet all
    (rw c.write_header.ensures.same at (c.finish.ensures.images honest))
