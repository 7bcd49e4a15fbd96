use Rattle.page_cache.proofs.WriteLemmas.{if_ok}
use Rattle.page_store.proofs.OpenLemmas.{opened_open}
use Rattle.page_cache.proofs.HeaderLemmas.{shows_kept, opening_kept}
use Rattle.page_cache.proofs.cache.Cache.begin_change.Goals as goal

pub returns-clause-open : goal.returns-clause-open
returns-clause-open g c = if_ok c.begin_change.result (λ opens honest. opened_open _ _ (opens honest)) c.begin_change.ensures.opens

pub returns-clause-same : goal.returns-clause-same
returns-clause-same g c =
    let s = g.S.Shelf.state c.args.shelf.now in
    let t = g.S.Shelf.state c.begin_change.new.shelf in
    let cache = c.args.self.now in
    shows_kept cache s t (opening_kept cache.store s t c.requires.over.attached c.requires.over.pages c.begin_change.ensures.only c.begin_change.ensures.gate) c.requires.over
