use Rattle.page_cache.proofs.WriteLemmas.{if_ok}
use Rattle.page_cache.proofs.HeaderLemmas.{shows_kept, gate_kept}
use Rattle.page_cache.proofs.cache.Cache.finish.Goals as goal

pub returns : goal.returns
returns g c =
    let s = g.S.Shelf.state c.args.shelf.now in
    let t = g.S.Shelf.state c.finish.new.shelf in
    let cache = c.args.self.now in
    record {
      images = c.finish.ensures.images;
      closed = c.finish.ensures.closed;
      same = if_ok c.finish.result (λ is. shows_kept cache s t (gate_kept cache.store s t 67 c.requires.over.attached c.requires.over.pages c.finish.ensures.only is.0) c.requires.over) c.finish.ensures.closed;
      only = c.finish.ensures.only;
      cause = c.finish.ensures.cause;
    }
