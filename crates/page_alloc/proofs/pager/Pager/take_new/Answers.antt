use Rattle.std.proofs.Common.{rules, ◌≡◌, ◌+◌, Some, refl, arith}
use Rattle.page_cache.specs.Cached.{cached_pages_of}
use Rattle.page_alloc.specs.Chain.{chain}
use Rattle.page_alloc.proofs.ChainLemmas.{added, still_none}
use Rattle.page_alloc.proofs.JoinLemmas.{at_err, rested}
use Rattle.page_alloc.proofs.pager.Pager.take_new.Goals as goal

pub returns-in_err-zero : goal.returns-in_err-zero
returns-in_err-zero g c = record {
  takes = record {
    taken = search rules;
    kept = at_err c.from_residual.result (rested c.args.cache.now c.zero.new.self c.args.self.now (g.S.Shelf.state c.args.shelf.now) (g.S.Shelf.state c.zero.new.shelf) c.in_err-zero.ensures.kept.pages c.zero.ensures.goes_on.goes.others.honest);
    order = search rules;
  };
  fails = search rules;
  goes = search rules;
}

pub returns : goal.returns
returns g c =
    let p = c.args.self.now in
    let s = g.S.Shelf.state c.args.shelf.now in
    let t = g.S.Shelf.state c.zero.new.shelf in
    let old = cached_pages_of c.args.cache.now s in
    let new = cached_pages_of c.zero.new.self t in
    let header = c.requires.ready.header in
    let low = c.if-self.false in
    record {
      takes = record {
        taken = rw c.requires.free (record {
          number = omega arith;
          page = λ honest sound. (_, added old new p.count p.first header (c.in_ok-zero.ensures.zeroed.others honest) sound);
          sound = λ honest sound. sound;
          one = omega arith;
        });
        kept = tt;
        order = λ honest free before.
            let was : chain old p.count p.first 0 ≡ Some free = rw c.requires.free at before in
            let none = still_none old new p.count (p.count + 1) p.first free was in
            rw (none.0, c.requires.free) (refl, refl, none.1);
      };
      fails = tt;
      goes = search rules;
    }
