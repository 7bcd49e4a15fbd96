use Rattle.std.proofs.Common.{rules, ◌≡◌, ◌+◌, suc, refl, arith}
use Rattle.page_cache.specs.Cached.{cached_pages_of}
use Rattle.page_alloc.proofs.ChainLemmas.{can_give, given_at, given_sound_at, given_first}
use Rattle.page_alloc.proofs.JoinLemmas.{damaged, at_err, rested}
use Rattle.page_alloc.proofs.pager.Pager.give.Goals.{then-n-eq0-via-then-n-eq0, then-n-eq0-via-else-n-eq0+then-n-self, then-n-eq0-via-else-n-eq0+else-n-self+then-self}
use Rattle.page_alloc.proofs.pager.Pager.give.Goals as goal

pub returns-then-n-eq0-clause-fails : goal.returns-then-n-eq0-clause-fails
returns-then-n-eq0-clause-fails g c = record {
  caused = damaged _ _;
  damage = λ there _.
      let p = c.args.self.now in
      let can = can_give (cached_pages_of c.args.cache.now (g.S.Shelf.state c.args.shelf.now)) p.count c.args.n p.first p.free there.1 in
      let low = can.0 in
      let below = can.1 in
      let room = can.2 in
      elim c.then-n-eq0.branch [
        | then-n-eq0-via-then-n-eq0 w ↦ let h = w.if-n-eq0.true in omega arith
        | then-n-eq0-via-else-n-eq0+then-n-self w ↦ let h = w.if-n-self.true in omega arith
        | then-n-eq0-via-else-n-eq0+else-n-self+then-self w ↦ let h = w.if-self.true in omega arith
      ];
}

pub returns-in_err-make_free-clause-gives : goal.returns-in_err-make_free-clause-gives
returns-in_err-make_free-clause-gives g c =
    let kept = c.in_err-make_free.ensures.kept in
    record {
      given = search rules;
      kept = at_err c.from_residual.result (rested c.args.cache.now c.make_free.new.cache c.args.self.now (g.S.Shelf.state c.args.shelf.now) (g.S.Shelf.state c.make_free.new.shelf) kept.pages kept.goes.others.honest);
      order = search rules;
    }

pub returns-clause-gives : goal.returns-clause-gives
returns-clause-gives g c =
    let p = c.args.self.now in
    let old = cached_pages_of c.args.cache.now (g.S.Shelf.state c.args.shelf.now) in
    let new = cached_pages_of c.make_free.new.cache (g.S.Shelf.state c.make_free.new.shelf) in
    let more : p.free + 1 ≡ suc p.free = omega arith in
    let freed = c.in_ok-make_free.ensures.freed in
    record {
      given = record {
        page = λ honest there. given_at old new p.count c.args.n p.first p.free (p.free + 1) more (freed.others honest) freed.free freed.linked there;
        sound = λ honest there. given_sound_at old new p.count c.args.n p.first p.free (p.free + 1) more (freed.others honest) freed.free freed.linked there;
        one = omega arith;
      };
      kept = tt;
      order = λ honest there free before. (refl, given_first old new p.count c.args.n p.first p.free (p.free + 1) free more (freed.others honest) freed.free freed.linked there before);
    }
