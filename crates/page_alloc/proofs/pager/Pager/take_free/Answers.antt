use Rattle.std.proofs.Common.{rules, refl, arith}
use Rattle.std.proofs.lemmas.Result.{err_from_is_err_and}
use Rattle.page_cache.specs.Cached.{cached_pages_of}
use Rattle.page_alloc.proofs.ChainLemmas.{front_marked_at, taken_at, taken_sound_at, first_taken}
use Rattle.page_alloc.proofs.JoinLemmas.{at_err, rested}
use Rattle.page_alloc.proofs.pager.Pager.take_free.Goals as goal

pub returns-in_err-next : goal.returns-in_err-next
returns-in_err-next g c =
    let p = c.args.self.now in
    let kept = c.next_free.ensures.kept in
    let y = err_from_is_err_and c.from_residual.result c.from_residual.ensures.1 in
    let fails = c.in_err-next.ensures.fails in
    record {
      takes = record {
        taken = search rules;
        kept = at_err c.from_residual.result (rested c.args.cache.now c.next_free.new.cache c.args.self.now (g.S.Shelf.state c.args.shelf.now) (g.S.Shelf.state c.next_free.new.shelf) kept.pages kept.goes.others.honest);
        order = search rules;
      };
      fails = rw (y.1, y.2) (record {
        caused = fails.caused;
        damage = λ sound. fails.damage (sound.0, front_marked_at (cached_pages_of c.args.cache.now (g.S.Shelf.state c.args.shelf.now)) p.count p.first p.free c.requires.free sound.1);
      });
      goes = search rules;
    }

pub returns : goal.returns
returns g c =
    let p = c.args.self.now in
    let old = cached_pages_of c.args.cache.now (g.S.Shelf.state c.args.shelf.now) in
    let new = cached_pages_of c.next_free.new.cache (g.S.Shelf.state c.next_free.new.shelf) in
    let some = c.requires.free in
    let positive = c.if-n-eq0.false in
    record {
      takes = record {
        taken = record {
          number = omega arith;
          page = λ honest sound. (_, taken_at old new p.count p.first c.in_ok-next.next p.free some (c.next_free.ensures.kept.pages honest) (c.in_ok-next.ensures.next honest) sound);
          sound = λ honest sound. taken_sound_at old new p.count p.first c.in_ok-next.next p.free some (c.next_free.ensures.kept.pages honest) (c.in_ok-next.ensures.next honest) sound;
          one = omega arith;
        };
        kept = tt;
        order = λ honest free before.
            let taken = first_taken old new p.count p.first c.in_ok-next.next p.free free c.requires.free (c.next_free.ensures.kept.pages honest) (c.in_ok-next.ensures.next honest) before in
            rw taken.1 (refl, refl, taken.2);
      };
      fails = tt;
      goes = search rules;
    }
