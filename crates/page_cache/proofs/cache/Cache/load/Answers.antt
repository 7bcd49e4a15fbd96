use Rattle.std.proofs.Common.{rules, refl, ap}
use Rattle.page_cache.specs.Cached.{frame_of}
use Rattle.page_cache.proofs.QuietLemmas.{keeps_then}
use Rattle.page_cache.proofs.OverLemmas.{clean_same, keeps_same}
use Rattle.page_cache.proofs.cache.Cache.load.Goals as goal

pub returns : goal.returns
returns g c =
    let old = c.args.self.now in
    let mid = record old { frames = c.touch.new.self; asked = c.saturating_add-self.result } in
    let same = c.touch.ensures.same in
    let s = g.S.Shelf.state c.args.shelf.now in
    let looks = c.bring.ensures.looks in
    record {
      held = c.bring.ensures.held;
      looks = record {
        kept = keeps_then old mid c.bring.new.self s s (g.S.Shelf.state c.bring.new.shelf) (keeps_same old mid s refl same c.requires.over) looks.kept;
        asked = search rules;
        grows = search rules;
        looks = record {
          clean = λ clean. looks.looks.clean (clean_same old mid (λ k. ap (λ f. frame_of (record old { frames = f }) k) same) clean);
          file = λ clean. looks.looks.file (clean_same old mid (λ k. ap (λ f. frame_of (record old { frames = f }) k) same) clean);
        };
        cause = looks.cause;
      };
    }
