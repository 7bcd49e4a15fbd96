use Rattle.std.proofs.Common.{◌≡◌, ◌∙◌, ℕ, Some, refl, sym, ap, get_or, slice_get, [], false, length, subst, ◌<◌}
use Rattle.std.proofs.lemmas.Option.{slice_get-get_or}
use Rattle.page_cache.specs.declared.cache.Cache.{Cache}
use Rattle.page_cache.specs.HeldFrames.{Frame, settled}
use Rattle.page_cache.proofs.SettleLemmas.{pages_settled, over_settled}
use Rattle.page_cache.proofs.cache.Cache.settle.Goals as goal

pub returns : goal.returns
returns g c =
    let old = c.args.self.now in
    let w = c.write.new.self in
    let d = record w { frames = c.settle.new.self } in
    let t = g.S.Shelf.state c.write.new.shelf in
    let kept = c.write.ensures.looks.kept in
    let none : ℕ × Frame = (0, record { changed = false; page = [] }) in
    let e = get_or w.frames.entries c.args.place none in
    let low : c.args.place < length w.frames.entries = subst (λ (x : Cache). c.args.place < length x.frames.entries) (sym c.write.ensures.same) c.requires.held in
    let at : slice_get w.frames.entries c.args.place ≡ Some (e.0, e.1) = slice_get-get_or w.frames.entries c.args.place none low in
    let is = ap (λ x. x.entries) c.settle.ensures in
    record {
      settles = is ∙ ap (λ (x : Cache). settled c.args.place x.frames.entries) c.write.ensures.same;
      stay = record {
        kept = record {
          over = over_settled w d c.args.place e.0 e.1 c.len-held.ensures.seated.apart at is t refl kept.over (λ honest. c.in_ok-write.ensures.written.settled honest e.0 e.1 at);
          pages = λ honest. pages_settled w d c.args.place e.0 e.1 c.len-held.ensures.seated.apart at is t refl ∙ kept.pages honest;
          keeps = record { store = kept.keeps.store; cap = ap (λ x. x.cap) c.settle.ensures ∙ kept.keeps.cap };
          goes = kept.goes;
        };
        asked = c.write.ensures.looks.asked;
        cause = c.in_ok-write.ensures.looks.cause;
      };
    }
