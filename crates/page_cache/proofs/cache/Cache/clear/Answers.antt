use Rattle.std.proofs.Common.{rules, ◌≡◌, ◌+◌, ◌∙◌, max, length, refl, sym, ap, subst, arith, is_ok}
use Rattle.page_cache.specs.Rewrites.{IsZeros}
use Rattle.page_cache.proofs.QuietLemmas.{keeps_then, goes_nowhere}
use Rattle.page_cache.proofs.AddLemmas.{zeros_page}
use Rattle.page_cache.proofs.OverLemmas.{over_set, set_page, set_others, keeps_same, keeps_frames}
use Rattle.page_cache.proofs.WriteLemmas.{counted_low, if_err}
use Rattle.page_cache.proofs.cache.Cache.clear.Goals as goal

pub returns-in-Ok : goal.returns-in-Ok
returns-in-Ok g c =
    let old = c.args.self.now in
    let mid = record old { frames = c.touch-held.new.self; asked = c.saturating_add-self.result } in
    let w = c.fill.new.self in
    let e = c.held_mut.follows.lender w in
    let set = c.held_mut.follows.holds w (ap is_ok c.in-Ok.is) in
    let s = g.S.Shelf.state c.args.shelf.now in
    let low = (counted_low old c.args.n c.requires.page).1 in
    let whole : length c.in-Ok.page.now ≡ 4096 = search rules in
    let most : old.store.pages ≡ max old.store.pages (c.args.n + 1) = omega arith in
    let kept = keeps_same old mid s refl c.touch-held.ensures.same c.requires.over in
    record {
      zeroed = record {
        zeros = λ honest. subst IsZeros (sym (set_page c.args.n w mid e set s)) (zeros_page w _ (c.fill.ensures.after (λ y is. is)) (c.fill.ensures.len ∙ whole));
        others = λ honest k differs. set_others c.args.n w mid e set s k differs ∙ ap (λ pages. pages k) (kept.pages honest);
        store = set.store ∙ ap (λ p. record old.store { pages = p }) most;
      };
      kept = tt;
      goes_on = record { over = over_set c.args.n w mid e set s c.requires.page kept.over; cap = set.cap ∙ kept.keeps.cap; goes = goes_nowhere old.store.unit s };
      asked = search rules;
      grows = search rules;
      cause = search rules;
    }

pub returns-in-Err : goal.returns-in-Err
returns-in-Err g c =
    let old = c.args.self.now in
    let mid = record old { frames = c.touch-held.new.self; asked = c.saturating_add-self.result } in
    let none = c.held_mut.follows.lender-at-none in
    let s = g.S.Shelf.state c.args.shelf.now in
    let t = g.S.Shelf.state c.hold_zeros.new.shelf in
    let kept = keeps_same old mid s refl c.touch-held.ensures.same c.requires.over in
    let same = rw c.in-Err.is at c.held_mut.follows.holds-at-none in
    record {
      zeroed = search rules;
      kept = if_err c.hold_zeros.result (λ later. keeps_then old mid c.hold_zeros.new.self s s t kept
          (keeps_then mid none c.hold_zeros.new.self s s t (keeps_frames mid none s same.store same.frames same.cap kept.over) later)) c.hold_zeros.ensures.kept;
      goes_on = search rules;
      asked = search rules;
      grows = search rules;
      cause = c.hold_zeros.ensures.cause;
    }
