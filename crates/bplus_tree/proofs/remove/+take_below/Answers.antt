use Rattle.std.proofs.Common.{◌≡◌, ◌-◌, suc, arith, rules, ◌∙◌}
use Rattle.pages.proofs.CauseLemmas.{caused_since, fails_since}
use Rattle.bplus_tree.proofs.RemoveLemmas.{takes_at, descent_fails, take_leaf, take_inner}
use Rattle.bplus_tree.proofs.remove.+take_below.Goals as goal

pub returns-then-levels-eq0 : goal.returns-then-levels-eq0
returns-then-levels-eq0 g t c = record {
  leaves = λ honest sound.
      takes_at _ c.args.key.now c.take_in_place.new.to
      (take_leaf _ c.args.key.now c.take_in_place.new.to (c.take_in_place.ensures.leaves honest sound)) c.if-levels-eq0.true;
  writes = search rules;
}

pub returns-in_err-down : goal.returns-in_err-down
returns-in_err-down g t c = record {
  leaves = λ honest sound.
      takes_at {m = suc (c.args.levels - 1)} _ c.args.key.now c.args.to.now
      (λ node whole. descent_fails node whole (c.in_err-down.ensures.found honest) c.from_residual.ensures.1) (omega arith);
  writes = record {
    available = g.met.P.Pages.reads_available _ _ c.descend.ensures.reads.step;
    cause = fails_since c.from_residual.result _ _ _ _ _ c.from_residual.ensures.1 (λ failed. failed) (λ none. none) c.in_err-down.ensures.reads.cause;
    asked = omega (arith, c.descend.ensures.reads.asked);
    step = g.met.P.Pages.reads_writes _ _ c.descend.ensures.reads.step;
  };
}

pub returns : goal.returns
returns g t c = record {
  leaves = λ honest sound.
      let reads = c.descend.ensures.reads.step in
      let h = g.met.P.Pages.writes_honestly _ _ c.take_below.ensures.writes.step honest in
      let below = c.take_below.ensures.leaves honest (rw (g.met.P.Pages.reads_sound _ _ reads h) sound) in
      takes_at _ c.args.key.now c.take_below.new.to
      (take_inner (c.in_ok-down.ensures.found h) _ c.take_below.new.to (rw (g.met.P.Pages.reads_live _ _ reads h) at below)) (omega arith);
  writes =
      let one : c.args.levels ≡ suc (c.args.levels - 1) = omega arith in
      let old = c.args.pages.now in
      let mid = c.descend.new.pages in
      let new = c.take_below.new.pages in
      let first = g.met.P.Pages.reads_writes _ _ c.descend.ensures.reads.step in
      record {
        available = c.take_below.ensures.writes.available ∙ g.met.P.Pages.reads_available _ _ c.descend.ensures.reads.step;
        cause = caused_since c.take_below.result _ _ _ _ (g.met.P.Pages.failed_after old mid new first) (λ none. none) c.take_below.ensures.writes.cause;
        asked = omega (arith, c.descend.ensures.reads.asked, c.take_below.ensures.writes.asked);
        step = g.met.P.Pages.writes_on old mid new first c.take_below.ensures.writes.step;
      };
}
