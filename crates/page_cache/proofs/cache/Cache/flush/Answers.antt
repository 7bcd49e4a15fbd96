use Rattle.std.proofs.Common.{rules, ◌≡◌, ◌∙◌, ap, subst, arith, length}
use Rattle.page_cache.proofs.QuietLemmas.{keeps_then}
use Rattle.page_cache.proofs.CauseLemmas.{no_cause, cause_since, handed_on}
use Rattle.page_cache.proofs.SettleLemmas.{CleanFront, front_more, front_all, settled_length}
use Rattle.page_cache.proofs.cache.Cache.flush.Goals as goal

pub returns-in_err-settle : goal.returns-in_err-settle
returns-in_err-settle g c =
    let i = c.loop-place.invariant in
    record {
      clean = search rules;
      stay = record {
        kept = keeps_then c.args.self.now c.loop-place.self c.settle.new.self (g.S.Shelf.state c.args.shelf.now) (g.S.Shelf.state c.loop-place.shelf) (g.S.Shelf.state c.settle.new.shelf)
            i.kept c.settle.ensures.stay.kept;
        asked = c.settle.ensures.stay.asked ∙ i.asked;
        cause = handed_on c.from_residual.result _ _ _ c.from_residual.ensures.1 (cause_since _ _ _ _ i.faults c.in_err-settle.ensures.stay.cause);
      };
    }

pub loop-place-preserved : goal.loop-place-preserved
loop-place-preserved g c =
    let i = c.loop-place.invariant in
    let e = c.settle.ensures in
    let is = c.in_ok-settle.ensures.settles in
    record {
      kept = keeps_then c.args.self.now c.loop-place.self c.settle.new.self (g.S.Shelf.state c.args.shelf.now) (g.S.Shelf.state c.loop-place.shelf) (g.S.Shelf.state c.settle.new.shelf) i.kept e.stay.kept;
      asked = e.stay.asked ∙ i.asked;
      faults = let a = i.faults in let b = e.stay.cause.no_fewer in omega arith;
      long = ap length is ∙ settled_length c.loop-place.place c.loop-place.self.frames.entries ∙ i.long;
      front = front_more c.loop-place.place c.loop-place.self c.settle.new.self i.front is;
    }

pub settle-requires-clause-over : goal.settle-requires-clause-over
settle-requires-clause-over g c = c.loop-place.invariant.kept.over

pub settle-requires-clause-held : goal.settle-requires-clause-held
settle-requires-clause-held g c =
    let a = c.len-place-end.ensures.len in
    let low = c.loop-place-test.true in
    let long = c.loop-place.invariant.long in
    omega arith

pub returns : goal.returns
returns g c =
    let a = c.len-place-end.ensures.len in
    let low = c.loop-place-test.false in
    let high = c.loop-place.auto.place-end in
    let long = c.loop-place.invariant.long in
    let whole : c.loop-place.place ≡ length c.loop-place.self.frames.entries = omega arith in
    let i = c.loop-place.invariant in
    record {
      clean = front_all c.loop-place.self (subst (λ k. CleanFront k c.loop-place.self) whole i.front);
      stay = record { kept = i.kept; asked = i.asked; cause = no_cause tt _ _ i.faults };
    }
