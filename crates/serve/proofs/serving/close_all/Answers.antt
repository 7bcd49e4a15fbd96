use Rattle.std.proofs.Common.{◌≡◌, arith}
use Rattle.std.proofs.Common.{ℕ, ◌+◌, sym, ap, subst}
use Rattle.serve.proofs.ClosingLemmas.{HasClosed, none_closed, one_closed, all_closed, none_left, one_at_most}
use Rattle.serve.proofs.serving.close_all.Goals as goal

pub loop-init : goal.loop-init
loop-init g c = none_closed g.L.Library.shown c.args.session.now c.open_count-end.result c.open_count-end.ensures.count

pub loop-preserved : goal.loop-preserved
loop-preserved g c =
    subst (λ (n : ℕ). HasClosed g.L.Library.shown c.args.session.now c.close_first.new.self (c.loop.counter + 1) c.open_count-end.result (c.loop.failed + n)) (sym c.failed_in-failed.ensures.told)
    (one_closed g.L.Library.shown c.args.session.now c.loop.session c.close_first.new.self c.loop.counter c.open_count-end.result c.loop.failed c.close_first.result
    c.close_first.ensures.closed c.close_first.ensures.none c.loop-test.true c.loop.invariant)

pub returns-clause-closed : goal.returns-clause-closed
returns-clause-closed g c =
    let all : c.loop.counter ≡ c.open_count-end.result = (let least = c.loop-test.false in let most = c.loop.auto.counter-end in omega arith) in
    all_closed g.L.Library.shown c.args.session.now c.loop.session c.loop.counter c.open_count-end.result c.loop.failed all c.loop.invariant

pub returns-clause-none_open : goal.returns-clause-none_open
returns-clause-none_open g c =
    let all = returns-clause-closed g c in
    none_left g.L.Library.shown c.args.session.now all.statuses c.loop.session all.closed
