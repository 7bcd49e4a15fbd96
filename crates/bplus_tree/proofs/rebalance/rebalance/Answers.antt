use Rattle.std.proofs.lemmas.Grind.{common_steps}
use Rattle.std.proofs.Common.{◌≡◌, ◌≤◌, ℕ, Some, ap, ◌∙◌, arith}
use Rattle.pages.proofs.CauseLemmas.{fails_since}
use Rattle.tree_search.proofs.AnswerLemmas.{fails}
use Rattle.bplus_tree.proofs.RebalanceLemmas.{parent_of, chosen, no_fault, shared, joined}
use Rattle.bplus_tree.proofs.rebalance.rebalance.Goals as goal

-- a call that only reads leaves as many pages to take
as_many : (before after : ℕ) → after ≡ before → before ≤ after
as_many before after same = omega arith

-- what is so of a call behind it is so of both
since : (before between after : ℕ) → between ≡ before → between ≤ after → before ≤ after
since before between after same few = omega arith

pub end_joined-requires : goal.end_joined-requires
end_joined-requires g c =
    let goes = g.met.P.Pages.reads_writes _ _ c.read_pair.ensures.reads.step in
    record {
      ready = g.met.P.Pages.writes_ready c.args.pages.now c.read_pair.new.pages goes c.requires.ready;
      changing = g.met.P.Pages.writes_changing c.args.pages.now c.read_pair.new.pages goes c.requires.changing;
    }

pub end_shared-requires : goal.end_shared-requires
end_shared-requires g c =
    let goes = g.met.P.Pages.reads_writes _ _ c.read_pair.ensures.reads.step in
    record {
      ready = g.met.P.Pages.writes_ready c.args.pages.now c.read_pair.new.pages goes c.requires.ready;
      changing = g.met.P.Pages.writes_changing c.args.pages.now c.read_pair.new.pages goes c.requires.changing;
    }

pub returns-in_err-end_joined-in-Some-true-clause-writes : goal.returns-in_err-end_joined-in-Some-true-clause-writes
returns-in_err-end_joined-in-Some-true-clause-writes g c =
    record {
      few = since _ _ _ (g.met.P.Pages.reads_available _ _ c.read_pair.ensures.reads.step) c.end_joined.ensures.writes.few;
      cause =
          fails_since c.from_residual-in_err-end_joined-in-Some-true.result _ (g.P.Pages.shown.HasFailed c.read_pair.new.pages c.end_joined.new.pages) (g.P.Pages.shown.HasFailed c.args.pages.now c.end_joined.new.pages) ⊥ ⊥ c.from_residual-in_err-end_joined-in-Some-true.ensures.1
          (g.met.P.Pages.failed_after c.args.pages.now c.read_pair.new.pages c.end_joined.new.pages (g.met.P.Pages.reads_writes c.args.pages.now c.read_pair.new.pages c.read_pair.ensures.reads.step)) (λ x. x) c.in_err-end_joined-in-Some-true.ensures.writes.cause;
      asked = grind (arith, common_steps);
      step = g.met.P.Pages.writes_on _ _ _ (g.met.P.Pages.reads_writes _ _ c.read_pair.ensures.reads.step) c.end_joined.ensures.writes.step;
    }

pub returns-in_ok-end_joined-in-Some-true-clause-writes : goal.returns-in_ok-end_joined-in-Some-true-clause-writes
returns-in_ok-end_joined-in-Some-true-clause-writes g c =
    record {
      few = since _ _ _ (g.met.P.Pages.reads_available _ _ c.read_pair.ensures.reads.step) c.end_joined.ensures.writes.few;
      cause = tt;
      asked = grind (arith, common_steps);
      step = g.met.P.Pages.writes_on _ _ _ (g.met.P.Pages.reads_writes _ _ c.read_pair.ensures.reads.step) c.end_joined.ensures.writes.step;
    }

pub returns-in_err-end_shared-in-Some-false-clause-writes : goal.returns-in_err-end_shared-in-Some-false-clause-writes
returns-in_err-end_shared-in-Some-false-clause-writes g c =
    record {
      few = since _ _ _ (g.met.P.Pages.reads_available _ _ c.read_pair.ensures.reads.step) c.end_shared.ensures.writes.few;
      cause =
          fails_since c.from_residual-in_err-end_shared-in-Some-false.result _ (g.P.Pages.shown.HasFailed c.read_pair.new.pages c.end_shared.new.pages) (g.P.Pages.shown.HasFailed c.args.pages.now c.end_shared.new.pages) ⊥ ⊥ c.from_residual-in_err-end_shared-in-Some-false.ensures.1
          (g.met.P.Pages.failed_after c.args.pages.now c.read_pair.new.pages c.end_shared.new.pages (g.met.P.Pages.reads_writes c.args.pages.now c.read_pair.new.pages c.read_pair.ensures.reads.step)) (λ x. x) c.in_err-end_shared-in-Some-false.ensures.writes.cause;
      asked = grind (arith, common_steps);
      step = g.met.P.Pages.writes_on _ _ _ (g.met.P.Pages.reads_writes _ _ c.read_pair.ensures.reads.step) c.end_shared.ensures.writes.step;
    }

pub returns-in_ok-end_shared-in-Some-false-clause-writes : goal.returns-in_ok-end_shared-in-Some-false-clause-writes
returns-in_ok-end_shared-in-Some-false-clause-writes g c =
    record {
      few = since _ _ _ (g.met.P.Pages.reads_available _ _ c.read_pair.ensures.reads.step) c.end_shared.ensures.writes.few;
      cause = tt;
      asked = grind (arith, common_steps);
      step = g.met.P.Pages.writes_on _ _ _ (g.met.P.Pages.reads_writes _ _ c.read_pair.ensures.reads.step) c.end_shared.ensures.writes.step;
    }

pub returns-in_err-pair-clause-rebalanced : goal.returns-in_err-pair-clause-rebalanced
returns-in_err-pair-clause-rebalanced g c honest sound node lacks =
    fails _ _ _ c.from_residual.ensures.1 (c.in_err-pair.ensures.read honest (parent_of node lacks)).no_damage

pub returns-in-None-clause-rebalanced : goal.returns-in-None-clause-rebalanced
returns-in-None-clause-rebalanced g c honest sound node lacks =
    let read = (c.in_ok-pair.ensures.read honest (parent_of node lacks)).answer in
    absurd (no_fault (chosen node lacks read) (c.balance.ensures.neither c.in-None.is))

pub returns-in_err-end_joined-in-Some-true-clause-rebalanced : goal.returns-in_err-end_joined-in-Some-true-clause-rebalanced
returns-in_err-end_joined-in-Some-true-clause-rebalanced g c honest sound node lacks =
    let reads = c.read_pair.ensures.reads.step in
    let h1 = g.met.P.Pages.writes_honestly _ _ c.end_joined.ensures.writes.step honest in
    let found = chosen node lacks (c.in_ok-pair.ensures.read h1 (parent_of node lacks)).answer in
    fails _ _ _ c.from_residual-in_err-end_joined-in-Some-true.ensures.1
    (c.in_err-end_joined-in-Some-true.ensures.leaves honest (rw (g.met.P.Pages.reads_sound _ _ reads h1) sound)
    (rw (g.met.P.Pages.reads_live _ _ reads h1) found.three)).no_damage

pub returns-in_err-end_shared-in-Some-false-clause-rebalanced : goal.returns-in_err-end_shared-in-Some-false-clause-rebalanced
returns-in_err-end_shared-in-Some-false-clause-rebalanced g c honest sound node lacks =
    let reads = c.read_pair.ensures.reads.step in
    let h1 = g.met.P.Pages.writes_honestly _ _ c.end_shared.ensures.writes.step honest in
    let found = chosen node lacks (c.in_ok-pair.ensures.read h1 (parent_of node lacks)).answer in
    fails _ _ _ c.from_residual-in_err-end_shared-in-Some-false.ensures.1
    (c.in_err-end_shared-in-Some-false.ensures.leaves honest (rw (g.met.P.Pages.reads_sound _ _ reads h1) sound)
    (rw (g.met.P.Pages.reads_live _ _ reads h1) found.three)).no_damage

pub returns-in_ok-end_joined-in-Some-true-clause-rebalanced : goal.returns-in_ok-end_joined-in-Some-true-clause-rebalanced
returns-in_ok-end_joined-in-Some-true-clause-rebalanced g c honest sound node lacks =
    let reads = c.read_pair.ensures.reads.step in
    let h1 = g.met.P.Pages.writes_honestly _ _ c.end_joined.ensures.writes.step honest in
    let found = chosen node lacks (c.in_ok-pair.ensures.read h1 (parent_of node lacks)).answer in
    let same = g.met.P.Pages.reads_live _ _ reads h1 in
    let ended = (c.in_ok-end_joined-in-Some-true.ensures.leaves honest (rw (g.met.P.Pages.reads_sound _ _ reads h1) sound)
    (rw same found.three)).answer in
    let is = c.balance.ensures.joined (c.in-Some-true.is ∙ ap Some c.in-Some-true.field-0-test) in
    record { answer = (joined found is (rw same at ended.0) c.is_short-short.ensures, ended.1); no_damage = tt }

pub returns-in_ok-end_shared-in-Some-false-clause-rebalanced : goal.returns-in_ok-end_shared-in-Some-false-clause-rebalanced
returns-in_ok-end_shared-in-Some-false-clause-rebalanced g c honest sound node lacks =
    let reads = c.read_pair.ensures.reads.step in
    let h1 = g.met.P.Pages.writes_honestly _ _ c.end_shared.ensures.writes.step honest in
    let found = chosen node lacks (c.in_ok-pair.ensures.read h1 (parent_of node lacks)).answer in
    let same = g.met.P.Pages.reads_live _ _ reads h1 in
    let ended = (c.in_ok-end_shared-in-Some-false.ensures.leaves honest (rw (g.met.P.Pages.reads_sound _ _ reads h1) sound)
    (rw same found.three)).answer in
    let is = c.balance.ensures.shared (c.in-Some-false.is ∙ ap Some c.in-Some-false.field-0-test) in
    record { answer = (shared found is (rw same at ended.0) c.is_short-short-in-Some-false.ensures, ended.1); no_damage = tt }

pub balance-requires : goal.balance-requires
balance-requires g c = record { inner = c.in_ok-pair.ensures.inner.0; place = c.in_ok-pair.ensures.inner.1 }

pub returns-in_err-pair-clause-writes : goal.returns-in_err-pair-clause-writes
returns-in_err-pair-clause-writes g c =
    record {
      few = as_many _ _ (g.met.P.Pages.reads_available _ _ c.read_pair.ensures.reads.step);
      cause = grind (arith, common_steps);
      asked = grind (arith, common_steps);
      step = g.met.P.Pages.reads_writes _ _ c.read_pair.ensures.reads.step;
    }

pub returns-in-None-clause-writes : goal.returns-in-None-clause-writes
returns-in-None-clause-writes g c =
    record {
      few = as_many _ _ (g.met.P.Pages.reads_available _ _ c.read_pair.ensures.reads.step);
      cause = grind (arith, common_steps);
      asked = grind (arith, common_steps);
      step = g.met.P.Pages.reads_writes _ _ c.read_pair.ensures.reads.step;
    }
