use Rattle.std.proofs.Common.{◌≡◌, ℕ, length, subst, arith}
use Rattle.salvaged_records.specs.Slots.{slots_before}
use Rattle.salvaged_records.proofs.VisitLemmas.{no_more, page_next, there}
use Rattle.salvaged_records.proofs.visiting.visit_all.Goals as goal

pub loop-n-preserved : goal.loop-n-preserved
loop-n-preserved g c = record {
  within = λ list has.
      let here = there list c.loop-n.n c.in-Some.page (c.in-Some.ensures.page list has) in
      let inside = here.0 in
      omega (arith, inside);
  taken = λ list has.
      let here = there list c.loop-n.n c.in-Some.page (c.in-Some.ensures.page list has) in
      page_next (g.V.TakesSlots.takes c.args.visitor.now c.visit_page.new.visitor) c.args.shape list c.loop-n.n c.in-Some.page here.1
      (g.met.V.TakesSlots.takes_on c.args.visitor.now c.loop-n.visitor c.visit_page.new.visitor _ _ (c.loop-n.invariant.taken list (c.page.ensures.before list has)) c.in_ok-visit_page.ensures);
  before = λ list has. c.loop-n.invariant.before list (c.page.ensures.before list has);
}

pub loop-n-init : goal.loop-n-init
loop-n-init g c = record {
  within = λ list has. omega arith;
  taken = λ list has. g.met.V.TakesSlots.takes_none c.args.visitor.now;
  before = λ list has. has;
}

pub returns-in_default-clause-taken : goal.returns-in_default-clause-taken
returns-in_default-clause-taken g c = λ list has.
    let had = c.page.ensures.before list has in
    let past = no_more list c.loop-n.n (c.in_default.ensures.page list has) in
    let within = c.loop-n.invariant.within list had in
    let all : c.loop-n.n ≡ length list = omega (arith, past, within) in
    subst (λ (n : ℕ). g.V.TakesSlots.takes c.args.visitor.now c.loop-n.visitor (slots_before c.args.shape list n)) all (c.loop-n.invariant.taken list had)

pub returns-in_default-clause-before : goal.returns-in_default-clause-before
returns-in_default-clause-before g c = λ list has. c.loop-n.invariant.before list (c.page.ensures.before list has)

pub returns-clause-taken : goal.returns-clause-taken
returns-clause-taken g c = λ list has.
    let few = c.requires.few list (c.loop-n.invariant.before list has) in
    let past = c.loop-n-test.false in
    let within = c.loop-n.invariant.within list has in
    let all : c.loop-n.n ≡ length list = omega (arith, past, within, few) in
    subst (λ (n : ℕ). g.V.TakesSlots.takes c.args.visitor.now c.loop-n.visitor (slots_before c.args.shape list n)) all (c.loop-n.invariant.taken list has)
