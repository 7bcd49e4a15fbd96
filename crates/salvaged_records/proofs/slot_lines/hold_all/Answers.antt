use Rattle.std.proofs.Common.{◌≡◌, ℕ, length, subst, arith}
use Rattle.salvaged_records.specs.Slots.{slots_before}
use Rattle.salvaged_records.specs.Writing.{HoldsSlots}
use Rattle.salvaged_records.proofs.VisitLemmas.{no_more, page_next, there}
use Rattle.salvaged_records.proofs.WriteLemmas.{holds_none, holds_on}
use Rattle.salvaged_records.proofs.slot_lines.hold_all.Goals as goal

pub loop-n-init : goal.loop-n-init
loop-n-init g c = record {
  within = λ list has. omega arith;
  held = λ list has. holds_none c.args.list.now (g.W.Write.contents c.args.out.now) c.args.held.now c.requires.room;
  before = λ list has. has;
  few = let none = c.requires.none in omega (arith, none);
  roomy = c.requires.room;
}

pub loop-n-preserved : goal.loop-n-preserved
loop-n-preserved g c = record {
  within = λ list has.
      let here = there list c.loop-n.n c.in-Some.page (c.in-Some.ensures.page list has) in
      let inside = here.0 in
      omega (arith, inside);
  held = λ list has.
      let here = there list c.loop-n.n c.in-Some.page (c.in-Some.ensures.page list has) in
      page_next (HoldsSlots c.args.list.now (g.W.Write.contents c.args.out.now) (g.W.Write.contents c.hold_page.new.out) c.args.held.now c.hold_page.new.held) c.args.shape list c.loop-n.n c.in-Some.page here.1
      (holds_on c.args.list.now (g.W.Write.contents c.args.out.now) (g.W.Write.contents c.loop-n.out) (g.W.Write.contents c.hold_page.new.out) c.args.held.now c.loop-n.held c.hold_page.new.held _ _
      (c.loop-n.invariant.held list (c.page.ensures.before list has)) c.in_ok-hold_page.ensures.held);
  before = λ list has. c.loop-n.invariant.before list (c.page.ensures.before list has);
  few = let had = c.loop-n.invariant.few in let more = c.in_ok-hold_page.ensures.few in omega (arith, had, more);
  roomy = c.in_ok-hold_page.ensures.held.roomy;
}

pub returns-in_default-clause-held : goal.returns-in_default-clause-held
returns-in_default-clause-held g c = λ list has.
    let had = c.page.ensures.before list has in
    let past = no_more list c.loop-n.n (c.in_default.ensures.page list has) in
    let within = c.loop-n.invariant.within list had in
    let all : c.loop-n.n ≡ length list = omega (arith, past, within) in
    subst (λ (n : ℕ). HoldsSlots c.args.list.now (g.W.Write.contents c.args.out.now) (g.W.Write.contents c.loop-n.out) c.args.held.now c.loop-n.held (slots_before c.args.shape list n)) all
    (c.loop-n.invariant.held list had)

pub returns-in_default-clause-before : goal.returns-in_default-clause-before
returns-in_default-clause-before g c = λ list has. c.loop-n.invariant.before list (c.page.ensures.before list has)

pub returns-clause-held : goal.returns-clause-held
returns-clause-held g c = λ list has.
    let few = c.requires.few list (c.loop-n.invariant.before list has) in
    let past = c.loop-n-test.false in
    let within = c.loop-n.invariant.within list has in
    let all : c.loop-n.n ≡ length list = omega (arith, past, within, few) in
    subst (λ (n : ℕ). HoldsSlots c.args.list.now (g.W.Write.contents c.args.out.now) (g.W.Write.contents c.loop-n.out) c.args.held.now c.loop-n.held (slots_before c.args.shape list n)) all
    (c.loop-n.invariant.held list has)
