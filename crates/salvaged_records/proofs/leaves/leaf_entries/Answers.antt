use Rattle.std.proofs.Common.{◌≤◌, List, ℕ, length, subst, arith}
use Rattle.std.specs.Prelude.{filter}
use Rattle.std.proofs.lemmas.List.{take_all}
use Rattle.salvaged_records.specs.Leaves.{is_entry_of, leaf_entries_in}
use Rattle.salvaged_records.specs.Values.{HasValues}
use Rattle.salvaged_records.proofs.EntryLemmas.{page_more}
use Rattle.salvaged_records.proofs.VisitLemmas.{no_more, there}
use Rattle.salvaged_records.proofs.leaves.leaf_entries.Goals as goal

pub loop-n-preserved : goal.loop-n-preserved
loop-n-preserved g c = record {
  within = λ list has.
      let here = there list c.loop-n.n c.in-Some.page (c.in-Some.ensures.page list has) in
      let inside = here.0 in
      omega (arith, inside);
  entries = λ list has.
      let here = there list c.loop-n.n c.in-Some.page (c.in-Some.ensures.page list has) in
      page_more c.args.values.now c.args.shape list c.loop-n.n c.in-Some.page c.loop-n.entries c.add_page.new.entries here.0 here.1 (c.loop-n.invariant.entries list (c.page.ensures.before list has))
      c.in_ok-add_page.ensures;
  before = λ list has. c.loop-n.invariant.before list (c.page.ensures.before list has);
}

pub loop-n-init : goal.loop-n-init
loop-n-init g c = record {
  within = λ list has. omega arith;
  entries = λ list has. c.no_values-entries.ensures.values;
  before = λ list has. has;
}

pub returns-in_default-clause-entries : goal.returns-in_default-clause-entries
returns-in_default-clause-entries g c = λ list has.
    let past = no_more list c.loop-n.n (c.in_default.ensures.page list has) in
    subst (λ (l : List (List ℕ)). HasValues c.loop-n.entries (filter (is_entry_of c.args.values.now) (leaf_entries_in c.args.shape l))) (take_all c.loop-n.n list past)
    (c.loop-n.invariant.entries list (c.page.ensures.before list has))

pub returns-in_default-clause-before : goal.returns-in_default-clause-before
returns-in_default-clause-before g c = λ list has. c.loop-n.invariant.before list (c.page.ensures.before list has)

pub returns-clause-entries : goal.returns-clause-entries
returns-clause-entries g c = λ list has.
    let few = c.requires.few list (c.loop-n.invariant.before list has) in
    let past = c.loop-n-test.false in
    let all : length list ≤ c.loop-n.n = omega (arith, past, few) in
    subst (λ (l : List (List ℕ)). HasValues c.loop-n.entries (filter (is_entry_of c.args.values.now) (leaf_entries_in c.args.shape l))) (take_all c.loop-n.n list all)
    (c.loop-n.invariant.entries list has)
