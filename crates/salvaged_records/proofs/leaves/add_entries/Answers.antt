use Rattle.std.proofs.Common.{◌<◌, ◌≤◌, List, ℕ, length, subst, arith}
use Rattle.std.specs.Prelude.{filter}
use Rattle.std.proofs.lemmas.List.{take_all}
use Rattle.tree_node.specs.LeafView.{view_entries}
use Rattle.salvaged_records.specs.Leaves.{is_entry_of}
use Rattle.salvaged_records.specs.Values.{AddsValues}
use Rattle.salvaged_records.proofs.EntryLemmas.{entry_more}
use Rattle.salvaged_records.proofs.leaves.add_entries.Goals as goal

pub loop-i-preserved : goal.loop-i-preserved
loop-i-preserved c =
    let below = c.loop-i-test.true in
    let many = c.count-i-end.ensures.value in
    let within : c.loop-i.i < length (view_entries c.args.leaf) = omega (arith, below, many) in
    entry_more c.args.values.now c.args.entries.now c.loop-i.entries c.add_entry.new.entries (view_entries c.args.leaf) c.loop-i.i c.entry.result.now within c.entry.ensures.value c.loop-i.invariant
    c.in_ok-add_entry.ensures

pub returns : goal.returns
returns c =
    let past = c.loop-i-test.false in
    let many = c.count-i-end.ensures.value in
    let all : length (view_entries c.args.leaf) ≤ c.loop-i.i = omega (arith, past, many) in
    subst (λ (e : List (List ℕ)). AddsValues c.args.entries.now c.loop-i.entries (filter (is_entry_of c.args.values.now) e)) (take_all c.loop-i.i (view_entries c.args.leaf) all) c.loop-i.invariant
