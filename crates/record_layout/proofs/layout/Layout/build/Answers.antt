use Rattle.std.proofs.Common.{◌≤◌, map, arith, subst, sym}
use Rattle.std.specs.List.{sum_by}
use Rattle.record_layout.specs.declared.item.Placed.{Placed}
use Rattle.record_layout.specs.Layout.{entry_of_item}
use Rattle.record_layout.proofs.RecordLemmas.{is_record}
use Rattle.record_layout.proofs.PlacingLemmas.{short_items, laid_refilled}
use Rattle.record_layout.proofs.layout.Layout.build.Goals as goal

pub set_group_lengths-requires-clause-short : goal.set_group_lengths-requires-clause-short
set_group_lengths-requires-clause-short c =
    subst (λ places. sum_by (λ (place : Placed). place.field.length) places ≤ 4000) (sym c.deref_mut.ensures.value) (short_items (map entry_of_item c.args.items.now) c.in_ok-items_placed.items_placed.items c.in_ok-items_placed.ensures)

pub returns-clause-laid : goal.returns-clause-laid
returns-clause-laid c =
    let old = c.in_ok-items_placed.items_placed in
    laid_refilled (map entry_of_item c.args.items.now) old.items c.deref_mut.result.now c.set_group_lengths.new.places old.len c.in_ok-items_placed.ensures c.deref_mut.ensures.value c.set_group_lengths.ensures (omega arith)

pub invariant_of-result : goal.invariant_of-result
invariant_of-result c =
    let old = c.in_ok-items_placed.items_placed in
    is_record (map entry_of_item c.args.items.now) _ (laid_refilled (map entry_of_item c.args.items.now) old.items c.deref_mut.result.now c.set_group_lengths.new.places old.len c.in_ok-items_placed.ensures c.deref_mut.ensures.value c.set_group_lengths.ensures (omega arith))
