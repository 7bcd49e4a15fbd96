use Rattle.std.proofs.Common.{refl}
use Rattle.file_checker.specs.RowsAhead.{LeadsAhead}
use Rattle.file_checker.specs.Leading.{LeadsToRow}
use Rattle.file_checker.proofs.PrimeAheadLemmas.{never}
use Rattle.file_checker.proofs.SearchLemmas.{each_place}
use Rattle.page_walks.specs.Spots.{spots_below}
use Rattle.file_checker.proofs.RowFaultLemmas.{entry_told}
use Rattle.file_checker.proofs.SpotLemmas.{each_below, one_below}
use Rattle.file_checker.proofs.prime_rows.check_leaf.Goals as goal

pub loop-place-init : goal.loop-place-init
loop-place-init g c = record { each = λ list has. tt; back = λ list has. has }

pub loop-place-preserved : goal.loop-place-preserved
loop-place-preserved g c = record {
  each = λ list has.
      each_below (LeadsToRow c.args.file.now list c.args.marks.now) c.args.leaf.page c.loop-place.place (c.loop-place.invariant.each list (c.if-not-leads_to_row.ensures.before list has))
      (c.if-not-leads_to_row.ensures.leads list has refl);
  back = λ list has. c.loop-place.invariant.back list (c.if-not-leads_to_row.ensures.before list has);
}

pub returns-then-not-leads_to_row-clause-refused : goal.returns-then-not-leads_to_row-clause-refused
returns-then-not-leads_to_row-clause-refused g c = λ list has all.
    never (c.if-not-leads_to_row.ensures.refused list has
    (each_place (LeadsAhead c.args.file.now list c.args.marks.now) c.args.leaf.page c.args.leaf.count c.loop-place.place c.loop-place-test.true all))

pub returns-then-not-leads_to_row-clause-told : goal.returns-then-not-leads_to_row-clause-told
returns-then-not-leads_to_row-clause-told g c = λ list has.
    entry_told (spots_below c.args.leaf.page c.args.leaf.count) (LeadsAhead c.args.file.now list c.args.marks.now) (record { page = c.args.leaf.page; place = c.loop-place.place }) _ c.entry_of_no_row.ensures
    (one_below c.args.leaf.page c.args.leaf.count c.loop-place.place c.loop-place-test.true) (λ ahead. never (c.if-not-leads_to_row.ensures.refused list has ahead))
