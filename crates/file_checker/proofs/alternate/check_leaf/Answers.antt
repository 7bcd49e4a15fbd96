use Rattle.std.proofs.Common.{refl}
use Rattle.page_walks.specs.Spots.{spots_below, spots_in}
use Rattle.file_checker.proofs.RowFaultLemmas.{entry_told}
use Rattle.file_checker.specs.RowsAhead.{HasRowAhead}
use Rattle.file_checker.specs.Leading.{HasRow}
use Rattle.file_checker.proofs.PrimeAheadLemmas.{never}
use Rattle.file_checker.proofs.SearchLemmas.{each_place}
use Rattle.file_checker.proofs.SpotLemmas.{each_below, one_below}
use Rattle.file_checker.proofs.alternate.check_leaf.Goals as goal

pub loop-place-init : goal.loop-place-init
loop-place-init g c = record { each = λ list has. tt; back = λ list has. has }

pub loop-place-preserved : goal.loop-place-preserved
loop-place-preserved g c = record {
  each = λ list has.
      each_below (HasRow c.args.file.now list (spots_in c.args.primes.now) c.args.index) c.args.leaf.page c.loop-place.place (c.loop-place.invariant.each list (c.if-not-has_row.ensures.before list has))
      (c.if-not-has_row.ensures.row list has refl);
  back = λ list has. c.loop-place.invariant.back list (c.if-not-has_row.ensures.before list has);
}

pub returns-then-not-has_row-clause-checks : goal.returns-then-not-has_row-clause-checks
returns-then-not-has_row-clause-checks g c = λ list has.
    let Ahead = HasRowAhead c.args.file.now list (spots_in c.args.primes.now) c.args.index in
    record {
      stands = tt;
      refused = λ lead all. never (c.if-not-has_row.ensures.refused list has lead (each_place Ahead c.args.leaf.page c.args.leaf.count c.loop-place.place c.loop-place-test.true all));
      told = λ lead.
          entry_told (spots_below c.args.leaf.page c.args.leaf.count) Ahead (record { page = c.args.leaf.page; place = c.loop-place.place }) _ c.entry_of_no_row.ensures
          (one_below c.args.leaf.page c.args.leaf.count c.loop-place.place c.loop-place-test.true) (λ ahead. never (c.if-not-has_row.ensures.refused list has lead ahead));
    }
