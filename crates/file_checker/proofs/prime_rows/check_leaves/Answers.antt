use Rattle.std.proofs.Common.{arith}
use Rattle.pages.specs.Each.{Each}
use Rattle.page_walks.specs.Spots.{spots_in}
use Rattle.file_checker.specs.RowsAhead.{LeadsAhead}
use Rattle.file_checker.specs.Leading.{LeadsToRow}
use Rattle.file_checker.proofs.PrimeAheadLemmas.{on_err}
use Rattle.file_checker.proofs.SearchLemmas.{each_of_leaf}
use Rattle.file_checker.proofs.SpotLemmas.{each_more}
use Rattle.std.proofs.Common.{slice_index_or}
use Rattle.page_walks.specs.Spots.{spots_below}
use Rattle.page_walks.specs.declared.leaf.Leaf.{Leaf}
use Rattle.file_checker.specs.RowFaults.{IsEntryFault, TellsOfLeading}
use Rattle.file_checker.proofs.RowFaultLemmas.{entry_more, one_of_leaf, rows_more, rows_on}
use Rattle.file_checker.proofs.prime_rows.check_leaves.Goals as goal

pub loop-leaf-init : goal.loop-leaf-init
loop-leaf-init g c = record { each = λ list has k d below. absurd (omega (arith, below)); back = λ list has. has }

pub loop-leaf-preserved : goal.loop-leaf-preserved
loop-leaf-preserved g c = record {
  each = λ list has.
      each_more (LeadsToRow c.args.file.now list c.args.marks.now) c.args.primes.now c.loop-leaf.leaf-index (record { page = 0; count = 0 }) c.loop-leaf-test.true
      (c.loop-leaf.invariant.each list (c.check_leaf.ensures.before list has)) (c.in_ok-check_leaf.ensures.lead list has);
  back = λ list has. c.loop-leaf.invariant.back list (c.check_leaf.ensures.before list has);
}

pub returns-in_err-check_leaf-clause-refused : goal.returns-in_err-check_leaf-clause-refused
returns-in_err-check_leaf-clause-refused g c = λ list has.
    on_err (Each (LeadsAhead c.args.file.now list c.args.marks.now) (spots_in c.args.primes.now) → ⊥) c.from_residual.result
    (λ all. c.in_err-check_leaf.ensures.refused list has
    (each_of_leaf (LeadsAhead c.args.file.now list c.args.marks.now) c.args.primes.now c.loop-leaf.leaf-index (record { page = 0; count = 0 }) c.loop-leaf-test.true all))

pub returns-clause-lead : goal.returns-clause-lead
returns-clause-lead g c = λ list has k d within. c.loop-leaf.invariant.each list has k d (let end = c.loop-leaf-test.false in omega (arith, end, within))

pub returns-in_err-check_leaf-clause-told : goal.returns-in_err-check_leaf-clause-told
returns-in_err-check_leaf-clause-told g c = λ list has.
    let primes = c.args.primes.now in
    let i = c.loop-leaf.leaf-index in
    let none : Leaf = record { page = 0; count = 0 } in
    let leaf = slice_index_or primes i none in
    let Ahead = LeadsAhead c.args.file.now list c.args.marks.now in
    rows_on (TellsOfLeading c.args.file.now list c.args.marks.now (spots_in primes)) c.from_residual.result _ c.from_residual.ensures.1
    (rows_more (IsEntryFault (spots_below leaf.page leaf.count) Ahead) (IsEntryFault (spots_in primes) Ahead) _
    (entry_more (spots_below leaf.page leaf.count) (spots_in primes) Ahead Ahead (one_of_leaf primes i none c.loop-leaf-test.true) (λ spot a. a)) (c.in_err-check_leaf.ensures.told list has))
