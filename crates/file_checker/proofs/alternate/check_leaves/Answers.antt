use Rattle.std.proofs.Common.{arith}
use Rattle.page_walks.specs.Spots.{spots_in}
use Rattle.file_checker.specs.RowsAhead.{HasRowAhead}
use Rattle.file_checker.specs.Leading.{HasRow}
use Rattle.file_checker.specs.Comparing.{pages_read}
use Rattle.file_checker.proofs.SearchLemmas.{each_of_leaf}
use Rattle.file_checker.proofs.SpotLemmas.{each_more}
use Rattle.std.proofs.Common.{slice_index_or}
use Rattle.page_walks.specs.Spots.{spots_below}
use Rattle.page_walks.specs.declared.leaf.Leaf.{Leaf}
use Rattle.file_checker.specs.RowFaults.{IsEntryFault}
use Rattle.file_checker.proofs.RowFaultLemmas.{entry_more, handed_on, one_of_leaf, rows_more}
use Rattle.file_checker.proofs.alternate.check_leaves.Goals as goal

pub loop-leaf-init : goal.loop-leaf-init
loop-leaf-init g c = record { each = λ list has k d below. absurd (omega (arith, below)); back = λ list has. has }

pub loop-leaf-preserved : goal.loop-leaf-preserved
loop-leaf-preserved g c = record {
  each = λ list has.
      each_more (HasRow c.args.file.now list (spots_in c.args.primes.now) c.args.index) c.args.leaves.now c.loop-leaf.leaf-index (record { page = 0; count = 0 }) c.loop-leaf-test.true
      (c.loop-leaf.invariant.each list (c.check_leaf.ensures.before list has)) (c.in_ok-check_leaf.ensures.checks list has).stands;
  back = λ list has. c.loop-leaf.invariant.back list (c.check_leaf.ensures.before list has);
}

pub returns-clause-checks : goal.returns-clause-checks
returns-clause-checks g c = λ list has. record { stands = λ k d within. c.loop-leaf.invariant.each list has k d (let end = c.loop-leaf-test.false in omega (arith, end, within)); refused = tt; told = tt }

pub returns-in_err-check_leaf-clause-checks : goal.returns-in_err-check_leaf-clause-checks
returns-in_err-check_leaf-clause-checks g c = λ list has.
    let leaves = c.args.leaves.now in
    let i = c.loop-leaf.leaf-index in
    let none : Leaf = record { page = 0; count = 0 } in
    let leaf = slice_index_or leaves i none in
    let Ahead = HasRowAhead c.args.file.now list (spots_in c.args.primes.now) c.args.index in
    handed_on (pages_read c.args.file.now list c.args.primes.now) c.from_residual.result _ c.from_residual.ensures.1
    (λ lead all. (c.in_err-check_leaf.ensures.checks list has).refused lead (each_of_leaf Ahead leaves i none c.loop-leaf-test.true all))
    (λ lead. rows_more (IsEntryFault (spots_below leaf.page leaf.count) Ahead) (IsEntryFault (spots_in leaves) Ahead) _
    (entry_more (spots_below leaf.page leaf.count) (spots_in leaves) Ahead Ahead (one_of_leaf leaves i none c.loop-leaf-test.true) (λ spot a. a)) ((c.in_err-check_leaf.ensures.checks list has).told lead))
