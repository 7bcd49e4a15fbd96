use Rattle.page_walks.specs.Spots.{spots_in}
use Rattle.file_checker.specs.RowsAhead.{AlternateAhead}
use Rattle.file_checker.specs.Leading.{HasRow}
use Rattle.file_checker.proofs.SpotLemmas.{each_in}
use Rattle.file_checker.proofs.PrimeAheadLemmas.{on_err, refuses_rows, rows_ahead}
use Rattle.pages.specs.declared.walk_fault.WalkFault.{WalkFault}
use Rattle.file_checker.specs.RowsAhead.{PrimesLead}
use Rattle.file_checker.specs.RowFaults.{IsAlternateFault, TellsOfRows}
use Rattle.file_checker.proofs.RowFaultLemmas.{never_ok, rows_on}
use Rattle.file_checker.proofs.AlternateRowLemmas.{alternate_stands}
use Rattle.file_checker.proofs.alternate.check_alternate.Goals as goal

pub returns-clause-compares : goal.returns-clause-compares
returns-clause-compares g c = λ list has.
    let file = c.args.file.now in
    let primes = spots_in c.args.primes.now in
    let spots = spots_in c.args.leaves.now in
    record {
      stands = alternate_stands file list primes c.args.index spots (each_in (HasRow file list primes c.args.index) c.args.leaves.now (c.in_ok-check_leaves.ensures.checks list has).stands) (c.requires.many list (c.check_leaves.ensures.before list has)) (c.requires.rises list (c.check_leaves.ensures.before list has));
      refused = tt;
      told = tt;
    }

pub returns-in_err-check_leaves-clause-compares : goal.returns-in_err-check_leaves-clause-compares
returns-in_err-check_leaves-clause-compares g c = λ list has.
    let file = c.args.file.now in
    let primes = c.args.primes.now in
    let leaves = c.args.leaves.now in
    let Ahead = AlternateAhead file list primes c.args.index leaves in
    record {
      stands = never_ok _ c.from_residual.result _ c.from_residual.ensures.1;
      refused = refuses_rows Ahead c.from_residual.result (on_err (Ahead → ⊥) c.from_residual.result (λ ahead. (c.in_err-check_leaves.ensures.checks list has).refused ahead.primes_lead (rows_ahead file list primes c.args.index leaves ahead)));
      told = rows_on (λ (fault : WalkFault). PrimesLead file list primes → TellsOfRows (IsAlternateFault file list primes c.args.index leaves) fault) c.from_residual.result _ c.from_residual.ensures.1
          (c.in_err-check_leaves.ensures.checks list has).told;
    }
