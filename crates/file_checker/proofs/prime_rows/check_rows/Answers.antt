use Rattle.std.proofs.Common.{sym, subst}
use Rattle.pages.specs.Each.{Each}
use Rattle.pages.specs.declared.walk_fault.WalkFault.{WalkFault}
use Rattle.file_checker.specs.Search.{IsPrimeLeaf}
use Rattle.file_checker.specs.RowFaults.{IsRowFault, TellsOfRows}
use Rattle.file_checker.proofs.PrimeAheadLemmas.{memory_handed_on}
use Rattle.file_checker.proofs.RowFaultLemmas.{never_ok, rows_on}
use Rattle.file_checker.proofs.prime_rows.check_rows.Goals as goal

pub returns-in_err-marks-clause-compares : goal.returns-in_err-marks-clause-compares
returns-in_err-marks-clause-compares g c = λ list has.
    let Told = λ (fault : WalkFault). Each (IsPrimeLeaf c.args.file.now list) c.args.primes.now → TellsOfRows (IsRowFault c.args.file.now list c.args.own.now c.args.primes.now) fault in
    record {
      stand = never_ok _ c.from_residual.result _ c.from_residual.ensures.1;
      refused = memory_handed_on _ c.from_residual.result _ c.from_residual.ensures.1 c.in_err-marks.ensures.memory;
      told = rows_on Told c.from_residual.result _ c.from_residual.ensures.1 (subst Told (sym c.in_err-marks.ensures.memory) (λ there. tt));
    }
