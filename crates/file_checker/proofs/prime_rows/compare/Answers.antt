use Rattle.std.proofs.Common.{◌≡◌, ◌<◌, ◌∙◌, ℕ, true, length, arith}
use Rattle.page_walks.specs.Spots.{spots_in}
use Rattle.file_checker.specs.RowsAhead.{RowsAhead}
use Rattle.file_checker.specs.Leading.{LeadsToRow}
use Rattle.file_checker.proofs.PrimeAheadLemmas.{all_lead, on_err, primes_lead, refuses_rows}
use Rattle.std.proofs.Common.{inl, inr}
use Rattle.pages.specs.Each.{Each}
use Rattle.pages.specs.Marks.{marked_in}
use Rattle.record_heap.specs.Walk.{is_in_list}
use Rattle.pages.specs.declared.walk_fault.WalkFault.{WalkFault}
use Rattle.file_checker.specs.RowsAhead.{LeadsAhead}
use Rattle.file_checker.specs.Search.{IsPrimeLeaf}
use Rattle.file_checker.specs.RowFaults.{HasNoEntry, IsEntryFault, IsRowFault, LeadsToOwn, TellsOfRows}
use Rattle.file_checker.proofs.RowFaultLemmas.{entry_more, leads_by_marks, never_ok, primes_found, rows_more, rows_on}
use Rattle.file_checker.proofs.SpotLemmas.{each_in}
use Rattle.file_checker.proofs.RowLemmas.{all_kept, rows_stand}
use Rattle.file_checker.proofs.prime_rows.compare.Goals as goal

pub returns-clause-compares : goal.returns-clause-compares
returns-clause-compares g c = λ list has.
    let leaves = c.check_slots.ensures.before list has in
    let may = c.requires.may list (c.check_leaves.ensures.before list leaves) in
    let file = c.args.file.now in
    let own = c.args.own.now in
    let spots = spots_in c.args.primes.now in
    let marks = c.mark_all.new.marks in
    let lead = each_in (LeadsToRow file list marks) c.args.primes.now (c.in_ok-check_leaves.ensures.lead list leaves) in
    record {
      stand = rows_stand file list own spots (all_kept file list own marks c.mark_all.ensures.only spots lead) may.rises (c.in_ok-check_slots.ensures.checks list has).stands;
      refused = tt;
      told = tt;
    }

pub returns-in_err-check_leaves-clause-compares : goal.returns-in_err-check_leaves-clause-compares
returns-in_err-check_leaves-clause-compares g c = λ list has.
    let may = c.requires.may list (c.check_leaves.ensures.before list has) in
    let file = c.args.file.now in
    let own = c.args.own.now in
    let primes = c.args.primes.now in
    let spots = spots_in primes in
    let marks = c.mark_all.new.marks in
    let long = c.mark_all.auto.marks in
    let all : (n : ℕ) → n < length marks → is_in_list own n ≡ true → marked_in marks n ≡ true = λ n within one. c.mark_all.ensures.all n (omega (arith, within, long)) one in
    let Ahead = RowsAhead file list own primes in
    record {
      stand = never_ok _ c.from_residual.result _ c.from_residual.ensures.1;
      refused = refuses_rows Ahead c.from_residual.result (on_err (Ahead → ⊥) c.from_residual.result
          (λ ahead. c.in_err-check_leaves.ensures.refused list has (all_lead file list own marks primes (long ∙ may.many) all ahead)));
      told = rows_on (λ (fault : WalkFault). Each (IsPrimeLeaf file list) primes → TellsOfRows (IsRowFault file list own primes) fault) c.from_residual.result _ c.from_residual.ensures.1
          (λ there. rows_more (IsEntryFault spots (LeadsAhead file list marks)) (IsRowFault file list own primes) _
          (λ place h. inl (entry_more spots spots (LeadsAhead file list marks) (LeadsToOwn file list own) (λ spot one. one)
          (leads_by_marks file list own marks (long ∙ may.many) all) place h))
          (c.in_err-check_leaves.ensures.told list has));
    }

pub returns-in_err-check_slots-clause-compares : goal.returns-in_err-check_slots-clause-compares
returns-in_err-check_slots-clause-compares g c = λ list has.
    let leaves = c.check_slots.ensures.before list has in
    let may = c.requires.may list (c.check_leaves.ensures.before list leaves) in
    let file = c.args.file.now in
    let own = c.args.own.now in
    let primes = c.args.primes.now in
    let marks = c.mark_all.new.marks in
    let Ahead = RowsAhead file list own primes in
    let checks = c.in_err-check_slots.ensures.checks list has in
    record {
      stand = never_ok _ c.from_residual-in_err-check_slots.result _ c.from_residual-in_err-check_slots.ensures.1;
      refused = refuses_rows Ahead c.from_residual-in_err-check_slots.result (on_err (Ahead → ⊥) c.from_residual-in_err-check_slots.result
          (λ ahead. checks.refused (primes_lead file list own primes may.rises ahead) ahead.stand.placed.no_more));
      told = rows_on (λ (fault : WalkFault). Each (IsPrimeLeaf file list) primes → TellsOfRows (IsRowFault file list own primes) fault) c.from_residual-in_err-check_slots.result _ c.from_residual-in_err-check_slots.ensures.1
          (λ there. rows_more (HasNoEntry file list (spots_in primes) own) (IsRowFault file list own primes) _ (λ place h. inr h)
          (checks.told (primes_found file list marks primes there may.rises (each_in (LeadsToRow file list marks) primes (c.in_ok-check_leaves.ensures.lead list leaves)))));
    }
