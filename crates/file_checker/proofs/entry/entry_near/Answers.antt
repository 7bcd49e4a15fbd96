use Rattle.std.proofs.Common.{arith}
use Rattle.file_checker.proofs.EntryLemmas.{one_at}
use Rattle.file_checker.proofs.SearchLemmas.{entry_found, found_near}
use Rattle.file_checker.proofs.SpotLemmas.{found_in}
use Rattle.file_checker.proofs.entry.entry_near.Goals as goal

pub returns-then-i-primes-clause-found : goal.returns-then-i-primes-clause-found
returns-then-i-primes-clause-found g c = λ list has there rise spot one key.
    let at = found_near c.args.file.now list c.args.value.now c.args.primes.now c.leaves_before-i.result (c.leaves_before-i.ensures.near list has) there rise spot one key in
    let past = c.if-i-primes.true in
    let inside = at.0 in
    absurd (omega (arith, past, inside))

pub returns-clause-one : goal.returns-clause-one
returns-clause-one g c =
    found_in c.args.primes.now _ c.entry_in.result (one_at c.args.primes.now c.leaves_before-i.result _ (omega (arith, c.leaves_before-i.ensures.within, c.if-i-primes.false)))
    c.entry_in.ensures.page c.entry_in.ensures.place

pub returns-clause-found : goal.returns-clause-found
returns-clause-found g c = λ list has.
    entry_found c.args.file.now list c.args.value.now c.args.primes.now c.leaves_before-i.result c.entry_in.result (c.leaves_before-i.ensures.near list (c.entry_in.ensures.before list has))
    (rw c.prime.ensures at (rw c.shape.ensures at (c.entry_in.ensures.found list has)))
