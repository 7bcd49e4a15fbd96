use Rattle.open_file.specs.Fields.{alternates_of, heap_of, prime_index_of}
use Rattle.open_file.proofs.ExitLemmas.{fails}
use Rattle.open_file.proofs.PartsLemmas.{prime_changed, some_none}
use Rattle.file_changes.proofs.removing.remove_from_prime.Goals as goal

pub returns-in_err-remove_prime-clause-removed : goal.returns-in_err-remove_prime-clause-removed
returns-in_err-remove_prime-clause-removed g c honest sound slots primes entries p some =
    fails c.from_residual.result _ c.from_residual.ensures.1 (c.in_err-remove_prime.ensures.index.removed honest sound primes _ p.prime_stands).no_damage _

pub returns-in-true-clause-removed : goal.returns-in-true-clause-removed
returns-in-true-clause-removed g c honest sound slots primes entries p some =
    let u = c.args.opened.now in
    let removed = ((rw (c.value-value.ensures.value, c.in-true.is) at c.in_ok-remove_prime.ensures.index.removed) honest sound primes _ p.prime_stands).answer in
    rw c.remove_prime.ensures.rest (record {
      answer = (prime_changed (heap_of u) (prime_index_of u) (alternates_of u) (g.P.Pages.shown.state c.args.pages.now).live slots primes entries p (g.P.Pages.shown.state c.remove_prime.new.pages).live (prime_index_of c.remove_prime.new.self) _ removed.0.1, removed.1);
      no_damage = tt;
    })

pub returns-in-false-clause-removed : goal.returns-in-false-clause-removed
returns-in-false-clause-removed g c honest sound slots primes entries p some =
    let removed = ((rw (c.value-value.ensures.value, c.in-false.is) at c.in_ok-remove_prime.ensures.index.removed) honest sound primes _ p.prime_stands).answer in
    absurd (some_none _ some removed.0.0)
