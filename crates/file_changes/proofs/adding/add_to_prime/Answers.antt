use Rattle.open_file.specs.Fields.{alternates_of, heap_of, prime_index_of}
use Rattle.open_file.proofs.ExitLemmas.{fails}
use Rattle.open_file.proofs.PartsLemmas.{prime_changed, some_none}
use Rattle.file_changes.proofs.adding.add_to_prime.Goals as goal

pub returns-in_err-insert_prime-clause-added : goal.returns-in_err-insert_prime-clause-added
returns-in_err-insert_prime-clause-added g c honest sound slots primes entries p none =
    fails c.from_residual.result _ c.from_residual.ensures.1 (c.in_err-insert_prime.ensures.index.added honest sound primes _ p.prime_stands).no_damage _

pub returns-in-true-clause-added : goal.returns-in-true-clause-added
returns-in-true-clause-added g c honest sound slots primes entries p none =
    let opened = c.args.opened.now in
    let added = ((rw (c.in-true.is, c.value-value.ensures.value) at c.in_ok-insert_prime.ensures.index.added) honest sound primes _ p.prime_stands).answer in
    rw c.insert_prime.ensures.rest (record {
      answer = (prime_changed (heap_of opened) (prime_index_of opened) (alternates_of opened) (g.P.Pages.shown.state c.args.pages.now).live slots primes entries p (g.P.Pages.shown.state c.insert_prime.new.pages).live (prime_index_of c.insert_prime.new.self) _ added.0.1, added.1);
      no_damage = tt;
    })

pub returns-in-false-clause-added : goal.returns-in-false-clause-added
returns-in-false-clause-added g c honest sound slots primes entries p none =
    let added = ((rw (c.in-false.is, c.value-value.ensures.value) at c.in_ok-insert_prime.ensures.index.added) honest sound primes _ p.prime_stands).answer in
    absurd (some_none _ added.0.0 none)
