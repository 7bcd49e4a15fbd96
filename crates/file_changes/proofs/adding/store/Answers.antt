use Rattle.open_file.specs.Fields.{alternates_of, heap_of, prime_index_of}
use Rattle.open_file.proofs.ExitLemmas.{if_ok}
use Rattle.open_file.proofs.PartsLemmas.{heap_changed}
use Rattle.file_changes.proofs.adding.store.Goals as goal

pub returns-clause-put : goal.returns-clause-put
returns-clause-put g c honest sound slots primes entries p =
    let opened = c.args.opened.now in
    let added = (rw (c.as_slice.ensures.value, c.new_stamps-stamps.ensures.stored c.args.bytes.now) at c.put_record.ensures.heap.added) honest sound slots _ p.heap_stands in
    rw c.put_record.ensures.rest (record {
      answer = if_ok c.put_record.result _ _ (λ place done. (
        record {
          free = done.0;
          parts = heap_changed (heap_of opened) (prime_index_of opened) (alternates_of opened) (g.P.Pages.shown.state c.args.pages.now).live slots primes entries p (g.P.Pages.shown.state c.put_record.new.pages).live (heap_of c.put_record.new.self) _ done.1;
        },
        done.2,
      )) added.answer;
      no_damage = added.no_damage;
    })
