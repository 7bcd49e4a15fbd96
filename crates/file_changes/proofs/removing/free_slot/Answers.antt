use Rattle.std.proofs.Common.{None}
use Rattle.record_heap.specs.Chain.{put_slot}
use Rattle.open_file.specs.Fields.{alternates_of, heap_of, prime_index_of}
use Rattle.open_file.proofs.ExitLemmas.{if_ok}
use Rattle.open_file.proofs.PartsLemmas.{heap_changed}
use Rattle.file_changes.proofs.removing.free_slot.Goals as goal

pub returns-clause-freed : goal.returns-clause-freed
returns-clause-freed g c honest sound slots primes entries p here =
    let u = c.args.opened.now in
    let freed = c.free_record.ensures.heap.set honest sound slots _ p.heap_stands here in
    rw c.free_record.ensures.rest (record {
      answer = if_ok c.free_record.result _ _ (λ x done.
          (heap_changed (heap_of u) (prime_index_of u) (alternates_of u) (g.P.Pages.shown.state c.args.pages.now).live slots primes entries p (g.P.Pages.shown.state c.free_record.new.pages).live (heap_of c.free_record.new.self) (put_slot slots c.args.place None) done.0, done.1)) freed.answer;
      no_damage = freed.no_damage;
    })
