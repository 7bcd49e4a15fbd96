use Rattle.std.proofs.Common.{Some}
use Rattle.record_heap.specs.Chain.{put_slot}
use Rattle.indexed_file.specs.Change.{changed_row}
use Rattle.file_changes.specs.Old.{row_with}
use Rattle.open_file.specs.Fields.{alternates_of, heap_of, next_stamp_of, prime_index_of, file_schema}
use Rattle.open_file.specs.Stored.{stored}
use Rattle.open_file.proofs.ExitLemmas.{if_ok}
use Rattle.open_file.proofs.PartsLemmas.{heap_changed}
use Rattle.file_changes.proofs.replacing.set_slot.Goals as goal

pub returns-clause-set : goal.returns-clause-set
returns-clause-set g c honest sound slots primes entries p here =
    let u = c.args.opened.now in
    let row = changed_row (file_schema u) (next_stamp_of u) c.args.bytes.now (row_with c.args.before.now c.args.old.now.stamps.items) in
    let set = (rw (c.as_slice-2.ensures.value, c.changed_stamps-stamps.ensures.stored, c.as_slice.ensures.value) at c.set_record.ensures.set) honest sound slots _ p.heap_stands here in
    record {
      answer = if_ok c.set_record.result _ _ (λ x done.
          (heap_changed (heap_of u) (prime_index_of u) (alternates_of u) (g.P.Pages.shown.state c.args.pages.now).live slots primes entries p (g.P.Pages.shown.state c.set_record.new.pages).live (heap_of u) (put_slot slots c.args.old.now.place (Some (stored (file_schema u) row))) done.0, done.1)) set.answer;
      no_damage = set.no_damage;
    }
