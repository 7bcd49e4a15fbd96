use Rattle.std.proofs.Common.{List, ℕ}
use Rattle.std.proofs.Common.{◌≡◌, ◌<◌, true, take}
use Rattle.record_heap.specs.declared.shape.Place.{Place}
use Rattle.record_heap.specs.Slot.{room}
use Rattle.record_heap.specs.Walk.{is_in_list}
use Rattle.record_heap.specs.Standing.{slot_shape}
use Rattle.page_walks.specs.Spots.{spots_in}
use Rattle.file_checker.specs.Leading.{HasEntry}
use Rattle.file_checker.proofs.heap_slots.check_slots.Given as goal
use Rattle.open_file.specs.Fields.{heap_of}

abbrev pub invariant-loop-n : goal.invariant-loop-n
invariant-loop-n g l = record {
  each : (list : List (List ℕ)) → g.P.PageSource.has l.pages list → (p : Place) → is_in_list (take l.n-index l.own) p.page ≡ true → p.slot < room (slot_shape (heap_of l.file)) → HasEntry l.file list (spots_in l.primes) p;
  back : (list : List (List ℕ)) → g.P.PageSource.has l.pages list → g.P.PageSource.has l.initial.pages list;
}
