use Rattle.std.proofs.Common.{List, ℕ}
use Rattle.std.proofs.Common.{◌≡◌, ◌<◌}
use Rattle.record_heap.specs.declared.shape.Place.{Place}
use Rattle.page_walks.specs.Spots.{spots_in}
use Rattle.file_checker.specs.Leading.{HasEntry}
use Rattle.file_checker.proofs.heap_slots.check_page.Given as goal

abbrev pub invariant-loop-i : goal.invariant-loop-i
invariant-loop-i g l = record {
  each : (list : List (List ℕ)) → g.P.PageSource.has l.pages list → (p : Place) → p.page ≡ l.n → p.slot < l.i → HasEntry l.file list (spots_in l.primes) p;
  back : (list : List (List ℕ)) → g.P.PageSource.has l.pages list → g.P.PageSource.has l.initial.pages list;
}
