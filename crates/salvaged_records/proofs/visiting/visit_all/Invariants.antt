use Rattle.std.proofs.Common.{◌≤◌, List, ℕ, length}
use Rattle.salvaged_records.specs.Slots.{slots_before}
use Rattle.salvaged_records.proofs.visiting.visit_all.Given as goal

abbrev pub invariant-loop-n : goal.invariant-loop-n
invariant-loop-n g l = record {
  within : (list : List (List ℕ)) → g.P.PageSource.has l.pages list → l.n ≤ length list;
  taken : (list : List (List ℕ)) → g.P.PageSource.has l.pages list → g.V.TakesSlots.takes l.fn.visitor l.visitor (slots_before l.fn.shape list l.n);
  before : (list : List (List ℕ)) → g.P.PageSource.has l.pages list → g.P.PageSource.has l.fn.pages list;
}
