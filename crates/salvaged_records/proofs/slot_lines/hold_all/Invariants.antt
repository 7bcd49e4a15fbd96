use Rattle.std.proofs.Common.{◌≤◌, ◌*◌, List, ℕ, length, vec_capacity}
use Rattle.record_text.specs.Room.{IsLineRoom}
use Rattle.salvaged_records.specs.Slots.{slots_before}
use Rattle.salvaged_records.specs.Writing.{HoldsSlots}
use Rattle.salvaged_records.proofs.slot_lines.hold_all.Given as goal

abbrev pub invariant-loop-n : goal.invariant-loop-n
invariant-loop-n g l = record {
  within : (list : List (List ℕ)) → g.P.PageSource.has l.pages list → l.n ≤ length list;
  held : (list : List (List ℕ)) → g.P.PageSource.has l.pages list
      → HoldsSlots l.fn.list (g.W.Write.contents l.fn.out) (g.W.Write.contents l.out) l.fn.held l.held (slots_before l.fn.shape list l.n);
  before : (list : List (List ℕ)) → g.P.PageSource.has l.pages list → g.P.PageSource.has l.fn.pages list;
  few : l.held.count ≤ l.n * 65536;
  roomy : IsLineRoom l.fn.list.form.now 4077 (vec_capacity l.held.line);
}
