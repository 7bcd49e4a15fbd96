use Rattle.std.proofs.Common.{◌≡◌, take}
use Rattle.record_heap.specs.Slots.{AreLinked}
use Rattle.record_heap.proofs.slots.link_all.Given as goal

abbrev pub invariant-loop-i : goal.invariant-loop-i
invariant-loop-i l = record {
  linked : AreLinked l.shape l.n l.i l.page;
  start : take 16 l.page ≡ take 16 l.fn.page;
}
