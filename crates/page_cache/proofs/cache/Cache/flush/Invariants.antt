use Rattle.std.proofs.Common.{◌≡◌, ◌≤◌, length}
use Rattle.page_cache.specs.Calls.{KeepsPages}
use Rattle.page_cache.proofs.SettleLemmas.{CleanFront}
use Rattle.page_cache.proofs.cache.Cache.flush.Given as goal

abbrev pub invariant-loop-place : goal.invariant-loop-place
invariant-loop-place g l = record {
  kept : KeepsPages l.initial.self l.self (g.S.Shelf.state l.initial.shelf) (g.S.Shelf.state l.shelf);
  asked : l.self.asked ≡ l.initial.self.asked;
  faults : g.S.Shelf.fault_count l.initial.shelf ≤ g.S.Shelf.fault_count l.shelf;
  long : length l.self.frames.entries ≡ length l.initial.self.frames.entries;
  front : CleanFront l.place l.self;
}
