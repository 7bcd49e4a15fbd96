use Rattle.std.proofs.Common.{◌≡◌, ◌+◌, ◌*◌, ◌≤◌, [], length, IsTrue}
use Rattle.key_index.specs.declared.prime_index.PrimeIndex.{PrimeIndex}
use Rattle.record_heap.specs.declared.heap.Heap.{Heap}
use Rattle.record_heap.specs.Chain.{no_slots}
use Rattle.open_file.specs.Parts.{Parts}
use Rattle.open_file.specs.Creating.{AreIndexesOf}
use Rattle.open_file.proofs.creating.new_alternates.Given as goal

abbrev pub invariant-loop-k : goal.invariant-loop-k
invariant-loop-k g l = record {
  goes : g.P.Pages.shown.Writes l.fn.pages l.pages;
  made : IsTrue (g.P.Pages.shown.state l.pages).is_honest → IsTrue (g.P.Pages.shown.state l.fn.pages).is_sound
      → (heap : Heap) (prime : PrimeIndex) → Parts heap prime [] (g.P.Pages.shown.state l.fn.pages).live no_slots [] (λ j. [])
      → Parts heap prime l.alternates.items (g.P.Pages.shown.state l.pages).live no_slots [] (λ j. []) × IsTrue (g.P.Pages.shown.state l.pages).is_sound;
  each : AreIndexesOf l.schema l.alternates.items;
  many : length l.alternates.items + 1 ≡ l.k;
  few : (g.P.Pages.shown.state l.fn.pages).available + 1 ≤ (g.P.Pages.shown.state l.pages).available + l.k;
  spent : (g.P.Pages.shown.state l.pages).available + l.k ≡ (g.P.Pages.shown.state l.fn.pages).available + 1;
  asked : (g.P.Pages.shown.state l.pages).asked + 2 ≤ (g.P.Pages.shown.state l.fn.pages).asked + 2 * l.k;
}
