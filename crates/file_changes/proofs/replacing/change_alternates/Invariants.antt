use Rattle.std.proofs.Common.{◌≡◌, ℕ, ◌+◌, ◌*◌, ◌≤◌, List, length, IsTrue}
use Rattle.key_index.specs.declared.entry.PrimeEntry.{PrimeEntry}
use Rattle.key_index.specs.declared.entry.AltEntry.{AltEntry}
use Rattle.record_heap.specs.Chain.{Slots}
use Rattle.open_file.specs.Fields.{alternates_of, heap_of, next_stamp_of, prime_index_of, file_schema, with_alternates_of}
use Rattle.open_file.specs.Parts.{Parts}
use Rattle.open_file.specs.Stands.{IsShaped}
use Rattle.file_changes.specs.Old.{row_with}
use Rattle.file_changes.specs.Removing.{AreThere}
use Rattle.file_changes.specs.Replacing.{AreFreed, changed_below, need_in_indexes}
use Rattle.file_changes.proofs.ChangedLemmas.{need_from}
use Rattle.file_changes.proofs.replacing.change_alternates.Given as goal

abbrev pub invariant-loop-j : goal.invariant-loop-j
invariant-loop-j g l = record {
  goes : g.P.Pages.shown.Writes l.fn.pages l.pages;
  changed : IsTrue (g.P.Pages.shown.state l.pages).is_honest → IsTrue (g.P.Pages.shown.state l.fn.pages).is_sound
      → (slots : Slots) (primes : List PrimeEntry) (entries : ℕ → List AltEntry)
      → Parts (heap_of l.fn.opened) (prime_index_of l.fn.opened) (alternates_of l.fn.opened) (g.P.Pages.shown.state l.fn.pages).live slots primes entries
      → AreThere (file_schema l.fn.opened) (row_with l.old l.stamps) (length (alternates_of l.fn.opened)) entries
      → AreFreed (file_schema l.fn.opened) (next_stamp_of l.fn.opened) (row_with l.old l.stamps) l.bytes (length (alternates_of l.fn.opened)) entries
      → Parts (heap_of l.opened) (prime_index_of l.opened) (alternates_of l.opened) (g.P.Pages.shown.state l.pages).live slots primes
      (changed_below (file_schema l.fn.opened) (next_stamp_of l.fn.opened) (row_with l.old l.stamps) l.bytes l.j entries)
      × IsTrue (g.P.Pages.shown.state l.pages).is_sound;
  rest : l.opened ≡ with_alternates_of l.opened l.fn.opened;
  shaped : IsShaped l.opened;
  many : length (alternates_of l.opened) ≡ length (alternates_of l.fn.opened);
  room : need_from (file_schema l.fn.opened) l.old l.bytes (alternates_of l.opened) l.j ≤ (g.P.Pages.shown.state l.pages).available;
  asked : (g.P.Pages.shown.state l.pages).asked + 16 * need_from (file_schema l.fn.opened) l.old l.bytes (alternates_of l.opened) l.j
      ≤ (g.P.Pages.shown.state l.fn.pages).asked + 16 * need_in_indexes (file_schema l.fn.opened) l.old l.bytes (alternates_of l.fn.opened);
}
