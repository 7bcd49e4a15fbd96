use Rattle.std.proofs.Common.{◌≡◌, ℕ, ◌+◌, ◌*◌, ◌≤◌, List, length, drop, IsTrue}
use Rattle.key_index.specs.declared.entry.PrimeEntry.{PrimeEntry}
use Rattle.key_index.specs.declared.entry.AltEntry.{AltEntry}
use Rattle.record_heap.specs.Chain.{Slots}
use Rattle.open_file.specs.Fields.{alternates_of, heap_of, next_stamp_of, prime_index_of, file_schema, with_alternates_of}
use Rattle.open_file.specs.Parts.{Parts}
use Rattle.open_file.specs.Stands.{IsShaped}
use Rattle.file_changes.specs.Adding.{added_below, AreFree, index_levels}
use Rattle.file_changes.proofs.adding.add_to_alternates.Given as goal

abbrev pub invariant-loop-j : goal.invariant-loop-j
invariant-loop-j g l =
    (g.P.Pages.shown.Writes l.fn.pages l.pages)
    × (IsTrue (g.P.Pages.shown.state l.pages).is_honest → IsTrue (g.P.Pages.shown.state l.fn.pages).is_sound → (slots : Slots) (primes : List PrimeEntry) (entries : ℕ → List AltEntry)
    → Parts (heap_of l.fn.opened) (prime_index_of l.fn.opened) (alternates_of l.fn.opened) (g.P.Pages.shown.state l.fn.pages).live slots primes entries
    → AreFree (file_schema l.fn.opened) (next_stamp_of l.fn.opened) l.bytes (length (alternates_of l.fn.opened)) entries
    → Parts (heap_of l.opened) (prime_index_of l.opened) (alternates_of l.opened) (g.P.Pages.shown.state l.pages).live slots primes (added_below (file_schema l.fn.opened) (next_stamp_of l.fn.opened) l.bytes l.j entries)
    × IsTrue (g.P.Pages.shown.state l.pages).is_sound)
    × (l.opened ≡ with_alternates_of l.opened l.fn.opened)
    × (IsShaped l.opened)
    × (length (alternates_of l.opened) ≡ length (alternates_of l.fn.opened))
    × (index_levels (drop l.j (alternates_of l.opened)) ≤ (g.P.Pages.shown.state l.pages).available)
    × ((g.P.Pages.shown.state l.pages).asked + 8 * index_levels (drop l.j (alternates_of l.opened)) ≤ (g.P.Pages.shown.state l.fn.pages).asked + 8 * index_levels (alternates_of l.fn.opened))
