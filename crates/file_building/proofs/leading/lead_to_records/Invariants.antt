use Rattle.std.proofs.Common.{◌≡◌, ◌+◌, ℕ, List, IsTrue}
use Rattle.key_index.specs.declared.entry.PrimeEntry.{PrimeEntry}
use Rattle.key_index.specs.Standing.{PrimeStands}
use Rattle.open_file.specs.Fields.{prime_index_of}
use Rattle.file_building.specs.CopiedRows.{WhereBothHonest}
use Rattle.file_building.specs.Leading.{AreKnown, HasLed, IsLeading}
use Rattle.file_building.proofs.leading.lead_to_records.Given as goal

abbrev pub invariant-loop : goal.invariant-loop
invariant-loop g l = record {
  reads : g.P.Pages.shown.Reads l.fn.from l.from;
  writes : g.Q.Pages.shown.Writes l.fn.to l.to;
  fits : IsLeading (prime_index_of l.source) l.walk l.builder;
  led : WhereBothHonest g.P.Pages.shown g.Q.Pages.shown l.from l.fn.to l.to ((entries : List PrimeEntry) (own : List ℕ) (left : ℕ)
      → PrimeStands (prime_index_of l.source) (g.P.Pages.shown.state l.fn.from).live entries own → AreKnown l.places entries → left + l.counter ≡ l.count
      → HasLed (prime_index_of l.source) l.places l.walk l.builder (g.P.Pages.shown.state l.fn.from).live (g.Q.Pages.shown.state l.fn.to).live (g.Q.Pages.shown.state l.to).live entries left × IsTrue (g.Q.Pages.shown.state l.to).is_sound);
}
