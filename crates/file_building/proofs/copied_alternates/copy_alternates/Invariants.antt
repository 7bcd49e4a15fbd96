use Rattle.std.proofs.Common.{◌≡◌, [], length, IsTrue}
use Rattle.indexed_file.specs.File.{File}
use Rattle.record_heap.specs.declared.heap.Heap.{Heap}
use Rattle.key_index.specs.declared.prime_index.PrimeIndex.{PrimeIndex}
use Rattle.open_file.specs.Fields.{file_schema, alternates_of}
use Rattle.open_file.specs.Stands.{Stands}
use Rattle.file_building.specs.Rows.{RowsStandBuilt}
use Rattle.file_building.specs.CopiedRows.{WhereBothHonest}
use Rattle.file_building.specs.CopiedEntries.{AreAlikeIndexes}
use Rattle.file_building.proofs.copied_alternates.copy_alternates.Given as goal

abbrev pub invariant-loop-j : goal.invariant-loop-j
invariant-loop-j g l = record {
  reads : g.P.Pages.shown.Reads l.fn.from l.from;
  writes : g.Q.Pages.shown.Writes l.fn.to l.to;
  many : length l.alternates.items ≡ l.j;
  alike : AreAlikeIndexes (alternates_of l.source) l.alternates.items;
  copied : WhereBothHonest g.P.Pages.shown g.Q.Pages.shown l.from l.fn.to l.to ((file : File) → Stands l.source (g.P.Pages.shown.state l.fn.from).live file → (heap : Heap) (prime : PrimeIndex)
      → RowsStandBuilt (file_schema l.source) heap prime [] (g.Q.Pages.shown.state l.fn.to).live file.rows
      → RowsStandBuilt (file_schema l.source) heap prime l.alternates.items (g.Q.Pages.shown.state l.to).live file.rows × IsTrue (g.Q.Pages.shown.state l.to).is_sound);
}
