use Rattle.std.proofs.Common.{◌≡◌, ℕ, List, [], length, IsTrue}
use Rattle.key_index.specs.declared.alt_index.AltIndex.{AltIndex}
use Rattle.tree_building.specs.IndexBuilding.{KeepsAlt, IsBuildingAlt}
use Rattle.file_building.specs.Rereading.{HasStampsOf}
use Rattle.file_building.specs.Rows.{RowsStandBuilt}
use Rattle.file_building.specs.Steps.{WhereBuiltHonestly}
use Rattle.file_building.specs.Written.{rows_of, HaveLengths}
use Rattle.file_building.proofs.BatchingLemmas.{HasPushed}
use Rattle.file_building.proofs.batching.push_batches.Given as goal

abbrev pub invariant-loop : goal.invariant-loop
invariant-loop g l = record {
  writes : g.P.Pages.shown.Writes l.fn.pages l.pages;
  same : KeepsAlt l.fn.builder l.builder;
  pushed : WhereBuiltHonestly g.P.Pages.shown l.fn.pages l.pages ((records : List (List ℕ)) → HaveLengths l.schema records → HasStampsOf l.schema l.parts → length records ≡ l.count → (alternates : List AltIndex)
      → RowsStandBuilt l.schema l.parts.heap l.parts.prime alternates (g.P.Pages.shown.state l.fn.pages).live (rows_of l.schema records) → IsBuildingAlt l.fn.builder (g.P.Pages.shown.state l.fn.pages).live [] []
      → HasPushed l.schema l.k (rows_of l.schema records) (g.P.Pages.shown.state l.fn.pages).live (g.P.Pages.shown.state l.pages).live l.builder l.above l.counter × IsTrue (g.P.Pages.shown.state l.pages).is_sound);
}
