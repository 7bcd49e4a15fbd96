use Rattle.std.proofs.Common.{◌≡◌, ℕ, List, length, IsTrue}
use Rattle.file_building.specs.Walk.{walk_tree}
use Rattle.file_building.specs.Written.{rows_of, HaveLengths}
use Rattle.file_building.specs.Rereading.{IsBatchFor, HasStampsOf, RowsStandIn}
use Rattle.file_building.proofs.RereadLemmas.{HasReadSome}
use Rattle.file_building.proofs.batch_reading.read_batch.Given as goal

abbrev pub invariant-loop-i : goal.invariant-loop-i
invariant-loop-i g l = record {
  reads : g.P.Pages.shown.Reads l.fn.pages l.pages;
  tree_is : walk_tree l.walk ≡ l.parts.prime.tree;
  fits : IsBatchFor l.schema l.k l.batch;
  above_is : l.batch.above ≡ l.fn.above;
  read : IsTrue (g.P.Pages.shown.state l.pages).is_honest → (records : List (List ℕ)) → HaveLengths l.schema records → HasStampsOf l.schema l.parts → length records ≡ l.count
      → RowsStandIn l.schema l.parts (g.P.Pages.shown.state l.fn.pages).live (rows_of l.schema records)
      → HasReadSome l.schema l.k l.parts l.walk (g.P.Pages.shown.state l.fn.pages).live l.batch records l.i;
}
