use Rattle.std.proofs.Common.{◌≡◌, ◌+◌, ◌≤◌, suc, ℕ, List, [], length, IsTrue}
use Rattle.file_building.specs.Steps.{WhereBuiltHonestly}
use Rattle.file_building.specs.Written.{rows_of}
use Rattle.file_building.specs.Ranks.{NoRankTwice}
use Rattle.file_building.specs.Rows.{RowsStandBuilt}
use Rattle.file_building.specs.Alternates.{AreIndexesFor, AreRecordsOf}
use Rattle.file_building.proofs.alternates.build_alternates.Given as goal

abbrev pub invariant-loop-k : goal.invariant-loop-k
invariant-loop-k g l = record {
  writes : g.P.Pages.shown.Writes l.fn.pages l.pages;
  each : AreIndexesFor l.schema l.alternates.items;
  many : length l.alternates.items + 1 ≡ l.k;
  within : l.k ≤ l.keys;
  built : WhereBuiltHonestly g.P.Pages.shown l.fn.pages l.pages ((records : List (List ℕ)) → AreRecordsOf l.schema l.rows l.count l.fronts records
      → RowsStandBuilt l.schema l.rows.heap l.rows.prime [] (g.P.Pages.shown.state l.fn.pages).live (rows_of l.schema records)
      → RowsStandBuilt l.schema l.rows.heap l.rows.prime l.alternates.items (g.P.Pages.shown.state l.pages).live (rows_of l.schema records)
      × ((j : ℕ) → suc j + 1 ≤ l.k → NoRankTwice l.schema (suc j) (rows_of l.schema records)) × IsTrue (g.P.Pages.shown.state l.pages).is_sound);
}
