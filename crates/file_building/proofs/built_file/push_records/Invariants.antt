use Rattle.std.proofs.Common.{◌≡◌, IsTrue}
use Rattle.file_building.specs.Building.{IsBuildingFile}
use Rattle.file_building.specs.Steps.{WhereBuiltHonestly}
use Rattle.file_building.proofs.built_file.push_records.Given as goal

abbrev pub invariant-loop : goal.invariant-loop
invariant-loop g l = record {
  writes : g.P.Pages.shown.Writes l.fn.pages l.pages;
  reads : g.R.RecordSource.reads_on l.fn.records l.records;
  schema_is : l.builder.schema ≡ l.fn.builder.schema;
  pushed : WhereBuiltHonestly g.P.Pages.shown l.fn.pages l.pages (IsBuildingFile l.fn.builder (g.P.Pages.shown.state l.fn.pages).live (g.R.RecordSource.given l.fn.records)
      → IsBuildingFile l.builder (g.P.Pages.shown.state l.pages).live (g.R.RecordSource.given l.records) × IsTrue (g.P.Pages.shown.state l.pages).is_sound);
}
