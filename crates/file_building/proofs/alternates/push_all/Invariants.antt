use Rattle.std.proofs.Common.{◌++◌, take, List, [], IsTrue}
use Rattle.pages.specs.PageMap.{PageMap}
use Rattle.key_index.specs.declared.entry.AltEntry.{AltEntry}
use Rattle.tree_building.specs.IndexBuilding.{AltBuildsOn, KeepsAlt}
use Rattle.file_building.specs.Steps.{WhereBuiltHonestly}
use Rattle.file_building.specs.Entries.{ranked_entries}
use Rattle.file_building.proofs.alternates.push_all.Given as goal

abbrev pub invariant-loop-ranked : goal.invariant-loop-ranked
invariant-loop-ranked g l = record {
  writes : g.P.Pages.shown.Writes l.fn.pages l.pages;
  same : KeepsAlt l.fn.builder l.builder;
  pushed : WhereBuiltHonestly g.P.Pages.shown l.fn.pages l.pages ((start : PageMap) (done : List AltEntry) → AltBuildsOn start (g.P.Pages.shown.state l.fn.pages).live l.fn.builder [] done
      → AltBuildsOn start (g.P.Pages.shown.state l.pages).live l.builder [] (done ++ take l.ranked-index (ranked_entries l.entries)) × IsTrue (g.P.Pages.shown.state l.pages).is_sound);
}
