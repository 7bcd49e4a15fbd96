use Rattle.std.proofs.Common.{◌≡◌, ◌+◌, ◌<◌, ◌^◌, drop}
use Rattle.page_walks.specs.Levels.{all_pages}
use Rattle.file_reports.proofs.counting.pages_of.Given as goal

abbrev pub invariant-loop-level : goal.invariant-loop-level
invariant-loop-level l = all_pages l.levels < 2 ^ 64 → l.pages + all_pages (drop l.level-index l.levels) ≡ all_pages l.levels
