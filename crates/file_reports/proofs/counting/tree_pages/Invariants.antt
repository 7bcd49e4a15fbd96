use Rattle.std.proofs.Common.{◌≡◌, ◌+◌, ◌<◌, ◌^◌, drop}
use Rattle.file_reports.specs.Statistics.{all_key_pages}
use Rattle.file_reports.proofs.counting.tree_pages.Given as goal

abbrev pub invariant-loop-key : goal.invariant-loop-key
invariant-loop-key l = all_key_pages l.keys < 2 ^ 64 → l.pages + all_key_pages (drop l.key-index l.keys) ≡ all_key_pages l.keys
