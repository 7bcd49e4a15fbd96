use Rattle.std.specs.Io.KnownBytes.{Consumes}
use Rattle.std.proofs.Common.{◌≡◌, ◌≤◌, ◌-◌, length, take}
use Rattle.file_checker.proofs.reading.read_page.Given as goal

-- so many bytes of the page came
abbrev pub invariant-more : goal.invariant-more
invariant-more g l = Consumes (g.R.Read.remaining l.initial.reader) (g.R.Read.remaining l.reader) (take l.at l.page) × (l.at ≤ 4096) × (length l.page ≡ 4096)

abbrev pub decreases-more : goal.decreases-more
decreases-more g l = 4096 - l.at
