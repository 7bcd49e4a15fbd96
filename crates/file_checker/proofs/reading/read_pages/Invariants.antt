use Rattle.std.proofs.Common.{◌≤◌, ◌-◌, Option, List, ℕ, length}
use Rattle.file_checker.specs.Bytes.{AreRead}
use Rattle.file_checker.proofs.reading.read_pages.Given as goal

-- the pages of the list came one after another
abbrev pub invariant-more : goal.invariant-more
invariant-more g l =
    ((known : Option (List ℕ)) → AreRead known (g.R.Read.remaining l.initial.reader) l.initial.pages.items → AreRead known (g.R.Read.remaining l.reader) l.pages.items)
    × (length l.pages.items ≤ l.wanted)

abbrev pub decreases-more : goal.decreases-more
decreases-more g l = l.wanted - length l.pages.items
