-- How full the pages of a level are.
use Rattle.std.specs.Prelude.{ℕ, ◌*◌, ◌/◌, min, max}
use Rattle.page_walks.specs.declared.level.Level.{Level}

-- its entries, or separators, in percent of those for which its pages have room, rounded down
abbrev pub fill_of : Level → ℕ
fill_of level = min (level.entries * 100 / max (level.pages * level.room) 1) 100
