-- Entries of an alternate key between two ranks.
use Rattle.std.specs.Prelude.{Bool, true, not, ◌&&◌, List, Option, None, Some}
use Rattle.std.specs.List.{filter}
use Rattle.key_index.specs.declared.entry.AltEntry.{AltEntry}
use Rattle.file_building.specs.Ranks.{is_lower}

-- an entry is of no higher rank than the top, where there is one
abbrev pub is_below_top : Option AltEntry → AltEntry → Bool
is_below_top None e = true
is_below_top (Some top) e = not (is_lower top e)

-- and of a higher rank than another
abbrev pub is_between : AltEntry → Option AltEntry → AltEntry → Bool
is_between above top e = is_lower above e && is_below_top top e

-- those of some entries that are
abbrev pub entries_within : AltEntry → Option AltEntry → List AltEntry → List AltEntry
entries_within above top entries = filter (is_between above top) entries
