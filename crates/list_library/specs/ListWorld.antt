-- What a library in memory shows.
use Rattle.std.specs.Prelude.{true, None}
use Rattle.list_library.specs.declared.library.ListLibrary.{ListLibrary}
use Rattle.indexed_file.specs.World.{World}
use Rattle.indexed_file.specs.SoundWorld.{ShowsFiles}
use Rattle.indexed_file.specs.Room.{Endless}
use Rattle.indexed_file.specs.Shown.{Shown}
use Rattle.list_library.specs.Units.{named_among}

abbrev pub list_world_of : ListLibrary → World
list_world_of library = record { units = library.units.items; elsewhere = named_among library.others.items }

-- it is always honest, and what it shows of a name is true where the name stands for a file; no
-- device fails, a record that is stored may want memory, its files have no limits and no pages, and
-- a crash leaves nothing of them
abbrev pub shown_in_memory : Shown ListLibrary
shown_in_memory = record {
  world = list_world_of;
  is_honest = λ library. true;
  IsShownTruly = λ library name. ShowsFiles (list_world_of library) name;
  fault_count = λ library. 0;
  may_want_memory = true;
  page_limit = λ library. None;
  frames = λ library. None;
  room = λ library u. Endless;
  page_counts = λ library u. record { count = 0; free = 0 };
  unit_frames = λ library u. None;
  pages_asked = λ library u. 0;
  moments = record { IsImage = λ old new name image. ⊥; AreReal = λ old new name. Unit {0} };
}
