-- What a library over a shelf shows.
use Rattle.std.specs.Prelude.{Some, false}
use Rattle.indexed_file.specs.Shown.{Shown}
use Rattle.shelf_library.specs.State.{LibraryState, held_at}
use Rattle.page_store.specs.ShelfState.{unit_file}
use Rattle.shelf_library.specs.Units.{world_of, room_of_held, counts_of_held, frames_of_held, pages_asked_of}
use Rattle.shelf_library.specs.Truth.{IsShownTruly}
use Rattle.shelf_library.specs.Crashes.{moments_on}

abbrev pub shown_by : {S : Type 0} → (S → LibraryState) → Shown S
shown_by state = record {
  world = λ library. world_of (state library).shelf (state library).held;
  is_honest = λ library. (state library).shelf.is_honest;
  IsShownTruly = λ library name. IsShownTruly (state library).shelf (state library).held name;
  fault_count = λ library. (state library).faults;
  may_want_memory = false;
  page_limit = λ library. Some (state library).limit;
  frames = λ library. Some (state library).frames;
  room = λ library u. room_of_held (held_at (state library).held u);
  page_counts = λ library u. counts_of_held (unit_file (state library).shelf u).seen
      (held_at (state library).held u);
  unit_frames = λ library u. frames_of_held (held_at (state library).held u);
  pages_asked = λ library u. pages_asked_of (held_at (state library).held u);
  moments = record {
    IsImage = λ old new. moments_on.IsImage (state old).shelf (state new).shelf;
    AreReal = λ old new. moments_on.AreReal (state old).shelf (state new).shelf;
  };
}
