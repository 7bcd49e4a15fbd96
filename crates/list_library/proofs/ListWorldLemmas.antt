-- A library in memory shows files.
use Rattle.std.proofs.Common.{ℕ, List, [], ◌∷◌, Option, Some, None, refl, arith}
use Rattle.list_library.specs.declared.library.ListLibrary.{ListLibrary}
use Rattle.list_library.specs.ListWorld.{list_world_of, shown_in_memory}
use Rattle.indexed_file.specs.Calls.{Keeps}
use Rattle.indexed_file.specs.Others.{LeavesOthers}
use Rattle.indexed_file.specs.Images.{Trace, Stays, AllStay, LibraryMayLeave, LeavesOnly, ImagesGo}
use Rattle.indexed_file.specs.World.{Named}
use Rattle.indexed_file.specs.SoundWorld.{ShowsFiles}
use Rattle.list_library.proofs.ShownLemmas.{all_show_files}

pub shows_all : (library : ListLibrary) (name : List ℕ) → ShowsFiles (list_world_of library) name
shows_all library name = all_show_files library.units.items library.others.items library.sound library.others_sound name

-- whatever a call did
pub keeps_all : (old new : ListLibrary) → Keeps shown_in_memory old new
keeps_all old new = record { honest = λ honest. honest; truth = λ honest name shown. shows_all new name; count = omega arith; limit = refl; frames = refl }

-- a crash leaves nothing of its files
stays_in_memory : (old new : ListLibrary) (name : List ℕ) → Stays shown_in_memory.moments old new name
stays_in_memory old new name = record { within = λ real. (tt, λ image is. absurd is); back = λ real. (tt, λ image is. absurd is) }

pub all_stay_in_memory : (old new : ListLibrary) → AllStay shown_in_memory.moments old new
all_stay_in_memory old new name = stays_in_memory old new name

-- no file has pages, whatever is done with one unit
pub others_stay_in_memory : (u : ℕ) (old new : ListLibrary) → LeavesOthers shown_in_memory u old new
others_stay_in_memory u old new = record {
  units = λ v within other. record { pages = record { room = refl; counts = refl }; frames = refl; asked = refl };
  images = λ name apart. stays_in_memory old new name;
}

may_in_memory : (these : List Named) (old new : ListLibrary) (name : List ℕ) → LibraryMayLeave shown_in_memory.moments these old new name
may_in_memory [] old new name = stays_in_memory old new name
may_in_memory (one ∷ these) old new name = λ real. (tt, λ image is. absurd is)

only_in_memory : (only : Option Named) (new : ListLibrary) (name : List ℕ) → LeavesOnly shown_in_memory.moments only new name
only_in_memory None new name = tt
only_in_memory (Some only) new name = (tt, λ image is. absurd is)

pub goes_in_memory : (name : List ℕ) (trace : Trace) (old new : ListLibrary) → ImagesGo shown_in_memory.moments name trace old new
goes_in_memory name trace old new = record {
  may = may_in_memory trace.may old new name;
  only = only_in_memory trace.only new name;
  others = λ other apart. stays_in_memory old new other;
}
