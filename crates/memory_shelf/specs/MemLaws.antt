-- What reads give of a file in memory is one of its images, as a shelf promises.
use Rattle.std.proofs.Common.{ℕ, List, [], ◌∷◌, inl, inr, refl}
use Rattle.std.proofs.lemmas.Bool.{cases_Bool}
use Rattle.page_store.specs.Images.{Leaves}
use Rattle.memory_shelf.specs.MemFiles.{is_file_of_name, file_by_name}
use Rattle.memory_shelf.specs.declared.memory_file.MemFile.{MemFile}

pub files_sound : (fs : List MemFile) (name : List ℕ)
    → Leaves (file_by_name fs name) (file_by_name fs name).seen
files_sound [] name = refl
files_sound (f ∷ fs) name =
    elim (cases_Bool (is_file_of_name f name)) [
      | inl e ↦ rw e f.sound
      | inr e ↦ rw e (files_sound fs name)
    ]
