-- What a read gives of the file is what a crash leaves of it.
use Rattle.std.proofs.Common.{ℕ, List, [], ◌∷◌, refl}
use Rattle.page_store.specs.DeviceFile.{DeviceFile}
use Rattle.page_store.specs.Images.{Leaves}
use Rattle.folder_shelf.specs.Shelf.{file_of_empty_name}

pub image_by_name : (file : DeviceFile) → Leaves file file.seen → (name : List ℕ)
    → Leaves (file_of_empty_name file name) (file_of_empty_name file name).seen
image_by_name file leaves [] = leaves
image_by_name file leaves (byte ∷ name) = refl
