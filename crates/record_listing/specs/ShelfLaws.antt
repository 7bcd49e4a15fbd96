-- What a read gives of the bytes of a file is what a crash leaves of them.
use Rattle.std.proofs.Common.{ℕ, List, [], ◌∷◌, refl}
use Rattle.page_store.specs.Images.{Leaves}
use Rattle.record_listing.specs.Shelf.{file_under}

pub left_as_read : (bytes name : List ℕ) → Leaves (file_under bytes name) (file_under bytes name).seen
left_as_read bytes [] = (refl, record { kept = λ i within _. within; each = λ i within _. (within, refl) })
left_as_read bytes (byte ∷ name) = refl
