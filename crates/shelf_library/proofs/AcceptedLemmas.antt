-- A file whose bytes are closed, and what its name stands for.
use Rattle.std.proofs.Common.{◌≡◌, ℕ, List, [], Option, None, Some, ◌∙◌, refl}
use Rattle.shelf_library.proofs.Terms.{Schema, File, Closed, DeviceFile, bytes_or_none, content, reads_back, named_of, AreClosed, Accepted}
use Rattle.shelf_library.proofs.Terms.{Refused}
use Rattle.shelf_library.specs.FileAcceptedLemmas.{looks_accepted, named_by_header}

-- bytes that are closed stand for their rows
pub closed_named : (bytes : List ℕ) (schema : Schema) (rows : File) → AreClosed schema rows bytes → named_of (Some bytes) ≡ Closed schema rows
closed_named bytes schema rows closed =
    let accepted = looks_accepted bytes closed.header closed.accepted in
    named_by_header bytes closed.header accepted
    ∙ (λ i. Closed (closed.schema_is i) (reads_back closed.header bytes rows accepted closed.stands i))

-- a file whose bytes are closed is there
pub closed_there : (file : DeviceFile) (schema : Schema) (rows : File) → AreClosed schema rows (content file) → file.seen ≡ Some (content file)
closed_there file schema rows closed = go file.seen closed
  where
    go : (seen : Option (List ℕ)) → AreClosed schema rows (bytes_or_none seen) → seen ≡ Some (bytes_or_none seen)
    go None closed = absurd (let e : Refused ≡ Accepted closed.header = looks_accepted [] closed.header closed.accepted in cc)
    go (Some bytes) closed = refl
