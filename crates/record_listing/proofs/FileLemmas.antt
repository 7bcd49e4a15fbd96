-- Which name the file of the bytes has.
use Rattle.std.proofs.Common.{◌≡◌, ◌≤◌, ℕ, List, [], ◌∷◌, length, is_some, refl}
use Rattle.page_store.specs.DeviceFile.{content, IsThere, IsWithin}
use Rattle.record_listing.specs.Shelf.{file_under, is_nil}

pub there_where_unnamed : (bytes name : List ℕ) → is_nil name ≡ is_some (file_under bytes name).seen
there_where_unnamed bytes [] = refl
there_where_unnamed bytes (byte ∷ name) = refl

pub unnamed_where_within : (n : ℕ) (bytes name : List ℕ) → IsWithin n (file_under bytes name) → (content (file_under bytes name) ≡ bytes) × (n ≤ length bytes)
unnamed_where_within n bytes [] within = (refl, within.long)
unnamed_where_within n bytes (byte ∷ name) within = let there = within.there in absurd (cc)

pub unnamed_where_there : (bytes name : List ℕ) → IsThere (file_under bytes name) → content (file_under bytes name) ≡ bytes
unnamed_where_there bytes name there = (unnamed_where_within 0 bytes name there).0
