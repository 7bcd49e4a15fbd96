-- Pages with their frames, each in its place.
use Rattle.std.specs.Prelude.{◌≡◌, ℕ, zero, suc, ◌<◌, ◌≤◌, Bool, false, nat_eq, List, [], ◌∷◌, length, None}
use Rattle.std.specs.List.{IsDistinct}
use Rattle.std.specs.Map.{keys_of, lookup}

-- the bytes of a page in memory, and whether it was lent for writing since it was last written
pub record Frame : Type 0 where
  pub changed : Bool
  pub page : List ℕ

-- the page of each place that is taken, with its frame, and how many places there are
pub record HeldFrames : Type 0 where
  pub entries : List (ℕ × Frame)
  pub cap : ℕ

abbrev pub held_frames : List (ℕ × Frame) → ℕ → HeldFrames
held_frames entries cap = record { entries = entries; cap = cap }

-- no page has two frames, and no more places are taken than there are
pub record IsSeated (frames : HeldFrames) : Type 0 where
  pub apart : IsDistinct nat_eq (keys_of frames.entries)
  pub few : length frames.entries ≤ frames.cap
  pub some : 0 < frames.cap

-- the entries with this one at a place, or behind the last
abbrev pub put_at : ℕ → ℕ × Frame → List (ℕ × Frame) → List (ℕ × Frame)
put_at place entry [] = entry ∷ []
put_at zero entry (e ∷ es) = entry ∷ es
put_at (suc place) entry (e ∷ es) = e ∷ put_at place entry es

-- the frame of a place, as one that was not changed
abbrev pub settled : ℕ → List (ℕ × Frame) → List (ℕ × Frame)
settled place [] = []
settled zero (e ∷ es) = (e.0, record e.1 { changed = false }) ∷ es
settled (suc place) (e ∷ es) = e ∷ settled place es

-- page n has no frame, and the place is taken, or is the next one
pub record CanSeat (place n : ℕ) (frames : HeldFrames) : Type 0 where
  pub absent : lookup (nat_eq n) frames.entries ≡ None
  pub next : place ≤ length frames.entries
  pub room : place < frames.cap
