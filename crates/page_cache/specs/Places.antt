-- Pages in a row, and where one stands.
use Rattle.std.specs.Prelude.{◌≡◌, ◌≢◌, ℕ, ◌<◌, ◌≤◌, List, [], ◌∷◌, length, slice_index, nat_eq, Bool}
use Rattle.std.specs.Prelude.{Option, MatchOption}
use Rattle.std.specs.List.{IsDistinct}
use Rattle.page_cache.specs.HeldFrames.{Frame}

-- page n stands at this place, or nowhere
abbrev pub IsSeatOf : ℕ → List ℕ → Option ℕ → Type 0
IsSeatOf n numbers place = MatchOption place ((p : ℕ) → p < length numbers → slice_index numbers p ≢ n)
    (λ p. (p < length numbers) × (slice_index numbers p ≡ n))

-- each page of bytes with its mark of a change, as long as there are both
abbrev pub marked : List Bool → List (List ℕ) → List Frame
marked [] pages = []
marked (c ∷ cs) [] = []
marked (c ∷ cs) (page ∷ pages) = record { changed = c; page = page } ∷ marked cs pages

-- each number with the frame at its place
abbrev pub paired : List ℕ → List Frame → List (ℕ × Frame)
paired [] frames = []
paired (n ∷ ns) [] = []
paired (n ∷ ns) (frame ∷ frames) = (n, frame) ∷ paired ns frames

-- one page of bytes for each number, no number twice, and marks for as many places as there may be
pub record ArePaired (numbers : List ℕ) (changed : List Bool) (pages : List (List ℕ)) (used : List Bool)
    (cap : ℕ) : Type 0 where
  pub long : length pages ≡ length numbers
  pub few : length numbers ≤ cap
  pub apart : IsDistinct nat_eq numbers
  pub changes : length changed ≡ cap
  pub uses : length used ≡ cap
  pub some : 0 < cap
