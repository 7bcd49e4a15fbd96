-- The parts of a file: no page belongs to two of them, and each page in use to one.
use Rattle.std.specs.Prelude.{◌≡◌, ◌≢◌, ℕ, List, [], flat_map, None, slice_index_or}
use Rattle.pages.specs.Each.{Each}
use Rattle.pages.specs.PageMap.{PageMap}

-- the pages of part i
abbrev pub own_at : List (List ℕ) → ℕ → List ℕ
own_at owns i = slice_index_or owns i []

-- no page belongs to two parts, and each page in use to one
pub record Parted (pages : PageMap) (owns : List (List ℕ)) : Type 0 where
  pub apart : (i j : ℕ) → i ≢ j
      → Each (λ n. Each (λ m. n ≢ m) (slice_index_or owns i [])) (slice_index_or owns j [])
  pub covers : (n : ℕ) → Each (λ own. Each (λ m. n ≢ m) own) owns → pages n ≡ None

-- the pages of all parts, one part after another
abbrev pub all_of : List (List ℕ) → List ℕ
all_of owns = flat_map (λ own. own) owns
