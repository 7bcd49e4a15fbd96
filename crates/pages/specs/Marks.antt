-- Which pages of a file were reached.
use Rattle.std.specs.Prelude.{◌≡◌, ℕ, ◌<◌, Bool, true, false, List, length, slice_index_or}
use Rattle.pages.specs.Each.{Each}
use Rattle.pages.specs.Owners.{IsOutside, AreApart}

-- the page was reached; none past the list was
abbrev pub marked_in : List Bool → ℕ → Bool
marked_in marks n = slice_index_or marks n false

-- it can be reached yet: it is a page of the list, and has no mark
abbrev pub IsUnmarked : List Bool → ℕ → Type 0
IsUnmarked marks n = (n < length marks) × (marked_in marks n ≡ false)

-- these pages were reached now, each once, and no other
pub record Marks (before after : ℕ → Bool) (own : List ℕ) : Type 0 where
  pub fresh : Each (λ n. before n ≡ false) own
  pub apart : AreApart own
  pub set : Each (λ n. after n ≡ true) own
  pub others : (n : ℕ) → IsOutside own n → after n ≡ before n
