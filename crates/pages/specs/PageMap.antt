-- The pages of a file that are in use, and their changes one by one.
use Rattle.std.specs.Prelude.{◌≡◌, ◌≢◌, ℕ, List, Option, Some, None}

-- the bytes of each page in use; none for the header, a free page, or one past the end
abbrev pub PageMap : Type 0
PageMap = ℕ → Option (List ℕ)

-- page n holds these bytes now, and every other page is as it was
pub record Writes (before after : PageMap) (n : ℕ) (bytes : List ℕ) : Type 0 where
  pub page : after n ≡ Some bytes
  pub others : (m : ℕ) → m ≢ n → after m ≡ before m

-- page n was not in use and is now, and every other page is as it was
pub record Takes (before after : PageMap) (n : ℕ) (bytes : List ℕ) : Type 0 where
  pub free : before n ≡ None
  pub page : after n ≡ Some bytes
  pub others : (m : ℕ) → m ≢ n → after m ≡ before m

-- page n is not in use any more, and every other page is as it was
pub record Gives (before after : PageMap) (n : ℕ) : Type 0 where
  pub free : after n ≡ None
  pub others : (m : ℕ) → m ≢ n → after m ≡ before m
