-- Pages that belong to one part of a file, and what a change of that part leaves of the others.
use Rattle.std.specs.Prelude.{◌≡◌, ◌≢◌, ℕ, List, [], ◌∷◌, IsSome, ⊤}
use Rattle.pages.specs.Each.{Each}
use Rattle.pages.specs.PageMap.{PageMap}

-- the page is none of these
abbrev pub IsOutside : List ℕ → ℕ → Type 0
IsOutside own n = Each (λ m. n ≢ m) own

-- no page stands twice
abbrev pub AreApart : List ℕ → Type 0
AreApart [] = ⊤
AreApart (n ∷ ns) = Each (λ m. n ≢ m) ns × AreApart ns

-- Something that had the old pages has the new ones now. A page in use outside it is as it was and
-- stays outside, and no page is lost.
pub record ChangesPages (before after : PageMap) (old new : List ℕ) : Type 0 where
  pub others : (n : ℕ) → IsSome (before n) → IsOutside old n → (after n ≡ before n) × IsOutside new n
  pub no_stray : (n : ℕ) → IsSome (after n) → IsOutside new n → IsSome (before n) × IsOutside old n
  pub apart : AreApart new
