-- The table in which the place of a page is found.
use Rattle.std.specs.Prelude.{◌≡◌, ◌≢◌, ℕ, ◌+◌, ◌<◌, ◌≤◌, List, length, get_or, false, Option, MatchOption}
use Rattle.std.specs.Int.Bits.{bit_and}
use Rattle.page_cache.specs.declared.table.Table.{Table}

-- the cell is one of those that may tell a page of these low bits
abbrev pub IsToldIn : ℕ → ℕ → Type 0
IsToldIn slot cell = (slot ≤ cell) × (cell < slot + 8)

-- page n, which stands at this place, is told by some cell
pub record IsToldBy (n place : ℕ) (table : Table) : Type 0 where
  pub cell : ℕ
  pub within : IsToldIn (bit_and n table.mask) cell
  pub told : get_or table.cells.items cell 0 ≡ place

-- unless it is crowded, the table tells the place of each of these pages
pub record IsTable (numbers : List ℕ) (table : Table) : Type 0 where
  pub cells : table.mask + 8 ≤ length table.cells.items
  pub told : table.crowded ≡ false → (p : ℕ) → p < length numbers
      → IsToldBy (get_or numbers p 0) p table

-- page n was put at a place, and every other page stands where it stood
pub record IsPut (place n : ℕ) (numbers after : List ℕ) : Type 0 where
  pub this : get_or after place 0 ≡ n
  pub others : (p : ℕ) → p < length after → p ≢ place
      → (p < length numbers) × (get_or after p 0 ≡ get_or numbers p 0)

-- the cell tells the page of no other place than this one
abbrev pub IsFreeCell : List ℕ → (place cell : ℕ) → Table → Type 0
IsFreeCell numbers place cell table = (p : ℕ) → p < length numbers → p ≢ place
    → IsToldIn (bit_and (get_or numbers p 0) table.mask) cell → get_or table.cells.items cell 0 ≢ p

-- page n stands at this place, or at none that the cells from this one on tell
abbrev pub FoundFrom : ℕ → List ℕ → ℕ → List ℕ → Option ℕ → Type 0
FoundFrom from cells n numbers place = MatchOption place
    ((c : ℕ) → IsToldIn from c → get_or cells c 0 < length numbers → get_or numbers (get_or cells c 0) 0 ≢ n)
    (λ p. (p < length numbers) × (get_or numbers p 0 ≡ n))
