-- The free pages, each of which names the next, and the pages in use.
use Rattle.std.specs.Prelude.{ℕ, zero, suc, ltb, ◌&&◌, ◌==◌, not, Bool, if◌then◌else◌, nat_eq, List, [], ◌∷◌}
use Rattle.std.specs.Prelude.{slice_range, Option, Some, None, option_and_then}
use Rattle.std.specs.List.{list_any}
use Rattle.byteorder.specs.Endian.{big_number}
use Rattle.pages.specs.PageMap.{PageMap}

-- n is a page below this number, and not the header
abbrev pub is_page : ℕ → ℕ → Bool
is_page count n = ltb 0 n && ltb n count

abbrev pub is_among : ℕ → List ℕ → Bool
is_among n pages = list_any (nat_eq n) pages

-- so many free pages below this count, from the first one on, each linked to the next, and none
-- twice; nothing where they are not. A free page begins with `F`, three zeros, and the next one's number
abbrev pub chain : (ℕ → List ℕ) → ℕ → ℕ → ℕ → Option (List ℕ)
chain pages count first zero = if first == 0 then Some [] else None
chain pages count first (suc free) =
    let page = pages first in
    let is_free = big_number 4 (slice_range page 0 4) == 1174405120 in
    let others = chain pages count (big_number 4 (slice_range page 4 8)) free in
    if ltb 0 first && ltb first count && is_free
    then option_and_then (λ ns. if list_any (nat_eq first) ns then None else Some (first ∷ ns)) others
    else None

-- every page below the count that is not free is in use; none is where the free pages are not what
-- they should be
abbrev pub used : (ℕ → List ℕ) → ℕ → Option (List ℕ) → PageMap
used pages count None n = None
used pages count (Some free) n =
    if ltb 0 n && ltb n count && not (list_any (nat_eq n) free) then Some (pages n) else None
