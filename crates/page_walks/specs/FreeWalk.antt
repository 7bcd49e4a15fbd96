-- What a walk finds of the free pages.
use Rattle.std.specs.Prelude.{◌≡◌, ◌≢◌, ◌⊎◌, ℕ, ◌<◌, ◌≤◌, Bool, true, false, List, [], ◌∷◌, length, Some}
use Rattle.std.specs.Prelude.{slice_index_or}
use Rattle.page_alloc.specs.FreePage.{is_free, next_of}
use Rattle.page_alloc.specs.Chain.{chain, is_among}
use Rattle.pages.specs.Each.{Each}
use Rattle.pages.specs.declared.fault_place.FaultPlace.{FaultPlace}
use Rattle.pages.specs.declared.fault_place.FaultPlace.TheVariants.{Page}
use Rattle.pages.specs.declared.damage.Damage.{Damage}
use Rattle.pages.specs.declared.damage.Damage.TheVariants.{Shared, Node, Order, Heap, Index, Lost}
use Rattle.pages.specs.declared.walk_fault.WalkFault.{WalkFault}
use Rattle.pages.specs.declared.walk_fault.WalkFault.TheVariants.{At}
use Rattle.pages.specs.Marks.{IsUnmarked, Marks}

-- the bytes of a page, as they were read
abbrev pub page_in : List (List ℕ) → ℕ → List ℕ
page_in list n = slice_index_or list n []

-- the free pages from the first one on, so many, were reached now, and none of them was reached before
pub record FreeWalked (list : List (List ℕ)) (first count : ℕ) (before after : ℕ → Bool) : Type 0 where
  pub own : List ℕ
  pub is : chain (page_in list) (length list) first count ≡ Some own
  pub marks : Marks before after own

-- so many free pages stand in a chain from the first one on, and none of them was reached
pub record FreeAhead (list : List (List ℕ)) (first count : ℕ) (reached : List Bool) : Type 0 where
  pub own : List ℕ
  pub is : chain (page_in list) (length list) first count ≡ Some own
  pub unmarked : Each (IsUnmarked reached) own

-- the page is free, and this is the next one
pub record IsFreePageAt (list : List (List ℕ)) (n next : ℕ) : Type 0 where
  pub some : 0 < n
  pub inside : n < length list
  pub free : is_free (page_in list n) ≡ true
  pub leads : next_of (page_in list n) ≡ next

-- the page is a free one of the list
abbrev pub IsFreePage : List (List ℕ) → ℕ → Type 0
IsFreePage list n = (next : ℕ) × IsFreePageAt list n next

-- these free pages lead from the first one to this
abbrev pub IsFreePagePath : List (List ℕ) → ℕ → List ℕ → ℕ → Type 0
IsFreePagePath list first [] at = first ≡ at
IsFreePagePath list first (n ∷ ns) at = (first ≡ n)
    × ((next : ℕ) × IsFreePageAt list n next × IsFreePagePath list next ns at)

-- the last of some pages, or page 0
abbrev pub last_page : List ℕ → ℕ
last_page [] = 0
last_page (n ∷ []) = n
last_page (n ∷ m ∷ ns) = last_page (m ∷ ns)

-- so many free pages were reached from the first one, `from` is the last of them, and this one is next
pub record FreeFront (list : List (List ℕ)) (first from at count : ℕ)
    (before after : ℕ → Bool) : Type 0 where
  pub own : List ℕ
  pub path : IsFreePagePath list first own at
  pub last : last_page own ≡ from
  pub as_many : length own ≡ count
  pub marks : Marks before after own

-- the page that leads to page n is told where n is none of the list, or page 0; or n is, where it is
-- no free page
abbrev pub TellsOfNext : List (List ℕ) → (from n : ℕ) → WalkFault → Type 0
TellsOfNext list from n fault = ((fault ≡ At Heap (Page from)) × ((n ≡ 0) ⊎ (length list ≤ n)))
    ⊎ ((fault ≡ At Heap (Page n)) × (n < length list) × (is_free (page_in list n) ≡ false))

-- This is wrong behind free pages that lead from the first one to page n, of which there are to be so
-- many: n had its mark before, or is one of them; it is none of the list, or no free page; or they are
-- all, and it is not page 0.
abbrev pub IsFaultBehind : List (List ℕ) → (count : ℕ) → List Bool → List ℕ → ℕ → Damage → FaultPlace → Type 0
IsFaultBehind list count marks own n Shared place = (place ≡ Page n) × (n < length list)
    × (length own < count) × (IsUnmarked marks n → is_among n own ≡ true)
IsFaultBehind list count marks own n Heap place =
    ((length own < count) × TellsOfNext list (last_page own) n (At Heap place))
    ⊎ ((length own ≡ count) × (n ≢ 0) × (place ≡ Page (last_page own)))
IsFaultBehind list count marks own n Node place = ⊥
IsFaultBehind list count marks own n Order place = ⊥
IsFaultBehind list count marks own n Index place = ⊥
IsFaultBehind list count marks own n Lost place = ⊥

-- so it is with the free pages, some pages of the list having their marks before
abbrev pub IsFreeFault : List (List ℕ) → (first count : ℕ) → List Bool → Damage → FaultPlace → Type 0
IsFreeFault list first count marks fault place = (own : List ℕ) × (n : ℕ)
    × IsFreePagePath list first own n × IsFaultBehind list count marks own n fault place
