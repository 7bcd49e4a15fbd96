-- Entries of an alternate key, and rows, in the order of their ranks.
use Rattle.std.specs.Prelude.{◌≡◌, ◌⊎◌, ℕ, Bool, true, false, List, [], ◌∷◌, IsTrue, ⊤}
use Rattle.std.specs.Ordering.{is_lt}
use Rattle.std.specs.List.Sorted.{IsPermutation}
use Rattle.pages.specs.Each.{Each}
use Rattle.record_layout.specs.Schema.{Schema}
use Rattle.indexed_file.specs.File.{Row}
use Rattle.indexed_file.specs.Rank.{row_cmp}
use Rattle.io_state.specs.Rank.{rank_cmp}
use Rattle.key_index.specs.declared.entry.AltEntry.{AltEntry}

-- one entry is of a lower rank than another
abbrev pub is_lower : AltEntry → AltEntry → Bool
is_lower a b = is_lt (rank_cmp a.value.items a.stamp b.value.items b.stamp)

-- each comes before all behind it
abbrev pub RisesBy : {X : Type 0} → (X → X → Bool) → List X → Type 0
RisesBy lt [] = ⊤
RisesBy lt (x ∷ xs) = Each (λ y. lt x y ≡ true) xs × RisesBy lt xs

-- of two, one comes before the other
abbrev pub Untied : {X : Type 0} → (X → X → Bool) → X → X → Type 0
Untied lt r x = (lt x r ≡ true) ⊎ (lt r x ≡ true)

-- and so of any two of a list
abbrev pub AreUntied : {X : Type 0} → (X → X → Bool) → List X → Type 0
AreUntied lt [] = ⊤
AreUntied lt (r ∷ rs) = Each (Untied lt r) rs × AreUntied lt rs

-- each entry is of a lower rank than all behind it
abbrev pub RanksRise : List AltEntry → Type 0
RanksRise entries = RisesBy is_lower entries

-- no two rows have one rank by key k
abbrev pub NoRankTwice : Schema → ℕ → List Row → Type 0
NoRankTwice schema k [] = ⊤
NoRankTwice schema k (row ∷ rows) = Each (λ other. IsTrue (is_lt (row_cmp schema k row other))
    ⊎ IsTrue (is_lt (row_cmp schema k other row))) rows × NoRankTwice schema k rows

-- the entries in the order of their ranks, no two of which have one
pub record IsSortedOf (entries sorted : List AltEntry) : Type 0 where
  pub moved : IsPermutation entries sorted
  pub rise : RanksRise sorted

-- a call that puts entries in this order, and tells whether no two have one rank
pub record SortsRanks (old new : List AltEntry) (rises : Bool) : Type 0 where
  pub moved : IsPermutation old new
  pub rise : rises ≡ true → RanksRise new
  pub tied : rises ≡ false → AreUntied is_lower old → ⊥
