-- Which page is taken next, and where one goes that is given back.
use Rattle.std.specs.Prelude.{◌≡◌, ℕ, ◌+◌, List, [], ◌∷◌, Option, Some, Result, IfOk, OnOk}
use Rattle.io_state.specs.declared.fault.Fault.{Fault}
use Rattle.page_alloc.specs.declared.pager.Pager.{Pager}

-- page n is the first of the free ones, and the others are left; or where none is free, it is the
-- next new one
abbrev pub TakesFirstPage : Pager → Pager → List ℕ → Option (List ℕ) → ℕ → Type 0
TakesFirstPage old new [] left n = (n ≡ old.count) × (new.count ≡ old.count + 1) × (left ≡ Some [])
TakesFirstPage old new (p ∷ free) left n = (n ≡ p) × (new.count ≡ old.count) × (left ≡ Some free)

-- a call that takes the first free page, and a new one only where none is free
abbrev pub TakesInOrder : Pager → Pager → Option (List ℕ) → Option (List ℕ) → Result ℕ Fault → Type 0
TakesInOrder old new before after result = (free : List ℕ) → before ≡ Some free
    → IfOk result (TakesFirstPage old new free after)

-- a call that puts page n before the free ones
abbrev pub GivesInOrder : {X : Type 0} → ℕ → Pager → Pager → Option (List ℕ) → Option (List ℕ)
    → Result X Fault → Type 0
GivesInOrder n old new before after result = (free : List ℕ) → before ≡ Some free
    → OnOk result ((new.count ≡ old.count) × (after ≡ Some (n ∷ free)))
