-- Values, and sets of them in their order.
use Rattle.std.specs.Prelude.{◌≡◌, ℕ, Bool, ◌||◌, List, [], ◌∷◌, ◌++◌, nat_lt, count_by}
use Rattle.std.specs.Ordering.{nat_cmp}
use Rattle.std.specs.Str.{bytes_eq}
use Rattle.std.specs.Cmp.Lexicographic.{slice_cmp}
use Rattle.std.specs.BTreeSet.{BTreeSet, contains_by}
use Rattle.std.specs.Global.{Vec}

-- how many of these values are this one
abbrev pub times : List (List ℕ) → List ℕ → ℕ
times values value = count_by (λ other. bytes_eq other value) values

-- one of them is
abbrev pub comes : List (List ℕ) → List ℕ → Bool
comes values value = nat_lt 0 (times values value)

-- two of them are, or more
abbrev pub comes_twice : List (List ℕ) → List ℕ → Bool
comes_twice values value = nat_lt 1 (times values value)

-- whether a set has a value
abbrev pub is_in_set : BTreeSet (Vec ℕ) → List ℕ → Bool
is_in_set set value = contains_by (λ key. slice_cmp nat_cmp value key.items) set

-- the set has these values, and no other
abbrev pub HasValues : BTreeSet (Vec ℕ) → List (List ℕ) → Type 0
HasValues set values = (value : List ℕ) → is_in_set set value ≡ comes values value

-- the set has those of these values that come twice, and no other
abbrev pub HasDoubles : BTreeSet (Vec ℕ) → List (List ℕ) → Type 0
HasDoubles set values = (value : List ℕ) → is_in_set set value ≡ comes_twice values value

-- the set has one value more
abbrev pub AddsValue : (old new : BTreeSet (Vec ℕ)) → List ℕ → Type 0
AddsValue old new value = (other : List ℕ) → is_in_set new other ≡ (bytes_eq value other || is_in_set old other)

-- where the set had values, it has these too
abbrev pub AddsValues : (old new : BTreeSet (Vec ℕ)) → List (List ℕ) → Type 0
AddsValues old new more = (values : List (List ℕ)) → HasValues old values → HasValues new (values ++ more)

-- where one set had values, and another those that come twice, they have so with one value more
abbrev pub NotesValue : List ℕ → (seen seen_after twice twice_after : BTreeSet (Vec ℕ)) → Type 0
NotesValue value seen seen_after twice twice_after = (values : List (List ℕ)) → HasValues seen values
    → HasDoubles twice values
    → HasValues seen_after (values ++ value ∷ []) × HasDoubles twice_after (values ++ value ∷ [])
