-- The names of entries, in their order.
use Rattle.std.specs.Prelude.{◌≡◌, ℕ, Bool, List, ◌∷◌, Option, Some}
use Rattle.std.specs.Ordering.{nat_cmp}
use Rattle.std.specs.Cmp.Lexicographic.{slice_cmp}
use Rattle.std.specs.BTreeSet.{BTreeSet, contains_by}
use Rattle.record_layout.specs.Layout.{Entry, is_name_of}
use denote.Ref.{Bor}

-- the set has the names that these entries have, and no other
abbrev pub HasNamesOf : BTreeSet (Bor (List ℕ)) → List Entry → Type 0
HasNamesOf set entries = (name : List ℕ) → contains_by
    (λ key. slice_cmp nat_cmp name key.now) set ≡ is_name_of entries (Some name)

-- where the set had the names of entries, it has those of one more entry too
abbrev pub AddsNameOf : Entry → (old new : BTreeSet (Bor (List ℕ))) → Type 0
AddsNameOf entry old new = (entries : List Entry) → HasNamesOf old entries
    → HasNamesOf new (entry ∷ entries)

-- whether one of the entries whose names the set has is of this name
abbrev pub TellsTaken : BTreeSet (Bor (List ℕ)) → Option (List ℕ) → Bool → Type 0
TellsTaken set name is_taken = (entries : List Entry) → HasNamesOf set entries
    → is_taken ≡ is_name_of entries name
