-- Names that are kept in their order.
use Rattle.std.specs.Prelude.{◌≡◌, ℕ, List}
use Rattle.std.specs.Ordering.{nat_cmp}
use Rattle.std.specs.Cmp.Lexicographic.{slice_cmp}
use Rattle.std.specs.BTreeSet.{BTreeSet, contains_by}
use Rattle.file_control.specs.Description.{has_name}
use denote.Ref.{Bor}

-- the set has the names of the list, and no other
abbrev pub AreInOrder : BTreeSet (Bor (List ℕ)) → List (List ℕ) → Type 0
AreInOrder set names = (name : List ℕ) → contains_by
    (λ key. slice_cmp nat_cmp name key.now) set ≡ has_name names name
