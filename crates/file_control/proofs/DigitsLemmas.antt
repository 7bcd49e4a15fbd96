-- A 77-level item has 18 digits at most.
use Rattle.std.proofs.Common.{ℕ, ◌≤◌, List, [], ◌∷◌, ◌++◌, sym, subst}
use Rattle.std.specs.List.{All}
use Rattle.std.proofs.lemmas.List.Elements.{All-cons, All-nil}
use Rattle.deck_entries.specs.FileDescription.{StorageEntry}
use Rattle.file_control.specs.Description.{LengthItem, HasDigits, AreItems}

few_digits : (text : List ℕ) (digits : ℕ) → HasDigits text digits → digits ≤ 18
few_digits text digits h = subst (λ n. n ≤ 18) h.3 (h.1.digits h.2)

abbrev HasFew : LengthItem → Type 0
HasFew item = item.digits ≤ 18

pub all_few : (names : List (List ℕ)) (storage : List StorageEntry) (items : List LengthItem) → AreItems names storage items → All HasFew items
all_few names [] items h = subst (All HasFew) (sym h) (All-nil HasFew)
all_few names (entry ∷ storage) [] h = absurd h
all_few names (entry ∷ storage) (item ∷ items) h =
    All-cons HasFew item items (few_digits entry.picture item.digits h.2) (all_few (names ++ entry.name ∷ []) storage items h.3)
