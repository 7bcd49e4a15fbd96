-- 77-level items are made one by one, whatever their names are.
use Rattle.std.proofs.Common.{◌≡◌, ℕ, List, [], ◌∷◌, ◌++◌, refl, subst, length, arith}
use Rattle.std.proofs.lemmas.List.{append-nil}
use Rattle.deck_entries.specs.FileControlEntry.{FileControlEntry}
use Rattle.deck_entries.specs.FileDescription.{FileDescription, StorageEntry}
use Rattle.deck_entries.specs.declared.divisions.Divisions.{Divisions}
use Rattle.file_control.specs.Description.{FileDesc, LengthItem, HasDigits, HaveDigits, AreFiles, AreItems}

-- these items are made, and the entries that are left stand behind them
pub record DigitsSoFar (storage rest : List StorageEntry) (items : List LengthItem) : Type 0 where
  pub onward : (more : List LengthItem) → HaveDigits rest more → HaveDigits storage (items ++ more)
  pub back : (all : List LengthItem) → HaveDigits storage all → (more : List LengthItem) × HaveDigits rest more

module _ (storage : List StorageEntry) where
  behind_one : (entry : StorageEntry) (rest : List StorageEntry) (all : List LengthItem) → HaveDigits (entry ∷ rest) all → (more : List LengthItem) × HaveDigits rest more
  behind_one entry rest [] h = absurd h
  behind_one entry rest (item ∷ more) h = (more, h.2)

  no_digits : (entry : StorageEntry) (rest : List StorageEntry) → ((digits : ℕ) → HasDigits entry.picture digits → ⊥) → (all : List LengthItem) → HaveDigits (entry ∷ rest) all → ⊥
  no_digits entry rest none [] h = h
  no_digits entry rest none (item ∷ more) h = none item.digits h.1

  -- where the next entry has no digits, there are no items
  pub refused_digits : (entry : StorageEntry) (left rest : List StorageEntry) (items : List LengthItem) → DigitsSoFar storage left items → left ≡ entry ∷ rest → ((digits : ℕ) → HasDigits entry.picture digits → ⊥) → (all : List LengthItem) → HaveDigits storage all → ⊥
  refused_digits entry left rest items so is none all h =
      let b = so.back all h in
      no_digits entry rest none b.0 (subst (λ es. HaveDigits es b.0) is b.1)

pub all_digits : (storage rest : List StorageEntry) (items : List LengthItem) → DigitsSoFar storage rest items → length rest ≡ 0 → HaveDigits storage items
all_digits storage [] items so e = subst (λ (xs : List LengthItem). HaveDigits storage xs) (append-nil items) (so.onward [] refl)
all_digits storage (entry ∷ rest) items so e = absurd (omega (arith, e))

-- ---- with their names

-- where there are items with new names, each list of items of these digits is one
pub with_new_names : (names : List (List ℕ)) (storage : List StorageEntry) (known items : List LengthItem) → AreItems names storage known → HaveDigits storage items → AreItems names storage items
with_new_names names [] known items h k = k
with_new_names names (entry ∷ storage) [] items h k = absurd h
with_new_names names (entry ∷ storage) (other ∷ known) [] h k = absurd k
with_new_names names (entry ∷ storage) (other ∷ known) (item ∷ items) h k =
    (h.0, k.0, k.1, with_new_names (names ++ entry.name ∷ []) storage known items h.3 k.2)

pub have_digits : (names : List (List ℕ)) (storage : List StorageEntry) (items : List LengthItem) → AreItems names storage items → HaveDigits storage items
have_digits names [] items h = h
have_digits names (entry ∷ storage) [] h = absurd h
have_digits names (entry ∷ storage) (item ∷ items) h = (h.1, h.2, have_digits (names ++ entry.name ∷ []) storage items h.3)

-- ---- behind the files

-- the files are those of the divisions, whose lists these are
pub files_made : (divisions : Divisions) (descriptions : List FileDescription) (storage : List StorageEntry) (entries : List FileControlEntry) (names : List (List ℕ)) (files : List FileDesc) (after : List (List ℕ)) → descriptions ≡ divisions.descriptions → storage ≡ divisions.storage → entries ≡ divisions.entries → names ≡ [] → AreFiles descriptions storage names entries files after → AreFiles divisions.descriptions divisions.storage [] divisions.entries files after
files_made divisions descriptions storage entries names files after d s e n made =
    subst (λ es. AreFiles divisions.descriptions divisions.storage [] es files after) e
    (subst (λ ss. AreFiles divisions.descriptions ss [] entries files after) s
    (subst (λ (ds : List FileDescription). AreFiles ds storage [] entries files after) d
    (subst (λ ns. AreFiles descriptions storage ns entries files after) n made)))
