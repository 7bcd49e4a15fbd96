-- Files and 77-level items are made one by one.
use Rattle.std.proofs.Common.{◌≡◌, ℕ, false, not, List, [], ◌∷◌, ◌++◌, Option, Some, refl, sym, ap, inr, subst, ◌∙◌, append_assoc, length, arith}
use Rattle.std.proofs.lemmas.Option.{same_Some}
use Rattle.std.proofs.lemmas.List.{append-nil}
use Rattle.std.specs.List.{find}
use Rattle.std.specs.Str.{bytes_eq}
use Rattle.deck_entries.specs.FileControlEntry.{FileControlEntry}
use Rattle.deck_entries.specs.FileDescription.{FileDescription, StorageEntry}
use Rattle.file_control.specs.Description.{FileDesc, LengthItem, HasDigits, IsFile, AreFiles, AreItems, has_name, with_names}
use Rattle.deck_parser.specs.declared.fault.DeckFault.{DeckFault}
use Rattle.file_control.specs.FirstFault.{IsFilesFault, IsItemFault}

-- ---- files

-- the description of a file
abbrev pub description_of_file : List FileDescription → List ℕ → Option FileDescription
description_of_file descriptions name = find (λ description. bytes_eq description.name name) descriptions

-- these files are made, and the entries that are left stand behind them
pub record FilesSoFar (descriptions : List FileDescription) (storage : List StorageEntry) (before names : List (List ℕ)) (entries rest : List FileControlEntry) (files : List FileDesc) : Type 0 where
  pub onward : (more : List FileDesc) (after : List (List ℕ)) → AreFiles descriptions storage names rest more after → AreFiles descriptions storage before entries (files ++ more) after
  pub back : (all : List FileDesc) (after : List (List ℕ)) → AreFiles descriptions storage before entries all after → (more : List FileDesc) × AreFiles descriptions storage names rest more after
  pub later : (fault : DeckFault) → IsFilesFault descriptions storage names rest fault → IsFilesFault descriptions storage before entries fault

module _ (descriptions : List FileDescription) (storage : List StorageEntry) (before : List (List ℕ)) (entries : List FileControlEntry) where
  pub start : FilesSoFar descriptions storage before before entries entries []
  start = record { onward = λ more after h. h; back = λ all after h. (all, h); later = λ fault h. h }

  behind_one : (names : List (List ℕ)) (entry : FileControlEntry) (rest : List FileControlEntry) (description : FileDescription) → description_of_file descriptions entry.name ≡ Some description → (all : List FileDesc) (after : List (List ℕ)) → AreFiles descriptions storage names (entry ∷ rest) all after → (more : List FileDesc) × AreFiles descriptions storage (with_names names description.items) rest more after
  behind_one names entry rest description e [] after h = absurd h
  behind_one names entry rest description e (file ∷ more) after h =
      let same : h.0 ≡ description = same_Some h.0 description (sym h.1 ∙ e) in
      (more, subst (λ (d : FileDescription). AreFiles descriptions storage (with_names names d.items) rest more after) same h.3)

  pub step : (names : List (List ℕ)) (entry : FileControlEntry) (left rest : List FileControlEntry) (files : List FileDesc) (description : FileDescription) (file : FileDesc) → FilesSoFar descriptions storage before names entries left files → left ≡ entry ∷ rest → description_of_file descriptions entry.name ≡ Some description → IsFile names storage entry description file → FilesSoFar descriptions storage before (with_names names description.items) entries rest (files ++ file ∷ [])
  step names entry left rest files description file so is e made =
      let here = subst (λ es. FilesSoFar descriptions storage before names entries es files) is so in
      record {
        onward = λ more after h. subst (λ fs. AreFiles descriptions storage before entries fs after) (sym (append_assoc files (file ∷ []) more)) (here.onward (file ∷ more) after (description, e, made, h));
        back = λ all after h. let b = here.back all after h in behind_one names entry rest description e b.0 after b.1;
        later = λ fault h. here.later fault (inr (description, e, inr (file, made, h)));
      }

  no_first : (names : List (List ℕ)) (entry : FileControlEntry) (rest : List FileControlEntry) → ((description : FileDescription) → description_of_file descriptions entry.name ≡ Some description → (file : FileDesc) → IsFile names storage entry description file → ⊥) → (all : List FileDesc) (after : List (List ℕ)) → AreFiles descriptions storage names (entry ∷ rest) all after → ⊥
  no_first names entry rest none [] after h = h
  no_first names entry rest none (file ∷ more) after h = none h.0 h.1 file h.2

  -- the fault of the next entry is the first one
  pub first_fault : (names : List (List ℕ)) (entry : FileControlEntry) (left rest : List FileControlEntry) (files : List FileDesc) → FilesSoFar descriptions storage before names entries left files → left ≡ entry ∷ rest → (fault : DeckFault) → IsFilesFault descriptions storage names (entry ∷ rest) fault → IsFilesFault descriptions storage before entries fault
  first_fault names entry left rest files so is fault h = so.later fault (subst (λ es. IsFilesFault descriptions storage names es fault) (sym is) h)

  -- where the next entry has no file, there are no files
  pub refused : (names : List (List ℕ)) (entry : FileControlEntry) (left rest : List FileControlEntry) (files : List FileDesc) → FilesSoFar descriptions storage before names entries left files → left ≡ entry ∷ rest → ((description : FileDescription) → description_of_file descriptions entry.name ≡ Some description → (file : FileDesc) → IsFile names storage entry description file → ⊥) → (all : List FileDesc) (after : List (List ℕ)) → AreFiles descriptions storage before entries all after → ⊥
  refused names entry left rest files so is none all after h =
      let b = so.back all after h in
      no_first names entry rest none b.0 after (subst (λ es. AreFiles descriptions storage names es b.0 after) is b.1)

-- ---- items

pub record ItemsSoFar (before names : List (List ℕ)) (storage rest : List StorageEntry) (items : List LengthItem) : Type 0 where
  pub onward : (more : List LengthItem) → AreItems names rest more → AreItems before storage (items ++ more)
  pub back : (all : List LengthItem) → AreItems before storage all → (more : List LengthItem) × AreItems names rest more
  pub later : (fault : DeckFault) → IsItemFault names rest fault → IsItemFault before storage fault

module _ (before : List (List ℕ)) (storage : List StorageEntry) where
  behind_item : (names : List (List ℕ)) (entry : StorageEntry) (rest : List StorageEntry) (all : List LengthItem) → AreItems names (entry ∷ rest) all → (more : List LengthItem) × AreItems (names ++ entry.name ∷ []) rest more
  behind_item names entry rest [] h = absurd h
  behind_item names entry rest (item ∷ more) h = (more, h.3)

  pub step_item : (names : List (List ℕ)) (entry : StorageEntry) (left rest : List StorageEntry) (items : List LengthItem) (item : LengthItem) → ItemsSoFar before names storage left items → left ≡ entry ∷ rest → has_name names entry.name ≡ false → item.name ≡ entry.name → HasDigits entry.picture item.digits → ItemsSoFar before (names ++ entry.name ∷ []) storage rest (items ++ item ∷ [])
  step_item names entry left rest items item so is e name digits =
      let here = subst (λ es. ItemsSoFar before names storage es items) is so in
      record {
        onward = λ more h. subst (λ (xs : List LengthItem). AreItems before storage xs) (sym (append_assoc items (item ∷ []) more)) (here.onward (item ∷ more) (e, name, digits, h));
        back = λ all h. let b = here.back all h in behind_item names entry rest b.0 b.1;
        later = λ fault h. here.later fault (inr (ap not e, inr (item.digits, digits, h)));
      }

  no_item : (names : List (List ℕ)) (entry : StorageEntry) (rest : List StorageEntry) → (has_name names entry.name ≡ false → (digits : ℕ) → HasDigits entry.picture digits → ⊥) → (all : List LengthItem) → AreItems names (entry ∷ rest) all → ⊥
  no_item names entry rest none [] h = h
  no_item names entry rest none (item ∷ more) h = none h.0 item.digits h.2

  -- the fault of the next item is the first one
  pub first_item_fault : (names : List (List ℕ)) (entry : StorageEntry) (left rest : List StorageEntry) (items : List LengthItem) → ItemsSoFar before names storage left items → left ≡ entry ∷ rest → (fault : DeckFault) → IsItemFault names (entry ∷ rest) fault → IsItemFault before storage fault
  first_item_fault names entry left rest items so is fault h = so.later fault (subst (λ es. IsItemFault names es fault) (sym is) h)

  pub refused_item : (names : List (List ℕ)) (entry : StorageEntry) (left rest : List StorageEntry) (items : List LengthItem) → ItemsSoFar before names storage left items → left ≡ entry ∷ rest → (has_name names entry.name ≡ false → (digits : ℕ) → HasDigits entry.picture digits → ⊥) → (all : List LengthItem) → AreItems before storage all → ⊥
  refused_item names entry left rest items so is none all h =
      let b = so.back all h in
      no_item names entry rest none b.0 (subst (λ es. AreItems names es b.0) is b.1)

-- ---- at the end

pub all_items : (before names : List (List ℕ)) (storage rest : List StorageEntry) (items : List LengthItem) → ItemsSoFar before names storage rest items → length rest ≡ 0 → AreItems before storage items
all_items before names storage [] items so e = subst (λ (xs : List LengthItem). AreItems before storage xs) (append-nil items) (so.onward [] refl)
all_items before names storage (entry ∷ rest) items so e = absurd (omega (arith, e))

pub all_files : (descriptions : List FileDescription) (storage : List StorageEntry) (before names : List (List ℕ)) (entries rest : List FileControlEntry) (files : List FileDesc) → FilesSoFar descriptions storage before names entries rest files → length rest ≡ 0 → AreFiles descriptions storage before entries files names
all_files descriptions storage before names entries [] files so e =
    subst (λ (fs : List FileDesc). AreFiles descriptions storage before entries fs names) (append-nil files) (so.onward [] names (refl, refl))
all_files descriptions storage before names entries (entry ∷ rest) files so e = absurd (omega (arith, e))

-- ---- one list of names

-- the names after all files do not depend on the files
pub one_after : (descriptions : List FileDescription) (storage : List StorageEntry) (names : List (List ℕ)) (entries : List FileControlEntry) (files others : List FileDesc) (after behind : List (List ℕ)) → AreFiles descriptions storage names entries files after → AreFiles descriptions storage names entries others behind → behind ≡ after
one_after descriptions storage names [] files others after behind a b = b.1 ∙ sym a.1
one_after descriptions storage names (entry ∷ entries) [] others after behind a b = absurd a
one_after descriptions storage names (entry ∷ entries) (file ∷ files) others after behind a b =
    let more = behind_one descriptions storage names (entry ∷ entries) names entry entries a.0 a.1 others behind b in
    one_after descriptions storage (with_names names a.0.items) entries files more.0 after behind a.3 more.1
