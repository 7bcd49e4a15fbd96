-- Where the first fault of a file is, by what was found of the file before.
use Rattle.std.proofs.Common.{◌≡◌, ℕ, Bool, true, false, not, cond, List, [], ◌∷◌, Option, Some, None, refl, sym, ap, ◌∙◌, inl, inr, subst}
use Rattle.std.specs.Prelude.{is_some, position, bytes_eq}
use Rattle.deck_parser.specs.Fault.{fault_of}
use Rattle.deck_parser.specs.declared.fault.DeckFault.{DeckFault}
use Rattle.record_layout.specs.Layout.{Placed, IsLayout, length_of}
use Rattle.record_layout.specs.Schema.{Schema}
use Rattle.deck_entries.specs.FileControlEntry.{FileControlEntry}
use Rattle.deck_entries.specs.FileDescription.{FileDescription, StorageEntry}
use Rattle.deck_entries.specs.RecordLength.{VaryingLength}
use Rattle.deck_entries.specs.declared.record_length.RecordLength.{RecordLength}
use Rattle.deck_entries.specs.declared.record_length.RecordLength.TheVariants.{Fixed, Varying}
use Rattle.file_control.specs.Checks.{are_keys_named, are_new}
use Rattle.file_control.specs.Description.{FileDesc, DependsOn, GivesKeys, AreFiles, HasDigits, least_length, has_name, with_names}
use Rattle.file_control.specs.FirstFault.{has_length_item, IsFileFault, IsFilesFault, IsItemFault}

pub none_some : {A : Type 0} (o : Option A) (x : A) → o ≡ None → o ≡ Some x → ⊥
none_some o x e f = let k = sym e ∙ f in cc

pub item_there : (storage : List StorageEntry) (lengths : Option RecordLength) (place : Option ℕ) → DependsOn storage lengths place → has_length_item storage lengths ≡ true
item_there storage None place h = refl
item_there storage (Some (Fixed n)) place h = refl
item_there storage (Some (Varying lengths)) None h = absurd h
item_there storage (Some (Varying lengths)) (Some place) h = ap is_some h.0

-- whether there is an item is whether one has the name
pub item_named : (storage : List StorageEntry) (length : RecordLength) (varying : VaryingLength) (name : List ℕ) → length ≡ Varying varying → name ≡ varying.item → is_some (position (λ (entry : StorageEntry). bytes_eq entry.name name) storage) ≡ has_length_item storage (Some length)
item_named storage length varying name is named =
    ap (λ name. is_some (position (λ (entry : StorageEntry). bytes_eq entry.name name) storage)) named ∙ sym (ap (λ length. has_length_item storage (Some length)) is)

module _ (names : List (List ℕ)) (storage : List StorageEntry) (entry : FileControlEntry) (description : FileDescription) (fault : DeckFault) where
  pub keys_unnamed : are_keys_named description.items entry ≡ false → fault ≡ fault_of entry.line 3 → IsFileFault names storage entry description fault
  keys_unnamed lacks told = inl (lacks, told)

  pub no_layout : are_keys_named description.items entry ≡ true → ((layout : List Placed) → IsLayout description.items layout → ⊥) → fault ≡ fault_of description.line 7 → IsFileFault names storage entry description fault
  no_layout named none told = inr (named, inl (none, told))

  module _ (layout : List Placed) (named : are_keys_named description.items entry ≡ true) (is : IsLayout description.items layout) where
    pub other_lengths : least_length description.lengths (length_of layout) ≡ None → fault ≡ fault_of description.line 7 → IsFileFault names storage entry description fault
    other_lengths lacks told = inr (named, inr (layout, is, inl (λ least. none_some (least_length description.lengths (length_of layout)) least lacks, told)))

    module _ (least : ℕ) (some : least_length description.lengths (length_of layout) ≡ Some least) where
      pub name_taken : are_new names description.items ≡ false → fault ≡ fault_of description.line 4 → IsFileFault names storage entry description fault
      name_taken taken told = inr (named, inr (layout, is, inr (least, some, inl (taken, told))))

      item_by : are_new names description.items ≡ true → ((place : Option ℕ) → DependsOn storage description.lengths place → ⊥) → (b : Bool) → has_length_item storage description.lengths ≡ b → fault ≡ fault_of description.line (cond b 7 3) → IsFileFault names storage entry description fault
      item_by new none true e told = inr (named, inr (layout, is, inr (least, some, inr (new, inr (e, inl (none, told))))))
      item_by new none false e told = inr (named, inr (layout, is, inr (least, some, inr (new, inl (e, told)))))

      pub no_length_item : are_new names description.items ≡ true → ((place : Option ℕ) → DependsOn storage description.lengths place → ⊥) → (code : ℕ) → code ≡ cond (has_length_item storage description.lengths) 7 3 → fault ≡ fault_of description.line code → IsFileFault names storage entry description fault
      no_length_item new none code e told = item_by new none (has_length_item storage description.lengths) refl (told ∙ ap (fault_of description.line) e)

      pub no_keys : are_new names description.items ≡ true → (place : Option ℕ) → DependsOn storage description.lengths place → ((schema : Schema) → GivesKeys layout least entry schema → ⊥) → fault ≡ fault_of entry.line 7 → IsFileFault names storage entry description fault
      no_keys new place depends none told = inr (named, inr (layout, is, inr (least, some, inr (new, inr (item_there storage description.lengths place depends, inr (place, depends, inl (none, told)))))))

-- ---- 77-level items

pub item_name_taken : (names : List (List ℕ)) (entry : StorageEntry) (entries : List StorageEntry) (fault : DeckFault) → has_name names entry.name ≡ true → fault ≡ fault_of entry.line 4 → IsItemFault names (entry ∷ entries) fault
item_name_taken names entry entries fault taken told = inl (ap not taken, told)

pub no_item_digits : (names : List (List ℕ)) (entry : StorageEntry) (entries : List StorageEntry) (fault : DeckFault) → has_name names entry.name ≡ false → ((digits : ℕ) → HasDigits entry.picture digits → ⊥) → fault ≡ fault_of entry.line 7 → IsItemFault names (entry ∷ entries) fault
no_item_digits names entry entries fault new none told = inr (ap not new, inl (none, told))

-- ---- behind the files

pub behind_files : (descriptions : List FileDescription) (storage : List StorageEntry) (names after : List (List ℕ)) (entries : List FileControlEntry) (files : List FileDesc) (fault : DeckFault) → AreFiles descriptions storage names entries files after → IsItemFault after storage fault → IsFilesFault descriptions storage names entries fault
behind_files descriptions storage names after [] files fault made h = subst (λ ns. IsItemFault ns storage fault) made.1 h
behind_files descriptions storage names after (entry ∷ entries) [] fault made h = absurd made
behind_files descriptions storage names after (entry ∷ entries) (file ∷ files) fault made h =
    inr (made.0, made.1, inr (file, made.2, behind_files descriptions storage (with_names names made.0.items) after entries files fault made.3 h))
