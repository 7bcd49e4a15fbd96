-- The columns of the form of a load are the whole of the record of its file.
use Rattle.std.proofs.Common.{◌≡◌, ℕ, Bool, true, false, List, [], ◌∷◌, find, Option, Some, map, if◌then◌else◌, sym, subst}
use Rattle.record_layout.specs.Layout.{Entry, IsLayout, length_of}
use Rattle.deck_entries.specs.FileControlEntry.{FileControlEntry}
use Rattle.deck_entries.specs.FileDescription.{FileDescription, StorageEntry}
use Rattle.file_control.specs.Description.{FileDesc, IsFile, AreFiles, with_names}
use Rattle.deck_reader.specs.declared.deck.Deck.{Deck}
use Rattle.deck_reader.specs.Deck.{IsDeck}
use Rattle.record_text.specs.declared.form.Form.{Form}
use Rattle.record_text.specs.declared.form.Form.TheVariants.{Text, Csv, Json}
use Rattle.record_text.specs.Parts.{Part, part_of_column, item_parts}
use Rattle.record_text.specs.Whole.{AreTiled, IsWholeForm, AreItemsWhole}
use Rattle.command_support.specs.DeckFile.{is_named_in_deck, IsFileOf}
use Rattle.command_line.specs.LoadForm.{IsFormOf}

-- the items of a file are a layout, whose length is the greatest of the file's records
pub record IsLaid (file : FileDesc) : Type 0 where
  pub entries : List Entry
  pub laid : IsLayout entries file.layout
  pub greatest : file.schema.greatest ≡ length_of file.layout

is_laid : (names : List (List ℕ)) (storage : List StorageEntry) (entry : FileControlEntry) (description : FileDescription) (file : FileDesc) → IsFile names storage entry description file → IsLaid file
is_laid names storage entry description file is = record { entries = description.items; laid = is.layout; greatest = is.keys.greatest }

some_file : (f file : FileDesc) → IsLaid f → Some f ≡ Some file → IsLaid file
some_file f file laid is = let same : f ≡ file = cc in subst IsLaid same laid

-- the first of a list, if it is the one that is looked for
by_test : (b : Bool) (f file : FileDesc) (rest : Option FileDesc) → IsLaid f → (rest ≡ Some file → IsLaid file) → (if b then Some f else rest) ≡ Some file → IsLaid file
by_test true f file rest first others is = some_file f file first is
by_test false f file rest first others is = others is

all_laid : (name : List ℕ) (file : FileDesc) (descriptions : List FileDescription) (storage : List StorageEntry) (names : List (List ℕ)) (entries : List FileControlEntry) (files : List FileDesc) (after : List (List ℕ))
    → AreFiles descriptions storage names entries files after → find (is_named_in_deck name) files ≡ Some file → IsLaid file
all_laid name file descriptions storage names entries [] after h is = absurd (cc)
all_laid name file descriptions storage names [] (f ∷ files) after h is = let bad : f ∷ files ≡ [] = h.0 in absurd (cc)
all_laid name file descriptions storage names (entry ∷ entries) (f ∷ files) after h is =
    by_test (is_named_in_deck name f) f file (find (is_named_in_deck name) files) (is_laid names storage entry h.0 f h.2)
    (all_laid name file descriptions storage (with_names names h.0.items) entries files after h.3) is

pub laid_in : (bytes : List ℕ) (deck : Deck) (name : List ℕ) (file : FileDesc) → IsDeck bytes deck → IsFileOf deck.files name file → IsLaid file
laid_in bytes deck name file is named =
    let spells = is.2 in
    let description = spells.0 in
    let divisions = spells.1.0 in
    let contents = spells.1.4 in
    all_laid name file divisions.descriptions divisions.storage [] divisions.entries description.files contents.0 contents.1
    (subst (λ (files : List FileDesc). find (is_named_in_deck name) files ≡ Some file) spells.2 named)

tiled : (items_whole : AreItemsWhole) (file : FileDesc) → IsLaid file → (parts : List Part) → parts ≡ item_parts file.layout → AreTiled 0 parts file.schema.greatest
tiled items_whole file laid parts is =
    subst (λ (l : List Part). AreTiled 0 l file.schema.greatest) (sym is)
    (subst (λ (n : ℕ). AreTiled 0 (item_parts file.layout) n) (sym laid.greatest) (items_whole laid.entries file.layout laid.laid))

pub form_is_whole : (items_whole : AreItemsWhole) (word : List ℕ) (file : FileDesc) → IsLaid file → (form : Form) → IsFormOf word file form → IsWholeForm form file.schema.greatest
form_is_whole items_whole word file laid Text is = tt
form_is_whole items_whole word file laid (Csv columns) is = tiled items_whole file laid (map part_of_column columns.items) is.1
form_is_whole items_whole word file laid (Json columns) is = tiled items_whole file laid (map part_of_column columns.items) is.1
