-- The files and items of a description are what a run can rely on.
use Rattle.std.proofs.Common.{ℕ, List, [], ◌∷◌, length, sym, subst, arith}
use Rattle.std.specs.Str.{bytes_eq}
use Rattle.std.specs.List.{All, IsDistinct}
use Rattle.std.proofs.lemmas.List.Elements.{All-cons, All-nil}
use Rattle.record_layout.proofs.RecordLemmas.{is_record}
use Rattle.deck_entries.specs.FileControlEntry.{FileControlEntry}
use Rattle.deck_parser.specs.Word.{Word}
use Rattle.file_control.specs.declared.description.Description.{Description}
use Rattle.deck_entries.specs.FileDescription.{FileDescription, StorageEntry}
use Rattle.file_control.specs.Description.{FileDesc, IsFile, AreFiles, with_names}
use Rattle.file_control.specs.Whole.{IsDescription}
use Rattle.file_control.specs.Described.{IsDescribedFile, AreDescribed}
use Rattle.deck_entries.proofs.EntriesLemmas.{are_entries}
use Rattle.file_control.proofs.FileNameLemmas.{names_kept, as_many_files}
use Rattle.file_control.proofs.PlaceLemmas.{place_within, as_many_items}
use Rattle.file_control.proofs.DigitsLemmas.{all_few}

is_described : (names : List (List ℕ)) (storage : List StorageEntry) (entry : FileControlEntry) (description : FileDescription) (file : FileDesc) → IsFile names storage entry description file → IsDescribedFile (length storage) file
is_described names storage entry description file is = record {
  layout = is_record description.items file.layout is.layout;
  schema = is.schema;
  greatest = is.keys.greatest;
  item = place_within storage description.lengths file.depends_on is.depends_on;
}

all_described : (descriptions : List FileDescription) (storage : List StorageEntry) (names : List (List ℕ)) (entries : List FileControlEntry) (files : List FileDesc) (after : List (List ℕ)) → AreFiles descriptions storage names entries files after → All (IsDescribedFile (length storage)) files
all_described descriptions storage names [] files after h =
    subst (All (IsDescribedFile (length storage))) (sym h.0) (All-nil (IsDescribedFile (length storage)))
all_described descriptions storage names (entry ∷ entries) [] after h = absurd h
all_described descriptions storage names (entry ∷ entries) (file ∷ files) after h =
    All-cons (IsDescribedFile (length storage)) file files (is_described names storage entry h.0 file h.2)
    (all_described descriptions storage (with_names names h.0.items) entries files after h.3)

pub all_is_described : (words : List Word) (description : Description) → IsDescription words description → AreDescribed description.files description.items
all_is_described words description is =
    let divisions = is.0 in
    let contents = is.4 in
    let entries = are_entries divisions.entries words is.2.0 is.2.1 in
    let names = names_kept divisions.descriptions divisions.storage [] divisions.entries description.files contents.0 contents.1 in
    let count = as_many_items contents.0 divisions.storage description.items contents.2 in
    record {
      files_are = subst (λ n. All (IsDescribedFile n) description.files) (sym count) (all_described divisions.descriptions divisions.storage [] divisions.entries description.files contents.0 contents.1);
      distinct = subst (IsDistinct bytes_eq) (sym names) entries.distinct;
      few = omega (arith, entries.few, as_many_files divisions.entries description.files names);
      digits = all_few contents.0 divisions.storage description.items contents.2;
    }
