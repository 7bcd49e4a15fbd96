-- The files of entries have the file names of these, in their order.
use Rattle.std.proofs.Common.{◌≡◌, ℕ, List, [], ◌∷◌, length, sym, ap, ◌∙◌}
use Rattle.std.proofs.lemmas.List.{length-map}
use Rattle.deck_entries.specs.FileControlEntry.{FileControlEntry}
use Rattle.deck_entries.specs.FileDescription.{FileDescription, StorageEntry}
use Rattle.file_control.specs.Description.{FileDesc, AreFiles, with_names, file_names}
use Rattle.deck_entries.proofs.EntriesLemmas.{assigned}

pub names_kept : (descriptions : List FileDescription) (storage : List StorageEntry) (names : List (List ℕ)) (entries : List FileControlEntry) (files : List FileDesc) (after : List (List ℕ)) → AreFiles descriptions storage names entries files after → file_names files ≡ assigned entries
names_kept descriptions storage names [] files after h = ap file_names h.0
names_kept descriptions storage names (entry ∷ entries) [] after h = absurd h
names_kept descriptions storage names (entry ∷ entries) (file ∷ files) after h =
    let rest = names_kept descriptions storage (with_names names h.0.items) entries files after h.3 in
    λ j. h.2.file_name j ∷ rest j

-- so there are as many files as entries
pub as_many_files : (entries : List FileControlEntry) (files : List FileDesc) → file_names files ≡ assigned entries → length files ≡ length entries
as_many_files entries files e =
    sym (length-map files (λ file. file.file)) ∙ (ap (λ (names : List (List ℕ)). length names) e ∙ length-map entries (λ entry. entry.file_name))
