-- The divisions are read as they are spelled.
use Rattle.std.proofs.Common.{◌≡◌, true, refl, List, []}
use Rattle.deck_parser.specs.Name.{is_reserved}
use Rattle.deck_parser.specs.Rule.{each_behind}
use Rattle.deck_parser.specs.Notation.{the, name, literal, period}
use Rattle.deck_parser.specs.Operand.{digits}
use Rattle.deck_entries.specs.FileControlEntry.{mode, indexed, access, record_key, duplicates, alternate, status, clause, entry_end, entry_keys}
use Rattle.deck_entries.specs.FileControlEntry.{FileControlEntry, select_word, new_name, new_file_name, select_behind}
use Rattle.deck_entries.specs.FileDescription.{count, length_clause, label, block, record_clause, description_clause}
use Rattle.deck_entries.specs.FileDescription.{picture_clause, level, item_name, may_item_name, item, more_item}
use Rattle.deck_entries.specs.FileDescription.{FileDescription, described_name, description_behind, storage_item, more_storage}
use Rattle.deck_entries.specs.Divisions.{more_entry, file_control_paragraph, more_description, storage_section, data_division}
use Rattle.deck_parser.proofs.RuleLemmas.{Lawful, lawful_as}
use Rattle.deck_parser.proofs.TurnLemmas.{AreAlike, lawful_each}
use Rattle.deck_parser.proofs.NotationLemmas.{steps}
use Rattle.deck_entries.proofs.EntryLemmas.{lawful_select_behind}
use Rattle.deck_entries.proofs.DescriptionLemmas.{lawful_description_behind, lawful_storage_items}

-- ---- file control

lawful_more_entry : (earlier : List FileControlEntry) → Lawful (more_entry earlier)
unfolding more_entry
lawful_more_entry earlier = lawful_as _ _ _ (lawful_select_behind earlier)

pub alike_entries : AreAlike more_entry (more_entry []).starts (more_entry []).goes_on
unfolding more_entry select_behind select_word new_name new_file_name entry_keys entry_end clause indexed access record_key duplicates alternate status mode the name literal period is_reserved
alike_entries = record { lawful = lawful_more_entry; fit = λ _. refl; some = λ _. refl; starts_are = λ _. refl; goes_on_is = λ _. refl; apart = refl }

lawful_entries : Lawful (each_behind more_entry [])
lawful_entries = lawful_each more_entry _ _ alike_entries []

pub lawful_file_control : Lawful file_control_paragraph
unfolding file_control_paragraph
lawful_file_control = search (steps, lawful_entries) depth 24

pub file_control_is_fit : file_control_paragraph.is_fit ≡ true
unfolding file_control_paragraph more_entry select_behind select_word new_name new_file_name entry_keys entry_end clause indexed access record_key duplicates alternate status mode the name literal period is_reserved
file_control_is_fit = refl

-- ---- data division

lawful_more_description : (selected : List FileControlEntry) (earlier : List FileDescription) → Lawful (more_description selected earlier)
unfolding more_description
lawful_more_description selected earlier = lawful_as _ _ _ (lawful_description_behind selected earlier)

pub alike_descriptions : (selected : List FileControlEntry) → AreAlike (more_description selected) (more_description [] []).starts (more_description [] []).goes_on
unfolding more_description description_behind described_name description_clause label block record_clause length_clause count digits more_item item level may_item_name item_name picture_clause the name period is_reserved
alike_descriptions selected = record { lawful = lawful_more_description selected; fit = λ _. refl; some = λ _. refl; starts_are = λ _. refl; goes_on_is = λ _. refl; apart = refl }

lawful_descriptions : (selected : List FileControlEntry) → Lawful (each_behind (more_description selected) [])
lawful_descriptions selected = lawful_each (more_description selected) _ _ (alike_descriptions selected) []

pub lawful_data_division : (selected : List FileControlEntry) → Lawful (data_division selected)
unfolding data_division storage_section
lawful_data_division selected = search (steps, lawful_descriptions, lawful_storage_items) depth 24

pub data_division_is_fit : (selected : List FileControlEntry) → (data_division selected).is_fit ≡ true
unfolding data_division storage_section more_storage storage_item more_description description_behind described_name description_clause label block record_clause length_clause count digits more_item item level may_item_name item_name picture_clause the name period is_reserved
data_division_is_fit selected = refl
