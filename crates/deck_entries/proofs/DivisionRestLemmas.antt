-- The words behind the divisions are the last words of the deck.
use Rattle.std.proofs.Common.{◌≡◌, ℕ, ◌≤◌, ◌-◌, List, [], length, drop, sym, ap, ◌∙◌, arith}
use Rattle.std.proofs.Math.Seq.{drop-append_seam}
use Rattle.std.proofs.lemmas.List.{length-append, length-drop}
use Rattle.record_layout.specs.Layout.{Entry}
use Rattle.deck_parser.specs.Word.{Word}
use Rattle.deck_parser.specs.Operand.{digits}
use Rattle.deck_parser.specs.Rule.{each_behind, any_behind}
use Rattle.deck_parser.proofs.RestLemmas.{LeavesRest, EndsWith, end_of_end, rest_each, rest_any, rest_as, steps}
use Rattle.deck_parser.proofs.LocatedLemmas.{rest_with_line}
use Rattle.deck_entries.specs.FileControlEntry.{FileControlEntry}
use Rattle.deck_entries.specs.declared.divisions.Divisions.{Divisions}
use Rattle.deck_entries.specs.declared.clauses.DescriptionClauses.{DescriptionClauses}
use Rattle.deck_entries.specs.FileDescription.{count, length_clause, label, block, record_clause, description_clause, no_clauses}
use Rattle.deck_entries.specs.FileDescription.{picture_clause, level, item_name, may_item_name, item, more_item}
use Rattle.deck_entries.specs.FileDescription.{FileDescription, described_name, description_behind, StorageEntry, storage_item, more_storage}
use Rattle.deck_entries.specs.Divisions.{more_entry, file_control_paragraph, more_description, storage_section, data_division, SpellsDivisions}
use Rattle.deck_entries.proofs.EntryRestLemmas.{rest_select_behind}

-- ---- file control

rest_more_entry : (earlier : List FileControlEntry) → LeavesRest (more_entry earlier)
unfolding more_entry
rest_more_entry earlier = rest_as _ _ _ (rest_select_behind earlier)

rest_entries : LeavesRest (each_behind more_entry [])
rest_entries = rest_each more_entry rest_more_entry _

rest_file_control : LeavesRest file_control_paragraph
unfolding file_control_paragraph
rest_file_control = search (steps, rest_entries) depth 24

-- ---- file descriptions

rest_description_clause : (said : DescriptionClauses) → LeavesRest (description_clause said)
unfolding description_clause label block record_clause length_clause count digits
rest_description_clause said = search steps depth 24

rest_clauses : LeavesRest (any_behind description_clause no_clauses)
rest_clauses = rest_any description_clause rest_description_clause _

rest_picture_clause : LeavesRest picture_clause
unfolding picture_clause
rest_picture_clause = search steps depth 24

rest_more_item : (earlier : List Entry) → LeavesRest (more_item earlier)
unfolding more_item item level may_item_name item_name
rest_more_item earlier = search (steps, rest_picture_clause) depth 24

rest_items : LeavesRest (each_behind more_item [])
rest_items = rest_each more_item rest_more_item _

rest_more_description : (selected : List FileControlEntry) (earlier : List FileDescription) → LeavesRest (more_description selected earlier)
unfolding more_description description_behind described_name
rest_more_description selected earlier = search (steps, rest_with_line, rest_clauses, rest_items) depth 24

rest_descriptions : (selected : List FileControlEntry) → LeavesRest (each_behind (more_description selected) [])
rest_descriptions selected = rest_each (more_description selected) (rest_more_description selected) _

-- ---- data division

rest_more_storage : (earlier : List StorageEntry) → LeavesRest (more_storage earlier)
unfolding more_storage storage_item
rest_more_storage earlier = search (steps, rest_with_line, rest_picture_clause) depth 24

rest_storage_items : LeavesRest (any_behind more_storage [])
rest_storage_items = rest_any more_storage rest_more_storage _

rest_data_division : (selected : List FileControlEntry) → LeavesRest (data_division selected)
unfolding data_division storage_section
rest_data_division selected = search (steps, rest_descriptions, rest_storage_items) depth 24

-- ---- both

rest_divisions : (divisions : Divisions) (words rest : List Word) → SpellsDivisions divisions words rest → EndsWith words rest
rest_divisions divisions words rest s =
    end_of_end words s.0 rest (rest_file_control.ends divisions.entries words s.0 s.1)
    ((rest_data_division divisions.entries).ends (divisions.descriptions, divisions.storage) s.0 rest s.2)

-- the rest of a list is what is left where so many words are dropped as are not in the rest
rest_dropped : (words rest : List Word) → EndsWith words rest → drop (length words - length rest) words ≡ rest
rest_dropped words rest e =
    let count : length words - length rest ≡ length e.0 = omega (arith, ap (λ (ws : List Word). length ws) e.1, length-append e.0 rest) in
    ap (λ n. drop n words) count ∙ (ap (λ ws. drop (length e.0) ws) e.1 ∙ drop-append_seam e.0 rest)

pub rest_is : (divisions : Divisions) (words rest : List Word) → SpellsDivisions divisions words rest → drop (length words - length rest) words ≡ rest
rest_is divisions words rest s = rest_dropped words rest (rest_divisions divisions words rest s)

-- so many words are told apart by what is left
pub same_count : (words : List Word) (m n : ℕ) → m ≤ length words → n ≤ length words → drop m words ≡ drop n words → m ≡ n
same_count words m n a b e =
    omega (arith, a, b, sym (length-drop m words) ∙ (ap (λ (ws : List Word). length ws) e ∙ length-drop n words))
