-- The divisions are read as they are spelled, where PROCEDURE stands behind them.
use Rattle.std.proofs.Common.{◌≡◌, true, false, List, [], ◌∷◌, drop, Option, Some, None, refl, sym, ap, subst, ◌∙◌, inl, inr}
use Rattle.std.specs.Prelude.{codes}
use Rattle.std.specs.Option.{option_map}
use Rattle.std.proofs.lemmas.Bool.{false≢true}
use Rattle.std.proofs.lemmas.Option.{some_pair_parts}
use Rattle.deck_parser.specs.Name.{is_reserved}
use Rattle.deck_parser.specs.Class.{this, begins, all_apart}
use Rattle.deck_parser.specs.Operand.{digits}
use Rattle.deck_parser.specs.Notation.{the, name, literal, period}
use Rattle.deck_entries.specs.FileControlEntry.{FileControlEntry}
use Rattle.deck_parser.specs.Word.{Word}
use Rattle.deck_entries.specs.FileControlEntry.{mode, indexed, access, record_key, duplicates, alternate, status, clause, entry_end, entry_keys, select_word, new_name, new_file_name, select_behind}
use Rattle.deck_parser.proofs.TestLemmas.{bind_some, bind_is, map_some}
use Rattle.deck_parser.proofs.ClassLemmas.{begins_apart}
use Rattle.deck_entries.specs.declared.divisions.Divisions.{Divisions}
use Rattle.deck_entries.specs.FileDescription.{count, length_clause, label, block, record_clause, description_clause, picture_clause, level, item_name, may_item_name, item, more_item, FileDescription, StorageEntry, described_name, description_behind, storage_item, more_storage}
use Rattle.deck_entries.specs.Divisions.{more_entry, file_control_paragraph, more_description, storage_section, data_division, SpellsDivisions, reads_divisions}
use Rattle.file_control.specs.declared.description.Description.{Description}
use Rattle.file_control.specs.Description.{FileDesc, LengthItem}
use Rattle.file_control.specs.Whole.{Describe, IsDescription}
use Rattle.file_control.specs.FirstFault.{HasDivisions}
use Rattle.deck_entries.proofs.DivisionLemmas.{lawful_file_control, file_control_is_fit, lawful_data_division, data_division_is_fit}

control_goes_on : all_apart (this (codes "DATA") ∷ []) file_control_paragraph.goes_on ≡ true
unfolding file_control_paragraph more_entry select_behind select_word new_name new_file_name entry_keys entry_end clause indexed access record_key duplicates alternate status mode the name literal period is_reserved
control_goes_on = refl

data_starts : (selected : List FileControlEntry) → (data_division selected).starts ≡ this (codes "DATA") ∷ []
unfolding data_division the
data_starts selected = refl

data_some : (selected : List FileControlEntry) → (data_division selected).may_be_empty ≡ false
unfolding data_division the
data_some selected = refl

data_goes_on : (selected : List FileControlEntry) → all_apart (this (codes "PROCEDURE") ∷ []) (data_division selected).goes_on ≡ true
unfolding data_division storage_section more_storage storage_item more_description description_behind described_name description_clause label block record_clause length_clause count digits more_item item level may_item_name item_name picture_clause the name period is_reserved
data_goes_on selected = refl

pub reads_sound : (divisions : Divisions) (words rest : List Word) → reads_divisions words ≡ Some (divisions, rest) → SpellsDivisions divisions words rest
reads_sound divisions words rest e =
    let a = bind_some (λ (a : List FileControlEntry × List Word). option_map {U = Divisions × List Word} (λ (b : (List FileDescription × List StorageEntry) × List Word). (record { entries = a.0; descriptions = b.0.0; storage = b.0.1 }, b.1)) ((data_division a.0).reads a.1)) (file_control_paragraph.reads words) (divisions, rest) e in
    let b = map_some {B = Divisions × List Word} (λ (b : (List FileDescription × List StorageEntry) × List Word). (record { entries = a.0.0; descriptions = b.0.0; storage = b.0.1 }, b.1)) ((data_division a.0.0).reads a.0.1) (divisions, rest) a.2 in
    subst (λ (p : Divisions × List Word). SpellsDivisions p.0 words p.1) b.2
    (a.0.1, lawful_file_control.sound a.0.0 words a.0.1 a.1, (lawful_data_division a.0.0).sound b.0.0 a.0.1 b.0.1 b.1)

pub reads_complete : (divisions : Divisions) (words rest : List Word) → SpellsDivisions divisions words rest → begins (this (codes "PROCEDURE") ∷ []) rest ≡ true → reads_divisions words ≡ Some (divisions, rest)
reads_complete divisions words rest h ended =
    let selected = divisions.entries in
    let value : List FileDescription × List StorageEntry = (divisions.descriptions, divisions.storage) in
    let begun : begins (this (codes "DATA") ∷ []) h.0 ≡ true =
    elim ((lawful_data_division selected).first (data_division_is_fit selected) value h.0 rest h.2) [
      | inl k ↦ subst (λ cs. begins cs h.0 ≡ true) (data_starts selected) k.0
      | inr k ↦ absurd (false≢true (sym (data_some selected) ∙ k.0))
    ] in
    let front = lawful_file_control.complete file_control_is_fit selected words h.0 h.1 (begins_apart (this (codes "DATA") ∷ []) file_control_paragraph.goes_on h.0 control_goes_on begun) in
    let back = (lawful_data_division selected).complete (data_division_is_fit selected) value h.0 rest h.2 (begins_apart (this (codes "PROCEDURE") ∷ []) (data_division selected).goes_on rest (data_goes_on selected) ended) in
    bind_is (λ (a : List FileControlEntry × List Word). option_map {U = Divisions × List Word} (λ (b : (List FileDescription × List StorageEntry) × List Word). (record { entries = a.0; descriptions = b.0.0; storage = b.0.1 }, b.1)) ((data_division a.0).reads a.1)) (file_control_paragraph.reads words) (selected, h.0) (Some (divisions, rest)) front
    (ap (option_map {U = Divisions × List Word} (λ (b : (List FileDescription × List StorageEntry) × List Word). (record { entries = selected; descriptions = b.0.0; storage = b.0.1 }, b.1))) back)

-- the divisions that were read describe all that the words do
pub described : (divisions others : Divisions) (words rest behind : List Word) → reads_divisions words ≡ Some (divisions, rest) → SpellsDivisions others words behind → begins (this (codes "PROCEDURE") ∷ []) behind ≡ true → (others ≡ divisions) × (behind ≡ rest)
described divisions others words rest behind e h ended = some_pair_parts others divisions behind rest (sym (reads_complete others words behind h ended) ∙ e)

-- where nothing is read, there are no divisions
pub no_divisions : (words : List Word) → reads_divisions words ≡ None → (divisions : Divisions) → HasDivisions words divisions → ⊥
no_divisions words e divisions h =
    let rest = drop h.0 words in
    let k : ◌≡◌ {A = Option (Divisions × List Word)} None (Some (divisions, rest)) = sym e ∙ reads_complete divisions words rest h.2 h.3 in cc

-- nor where PROCEDURE does not follow
pub not_ended : (divisions : Divisions) (words rest : List Word) → reads_divisions words ≡ Some (divisions, rest) → begins (this (codes "PROCEDURE") ∷ []) rest ≡ false → (others : Divisions) → HasDivisions words others → ⊥
not_ended divisions words rest e none others h =
    let same = described divisions others words rest (drop h.0 words) e h.2 h.3 in
    false≢true (sym none ∙ subst (λ ws. begins (this (codes "PROCEDURE") ∷ []) ws ≡ true) same.1 h.3)

-- where nothing is read, there is no description
pub nothing_described : (words : List Word) → reads_divisions words ≡ None → (description : Description) → IsDescription words description → ⊥
nothing_described words e description h = no_divisions words e h.0 (description.words, h.1, h.2, h.3)

-- nor where PROCEDURE does not follow
pub no_end : (divisions : Divisions) (words rest : List Word) → reads_divisions words ≡ Some (divisions, rest) → begins (this (codes "PROCEDURE") ∷ []) rest ≡ false → (description : Description) → IsDescription words description → ⊥
no_end divisions words rest e none description h = not_ended divisions words rest e none h.0 (description.words, h.1, h.2, h.3)

-- nor where the divisions describe nothing
pub no_contents : (divisions : Divisions) (words rest : List Word) → reads_divisions words ≡ Some (divisions, rest) → ((files : List FileDesc) (items : List LengthItem) → Describe divisions files items → ⊥) → (description : Description) → IsDescription words description → ⊥
no_contents divisions words rest e none description h =
    let same = described divisions h.0 words rest (drop description.words words) e h.2 h.3 in
    none description.files description.items (subst (λ d. Describe d description.files description.items) same.0 h.4)
