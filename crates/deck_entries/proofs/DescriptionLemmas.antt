-- A file description is read as it is spelled: one word of look-ahead is enough.
use Rattle.std.proofs.Common.{◌≡◌, [], refl, List}
use Rattle.record_layout.specs.Layout.{Entry}
use Rattle.deck_parser.specs.Name.{is_reserved}
use Rattle.deck_parser.specs.Rule.{each_behind, any_behind}
use Rattle.deck_parser.specs.Notation.{the, name, period}
use Rattle.deck_parser.specs.Operand.{digits}
use Rattle.deck_parser.proofs.RuleLemmas.{Lawful, lawful_as}
use Rattle.deck_parser.proofs.NotationLemmas.{steps}
use Rattle.deck_parser.proofs.LocatedLemmas.{lawful_with_line}
use Rattle.deck_parser.proofs.OperandLemmas.{lawful_digits}
use Rattle.deck_parser.proofs.TurnLemmas.{AreAlike, lawful_each, lawful_any}
use Rattle.deck_entries.specs.FileDescription.{count, length_clause, label, block, record_clause, description_clause, no_clauses}
use Rattle.deck_entries.specs.FileDescription.{picture_clause, level, item_name, may_item_name, item, more_item}
use Rattle.deck_entries.specs.FileDescription.{FileDescription, described_name, description_behind, StorageEntry, storage_item, more_storage}
use Rattle.deck_entries.specs.FileControlEntry.{FileControlEntry}
use Rattle.deck_entries.specs.declared.clauses.DescriptionClauses.{DescriptionClauses}

-- ---- clauses

pub lawful_count : Lawful count
unfolding count
lawful_count = lawful_as _ _ _ lawful_digits

lawful_length_clause : Lawful length_clause
unfolding length_clause
lawful_length_clause = search (steps, lawful_count) depth 24

lawful_description_clause : (said : DescriptionClauses) → Lawful (description_clause said)
unfolding description_clause label block record_clause
lawful_description_clause said = search (steps, lawful_count, lawful_length_clause) depth 24

pub alike_clauses : AreAlike description_clause (description_clause no_clauses).starts (description_clause no_clauses).goes_on
unfolding description_clause label block record_clause length_clause count digits the name period is_reserved
alike_clauses = record { lawful = lawful_description_clause; fit = λ _. refl; some = λ _. refl; starts_are = λ _. refl; goes_on_is = λ _. refl; apart = refl }

lawful_clauses : Lawful (any_behind description_clause no_clauses)
lawful_clauses = lawful_any description_clause _ _ alike_clauses no_clauses

-- ---- items

pub lawful_picture_clause : Lawful picture_clause
unfolding picture_clause
lawful_picture_clause = search steps depth 12

lawful_more_item : (earlier : List Entry) → Lawful (more_item earlier)
unfolding more_item item level may_item_name item_name
lawful_more_item earlier = search (steps, lawful_picture_clause) depth 24

pub alike_items : AreAlike more_item (more_item []).starts (more_item []).goes_on
unfolding more_item item level may_item_name item_name picture_clause the name period is_reserved
alike_items = record { lawful = lawful_more_item; fit = λ _. refl; some = λ _. refl; starts_are = λ _. refl; goes_on_is = λ _. refl; apart = refl }

lawful_items : Lawful (each_behind more_item [])
lawful_items = lawful_each more_item _ _ alike_items []

-- ---- whole descriptions

pub lawful_description_behind : (entries : List FileControlEntry) (earlier : List FileDescription) → Lawful (description_behind entries earlier)
unfolding description_behind described_name
lawful_description_behind entries earlier = search (steps, lawful_with_line, lawful_clauses, lawful_items) depth 16

-- ---- working storage

lawful_more_storage : (earlier : List StorageEntry) → Lawful (more_storage earlier)
unfolding more_storage storage_item
lawful_more_storage earlier = search (steps, lawful_with_line, lawful_picture_clause) depth 16

pub alike_storage : AreAlike more_storage (more_storage []).starts (more_storage []).goes_on
unfolding more_storage storage_item picture_clause the name period is_reserved
alike_storage = record { lawful = lawful_more_storage; fit = λ _. refl; some = λ _. refl; starts_are = λ _. refl; goes_on_is = λ _. refl; apart = refl }

pub lawful_storage_items : Lawful (any_behind more_storage [])
lawful_storage_items = lawful_any more_storage _ _ alike_storage []
