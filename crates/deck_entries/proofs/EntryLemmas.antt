-- A file control entry is read as it is spelled: one word of look-ahead is enough.
use Rattle.std.proofs.Common.{◌≡◌, true, refl, List}
use Rattle.deck_parser.specs.Name.{is_reserved}
use Rattle.deck_parser.specs.Rule.{each_behind}
use Rattle.deck_parser.specs.Notation.{the, name, literal, period}
use Rattle.deck_entries.specs.FileControlEntry.{EntryClauses, mode, indexed, access, record_key, duplicates, alternate, status, clause, no_clauses, entry_end, entry_keys}
use Rattle.deck_entries.specs.FileControlEntry.{FileControlEntry, select_word, new_name, new_file_name, select_behind}
use Rattle.deck_parser.proofs.RuleLemmas.{Lawful}
use Rattle.deck_parser.proofs.NotationLemmas.{steps}
use Rattle.deck_parser.proofs.LocatedLemmas.{lawful_with_line}
use Rattle.deck_parser.proofs.TurnLemmas.{AreAlike, lawful_each}
use Rattle.deck_parser.proofs.FollowLemmas.{AreAlike as LookAlike, lawful_followed}

lawful_mode : Lawful mode
unfolding mode
lawful_mode = search steps depth 12

pub lawful_clause : (said : EntryClauses) → Lawful (clause said)
unfolding clause indexed access record_key duplicates alternate status
lawful_clause said = search (steps, lawful_mode) depth 24

pub alike_clauses : AreAlike clause (clause no_clauses).starts (clause no_clauses).goes_on
unfolding clause indexed access record_key duplicates alternate status mode the name literal period is_reserved
alike_clauses = record { lawful = lawful_clause; fit = λ _. refl; some = λ _. refl; starts_are = λ _. refl; goes_on_is = λ _. refl; apart = refl }

lawful_clauses : Lawful (each_behind clause no_clauses)
lawful_clauses = lawful_each clause _ _ alike_clauses no_clauses

lawful_entry_end : (said : EntryClauses) → Lawful (entry_end said)
unfolding entry_end
lawful_entry_end said = search steps depth 12

ends_alike : (said : EntryClauses) → LookAlike (entry_end said) (entry_end no_clauses)
unfolding entry_end
ends_alike said = record { starts = refl; goes_on = refl; may_be_empty = refl; is_fit = refl }

lawful_entry_keys : Lawful entry_keys
unfolding entry_keys
lawful_entry_keys = lawful_followed no_clauses (each_behind clause no_clauses) entry_end lawful_clauses lawful_entry_end ends_alike

pub lawful_select_behind : (earlier : List FileControlEntry) → Lawful (select_behind earlier)
unfolding select_behind select_word new_name new_file_name
lawful_select_behind earlier = search (steps, lawful_with_line, lawful_entry_keys) depth 24
