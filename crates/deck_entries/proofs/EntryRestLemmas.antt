-- A file control entry leaves the words behind it.
use Rattle.std.proofs.Common.{List}
use Rattle.deck_parser.proofs.RestLemmas.{LeavesRest, steps, rest_each, rest_followed}
use Rattle.deck_parser.proofs.LocatedLemmas.{rest_with_line}
use Rattle.deck_parser.specs.Rule.{each_behind}
use Rattle.deck_entries.specs.FileControlEntry.{EntryClauses, mode, indexed, access, record_key, duplicates, alternate, status, clause, no_clauses, entry_end, entry_keys}
use Rattle.deck_entries.specs.FileControlEntry.{FileControlEntry, select_word, new_name, new_file_name, select_behind}

rest_clause : (said : EntryClauses) → LeavesRest (clause said)
unfolding clause indexed access record_key duplicates alternate status mode
rest_clause said = search steps depth 24

rest_entry_end : (said : EntryClauses) → LeavesRest (entry_end said)
unfolding entry_end
rest_entry_end said = search steps depth 12

rest_entry_keys : LeavesRest entry_keys
unfolding entry_keys
rest_entry_keys = rest_followed no_clauses (each_behind clause no_clauses) entry_end (rest_each clause rest_clause no_clauses) rest_entry_end

pub rest_select_behind : (earlier : List FileControlEntry) → LeavesRest (select_behind earlier)
unfolding select_behind select_word new_name new_file_name
rest_select_behind earlier = search (steps, rest_with_line, rest_entry_keys) depth 24
