-- The tables of what the program explains.
use Rattle.std.specs.Prelude.{ℕ, List, map, Option}
use denote.Ref.{Bor}
use Rattle.explanations.specs.Explained.{Table, explained}
use Rattle.explanations.specs.declared.tables.TheConstants.{STATUSES, FAULTS, REASONS}

-- a table as the code has it
abbrev pub table_of : List (Bor (List ℕ) × Bor (List ℕ)) → Table
table_of rows = map (λ row. (row.0.now, row.1.now)) rows

-- the statuses of verbs, and that of the handler for GnuCOBOL
abbrev pub status_table : Table
status_table = map (λ row. (row.0.now, row.1.now)) STATUSES

-- the codes of a refused deck
abbrev pub fault_table : Table
fault_table = map (λ row. (row.0.now, row.1.now)) FAULTS

-- the reasons of the check
abbrev pub reason_table : Table
reason_table = map (λ row. (row.0.now, row.1.now)) REASONS

-- the text that two words name in these: the kind, and the number as it is written
abbrev pub explanation : (kind number : List ℕ) → Option (List ℕ)
explanation kind number = explained status_table fault_table reason_table kind number
