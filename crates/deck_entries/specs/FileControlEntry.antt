-- The file control entry.
-- ANSI X3.23-1985, Indexed I-O module, FILE-CONTROL entry. Which clauses there are, that INDEXED
-- and RECORD KEY have to stand, what a file name is, and the codes, is ours: 2 for what is missing,
-- 4 for what stands a second time, 5 for a literal that is no file name, 6 for what is one too many.
use Rattle.std.specs.Prelude.{ℕ, Bool, true, false, not, ◌&&◌, List, [], ◌∷◌, ◌++◌, length, nat_le}
use Rattle.std.specs.Prelude.{unwrap_or, if◌then◌else◌, codes, Option, Some, None, is_some, option_map}
use Rattle.std.specs.List.{list_any}
use Rattle.std.specs.Str.{bytes_eq}
use Rattle.io_state.specs.declared.modes.Access.{Access}
use Rattle.io_state.specs.declared.modes.Access.TheVariants.{Sequential, Random, Dynamic}
use Rattle.io_state.specs.FileName.{is_file_name}
use Rattle.deck_parser.specs.Located.{with_line}
use Rattle.deck_parser.specs.Rule.{Rule, optional, each_behind, unless_barred, where_it_gives_or}
use Rattle.deck_parser.specs.Following.{followed}
use Rattle.deck_parser.specs.Notation.{the, name, literal, period, ◌▸◌, ◌⊗◌, ◌∣◌, ◌<$>◌, may}
use Rattle.record_layout.specs.SchemaFault.{KeyClause}

-- a file, as its entry describes it: the line of its word SELECT, its name in the program, the name
-- of its file in the folder, and its keys
pub record FileControlEntry : Type 0 where
  pub line : ℕ
  pub name : List ℕ
  pub file_name : List ℕ
  pub optional : Bool
  pub access : Access
  pub record_key : List ℕ
  pub alternate_keys : List KeyClause

-- ---- clauses

-- what the clauses of an entry say so far
pub record EntryClauses : Type 0 where
  pub indexed : Bool
  pub access : Option Access
  pub record_key : Option (List ℕ)
  pub alternate_keys : List KeyClause
  pub status : Bool

abbrev pub no_clauses : EntryClauses
no_clauses = record { indexed = false; access = None; record_key = None; alternate_keys = []; status = false }

-- [ORGANIZATION [IS]] INDEXED
unfoldable pub indexed : EntryClauses → Rule EntryClauses
indexed said = unless_barred said.indexed 4 ((λ _. record said { indexed = true })
    <$> optional (the (codes "ORGANIZATION") ▸ may (codes "IS")) ▸ the (codes "INDEXED"))

-- SEQUENTIAL | RANDOM | DYNAMIC
unfoldable pub mode : Rule Access
mode =
    ((λ _. Sequential) <$> the (codes "SEQUENTIAL"))
    ∣ ((λ _. Random) <$> the (codes "RANDOM"))
    ∣ ((λ _. Dynamic) <$> the (codes "DYNAMIC"))

-- ACCESS [MODE] [IS] (SEQUENTIAL | RANDOM | DYNAMIC)
unfoldable pub access : EntryClauses → Rule EntryClauses
access said = unless_barred (is_some said.access) 4 ((λ mode. record said { access = Some mode })
    <$> the (codes "ACCESS") ▸ may (codes "MODE") ▸ may (codes "IS") ▸ mode)

-- RECORD [KEY] [IS] name
unfoldable pub record_key : EntryClauses → Rule EntryClauses
record_key said = unless_barred (is_some said.record_key) 4 ((λ key. record said { record_key = Some key })
    <$> the (codes "RECORD") ▸ may (codes "KEY") ▸ may (codes "IS") ▸ name)

-- [[WITH] DUPLICATES]
unfoldable pub duplicates : Rule Bool
duplicates = is_some <$> optional (may (codes "WITH") ▸ the (codes "DUPLICATES"))

-- ALTERNATE RECORD [KEY] [IS] name [[WITH] DUPLICATES], eight times at most
unfoldable pub alternate : EntryClauses → Rule EntryClauses
alternate said = unless_barred (nat_le 8 (length said.alternate_keys)) 6 ((λ (key : List ℕ × Bool).
    record said { alternate_keys = said.alternate_keys ++ record { name = key.0; duplicates = key.1 } ∷ [] })
    <$> the (codes "ALTERNATE") ▸ the (codes "RECORD") ▸ may (codes "KEY") ▸ may (codes "IS")
    ▸ name ⊗ duplicates)

-- [FILE] STATUS [IS] name
unfoldable pub status : EntryClauses → Rule EntryClauses
status said = unless_barred said.status 4 ((λ _. record said { status = true })
    <$> may (codes "FILE") ▸ the (codes "STATUS") ▸ may (codes "IS") ▸ name)

-- one of these, beside those that there are; each but ALTERNATE stands once at most
unfoldable pub clause : EntryClauses → Rule EntryClauses
clause said = indexed said ∣ access said ∣ record_key said ∣ alternate said ∣ status said

-- ---- what the clauses of a whole entry say

-- the access mode and the keys
pub record EntryKeys : Type 0 where
  pub access : Access
  pub record_key : List ℕ
  pub alternate_keys : List KeyClause

-- the entry of a file of this line and these names, with the access mode and the keys
abbrev pub keyed_entry : EntryKeys → (line : ℕ) → (optional : Bool) → (name file_name : List ℕ) → FileControlEntry
keyed_entry keys line optional name file_name = record {
  line = line;
  name = name;
  file_name = file_name;
  optional = optional;
  access = keys.access;
  record_key = keys.record_key;
  alternate_keys = keys.alternate_keys;
}

-- INDEXED and RECORD KEY have to stand; access is sequential where no clause says otherwise
abbrev pub entry_keys_of : EntryClauses → Option EntryKeys
entry_keys_of said = if said.indexed then option_map (λ key. record {
  access = unwrap_or said.access Sequential;
  record_key = key;
  alternate_keys = said.alternate_keys;
}) said.record_key else None

-- the period behind the clauses, with code 2 where one of them is missing
unfoldable pub entry_end : EntryClauses → Rule EntryKeys
entry_end said = where_it_gives_or (λ _. 2) (λ _. entry_keys_of said) period

-- {clause}.. .
unfoldable pub entry_keys : Rule EntryKeys
entry_keys = followed no_clauses (each_behind clause no_clauses) entry_end

-- ---- entries behind earlier ones

abbrev pub is_selected : List FileControlEntry → List ℕ → Bool
is_selected earlier name = list_any (λ entry. bytes_eq entry.name name) earlier

abbrev pub is_assigned : List FileControlEntry → List ℕ → Bool
is_assigned earlier file_name = list_any (λ entry. bytes_eq entry.file_name file_name) earlier

-- SELECT, where a deck has at most eight entries
unfoldable pub select_word : List FileControlEntry → Rule (Unit {0})
select_word earlier = where_it_gives_or (λ _. 6) (λ _. if nat_le 8 (length earlier) then None else Some tt)
    (the (codes "SELECT"))

-- a name of no earlier entry
unfoldable pub new_name : List FileControlEntry → Rule (List ℕ)
new_name earlier =
    where_it_gives_or (λ _. 4) (λ text. if is_selected earlier text then None else Some text) name

-- a literal that is a file name, and of no earlier entry
unfoldable pub new_file_name : List FileControlEntry → Rule (List ℕ)
new_file_name earlier =
    where_it_gives_or (λ text. if is_file_name text then 4 else 5)
    (λ text. if is_file_name text && not (is_assigned earlier text) then Some text else None) literal

-- SELECT [OPTIONAL] name ASSIGN [TO] literal {clause}.. .
unfoldable pub select_behind : List FileControlEntry → Rule FileControlEntry
select_behind earlier =
    (λ (said : ℕ × (Bool × (List ℕ × (List ℕ × EntryKeys)))).
    keyed_entry said.1.1.1.1 said.0 said.1.0 said.1.1.0 said.1.1.1.0)
    <$> with_line (select_word earlier ▸ (is_some <$> may (codes "OPTIONAL"))
    ⊗ new_name earlier ⊗ (the (codes "ASSIGN") ▸ may (codes "TO") ▸ new_file_name earlier) ⊗ entry_keys)
