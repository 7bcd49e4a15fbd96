-- File description entries, their items, and the items of the working storage. ANSI X3.23-1985,
-- Indexed I-O module, file description entry, and Nucleus module, data description entry. Which
-- clauses there are, and the codes, is ours: 2 for a number that is no level, 3 for a file without an
-- entry, 4 for what stands a second time.
use Rattle.std.specs.Prelude.{ℕ, Bool, true, false, not, ◌&&◌, List, [], ◌∷◌, ◌++◌, nat_le, if◌then◌else◌}
use Rattle.std.specs.Prelude.{unwrap_or, codes, Option, Some, None, is_some}
use Rattle.std.specs.List.{list_any}
use Rattle.std.specs.Str.{bytes_eq}
use Rattle.record_layout.specs.Layout.{Entry}
use Rattle.record_layout.specs.Picture.{number}
use Rattle.record_layout.specs.Reading.{capped_size}
use Rattle.deck_parser.specs.Class.{levels, pictures}
use Rattle.deck_parser.specs.Located.{with_line}
use Rattle.deck_parser.specs.Rule.{Rule, one, optional, each_behind, any_behind, unless_barred, where_it_gives}
use Rattle.deck_parser.specs.Rule.{where_it_gives_or}
use Rattle.deck_parser.specs.Operand.{digits}
use Rattle.deck_parser.specs.Notation.{the, name, period, ◌▸◌, ◌◂◌, ◌⊗◌, ◌∣◌, ◌<$>◌, may}
use Rattle.deck_entries.specs.FileControlEntry.{FileControlEntry, is_selected}
use Rattle.deck_entries.specs.declared.record_length.RecordLength.{RecordLength}
use Rattle.deck_entries.specs.declared.record_length.RecordLength.TheVariants.{Fixed, Varying}
use Rattle.deck_entries.specs.declared.clauses.DescriptionClauses.{DescriptionClauses}

-- ---- words

-- a number of at most 18 digits, counted up to one past the greatest record
unfoldable pub count : Rule ℕ
count = (λ text. capped_size (number text)) <$> digits

-- ---- clauses of a file description

-- [IS] VARYING [IN] [SIZE] [FROM] number TO number [CHARACTERS] DEPENDING [ON] name
-- [CONTAINS] number [CHARACTERS]
unfoldable pub length_clause : Rule RecordLength
length_clause =
    ((λ (said : ℕ × (ℕ × List ℕ)). Varying (record { least = said.0; greatest = said.1.0; item = said.1.1 }))
    <$> may (codes "IS") ▸ the (codes "VARYING") ▸ may (codes "IN") ▸ may (codes "SIZE") ▸ may (codes "FROM")
    ▸ count ⊗ (the (codes "TO") ▸ count)
    ⊗ (may (codes "CHARACTERS") ▸ the (codes "DEPENDING") ▸ may (codes "ON") ▸ name))
    ∣ (Fixed <$> may (codes "CONTAINS") ▸ count ◂ may (codes "CHARACTERS"))

abbrev pub no_clauses : DescriptionClauses
no_clauses = record { label = false; block = false; lengths = None }

-- LABEL (RECORD | RECORDS) [IS | ARE] (STANDARD | OMITTED)
unfoldable pub label : DescriptionClauses → Rule DescriptionClauses
label said = unless_barred said.label 4 ((λ _. record said { label = true })
    <$> the (codes "LABEL") ▸ (the (codes "RECORD") ∣ the (codes "RECORDS"))
    ▸ optional (the (codes "IS") ∣ the (codes "ARE")) ▸ (the (codes "STANDARD") ∣ the (codes "OMITTED")))

-- BLOCK [CONTAINS] number [TO number] [RECORDS | CHARACTERS]
unfoldable pub block : DescriptionClauses → Rule DescriptionClauses
block said = unless_barred said.block 4 ((λ _. record said { block = true })
    <$> the (codes "BLOCK") ▸ may (codes "CONTAINS") ▸ count
    ▸ optional (the (codes "TO") ▸ count) ▸ optional (the (codes "RECORDS") ∣ the (codes "CHARACTERS")))

-- RECORD ([IS] VARYING .. | [CONTAINS] ..)
unfoldable pub record_clause : DescriptionClauses → Rule DescriptionClauses
record_clause said = unless_barred (is_some said.lengths) 4 ((λ lengths. record said { lengths = Some lengths })
    <$> the (codes "RECORD") ▸ length_clause)

-- one of these, beside those that there are; each stands once at most
unfoldable pub description_clause : DescriptionClauses → Rule DescriptionClauses
description_clause said = label said ∣ block said ∣ record_clause said

-- ---- items

-- (PIC | PICTURE) [IS] picture
unfoldable pub picture_clause : Rule (List ℕ)
picture_clause = (the (codes "PIC") ∣ the (codes "PICTURE")) ▸ may (codes "IS") ▸ one pictures

-- a number of one or two digits, which is at most 99
unfoldable pub level : Rule ℕ
level = where_it_gives_or (λ _. 2)
    (λ text. if nat_le (number text) 99 then Some (number text) else None) (one levels)

-- name | FILLER, which is no name
unfoldable pub item_name : Rule (Option (List ℕ))
item_name = (Some <$> name) ∣ ((λ _. None) <$> the (codes "FILLER"))

-- the name that is said, if any
unfoldable pub may_item_name : Rule (Option (List ℕ))
may_item_name = (λ said. unwrap_or said None) <$> optional item_name

-- number [name | FILLER] [(PIC | PICTURE) [IS] picture] .
unfoldable pub item : Rule Entry
item =
    (λ (said : ℕ × (Option (List ℕ) × Option (List ℕ))).
    record { level = said.0; name = said.1.0; picture = said.1.1 })
    <$> level ⊗ may_item_name ⊗ optional picture_clause ◂ period

-- with one more at the end
abbrev pub with_one : {A : Type 0} → List A → A → Option (List A)
with_one xs x = Some (xs ++ x ∷ [])

-- the earlier items, and one more
unfoldable pub more_item : List Entry → Rule (List Entry)
more_item earlier = where_it_gives (with_one earlier) item

-- ---- file descriptions

-- a file description, and the line of its word FD
pub record FileDescription : Type 0 where
  pub line : ℕ
  pub name : List ℕ
  pub lengths : Option RecordLength
  pub items : List Entry

abbrev pub is_described : List FileDescription → List ℕ → Bool
is_described earlier name = list_any (λ description. bytes_eq description.name name) earlier

-- the name of an entry that no earlier description has
unfoldable pub described_name : List FileControlEntry → List FileDescription → Rule (List ℕ)
described_name entries earlier =
    where_it_gives_or (λ text. if is_selected entries text then 4 else 3) (λ text. if is_selected entries text
    && not (is_described earlier text) then Some text else None) name

-- FD name {clause}..? . {item}..
unfoldable pub description_behind : List FileControlEntry → List FileDescription → Rule FileDescription
description_behind entries earlier =
    (λ (said : ℕ × (List ℕ × (DescriptionClauses × List Entry))).
    record { line = said.0; name = said.1.0; lengths = said.1.1.0.lengths; items = said.1.1.1 })
    <$> with_line (the (codes "FD") ▸ described_name entries earlier
    ⊗ any_behind description_clause no_clauses ⊗ (period ▸ each_behind more_item []))

-- ---- working storage

-- an item of the working storage: the line of its level number, its name and its picture
pub record StorageEntry : Type 0 where
  pub line : ℕ
  pub name : List ℕ
  pub picture : List ℕ

-- 77 name (PIC | PICTURE) [IS] picture .
unfoldable pub storage_item : Rule StorageEntry
storage_item =
    (λ (said : ℕ × (List ℕ × List ℕ)). record { line = said.0; name = said.1.0; picture = said.1.1 })
    <$> with_line (the (codes "77") ▸ name ⊗ picture_clause ◂ period)

-- the earlier items, and one more
unfoldable pub more_storage : List StorageEntry → Rule (List StorageEntry)
more_storage earlier = where_it_gives (with_one earlier) storage_item
