-- The divisions before the procedure: file control entries, file descriptions, and the working
-- storage. ANSI X3.23-1985, Nucleus and Indexed I-O modules: identification, environment and data
-- divisions. Which paragraphs and sections there are is ours.
use Rattle.std.specs.Prelude.{ℕ, List, [], codes, Option, unwrap_or, option_map, option_and_then}
use Rattle.deck_parser.specs.Rule.{Rule, optional, any_behind, where_it_gives, each_behind, Stop, stop_behind}
use Rattle.deck_parser.specs.Notation.{the, name, period, ◌▸◌, ◌⊗◌, ◌<$>◌}
use Rattle.deck_entries.specs.FileControlEntry.{select_behind}
use Rattle.deck_entries.specs.FileControlEntry.{FileControlEntry}
use Rattle.deck_parser.specs.Word.{Word}
use Rattle.deck_entries.specs.declared.divisions.Divisions.{Divisions}
use Rattle.deck_entries.specs.FileDescription.{FileDescription, StorageEntry, description_behind}
use Rattle.deck_entries.specs.FileDescription.{more_storage, with_one}

-- two words and a period
abbrev pub division_heading : List ℕ → List ℕ → Rule (Unit {0})
division_heading first second = the first ▸ the second ▸ period

-- ---- file control

-- [IDENTIFICATION DIVISION . PROGRAM-ID . name .]
abbrev pub identification_division : Rule (Option (Unit {0}))
identification_division = optional (division_heading (codes "IDENTIFICATION") (codes "DIVISION")
    ▸ the (codes "PROGRAM-ID") ▸ period ▸ name ▸ period)

-- the earlier entries, and one more
unfoldable pub more_entry : List FileControlEntry → Rule (List FileControlEntry)
more_entry earlier = where_it_gives (with_one earlier) (select_behind earlier)

-- [identification division] ENVIRONMENT DIVISION . INPUT-OUTPUT SECTION . FILE-CONTROL . {select}..
unfoldable pub file_control_paragraph : Rule (List FileControlEntry)
file_control_paragraph =
    identification_division
    ▸ division_heading (codes "ENVIRONMENT") (codes "DIVISION")
    ▸ division_heading (codes "INPUT-OUTPUT") (codes "SECTION")
    ▸ the (codes "FILE-CONTROL") ▸ period ▸ each_behind more_entry []

-- ---- data division

-- the earlier descriptions, and one more
unfoldable pub more_description : List FileControlEntry → List FileDescription → Rule (List FileDescription)
more_description selected earlier = where_it_gives (with_one earlier) (description_behind selected earlier)

-- [WORKING-STORAGE SECTION . {77 item}..?]
unfoldable pub storage_section : Rule (List StorageEntry)
storage_section = (λ said. unwrap_or said []) <$> optional
    (division_heading (codes "WORKING-STORAGE") (codes "SECTION") ▸ any_behind more_storage [])

-- DATA DIVISION . FILE SECTION . {fd}.. [WORKING-STORAGE SECTION . {77 item}..?]
unfoldable pub data_division : List FileControlEntry → Rule (List FileDescription × List StorageEntry)
data_division selected =
    (division_heading (codes "DATA") (codes "DIVISION") ▸ division_heading (codes "FILE") (codes "SECTION")
    ▸ each_behind (more_description selected) []) ⊗ storage_section

-- ---- both

-- the words, up to the rest, are the file control entries and then the data division of these
abbrev pub SpellsDivisions : Divisions → List Word → List Word → Type 0
SpellsDivisions written words rest =
    (middle : List Word) × file_control_paragraph.Spells written.entries words middle
    × (data_division written.entries).Spells (written.descriptions, written.storage) middle rest

-- what is read, and the rest
abbrev pub reads_divisions : List Word → Option (Divisions × List Word)
reads_divisions words =
    option_and_then (λ a. option_map (λ b. (
      record {
        entries = a.0;
        descriptions = b.0.0;
        storage = b.0.1;
      },
      b.1,
    )) ((data_division a.0).reads a.1)) (file_control_paragraph.reads words)

-- where the reading stops of words of which nothing is read
abbrev pub divisions_stop : List Word → Stop
divisions_stop words = stop_behind (file_control_paragraph.reads words) (file_control_paragraph.stops words)
    (λ a. (data_division a.0).stops a.1)
