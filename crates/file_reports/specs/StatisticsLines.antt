-- The lines that tell what is counted of a file. Their form is ours.
use Rattle.std.specs.Prelude.{ℕ, ◌+◌, ◌-◌, ◌/◌, List, [], ◌∷◌, ◌++◌, length, codes, decimal, replicate}
use Rattle.page_walks.specs.declared.level.Level.{Level}
use Rattle.page_walks.specs.Fill.{fill_of}
use Rattle.file_reports.specs.declared.statistics.KeyStatistics.{KeyStatistics}
use Rattle.file_reports.specs.declared.statistics.FileStatistics.{FileStatistics}

-- a text, and a number behind it
abbrev pub number_behind : List ℕ → ℕ → List ℕ
number_behind text n = text ++ decimal n

unfoldable pub count_text : List ℕ → ℕ → List ℕ
count_text text n = number_behind text n

-- a bar of twenty places, of which one is filled for every five percent
abbrev pub bar_of : ℕ → List ℕ
bar_of fill = replicate (fill / 5) 35 ++ replicate (20 - fill / 5) 32

-- the number of a level, and what it has
abbrev pub level_place : ℕ → Level → List ℕ
level_place number level =
    count_text (codes "  level ") number ++ (count_text (codes " pages ") level.pages
    ++ count_text (codes " entries ") level.entries)

-- how full it is
abbrev pub level_fill : ℕ → List ℕ
level_fill fill = count_text (codes " fill ") fill ++ (codes "% [" ++ (bar_of fill ++ codes "]\n"))

abbrev pub level_line : ℕ → Level → List ℕ
level_line number level = level_place number level ++ level_fill (fill_of level)

-- the levels, each with the number of those below it
abbrev pub level_lines : List Level → List ℕ
level_lines [] = []
level_lines (level ∷ levels) = level_line (length levels) level ++ level_lines levels

-- how many entries of a key there are, and how many of them have one value at most
abbrev pub key_entries : KeyStatistics → List ℕ
key_entries key =
    count_text (codes " entries ") key.entries
    ++ (count_text (codes " longest run ") key.longest ++ codes "\n")

-- key k, with the pages and the entries of its tree
abbrev pub key_start : ℕ → KeyStatistics → List ℕ
key_start k key =
    count_text (codes "key ") k ++ (count_text (codes " pages ") key.pages ++ key_entries key)

abbrev pub key_statistics_text : ℕ → KeyStatistics → List ℕ
key_statistics_text k key = key_start k key ++ level_lines key.levels.items

-- the keys from key k on
abbrev pub keys_text : ℕ → List KeyStatistics → List ℕ
keys_text k [] = []
keys_text k (key ∷ keys) = key_statistics_text k key ++ keys_text (k + 1) keys

abbrev pub other_pages : FileStatistics → List ℕ
other_pages counts = count_text (codes ", keys ") counts.trees
    ++ (count_text (codes ", free ") counts.free ++ codes "\n")

abbrev pub kinds_text : FileStatistics → List ℕ
kinds_text counts = count_text (codes ": header 1, heap ") counts.heap ++ other_pages counts

-- the pages by their kinds: one is the header; those of the heap, of the trees of the keys, and
-- those that are free
abbrev pub page_line : FileStatistics → List ℕ
page_line counts = count_text (codes "pages ") counts.pages ++ kinds_text counts

-- the slots of the heap, of which each record has one
abbrev pub slot_line : FileStatistics → List ℕ
slot_line counts =
    count_text (codes "slots ") counts.slots ++ (count_text (codes ": used ") counts.records
    ++ (count_text (codes ", free ") (counts.slots - counts.records) ++ codes "\n"))

-- all lines
abbrev pub statistics_text : FileStatistics → List ℕ
statistics_text counts = page_line counts ++ (slot_line counts ++ keys_text 0 counts.keys.items)
