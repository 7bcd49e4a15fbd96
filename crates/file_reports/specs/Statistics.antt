-- What is counted of a file whose pages stand for it.
use Rattle.std.specs.Prelude.{◌≡◌, ℕ, ◌+◌, ◌*◌, ◌<◌, ◌^◌, List, [], ◌∷◌, length, map, slice_index_or, IsSome}
use Rattle.std.specs.Prelude.{Result, IfOk}
use Rattle.std.specs.Global.{Vec}
use Rattle.pages.specs.declared.walk_fault.WalkFault.{WalkFault}
use Rattle.record_layout.specs.Schema.{Schema, value_of}
use Rattle.indexed_file.specs.File.{Row, File}
use Rattle.pages.specs.PageMap.{PageMap}
use Rattle.page_alloc.specs.Chain.{chain, used}
use Rattle.pages.specs.Parted.{own_at}
use Rattle.open_file.specs.Parts.{heap_pages, prime_pages, alternate_pages}
use Rattle.open_file.specs.declared.first_page.Header.{Header}
use Rattle.bplus_tree.specs.declared.tree.Tree.{Tree}
use Rattle.bplus_tree.specs.Standing.{TreeStands}
use Rattle.bplus_tree.specs.Fields.{tree_shape, tree_levels, tree_count}
use Rattle.key_index.specs.declared.alt_index.AltIndex.{AltIndex}
use Rattle.record_heap.specs.Slot.{room}
use Rattle.record_heap.specs.Standing.{slot_shape}
use Rattle.key_index.specs.Stored.{prime_bytes, alt_bytes}
use Rattle.open_file.specs.Fields.{alternates_of, heap_of, prime_index_of, file_schema}
use Rattle.open_file.specs.InOrder.{alt_entries, prime_entries}
use Rattle.open_file.specs.declared.open_file.OpenFile.{OpenFile}
use Rattle.open_file.specs.Headers.{IsOpenedBy}
use Rattle.open_file.specs.Stands.{Stands}
use Rattle.page_walks.specs.Levels.{levels_of, AreShown}
use Rattle.page_walks.specs.Runs.{values_of, IsGreatestCount}
use Rattle.file_reports.specs.declared.statistics.KeyStatistics.{KeyStatistics}
use Rattle.file_reports.specs.declared.statistics.FileStatistics.{FileStatistics}

-- the pages in use, by the header and what each page has
abbrev pub live_by : (ℕ → List ℕ) → Header → PageMap
live_by page header = used page header.pages (chain page header.pages header.first_free header.free)

-- the pages, by the header, stand for a file
pub record PagesHoldFile (page : ℕ → List ℕ) (header : Header) (opened : OpenFile) (file : File)
    : Type 0 where
  pub by_header : IsOpenedBy header opened
  pub stands : Stands opened (live_by page header) file
  pub sound : IsSome (chain page header.pages header.first_free header.free)

-- what is counted of a tree that stands: its levels, its pages and its entries, and how many of
-- these have one value at most, where a value has so many bytes
pub record AreKeyCounts (tree : Tree) (width : ℕ) (pages : PageMap) (entries : List (List ℕ))
    (own : List ℕ) (stands : TreeStands tree pages entries own) (key : KeyStatistics) : Type 0 where
  pub levels : key.levels.items ≡ levels_of (tree_shape tree) (tree_levels tree) (stands.value ∷ [])
  pub pages_are : key.pages ≡ length own
  pub entries_are : key.entries ≡ length entries
  pub longest_is : IsGreatestCount (values_of width entries) key.longest

-- so, wherever the tree stands in the pages of the list
abbrev pub CountsKey : {X : Type 0} → Tree → (width : ℕ) → List (List ℕ) → Result KeyStatistics X → Type 0
CountsKey tree width list result = (map : PageMap) (entries : List (List ℕ)) (own : List ℕ)
    (stands : TreeStands tree map entries own) → AreShown map list
    → IfOk result (AreKeyCounts tree width map entries own stands)

-- a tree that stands in pages in use which are those of the list, fewer than can be counted
pub record HasTreeStanding (tree : Tree) (list : List (List ℕ)) : Type 0 where
  pub pages : PageMap
  pub entries : List (List ℕ)
  pub own : List ℕ
  pub stands : TreeStands tree pages entries own
  pub shown : AreShown pages list
  pub few : length own < 2 ^ 64
  pub counted : length entries < 2 ^ 64

-- the pages of these trees
abbrev pub all_key_pages : List KeyStatistics → ℕ
all_key_pages [] = 0
all_key_pages (key ∷ keys) = key.pages + all_key_pages keys

-- what is counted of the trees of a file that stands: the prime key's, and those of the first
-- alternate keys, so many
pub record AreKeyStatistics (opened : OpenFile) (pages : PageMap) (file : File)
    (stands : Stands opened pages file)
    (count : ℕ) (keys : List KeyStatistics) : Type 0 where
  pub prime : (key : KeyStatistics) → key ≡ slice_index_or keys 0 key
      → AreKeyCounts (prime_index_of opened).tree (prime_index_of opened).width pages
      (map prime_bytes (prime_entries (file_schema opened) stands.places file.rows))
      (prime_pages stands.parts.owns) stands.parts.prime_stands.tree key
  pub alternates : (j : ℕ) (index : AltIndex) (within : j < length (alternates_of opened))
      (is : index ≡ slice_index_or (alternates_of opened) j index) (key : KeyStatistics)
      → j < count → key ≡ slice_index_or keys (j + 1) key
      → AreKeyCounts index.tree index.width pages
      (map alt_bytes (alt_entries (file_schema opened) (j + 1) file.rows))
      (alternate_pages stands.parts.owns j)
      (stands.parts.alternates_stand j index within is).tree key

-- a file that stands in pages in use which are those of the list, fewer than can be counted
pub record HasFileStanding (opened : OpenFile) (list : List (List ℕ)) : Type 0 where
  pub pages : PageMap
  pub file : File
  pub stands : Stands opened pages file
  pub shown : AreShown pages list
  pub few : (i : ℕ) → length (own_at stands.parts.owns i) < 2 ^ 64
  pub prime_counted : tree_count (prime_index_of opened).tree < 2 ^ 64
  pub counted : (j : ℕ) (index : AltIndex) → j < length (alternates_of opened)
      → index ≡ slice_index_or (alternates_of opened) j index → tree_count index.tree < 2 ^ 64

-- so many keys are told of, and what is told is what is counted of the file, wherever it stands in
-- the pages of the list
pub record KeysCounted (opened : OpenFile) (list : List (List ℕ)) (count : ℕ)
    (keys : List KeyStatistics) : Type 0 where
  pub many : length keys ≡ count + 1
  pub are : (pages : PageMap) (file : File) (stands : Stands opened pages file) → AreShown pages list
      → AreKeyStatistics opened pages file stands count keys

-- where the file stands in the pages of the list, so all its keys are told of
abbrev pub CountsEachKey : OpenFile → Result (Vec KeyStatistics) WalkFault → List (List ℕ) → Type 0
CountsEachKey opened result list = HasFileStanding opened list
    → IfOk result (λ keys. KeysCounted opened list (length (alternates_of opened)) keys.items)

-- the values of key k that these rows have
abbrev pub values_in : Schema → ℕ → List Row → List (List ℕ)
values_in schema k rows = map (λ (row : Row). value_of schema k row.bytes) rows

-- What is counted of a file that stands, by its header: its pages, as many as the header tells,
-- each of which is the header, of the heap, of a tree, or free; the slots of the heap's pages; its
-- records, each of which has a slot; its trees; and how many rows have one value of a key at most.
pub record AreStatistics (header : Header) (opened : OpenFile) (pages : PageMap) (file : File)
    (stands : Stands opened pages file) (counts : FileStatistics) : Type 0 where
  pub pages_are : counts.pages ≡ header.pages
  pub free_are : counts.free ≡ header.free
  pub heap_are : counts.heap ≡ length (heap_pages stands.parts.owns)
  pub trees_are : counts.trees ≡ all_key_pages counts.keys.items
  pub whole : counts.pages ≡ 1 + counts.heap + counts.trees + counts.free
  pub slots_are : counts.slots ≡ counts.heap * room (slot_shape (heap_of opened))
  pub records_are : counts.records ≡ length file.rows
  pub many : length counts.keys.items ≡ length (file_schema opened).keys
  pub keys : AreKeyStatistics opened pages file stands (length (alternates_of opened)) counts.keys.items
  pub longest : (k : ℕ) (key : KeyStatistics) → k < length counts.keys.items
      → key ≡ slice_index_or counts.keys.items k key
      → IsGreatestCount (values_in (file_schema opened) k file.rows) key.longest

-- the pages by the header stand for the file, and these are its counts
pub record HasStatistics (page : ℕ → List ℕ) (header : Header) (file : File)
    (counts : FileStatistics) : Type 0 where
  pub opened : OpenFile
  pub standing : PagesHoldFile page header opened file
  pub counted : AreStatistics header opened (live_by page header) file standing.stands counts

-- so, whatever file they stand for where the pages in use are those of the list
abbrev pub CountsFile : {X : Type 0} → Header → List (List ℕ) → Result FileStatistics X → Type 0
CountsFile header list result = (page : ℕ → List ℕ) (opened : OpenFile) (file : File)
    → PagesHoldFile page header opened file → AreShown (live_by page header) list
    → IfOk result (HasStatistics page header file)

-- the pages by the header stand for a file, and those in use are those of the list
pub record HasFile (header : Header) (list : List (List ℕ)) : Type 0 where
  pub page : ℕ → List ℕ
  pub opened : OpenFile
  pub file : File
  pub standing : PagesHoldFile page header opened file
  pub shown : AreShown (live_by page header) list
