-- An open file and its header.
use Rattle.std.specs.Prelude.{◌≡◌, ℕ, ◌+◌, ◌<◌, List, ◌∷◌, map, length, slice_index_or, IsFalse, None}
use Rattle.record_layout.specs.Schema.{key_at}
use Rattle.indexed_file.specs.File.{File}
use Rattle.open_file.specs.declared.first_page.Header.{Header}
use Rattle.open_file.specs.declared.first_page.TreeNumbers.{TreeNumbers}
use Rattle.pages.specs.PageMap.{PageMap}
use Rattle.bplus_tree.specs.declared.tree.Tree.{Tree}
use Rattle.bplus_tree.specs.Fields.{tree_root, tree_levels, tree_count}
use Rattle.key_index.specs.declared.prime_index.PrimeIndex.{PrimeIndex}
use Rattle.key_index.specs.Standing.{IsAltStored, alt_key}
use Rattle.key_index.specs.declared.alt_index.AltIndex.{AltIndex}
use Rattle.record_heap.specs.Standing.{first_heap_page, first_free_slot}
use Rattle.open_file.specs.Stands.{Stands, IsShaped}
use Rattle.open_file.specs.declared.open_file.OpenFile.{OpenFile}

-- the tree of key k
abbrev pub tree_at : Header → ℕ → TreeNumbers
tree_at header k = slice_index_or header.trees.items k (record { height = 0; root = 0 })

-- these are the numbers of the tree
pub record HasTree (tree : Tree) (numbers : TreeNumbers) : Type 0 where
  pub root : tree_root tree ≡ numbers.root
  pub height : tree_levels tree + 1 ≡ numbers.height

-- what the header says is so of the open file
pub record IsHeaderOf (header : Header) (opened : OpenFile) : Type 0 where
  pub schema_is : opened.schema ≡ header.schema
  pub next_stamp : opened.next_stamp ≡ header.next_stamp
  pub first_heap : first_heap_page opened.heap ≡ header.first_heap
  pub free_page : (first_free_slot opened.heap).page ≡ header.free_slot_page
  pub free_slot : (first_free_slot opened.heap).slot ≡ header.free_slot
  pub records : tree_count opened.prime.tree ≡ header.records
  -- the tree of each key, in the order of the keys
  pub trees : length header.trees.items ≡ length header.schema.keys
  pub prime : HasTree opened.prime.tree (tree_at header 0)
  pub alternates : (j : ℕ) (index : AltIndex) → j < length opened.alternates.items
      → index ≡ slice_index_or opened.alternates.items j index
      → HasTree index.tree (tree_at header (j + 1))

-- the header counts these pages, and these free ones
pub record Counts (header : Header) (pages first_free free : ℕ) : Type 0 where
  pub pages_are : header.pages ≡ pages
  pub first_is : header.first_free ≡ first_free
  pub free_are : header.free ≡ free

-- the open file is made from the header: each index has as many entries as there are records
pub record IsOpenedBy (header : Header) (opened : OpenFile) : Type 0 where
  pub header_is : IsHeaderOf header opened
  pub shaped : IsShaped opened
  pub counts : (j : ℕ) (index : AltIndex) → j < length opened.alternates.items
      → index ≡ slice_index_or opened.alternates.items j index
      → tree_count index.tree ≡ header.records
  pub unbroken : IsFalse opened.broken
  pub no_path : opened.path ≡ None

-- what is opened by the header of a file that stands, stands for the same records
abbrev pub is_read_back : Type 0
is_read_back = (opened other : OpenFile) (header : Header) (pages : PageMap) (file : File)
    → Stands opened pages file → IsShaped opened → IsHeaderOf header opened → IsOpenedBy header other
    → Stands other pages file

-- ---- its trees

-- index j is the one of alternate key j + 1 that the header tells of
pub record IsIndexStored (header : Header) (j : ℕ) (index : AltIndex) : Type 0 where
  pub stored : IsAltStored index (key_at header.schema (j + 1)).length (key_at header.schema 0).length
      (tree_at header (j + 1)).root (tree_at header (j + 1)).height header.records
  pub number : alt_key index ≡ j + 1

abbrev pub AreStored : Header → List AltIndex → Type 0
AreStored header alternates = (j : ℕ) (index : AltIndex) → j < length alternates
    → index ≡ slice_index_or alternates j index → IsIndexStored header j index

-- the numbers of the trees of these indexes
abbrev pub numbers_of : Tree → TreeNumbers
numbers_of tree = record { height = tree_levels tree + 1; root = tree_root tree }

abbrev pub AreTrees : PrimeIndex → List AltIndex → List TreeNumbers → Type 0
AreTrees prime alternates trees = trees ≡ numbers_of prime.tree ∷ map (λ (index : AltIndex).
    numbers_of index.tree) alternates
