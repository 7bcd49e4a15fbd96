-- What is wrong with the pages of a file, and where.
use Rattle.std.specs.Prelude.{◌≡◌, ◌⊎◌, ℕ, ◌<◌, Bool, true, List, length, slice_index_or, Some}
use Rattle.pages.specs.Each.{Each}
use Rattle.page_alloc.specs.Chain.{chain, is_among}
use Rattle.pages.specs.declared.fault_place.FaultPlace.{FaultPlace}
use Rattle.pages.specs.declared.damage.Damage.{Damage}
use Rattle.pages.specs.Marks.{marked_in}
use Rattle.pages.specs.PageList.{pages_in}
use Rattle.page_walks.specs.declared.leaf.Leaf.{Leaf}
use Rattle.page_walks.specs.FreeWalk.{IsFreeFault, page_in}
use Rattle.page_walks.specs.Spots.{IsLeafThere, entries_at, spots_in}
use Rattle.page_walks.specs.TreeFaults.{IsTreeFault, LeadsDown, root_place}
use Rattle.record_heap.specs.Faults.{IsHeapFault}
use Rattle.record_heap.specs.Standing.{IsPageChain, first_heap_page}
use Rattle.bplus_tree.specs.declared.tree.Tree.{Tree}
use Rattle.bplus_tree.specs.Fields.{tree_shape}
use Rattle.bplus_tree.specs.Standing.{TreeStands}
use Rattle.key_index.specs.declared.alt_index.AltIndex.{AltIndex}
use Rattle.open_file.specs.declared.first_page.Header.{Header}
use Rattle.open_file.specs.Fields.{alternates_of, heap_of, prime_index_of}
use Rattle.open_file.specs.Headers.{IsOpenedBy}
use Rattle.open_file.specs.declared.open_file.OpenFile.{OpenFile}
use Rattle.file_checker.specs.RowFaults.{IsAlternateFault, IsRowFault}

-- ---- which pages the parts of a file reach

-- the free pages are in a chain, and page n is one of them
pub record IsFreeReached (header : Header) (list : List (List ℕ)) (n : ℕ) : Type 0 where
  pub own : List ℕ
  pub chain_is : chain (page_in list) (length list) header.first_free header.free ≡ Some own
  pub one : is_among n own ≡ true

-- the heap pages are in a chain, and page n is one of them
pub record IsHeapReached (opened : OpenFile) (list : List (List ℕ)) (n : ℕ) : Type 0 where
  pub own : List ℕ
  pub chain_is : IsPageChain (pages_in list) (first_heap_page (heap_of opened)) own
  pub one : is_among n own ≡ true

-- children lead from the root of a tree to page n
abbrev pub IsTreeReached : Tree → List (List ℕ) → ℕ → Type 0
IsTreeReached tree list n = (is : List ℕ) × LeadsDown (tree_shape tree) list (root_place tree) is n

-- this is alternate index j
pub record IsAlternateAt (opened : OpenFile) (j : ℕ) (index : AltIndex) : Type 0 where
  pub within : j < length (alternates_of opened)
  pub is : index ≡ slice_index_or (alternates_of opened) j index

-- one of the alternate indexes before number j leads to page n
pub record IsAlternateReached (opened : OpenFile) (list : List (List ℕ)) (j n : ℕ) : Type 0 where
  pub i : ℕ
  pub index : AltIndex
  pub before : i < j
  pub at : IsAlternateAt opened i index
  pub reached : IsTreeReached index.tree list n

-- The parts are looked at one after another: the first page, the free pages, the heap, the prime index,
-- and the alternate indexes. Which pages are reached before each of them.
abbrev pub IsBeforeFree : ℕ → Type 0
IsBeforeFree n = n ≡ 0

abbrev pub IsBeforeHeap : Header → List (List ℕ) → ℕ → Type 0
IsBeforeHeap header list n = IsBeforeFree n ⊎ IsFreeReached header list n

abbrev pub IsBeforePrime : Header → OpenFile → List (List ℕ) → ℕ → Type 0
IsBeforePrime header opened list n = IsBeforeHeap header list n ⊎ IsHeapReached opened list n

abbrev pub IsBeforeAlternates : Header → OpenFile → List (List ℕ) → ℕ → Type 0
IsBeforeAlternates header opened list n =
    IsBeforePrime header opened list n ⊎ IsTreeReached (prime_index_of opened).tree list n

abbrev pub IsBeforeAlternate : Header → OpenFile → List (List ℕ) → (j n : ℕ) → Type 0
IsBeforeAlternate header opened list j n =
    IsBeforeAlternates header opened list n ⊎ IsAlternateReached opened list j n

-- there are so many marks, and each page that has its mark is one that was reached
pub record AreMarksOf (Reached : ℕ → Type 0) (count : ℕ) (marks : List Bool) : Type 0 where
  pub many : length marks ≡ count
  pub each : (n : ℕ) → marked_in marks n ≡ true → Reached n

-- This is wrong with a part: the pages that have their marks before it are some that were reached.
pub record IsPartFault (Reached : ℕ → Type 0) (count : ℕ)
    (Wrong : List Bool → Damage → FaultPlace → Type 0) (fault : Damage)
    (place : FaultPlace) : Type 0 where
  pub marks : List Bool
  pub are : AreMarksOf Reached count marks
  pub wrong : Wrong marks fault place

-- so it is with alternate index j
pub record IsAlternateTreeFault (Before : (j n : ℕ) → Type 0) (count : ℕ) (opened : OpenFile)
    (list : List (List ℕ)) (fault : Damage) (place : FaultPlace) : Type 0 where
  pub j : ℕ
  pub index : AltIndex
  pub at : IsAlternateAt opened j index
  pub wrong : IsPartFault (Before j) count (IsTreeFault index.tree list) fault place

-- one part of a file is not what it should be
abbrev pub IsWalkFault : Header → OpenFile → List (List ℕ) → Damage → FaultPlace → Type 0
IsWalkFault header opened list fault place =
    IsPartFault IsBeforeFree (length list) (IsFreeFault list header.first_free header.free) fault place
    ⊎ (IsPartFault (IsBeforeHeap header list) (length list) (IsHeapFault (heap_of opened) list) fault place
    ⊎ (IsPartFault (IsBeforePrime header opened list) (length list)
    (IsTreeFault (prime_index_of opened).tree list) fault place
    ⊎ IsAlternateTreeFault (IsBeforeAlternate header opened list) (length list) opened list fault place))

-- ---- indexes and records

-- the tree stands, and these are its leaves that have entries
pub record AreLeavesOf (tree : Tree) (list : List (List ℕ)) (leaves : List Leaf) : Type 0 where
  pub own : List ℕ
  pub stands : TreeStands tree (pages_in list) (entries_at (tree_shape tree) list (spots_in leaves)) own
  pub there : Each (IsLeafThere (tree_shape tree) list) leaves

-- the heap pages are in a chain, the prime index stands, and this is wrong between them
pub record HasRowFault (opened : OpenFile) (list : List (List ℕ)) (place : FaultPlace) : Type 0 where
  pub own : List ℕ
  pub chain_is : IsPageChain (pages_in list) (first_heap_page (heap_of opened)) own
  pub primes : List Leaf
  pub are : AreLeavesOf (prime_index_of opened).tree list primes
  pub wrong : IsRowFault opened list own primes place

-- an alternate index stands, and this is wrong between it and the rows of the prime index
pub record IsAlternateWrong (opened : OpenFile) (list : List (List ℕ)) (primes : List Leaf)
    (place : FaultPlace) : Type 0 where
  pub j : ℕ
  pub index : AltIndex
  pub at : IsAlternateAt opened j index
  pub leaves : List Leaf
  pub are : AreLeavesOf index.tree list leaves
  pub wrong : IsAlternateFault opened list primes index leaves place

-- so, where the prime index stands
pub record HasAlternateFault (opened : OpenFile) (list : List (List ℕ)) (place : FaultPlace) : Type 0 where
  pub primes : List Leaf
  pub are : AreLeavesOf (prime_index_of opened).tree list primes
  pub wrong : IsAlternateWrong opened list primes place

-- ---- the file

-- a part of the file of this header is not what it should be
pub record HasWalkFault (header : Header) (list : List (List ℕ)) (fault : Damage)
    (place : FaultPlace) : Type 0 where
  pub opened : OpenFile
  pub by_header : IsOpenedBy header opened
  pub wrong : IsWalkFault header opened list fault place

-- an index and the records of the file of this header do not agree
pub record HasIndexFault (header : Header) (list : List (List ℕ)) (place : FaultPlace) : Type 0 where
  pub opened : OpenFile
  pub by_header : IsOpenedBy header opened
  pub wrong : HasRowFault opened list place ⊎ HasAlternateFault opened list place
