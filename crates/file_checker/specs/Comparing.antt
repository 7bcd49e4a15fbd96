-- What is told where an index of a file is compared with its records.
use Rattle.std.specs.Prelude.{ℕ, Bool, List, [], ◌∷◌, All, IsTrue, Result, OnOk, OnErr, IfErr}
use Rattle.pages.specs.Each.{Each}
use Rattle.pages.specs.declared.fault_place.FaultPlace.{FaultPlace}
use Rattle.pages.specs.declared.walk_fault.WalkFault.{WalkFault}
use Rattle.pages.specs.Refused.{RefusesRightly}
use Rattle.page_walks.specs.declared.leaf.Leaf.{Leaf}
use Rattle.page_walks.specs.declared.spot.LeafSpot.{LeafSpot}
use Rattle.page_walks.specs.Spots.{spots_below, spots_in}
use Rattle.record_heap.specs.declared.shape.Place.{Place}
use Rattle.key_index.specs.declared.alt_index.AltIndex.{AltIndex}
use Rattle.open_file.specs.declared.open_file.OpenFile.{OpenFile}
use Rattle.file_checker.specs.Alternate.{AlternateStands}
use Rattle.file_checker.specs.Leading.{HasEntry, HasRow, OfEachEntry, PageHasEntries, PagesHaveEntries}
use Rattle.file_checker.specs.Rows.{RowsStand}
use Rattle.file_checker.specs.RowsAhead.{AlternateAhead, HasRowAhead, PrimesLead, RowsAhead}
use Rattle.file_checker.specs.RowFaults.{HasNoEntry, IsAlternateFault, IsEntryFault, IsRowFault, TellsOfRows}
use Rattle.file_checker.specs.Search.{IsPrimeLeaf}

-- an open file, its pages as they were read, and the leaves of its prime index
pub record PagesRead : Type 0 where
  pub opened : OpenFile
  pub list : List (List ℕ)
  pub primes : List Leaf

abbrev pub pages_read : OpenFile → List (List ℕ) → List Leaf → PagesRead
pages_read opened list primes = record { opened = opened; list = list; primes = primes }

-- the entries of the prime index rise, and each has its row
abbrev pub HasLeaders : PagesRead → Type 0
HasLeaders read = PrimesLead read.opened read.list read.primes

-- where the prime index has its rows, and this entry of an alternate index one of them, it is found
abbrev pub FindsLedRow : PagesRead → AltIndex → LeafSpot → (found : Bool) → Type 0
FindsLedRow read index spot found = HasLeaders read
    → HasRowAhead read.opened read.list (spots_in read.primes) index spot → IsTrue found

-- where it has its rows, and this slot its entry if it is in use, that is found
abbrev pub FindsItsEntry : PagesRead → Place → (found : Bool) → Type 0
FindsItsEntry read place found = HasLeaders read
    → HasEntry read.opened read.list (spots_in read.primes) place → IsTrue found

-- what passes stands. Where the prime index has its rows, what is refused was not so, and what is told
-- is wrong.
pub record Judges (read : PagesRead) (Stands Ahead : Type 0) (IsWrong : FaultPlace → Type 0)
    (result : Result Unit WalkFault) : Type 0 where
  pub stands : OnOk result Stands
  pub refused : OnErr result (HasLeaders read → Ahead → ⊥)
  pub told : IfErr result (λ fault. HasLeaders read → TellsOfRows IsWrong fault)

-- a leaf of an alternate index: each of its entries is what the index has of a row
abbrev pub ChecksLeaf : PagesRead → AltIndex → Leaf → Result Unit WalkFault → Type 0
ChecksLeaf read index leaf result = Judges read
    (OfEachEntry (HasRow read.opened read.list (spots_in read.primes) index) leaf)
    (OfEachEntry (HasRowAhead read.opened read.list (spots_in read.primes) index) leaf)
    (IsEntryFault (spots_below leaf.page leaf.count)
    (HasRowAhead read.opened read.list (spots_in read.primes) index)) result

-- all of its leaves
abbrev pub ChecksLeaves : PagesRead → AltIndex → List Leaf → Result Unit WalkFault → Type 0
ChecksLeaves read index leaves result = Judges read
    (All (OfEachEntry (HasRow read.opened read.list (spots_in read.primes) index)) leaves)
    (Each (HasRowAhead read.opened read.list (spots_in read.primes) index) (spots_in leaves))
    (IsAlternateFault read.opened read.list read.primes index leaves) result

-- an alternate index of as many entries, which rise, is compared with the rows: where it passes, it
-- stands. What is refused did not stand, and what is told is wrong where the prime index has its rows.
pub record ComparesIndex (read : PagesRead) (index : AltIndex) (leaves : List Leaf)
    (result : Result Unit WalkFault) : Type 0 where
  pub stands : OnOk result
      (AlternateStands read.opened read.list (spots_in read.primes) index (spots_in leaves))
  pub refused : IfErr result
      (RefusesRightly (AlternateAhead read.opened read.list read.primes index leaves))
  pub told : IfErr result (λ fault. HasLeaders read
      → TellsOfRows (IsAlternateFault read.opened read.list read.primes index leaves) fault)

-- a page of the heap: each of its slots that is in use has its entry in the prime index
abbrev pub ChecksPage : PagesRead → ℕ → Result Unit WalkFault → Type 0
ChecksPage read n result = Judges read
    (PageHasEntries read.opened read.list (spots_in read.primes) n)
    (PageHasEntries read.opened read.list (spots_in read.primes) n)
    (HasNoEntry read.opened read.list (spots_in read.primes) (n ∷ [])) result

-- all of its pages
abbrev pub ChecksSlots : PagesRead → (own : List ℕ) → Result Unit WalkFault → Type 0
ChecksSlots read own result = Judges read
    (PagesHaveEntries read.opened read.list (spots_in read.primes) own)
    (PagesHaveEntries read.opened read.list (spots_in read.primes) own)
    (HasNoEntry read.opened read.list (spots_in read.primes) own) result

-- the prime index is compared with the records: where it passes, its rows stand. What is refused did not
-- stand, and what is told is wrong where these leaves are there.
pub record ComparesRows (read : PagesRead) (own : List ℕ) (result : Result Unit WalkFault) : Type 0 where
  pub stand : OnOk result (RowsStand read.opened read.list own (spots_in read.primes))
  pub refused : IfErr result (RefusesRightly (RowsAhead read.opened read.list own read.primes))
  pub told : IfErr result (λ fault. Each (IsPrimeLeaf read.opened read.list) read.primes
      → TellsOfRows (IsRowFault read.opened read.list own read.primes) fault)
