-- Why the walks of a file that can be opened stop.
use Rattle.std.specs.Prelude.{◌≡◌, ◌⊎◌, ℕ, Bool, true, List, length, ⊤, Result, OnOk, IfErr}
use Rattle.pages.specs.declared.fault_place.FaultPlace.{FaultPlace}
use Rattle.pages.specs.declared.damage.Damage.{Damage}
use Rattle.pages.specs.declared.damage.Damage.TheVariants.{Shared, Node, Order, Heap, Index, Lost}
use Rattle.pages.specs.declared.walk_fault.WalkFault.{WalkFault}
use Rattle.pages.specs.declared.walk_fault.WalkFault.TheVariants.{Memory, At}
use Rattle.pages.specs.Marks.{marked_in}
use Rattle.pages.specs.Refused.{RefusesRightly}
use Rattle.pages.specs.Told.{TellsOfFault}
use Rattle.page_walks.specs.declared.leaf.Leaf.{Leaf}
use Rattle.open_file.specs.declared.open_file.OpenFile.{OpenFile}
use Rattle.open_file.specs.declared.first_page.Header.{Header}
use Rattle.file_checker.specs.Lost.{IsLostAt}
use Rattle.file_checker.specs.Faults.{HasIndexFault, HasWalkFault, IsAlternateReached}
use Rattle.file_checker.specs.Faults.{IsAlternateTreeFault, IsAlternateWrong}
use Rattle.file_checker.specs.Parts.{PagesStand}
use Rattle.file_checker.specs.RowsAhead.{PrimesLead}

-- this is wrong with the pages, at this place
abbrev pub IsMetIn : Header → List (List ℕ) → Damage → FaultPlace → Type 0
IsMetIn header list Shared place = HasWalkFault header list Shared place
IsMetIn header list Node place = HasWalkFault header list Node place
IsMetIn header list Order place = HasWalkFault header list Order place
IsMetIn header list Heap place = HasWalkFault header list Heap place
IsMetIn header list Index place =
    HasWalkFault header list Index place ⊎ HasIndexFault header list place
IsMetIn header list Lost place = IsLostAt header list place

-- the pages that have their marks, and those of the alternate indexes before number j
abbrev pub IsMarkedBefore : OpenFile → List (List ℕ) → List Bool → (j n : ℕ) → Type 0
IsMarkedBefore opened list marks j n =
    (marked_in marks n ≡ true) ⊎ IsAlternateReached opened list j n

-- what is told of alternate indexes, where some pages have their marks before: that memory ran out;
-- or why one of them does not stand, and where; or where it is not that of the rows
abbrev pub TellsOfIndexes : OpenFile → List (List ℕ) → List Leaf → List Bool → WalkFault → Type 0
TellsOfIndexes opened list primes marks Memory = ⊤
TellsOfIndexes opened list primes marks (At damage place) =
    IsAlternateTreeFault (IsMarkedBefore opened list marks) (length marks) opened list damage place
    ⊎ ((damage ≡ Index) × IsAlternateWrong opened list primes place)

-- so, where the entries of the prime index have their rows
abbrev pub TellsOfAlternates : OpenFile → List (List ℕ) → List Leaf → List Bool → WalkFault → Type 0
TellsOfAlternates opened list primes marks fault =
    PrimesLead opened list primes → TellsOfIndexes opened list primes marks fault

-- what a check of the pages tells: that they stand, or what is wrong, and then they do not stand
pub record ChecksPages (header : Header) (list : List (List ℕ)) (result : Result Unit WalkFault) : Type 0 where
  pub stand : OnOk result (PagesStand header list)
  pub stop : IfErr result (TellsOfFault (IsMetIn header list))
  pub refused : IfErr result (RefusesRightly (PagesStand header list))
