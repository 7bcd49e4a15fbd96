-- What rows that were checked are.
use Rattle.std.specs.Prelude.{ℕ, ◌+◌, ◌≤◌, ◌<◌, List, length, IsTrue}
use Rattle.indexed_file.specs.Sound.{is_file}
use Rattle.page_walks.specs.declared.spot.LeafSpot.{LeafSpot}
use Rattle.open_file.specs.Fields.{alternates_of, next_stamp_of, file_schema}
use Rattle.open_file.specs.Stands.{IsShaped}
use Rattle.open_file.specs.declared.open_file.OpenFile.{OpenFile}
use Rattle.file_checker.specs.Rows.{RowsStand, rows_in}
use Rattle.file_checker.specs.Alternate.{RanksDiffer}

-- the rows that the prime index leads to are those of a file, where no two have one rank by an alternate key
abbrev pub RowsMakeAFile : Type 0
RowsMakeAFile = (opened : OpenFile) (list : List (List ℕ)) (own : List ℕ) (primes : List LeafSpot)
    → IsShaped opened → 1 ≤ next_stamp_of opened
    → RowsStand opened list own primes → ((j : ℕ) → j < length (alternates_of opened)
    → RanksDiffer (file_schema opened) (j + 1) (rows_in opened list primes))
    → IsTrue (is_file (file_schema opened) (record {
      rows = rows_in opened list primes;
      next_stamp = next_stamp_of opened;
    }))
