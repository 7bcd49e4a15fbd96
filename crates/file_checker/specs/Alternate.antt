-- The index of an alternate key, and the rows that the prime index leads to.
use Rattle.std.specs.Prelude.{◌≡◌, ◌⊎◌, ℕ, ◌≤◌, ◌<◌, List, [], ◌∷◌, length, map, IsTrue, ⊤}
use Rattle.std.specs.Ordering.{is_lt}
use Rattle.pages.specs.Each.{Each}
use Rattle.tree_node.specs.Order.{Ascends}
use Rattle.record_layout.specs.Schema.{Schema, key_at}
use Rattle.indexed_file.specs.File.{Row}
use Rattle.indexed_file.specs.Rank.{row_cmp}
use Rattle.page_walks.specs.declared.spot.LeafSpot.{LeafSpot}
use Rattle.page_walks.specs.Spots.{entries_at}
use Rattle.key_index.specs.declared.alt_index.AltIndex.{AltIndex}
use Rattle.key_index.specs.Standing.{alt_key}
use Rattle.key_index.specs.Stored.{alt_bytes, IsAltEntry}
use Rattle.open_file.specs.Fields.{file_schema}
use Rattle.open_file.specs.InOrder.{alt_entries}
use Rattle.open_file.specs.Stands.{IsShaped}
use Rattle.open_file.specs.declared.open_file.OpenFile.{OpenFile}
use Rattle.bplus_tree.specs.Fields.{tree_shape}
use Rattle.file_checker.specs.Rows.{rows_in}

-- the parts of the file are made for its schema, and the index is one for an alternate key of it
pub record IsIndexFor (opened : OpenFile) (index : AltIndex) : Type 0 where
  pub shaped : IsShaped opened
  pub some : 1 ≤ alt_key index
  pub within : alt_key index < length (file_schema opened).keys
  pub width : index.width ≡ (key_at (file_schema opened) (alt_key index)).length
  pub prime : index.prime ≡ (key_at (file_schema opened) 0).length

-- these bytes are as many as an entry of the index has
pub record IsEntryFor (opened : OpenFile) (alternate : AltIndex) (entry : List ℕ) : Type 0 where
  pub index : IsIndexFor opened alternate
  pub long : length entry ≡ (tree_shape alternate.tree).entry

-- the entries at these places come in the order of the index
abbrev pub EntriesAscend : AltIndex → List (List ℕ) → List LeafSpot → Type 0
EntriesAscend index list spots =
    Ascends (tree_shape index.tree).width (entries_at (tree_shape index.tree) list spots)

-- no two rows have one rank by key k
abbrev pub RanksDiffer : Schema → ℕ → List Row → Type 0
RanksDiffer schema k [] = ⊤
RanksDiffer schema k (row ∷ rows) = Each (λ other. IsTrue (is_lt (row_cmp schema k row other))
    ⊎ IsTrue (is_lt (row_cmp schema k other row))) rows × RanksDiffer schema k rows

-- the entries at these places are those that the index has of the rows, in the order of their ranks
pub record HasEntriesOfRows (opened : OpenFile) (list : List (List ℕ)) (primes : List LeafSpot)
    (index : AltIndex) (spots : List LeafSpot) : Type 0 where
  pub entries_are : map alt_bytes
      (alt_entries (file_schema opened) (alt_key index) (rows_in opened list primes))
      ≡ entries_at (tree_shape index.tree) list spots
  pub each : Each (IsAltEntry index.width index.prime)
      (alt_entries (file_schema opened) (alt_key index) (rows_in opened list primes))

-- so, and no two of these ranks are one
pub record AlternateStands (opened : OpenFile) (list : List (List ℕ)) (primes : List LeafSpot)
    (index : AltIndex) (spots : List LeafSpot) : Type 0 where
  pub entries : HasEntriesOfRows opened list primes index spots
  pub differ : RanksDiffer (file_schema opened) (alt_key index) (rows_in opened list primes)
