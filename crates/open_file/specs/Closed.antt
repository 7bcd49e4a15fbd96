-- What the pages of a closed file stand for, by its header alone.
use Rattle.std.specs.Prelude.{◌≡◌, ◌≢◌, ℕ, ◌+◌, ◌<◌, ◌^◌, List, [], ◌++◌, length, map, slice_index_or}
use Rattle.std.specs.Prelude.{IsSome, IsTrue}
use Rattle.std.specs.List.{All, AllPairs, Contains, concat, zip}
use Rattle.byteorder.specs.Endian.{big_bytes}
use Rattle.record_layout.specs.Schema.{key_at, value_of, prime_of}
use Rattle.indexed_file.specs.File.{Row, File, stamp_of}
use Rattle.indexed_file.specs.Sound.{is_file}
use Rattle.open_file.specs.declared.first_page.Header.{Header}
use Rattle.pages.specs.PageMap.{PageMap}
use Rattle.record_heap.specs.declared.shape.Place.{Place}
use Rattle.open_file.specs.InOrder.{in_order}
use Rattle.open_file.specs.ClosedHeap.{HoldsHeap}
use Rattle.open_file.specs.ClosedTree.{HoldsTree}

-- these pages are those of the prime key's tree: of each row its value, and its place in six bytes
pub record HoldsPrime (header : Header) (pages : PageMap) (rows : List (Place × Row))
    (own : List ℕ) : Type 0 where
  pub tree : HoldsTree header 0 (key_at header.schema 0).length ((key_at header.schema 0).length + 6) pages
      (map (λ r. prime_of header.schema r.1.bytes ++ (big_bytes 4 r.0.page ++ big_bytes 2 r.0.slot)) rows) own
  pub each : All (λ r. (length (prime_of header.schema r.1.bytes) ≡ (key_at header.schema 0).length)
      × All (λ b. b < 256) (prime_of header.schema r.1.bytes)
      × (r.0.page < 2 ^ 32) × (r.0.slot < 2 ^ 16)) rows

-- so of the tree of alternate key k: of each row its value, a stamp of eight bytes, and its prime value
pub record HoldsAlternate (header : Header) (k : ℕ) (pages : PageMap) (rows : List Row)
    (own : List ℕ) : Type 0 where
  pub tree : HoldsTree header k ((key_at header.schema k).length + 8)
      ((key_at header.schema k).length + 8 + (key_at header.schema 0).length) pages
      (map (λ row. value_of header.schema k row.bytes
      ++ (big_bytes 8 (stamp_of k row) ++ prime_of header.schema row.bytes)) rows) own
  pub each : All (λ row. (length (value_of header.schema k row.bytes) ≡ (key_at header.schema k).length)
      × All (λ b. b < 256) (value_of header.schema k row.bytes) × (stamp_of k row < 2 ^ 64)
      × (length (prime_of header.schema row.bytes) ≡ (key_at header.schema 0).length)) rows

-- the pages of a file that was closed with this header stand for these rows
pub record StandsClosed (header : Header) (pages : PageMap) (file : File) : Type 0 where
  pub sound : IsTrue (is_file header.schema file)
  pub stamp : header.next_stamp ≡ file.next_stamp
  pub records : header.records ≡ length file.rows
  -- the pages of the heap, and then those of each key's tree: each page in use is one of them
  pub owns : List (List ℕ)
  pub owners : length owns ≡ length header.schema.keys + 1
  pub apart : AllPairs (λ m n. m ≢ n) (concat owns)
  pub covers : (n : ℕ) → IsSome (pages n) → Contains (concat owns) n
  -- where the record of each row is
  pub places : List Place
  pub heap : HoldsHeap header pages places file.rows (slice_index_or owns 0 [])
  pub prime : HoldsPrime header pages (zip places file.rows) (slice_index_or owns 1 [])
  pub alternates : (j : ℕ) → j + 1 < length header.schema.keys
      → HoldsAlternate header (j + 1) pages (in_order header.schema (j + 1) file.rows)
      (slice_index_or owns (j + 2) [])
