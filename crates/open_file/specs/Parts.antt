-- The parts of an open file: the heap, the prime index, and the alternate indexes, each in pages of its own.
use Rattle.std.specs.Prelude.{◌≡◌, ℕ, ◌+◌, ◌<◌, ◌==◌, List, length, slice_index_or, if◌then◌else◌}
use Rattle.pages.specs.PageMap.{PageMap}
use Rattle.key_index.specs.declared.entry.PrimeEntry.{PrimeEntry}
use Rattle.key_index.specs.declared.entry.AltEntry.{AltEntry}
use Rattle.key_index.specs.declared.prime_index.PrimeIndex.{PrimeIndex}
use Rattle.key_index.specs.declared.alt_index.AltIndex.{AltIndex}
use Rattle.key_index.specs.Standing.{AltStands, PrimeStands}
use Rattle.record_heap.specs.declared.heap.Heap.{Heap}
use Rattle.record_heap.specs.Chain.{Slots}
use Rattle.record_heap.specs.Standing.{HeapStands}
use Rattle.pages.specs.Parted.{own_at, Parted}

-- The pages of each part, where a list has them all: first those of the heap, then those of the prime
-- index, then those of each alternate index.
abbrev pub heap_pages : List (List ℕ) → List ℕ
heap_pages owns = own_at owns 0

abbrev pub prime_pages : List (List ℕ) → List ℕ
prime_pages owns = own_at owns 1

-- those of alternate index j
abbrev pub alternate_pages : List (List ℕ) → ℕ → List ℕ
alternate_pages owns j = own_at owns (j + 2)

-- the heap has these records, and the indexes these entries
pub record Parts (heap : Heap) (prime : PrimeIndex) (alternates : List AltIndex) (pages : PageMap)
    (slots : Slots) (primes : List PrimeEntry) (entries : ℕ → List AltEntry) : Type 0 where
  pub owns : List (List ℕ)
  pub owners : length owns ≡ length alternates + 2
  pub heap_stands : HeapStands heap pages slots (heap_pages owns)
  pub prime_stands : PrimeStands prime pages primes (prime_pages owns)
  pub alternates_stand : (j : ℕ) (index : AltIndex) → j < length alternates
      → index ≡ slice_index_or alternates j index
      → AltStands index pages (entries j) (alternate_pages owns j)
  pub parted : Parted pages owns

-- these entries, but others at j
abbrev pub but_at : ℕ → List AltEntry → (ℕ → List AltEntry) → ℕ → List AltEntry
but_at j others entries i = if i == j then others else entries i
