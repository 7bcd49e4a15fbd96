-- An open file's fields, which are private: what a crate above says of them, it says by these functions.
use Rattle.std.specs.Prelude.{ℕ, Bool, List, Option, None, slice_set}
use Rattle.record_layout.specs.Schema.{Schema}
use Rattle.record_heap.specs.declared.heap.Heap.{Heap}
use Rattle.key_index.specs.declared.prime_index.PrimeIndex.{PrimeIndex}
use Rattle.key_index.specs.declared.alt_index.AltIndex.{AltIndex}
use Rattle.open_file.specs.declared.path.Path.{Path}
use Rattle.open_file.specs.declared.open_file.OpenFile.{OpenFile}

abbrev pub file_schema : OpenFile → Schema
file_schema opened = opened.schema

abbrev pub next_stamp_of : OpenFile → ℕ
next_stamp_of opened = opened.next_stamp

abbrev pub prime_index_of : OpenFile → PrimeIndex
prime_index_of opened = opened.prime

-- the indexes of the alternate keys, in their order
abbrev pub alternates_of : OpenFile → List AltIndex
alternates_of opened = opened.alternates.items

abbrev pub heap_of : OpenFile → Heap
heap_of opened = opened.heap

abbrev pub path_of : OpenFile → Option Path
path_of opened = opened.path

-- an earlier change failed
abbrev pub has_broken : OpenFile → Bool
has_broken opened = opened.broken

-- ---- the same file but for a field

-- with one of another file
abbrev pub with_heap_of : (new old : OpenFile) → OpenFile
with_heap_of new old = record old { heap = new.heap }

abbrev pub with_prime_of : (new old : OpenFile) → OpenFile
with_prime_of new old = record old { prime = new.prime }

abbrev pub with_alternates_of : (new old : OpenFile) → OpenFile
with_alternates_of new old = record old { alternates = new.alternates }

abbrev pub with_alternate : ℕ → AltIndex → OpenFile → OpenFile
with_alternate j index old =
    record old { alternates = record { items = slice_set old.alternates.items j index } }

abbrev pub with_parts_of : (new old : OpenFile) → OpenFile
with_parts_of new old = record old { heap = new.heap; prime = new.prime; alternates = new.alternates }

abbrev pub with_path_of : (new old : OpenFile) → OpenFile
with_path_of new old = record old { path = new.path }

abbrev pub without_path : OpenFile → OpenFile
without_path old = record old { path = None }

abbrev pub with_next_stamp : ℕ → OpenFile → OpenFile
with_next_stamp stamp old = record old { next_stamp = stamp }

abbrev pub with_mark : Bool → OpenFile → OpenFile
with_mark broken old = record old { broken = broken }
