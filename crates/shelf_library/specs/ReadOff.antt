-- The file that pages read as, by a header.
use Rattle.std.specs.Prelude.{ℕ, ◌+◌, ◌-◌, drop, max, min, refl}
use Rattle.record_layout.specs.Schema.{Schema, key_at}
use Rattle.indexed_file.specs.File.{File}
use Rattle.pages.specs.PageMap.{PageMap}
use Rattle.open_file.specs.declared.first_page.Header.{Header}
use Rattle.bplus_tree.specs.Fields.{tree_with}
use Rattle.key_index.specs.declared.prime_index.PrimeIndex.{PrimeIndex}
use Rattle.key_index.specs.Standing.{prime_off}
use Rattle.record_heap.specs.declared.heap.Heap.{Heap}
use Rattle.record_heap.specs.Standing.{heap_with}
use Rattle.open_file.specs.Stored.{stamps_length}
use Rattle.open_file.specs.ReadOff.{rows_off}
use Rattle.open_file.specs.Headers.{tree_at}
use Rattle.open_file.proofs.PageLengthLemmas.{at_least, at_most, is_key_length, entry_longer, entry_short}
use Rattle.open_file.proofs.PageLengthLemmas.{tree_low, in_order, has_room}

-- Lengths, and numbers of levels, kept within what a header may have. (Where it is accepted they
-- are so already.)
abbrev pub key_length : ℕ → ℕ
key_length n = max 1 (min n 250)

abbrev pub greatest_by : Schema → ℕ
greatest_by schema = min schema.greatest 4000

abbrev pub prime_by : Header → PrimeIndex
prime_by header = record {
  width = key_length (key_at header.schema 0).length;
  tree = tree_with (record {
    key = 0;
    width = key_length (key_at header.schema 0).length;
    entry = key_length (key_at header.schema 0).length + 6;
    some = at_least _;
    narrow = at_most _;
    longer = entry_longer _;
    short = entry_short _;
  }) (tree_at header 0).root (min ((tree_at header 0).height - 1) 19) header.records (tree_low _);
  narrow = is_key_length _;
  keys = refl;
  entries = refl;
  number = refl;
}

abbrev pub heap_by : Header → Heap
heap_by header = heap_with (record {
  stamps = min (stamps_length (drop 1 header.schema.keys)) 64;
  least = min header.schema.least (greatest_by header.schema);
  greatest = greatest_by header.schema;
  order = in_order _ _;
  fits = has_room _ _;
}) header.first_heap (record { page = header.free_slot_page; slot = header.free_slot })

-- the rows that the prime index leads to, and the next stamp
abbrev pub file_by : Header → PageMap → File
file_by header pages = record {
  rows = rows_off header.schema (heap_by header) pages
      (prime_off (prime_by header) pages);
  next_stamp = header.next_stamp;
}
