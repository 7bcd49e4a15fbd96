-- What the pages of the heap of a closed file hold.
use Rattle.std.specs.Prelude.{◌≡◌, ℕ, ◌+◌, ◌*◌, ◌/◌, ◌≤◌, ◌<◌, ◌↔◌, ◌==◌, ◌&&◌, nat_lt, nat_le, max, List, []}
use Rattle.std.specs.Prelude.{◌∷◌, ◌++◌, length, map, flat_map, count_by, take, drop, replicate, slice_index}
use Rattle.std.specs.Prelude.{Option, Some, None, if◌then◌else◌}
use Rattle.std.specs.List.{Contains, zip}
use Rattle.std.specs.Option.{option_map_or}
use Rattle.byteorder.specs.Endian.{big_bytes, big_number}
use Rattle.record_layout.specs.Schema.{Schema, has_duplicates}
use Rattle.indexed_file.specs.File.{Row}
use Rattle.open_file.specs.declared.first_page.Header.{Header}
use Rattle.pages.specs.PageMap.{PageMap}
use Rattle.record_heap.specs.declared.shape.Place.{Place}

-- the bytes before the stamps of a slot in use: its mark, and the record's length where lengths vary
abbrev pub slot_head : Schema → ℕ
slot_head schema = if nat_lt schema.least schema.greatest then 3 else 1

-- the bytes of a slot: the stamps and a record of the greatest length, or the link of a free slot
abbrev pub slot_size : Schema → ℕ
slot_size schema =
    max (slot_head schema + 8 * count_by has_duplicates (drop 1 schema.keys) + schema.greatest) 7

-- the bytes of the slot at a place; the slots of a page begin behind its first 16 bytes
abbrev pub slot_bytes : Schema → PageMap → Place → List ℕ
slot_bytes schema pages p = option_map_or
    (λ page. take (slot_size schema) (drop (16 + p.slot * slot_size schema) page)) (pages p.page) []

-- the stamps and the record of a slot in use, with a record of a length that the file takes
abbrev pub used_bytes : Schema → List ℕ → Option (List ℕ)
used_bytes schema slot =
    let stamps = 8 * count_by has_duplicates (drop 1 schema.keys) in
    let n = if nat_lt schema.least schema.greatest then big_number 2 (drop 1 slot) else schema.greatest in
    if (slice_index slot 0 == 1) && (nat_le schema.least n && nat_le n schema.greatest)
    then Some (take (stamps + n) (drop (slot_head schema) slot)) else None

-- the heap's pages from the first on: each begins with 'H', three zeros, the next page and eight zeros;
-- page 0 is none
abbrev pub AreHeapPages : PageMap → ℕ → List ℕ → Type 0
AreHeapPages pages first [] = first ≡ 0
AreHeapPages pages first (n ∷ ns) =
    (first ≡ n) × (next : ℕ) × (page : List ℕ) × (pages n ≡ Some page) × (length page ≡ 4096)
    × (take 16 page ≡ 72 ∷ 0 ∷ 0 ∷ 0 ∷ (big_bytes 4 next ++ replicate 8 0)) × AreHeapPages pages next ns

-- the free slots from the first on: each begins with a zero and the place of the next; page 0 is none
abbrev pub AreFreeSlots : Schema → PageMap → Place → List Place → Type 0
AreFreeSlots schema pages first [] = first.page ≡ 0
AreFreeSlots schema pages first (p ∷ ps) =
    let slot = slot_bytes schema pages p in
    (first ≡ p) × (slice_index slot 0 ≡ 0) × AreFreeSlots schema pages
    (record { page = big_number 4 (drop 1 slot); slot = big_number 2 (drop 5 slot) }) ps

-- these pages are those of the heap, with these rows at these places
pub record HoldsHeap (header : Header) (pages : PageMap) (places : List Place) (rows : List Row)
    (own : List ℕ) : Type 0 where
  pub chain : AreHeapPages pages header.first_heap own
  -- the stamps in the keys with duplicates, eight bytes each, and the record
  pub rows_at : map (λ p. used_bytes header.schema (slot_bytes header.schema pages p)) places
      ≡ map (λ row. Some (flat_map (λ s. if has_duplicates s.0 then big_bytes 8 s.1 else [])
      (zip (drop 1 header.schema.keys) row.stamps) ++ row.bytes)) rows
  pub free : List Place
  pub free_are : AreFreeSlots header.schema pages
      (record { page = header.free_slot_page; slot = header.free_slot }) free
  -- every slot of the pages is that of a row, or free
  pub every : (p : Place)
      → (Contains own p.page × (1 ≤ p.page) × (p.slot < 4080 / slot_size header.schema))
      ↔ Contains (places ++ free) p
