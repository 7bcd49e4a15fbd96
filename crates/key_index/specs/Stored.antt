-- Entries as bytes: what a leaf of an index has of each. Numbers have their high byte first.
use Rattle.std.specs.Prelude.{◌≡◌, ℕ, ◌+◌, ◌<◌, ◌≤◌, ◌^◌, List, ◌++◌, length, take, drop}
use Rattle.byteorder.specs.Endian.{big_bytes, big_number}
use Rattle.pages.specs.Each.{Each}
use Rattle.record_heap.specs.declared.shape.Place.{Place}
use Rattle.key_index.specs.declared.entry.PrimeEntry.{PrimeEntry}
use Rattle.key_index.specs.declared.entry.AltEntry.{AltEntry}

-- a value, then the page (4 bytes) and the slot (2) of its record
abbrev pub prime_bytes : PrimeEntry → List ℕ
prime_bytes e = e.value.items ++ (big_bytes 4 e.place.page ++ big_bytes 2 e.place.slot)

-- a value and a stamp (8 bytes), then the prime value of its record
abbrev pub alt_bytes : AltEntry → List ℕ
alt_bytes e = e.value.items ++ (big_bytes 8 e.stamp ++ e.prime.items)

-- the place of the bytes behind a value
abbrev pub place_in : List ℕ → Place
place_in bytes = record { page = big_number 4 bytes; slot = big_number 2 (drop 4 bytes) }

-- the entry of these bytes
abbrev pub prime_entry_in : ℕ → List ℕ → PrimeEntry
prime_entry_in width bytes = record {
  value = record { items = take width bytes };
  place = record { page = big_number 4 (drop width bytes); slot = big_number 2 (drop (width + 4) bytes) };
}

abbrev pub alt_entry_in : ℕ → List ℕ → AltEntry
alt_entry_in width bytes = record {
  value = record { items = take width bytes };
  stamp = big_number 8 (drop width bytes);
  prime = record { items = drop (width + 8) bytes };
}

-- an entry whose value has so many bytes
pub record IsPrimeEntry (width : ℕ) (e : PrimeEntry) : Type 0 where
  pub long : length e.value.items ≡ width
  pub bytes : Each (λ b. b < 256) e.value.items
  pub page : e.place.page < 2 ^ 32
  pub slot : e.place.slot < 2 ^ 16

-- an entry whose value, and whose record's prime value, have so many bytes
pub record IsAltEntry (width prime : ℕ) (e : AltEntry) : Type 0 where
  pub long : length e.value.items ≡ width
  pub bytes : Each (λ b. b < 256) e.value.items
  pub stamp : e.stamp < 2 ^ 64
  pub prime_long : length e.prime.items ≡ prime

-- a length of the values of an index
pub record IsWidth (width : ℕ) : Type 0 where
  pub some : 1 ≤ width
  pub narrow : width ≤ 250

-- a number of levels that an index may have
pub record IsHeight (height : ℕ) : Type 0 where
  pub levels : 1 ≤ height
  pub low : height ≤ 20

-- the lengths of values and prime values, and the number of levels, of an index of an alternate key
pub record IsAltHeader (long prime_long levels : ℕ) : Type 0 where
  pub width : IsWidth long
  pub prime : prime_long ≤ 250
  pub height : IsHeight levels

-- as many bytes as an entry of a value and a prime value of these lengths has
pub record HasAltLength (long prime_long : ℕ) (bytes : List ℕ) : Type 0 where
  pub width : long ≤ 250
  pub prime : prime_long ≤ 250
  pub whole : length bytes ≡ long + 8 + prime_long

-- the entry of a value and a place
abbrev pub entry_at : List ℕ → Place → PrimeEntry
entry_at value place = record { value = record { items = value }; place = place }

-- the entry of a value, a stamp and a prime value
abbrev pub entry_to : List ℕ → ℕ → List ℕ → AltEntry
entry_to value stamp prime = record {
  value = record { items = value };
  stamp = stamp;
  prime = record { items = prime };
}
