-- Where READ NEXT goes on in an index.
use Rattle.std.specs.Prelude.{◌≡◌, ℕ, ◌+◌, ◌-◌, ◌<◌, List, ◌++◌, length, slice_index_or, Option, None, Some}
use Rattle.std.specs.Prelude.{⊤}
use Rattle.byteorder.specs.Endian.{big_bytes}
use Rattle.pages.specs.PageMap.{PageMap}
use Rattle.key_index.specs.declared.entry.PrimeEntry.{PrimeEntry}
use Rattle.key_index.specs.declared.entry.AltEntry.{AltEntry}
use Rattle.key_index.specs.declared.prime_index.PrimeIndex.{PrimeIndex}
use Rattle.key_index.specs.declared.alt_index.AltIndex.{AltIndex}
use Rattle.key_index.specs.declared.cursor.PrimeCursor.{PrimeCursor}
use Rattle.key_index.specs.declared.cursor.AltCursor.{AltCursor}
use Rattle.key_index.specs.Cursors.{PrimeBelongs, AltBelongs}
use Rattle.open_file.specs.Parts.{prime_pages, alternate_pages}
use Rattle.bplus_tree.specs.Fields.{cursor_key}
use Rattle.open_file.specs.declared.open_file.OpenFile.{OpenFile}
use Rattle.open_file.specs.declared.path.Path.{Path}
use Rattle.open_file.specs.declared.path.Path.TheVariants.{Prime, Alternate}

-- the cursor that is kept is one of its index
abbrev pub IsOnPath : Option Path → PrimeIndex → List AltIndex → PageMap → List PrimeEntry
    → (ℕ → List AltEntry) → List (List ℕ) → Type 0
IsOnPath None prime alternates pages primes entries owns = ⊤
IsOnPath (Some (Prime cursor)) prime alternates pages primes entries owns =
    PrimeBelongs cursor prime pages primes (prime_pages owns)
IsOnPath (Some (Alternate j cursor)) prime alternates pages primes entries owns =
    (index : AltIndex) → j < length alternates → index ≡ slice_index_or alternates j index
    → AltBelongs cursor index pages (entries j) (alternate_pages owns j)

-- what is so of any entries and pages that the kept cursor is on
abbrev pub WhereOnPath : OpenFile → (PageMap → List PrimeEntry → (ℕ → List AltEntry) → List (List ℕ)
    → Type 0) → Type 0
WhereOnPath opened fact =
    (pages : PageMap) (primes : List PrimeEntry) (entries : ℕ → List AltEntry) (owns : List (List ℕ))
    → IsOnPath opened.path opened.prime opened.alternates.items pages primes entries owns
    → fact pages primes entries owns

-- the path is in the prime index, and its cursor is so
abbrev pub IsInPrime : Option Path → (PrimeCursor → Type 0) → Type 0
IsInPrime None fact = ⊥
IsInPrime (Some (Prime cursor)) fact = fact cursor
IsInPrime (Some (Alternate j cursor)) fact = ⊥

-- the path is in the index of an alternate key (from 0), and its cursor is so
abbrev pub IsInAlternate : Option Path → ℕ → (AltCursor → Type 0) → Type 0
IsInAlternate None place fact = ⊥
IsInAlternate (Some (Prime cursor)) place fact = ⊥
IsInAlternate (Some (Alternate j cursor)) place fact = (j ≡ place) × fact cursor

-- a cursor of the prime index behind a value, that of the path where it is there
pub record IsBehindPrime (opened : OpenFile) (value : List ℕ) (cursor : PrimeCursor) : Type 0 where
  pub after : cursor_key cursor.cursor ≡ value
  pub belongs : WhereOnPath opened (λ pages primes entries owns.
      PrimeBelongs cursor opened.prime pages primes (prime_pages owns))

-- the same of the index of alternate key k, behind a value and stamp
pub record IsBehindAlternate (opened : OpenFile) (k : ℕ) (index : AltIndex) (value : List ℕ) (stamp : ℕ)
    (cursor : AltCursor) : Type 0 where
  pub after : cursor_key cursor.cursor ≡ value ++ big_bytes 8 stamp
  pub belongs : WhereOnPath opened (λ pages primes entries owns.
      AltBelongs cursor index pages (entries (k - 1)) (alternate_pages owns (k - 1)))

-- the path is in the prime index, behind a value
pub record LeadsInPrime (old new : OpenFile) (value : List ℕ) : Type 0 where
  pub rest : new ≡ record old { path = new.path }
  pub behind : IsInPrime new.path (IsBehindPrime old value)

-- the path is in the index of alternate key k, behind a value and stamp
pub record LeadsInAlternate (old new : OpenFile) (k : ℕ) (index : AltIndex) (value : List ℕ)
    (stamp : ℕ) : Type 0 where
  pub rest : new ≡ record old { path = new.path }
  pub behind : IsInAlternate new.path (k - 1) (IsBehindAlternate old k index value stamp)
