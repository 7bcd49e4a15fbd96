-- Rows that are copied, one after another.
use Rattle.std.proofs.Common.{◌≡◌, ℕ, suc, ◌+◌, ◌-◌, List, [], ◌∷◌, ◌++◌, length, map, take, drop, Some, refl, ap, sym, subst, ◌∙◌, arith, append_assoc, length-append, length-drop}
use Rattle.std.proofs.Math.Seq.{take-append_seam}
use Rattle.std.proofs.lemmas.List.{append-nil, take_all, take-append-drop}
use Rattle.record_layout.specs.Schema.{prime_of}
use Rattle.indexed_file.specs.File.{Row, File}
use Rattle.pages.specs.Each.{Each}
use Rattle.pages.specs.PageMap.{PageMap}
use Rattle.record_heap.specs.declared.shape.Place.{Place}
use Rattle.record_heap.specs.Chain.{Slots}
use Rattle.record_heap.specs.Standing.{HeapStands}
use Rattle.key_index.specs.declared.entry.PrimeEntry.{PrimeEntry}
use Rattle.key_index.specs.Stored.{prime_bytes, prime_entry_in, IsPrimeEntry, entry_at}
use Rattle.key_index.proofs.KeyLemmas.{prime_key}
use Rattle.key_index.proofs.StoredLemmas.{prime_back}
use Rattle.open_file.specs.InOrder.{prime_entries}
use Rattle.open_file.specs.Stored.{AreAt, stored}
use Rattle.open_file.specs.Fields.{file_schema, heap_of, prime_index_of}
use Rattle.open_file.specs.declared.open_file.OpenFile.{OpenFile}
use Rattle.file_building.specs.declared.walk.TreeWalk.{TreeWalk}
use Rattle.file_building.specs.declared.rows_builder.RowsBuilder.{RowsBuilder}
use Rattle.open_file.specs.Stands.{Stands}
use Rattle.open_file.specs.Parts.{heap_pages, prime_pages}
use Rattle.open_file.proofs.HeaderLemmas.{prime_entries_many}
use Rattle.key_index.specs.Standing.{CountsPrime}
use Rattle.byteorder.specs.Numbers.{length-bytes_high_first}
use Rattle.file_building.specs.Walk.{HasWalked, BeginsWalk}
use Rattle.file_building.specs.Rows.{HasRowsSoFar}
use Rattle.file_building.specs.CopiedRows.{RowsToCopy, HasCopiedRows, HasReadRow}

-- the place of the next row, and those behind it
pub record NextRow (source : OpenFile) (walk : TreeWalk) (live : PageMap) (row : Row) (rest : List Row) : Type 0 where
  pub slots : Slots
  pub heap_own : List ℕ
  pub heap : HeapStands (heap_of source) live slots heap_own
  pub place : Place
  pub places : List Place
  pub row_at : slots place ≡ Some (stored (file_schema source) row)
  pub rows_at : AreAt (file_schema source) slots places rest
  pub fits : IsPrimeEntry (prime_index_of source).width (entry_at (prime_of (file_schema source) row.bytes) place)
  pub each : Each (IsPrimeEntry (prime_index_of source).width) (prime_entries (file_schema source) places rest)
  pub given : List (List ℕ)
  pub own : List ℕ
  pub walked : HasWalked walk live given
      (prime_bytes (entry_at (prime_of (file_schema source) row.bytes) place) ∷ map prime_bytes (prime_entries (file_schema source) places rest)) own

pub next_row : (source : OpenFile) (walk : TreeWalk) (live : PageMap) (row : Row) (rest : List Row) → RowsToCopy source walk live (row ∷ rest) → NextRow source walk live row rest
next_row source walk live row rest a = go a.places a.rows_at a.each a.walked
  where
    go : (places : List Place) → AreAt (file_schema source) a.slots places (row ∷ rest) → Each (IsPrimeEntry (prime_index_of source).width) (prime_entries (file_schema source) places (row ∷ rest))
        → HasWalked walk live a.given (map prime_bytes (prime_entries (file_schema source) places (row ∷ rest))) a.own → NextRow source walk live row rest
    go [] at each walked = absurd at
    go (place ∷ places) at each walked = record {
      slots = a.slots;
      heap_own = a.heap_own;
      heap = a.heap;
      place = place;
      places = places;
      row_at = at.0;
      rows_at = at.1;
      fits = each.0;
      each = each.1;
      given = a.given;
      own = a.own;
      walked = walked;
    }

-- its entry leads to its place
pub place_told : (w : ℕ) (value entry : List ℕ) (place : Place) → IsPrimeEntry w (entry_at value place) → entry ≡ prime_bytes (entry_at value place) → (prime_entry_in w entry).place ≡ place
place_told w value entry place fits is = ap (λ (e : PrimeEntry). e.place) (ap (prime_entry_in w) is ∙ prime_back w (entry_at value place) fits)

-- what was read is the row
pub row_read : (source : OpenFile) (walk : TreeWalk) (live : PageMap) (row : Row) (rest : List Row) (next : NextRow source walk live row rest) (entry area old : List ℕ) (n : ℕ)
    → entry ≡ prime_bytes (entry_at (prime_of (file_schema source) row.bytes) next.place)
    → n ≡ length (stored (file_schema source) row) → area ≡ stored (file_schema source) row ++ drop (length (stored (file_schema source) row)) old
    → HasReadRow source row entry area n
row_read source walk live row rest next entry area old n is many front = record {
  value = sym (ap (take (prime_index_of source).width) is ∙ prime_key (prime_index_of source).width (entry_at (prime_of (file_schema source) row.bytes) next.place) next.fits);
  stored_is = sym (ap (λ (m : ℕ). take m area) many ∙ ap (take (length (stored (file_schema source) row))) front ∙ take-append_seam (stored (file_schema source) row) (drop (length (stored (file_schema source) row)) old));
}

-- the rows behind it are ahead
pub rows_behind : (source : OpenFile) (walk now : TreeWalk) (live : PageMap) (row : Row) (rest : List Row) (next : NextRow source walk live row rest)
    → HasWalked now live (next.given ++ prime_bytes (entry_at (prime_of (file_schema source) row.bytes) next.place) ∷ []) (map prime_bytes (prime_entries (file_schema source) next.places rest)) next.own
    → RowsToCopy source now live rest
rows_behind source walk now live row rest next walked = record {
  slots = next.slots;
  heap_own = next.heap_own;
  heap = next.heap;
  places = next.places;
  rows_at = next.rows_at;
  each = next.each;
  given = next.given ++ prime_bytes (entry_at (prime_of (file_schema source) row.bytes) next.place) ∷ [];
  own = next.own;
  walked = walked;
}

-- one row of those that are left
pub record OneLeft (source : OpenFile) (walk : TreeWalk) (builder : RowsBuilder) (live pages : PageMap) (rows : List Row) (left : ℕ) : Type 0 where
  pub done : List Row
  pub row : Row
  pub rest : List Row
  pub all : done ++ row ∷ rest ≡ rows
  pub ahead : RowsToCopy source walk live (row ∷ rest)
  pub holds : HasRowsSoFar (file_schema source) builder pages done
  pub many : length rest ≡ left

pub one_left : (source : OpenFile) (walk : TreeWalk) (builder : RowsBuilder) (live pages : PageMap) (rows : List Row) (left : ℕ) → HasCopiedRows source walk builder live pages rows (suc left) → OneLeft source walk builder live pages rows left
one_left source walk builder live pages rows left h = go h.rest h.all h.ahead h.many
  where
    go : (rest : List Row) → h.done ++ rest ≡ rows → RowsToCopy source walk live rest → length rest ≡ suc left → OneLeft source walk builder live pages rows left
    go [] all ahead many = absurd (omega (arith, many))
    go (row ∷ rest) all ahead many = record { done = h.done; row = row; rest = rest; all = all; ahead = ahead; holds = h.holds; many = omega (arith, many) }

-- it is copied
pub copied_more : (source : OpenFile) (walk now : TreeWalk) (builder built : RowsBuilder) (live pages after : PageMap) (rows : List Row) (left : ℕ) (one : OneLeft source walk builder live pages rows left)
    → RowsToCopy source now live one.rest → HasRowsSoFar (file_schema source) built after (one.done ++ one.row ∷ []) → HasCopiedRows source now built live after rows left
copied_more source walk now builder built live pages after rows left one ahead holds = record {
  done = one.done ++ one.row ∷ [];
  rest = one.rest;
  all = append_assoc one.done (one.row ∷ []) one.rest ∙ one.all;
  ahead = ahead;
  holds = holds;
  many = one.many;
}

-- none is left
pub all_copied : (source : OpenFile) (walk : TreeWalk) (builder : RowsBuilder) (live pages : PageMap) (rows : List Row) (h : HasCopiedRows source walk builder live pages rows 0) → HasRowsSoFar (file_schema source) builder pages rows
all_copied source walk builder live pages rows h = go h.rest h.all h.many
  where
    go : (rest : List Row) → h.done ++ rest ≡ rows → length rest ≡ 0 → HasRowsSoFar (file_schema source) builder pages rows
    go [] all none = subst (HasRowsSoFar (file_schema source) builder pages) (sym (append-nil h.done) ∙ all) h.holds
    go (row ∷ rest) all none = absurd (omega (arith, none))

-- the walk is behind all entries
pub record WalkEnd (walk : TreeWalk) (live : PageMap) : Type 0 where
  pub given : List (List ℕ)
  pub own : List ℕ
  pub walked : HasWalked walk live given [] own

pub walk_end : (source : OpenFile) (walk : TreeWalk) (builder : RowsBuilder) (live pages : PageMap) (rows : List Row) → HasCopiedRows source walk builder live pages rows 0 → WalkEnd walk live
walk_end source walk builder live pages rows h = go h.rest h.ahead.places h.ahead.walked h.many
  where
    go : (rest : List Row) (places : List Place) → HasWalked walk live h.ahead.given (map prime_bytes (prime_entries (file_schema source) places rest)) h.ahead.own → length rest ≡ 0 → WalkEnd walk live
    go [] [] walked none = record { given = h.ahead.given; own = h.ahead.own; walked = walked }
    go [] (place ∷ places) walked none = record { given = h.ahead.given; own = h.ahead.own; walked = walked }
    go (row ∷ rest) places walked none = absurd (omega (arith, none))

-- the front of some bytes, and the rest of them
pub cut_front : (s : List ℕ) (m n : ℕ) → m ≡ n → take m s ≡ take n s
cut_front s m n same = ap (λ (k : ℕ). take k s) same

pub cut_both : (s t : List ℕ) (n : ℕ) → t ≡ s → t ≡ take n s ++ take (length s - n) (drop n s)
cut_both s t n is =
    let whole : take (length s - n) (drop n s) ≡ drop n s = take_all (length s - n) (drop n s) (omega (arith, length-drop n s)) in
    is ∙ sym (ap (λ (l : List ℕ). take n s ++ l) whole ∙ take-append-drop n s)

-- ---- the first row

pub prime_long : (w : ℕ) (e : PrimeEntry) → IsPrimeEntry w e → length (prime_bytes e) ≡ w + 6
prime_long w e fit = simp (length-append, length-bytes_high_first) (omega (arith, fit.long))

pub primes_long : (w : ℕ) (entries : List PrimeEntry) → Each (IsPrimeEntry w) entries → Each (λ e. length e ≡ w + 6) (map prime_bytes entries)
primes_long w [] each = tt
primes_long w (e ∷ es) each = (prime_long w e each.0, primes_long w es each.1)

pub rows_begun : (source : OpenFile) (walk : TreeWalk) (builder : RowsBuilder) (live pages : PageMap) (file : File) (left count : ℕ) → Stands source live file → BeginsWalk (prime_index_of source).tree walk
    → CountsPrime (prime_index_of source) count → HasRowsSoFar (file_schema source) builder pages [] → left ≡ count → HasCopiedRows source walk builder live pages file.rows left
rows_begun source walk builder live pages file left count stands begins counts holds all =
    let index = prime_index_of source in
    let entries = prime_entries (file_schema source) stands.places file.rows in
    let own = prime_pages stands.parts.owns in
    let long = subst (λ (n : ℕ). Each (λ e. length e ≡ n) (map prime_bytes entries)) (sym index.entries) (primes_long index.width entries stands.parts.prime_stands.each) in
    record {
      done = [];
      rest = file.rows;
      all = refl;
      ahead = record {
        slots = stands.slots;
        heap_own = heap_pages stands.parts.owns;
        heap = stands.parts.heap_stands;
        places = stands.places;
        rows_at = stands.placed.rows_at;
        each = stands.parts.prime_stands.each;
        given = [];
        own = own;
        walked = begins.begun live (map prime_bytes entries) own stands.parts.prime_stands.tree long;
      };
      holds = holds;
      many = sym (prime_entries_many (file_schema source) stands.slots stands.places file.rows stands.placed.rows_at) ∙ sym (counts live entries own stands.parts.prime_stands) ∙ sym all;
    }
