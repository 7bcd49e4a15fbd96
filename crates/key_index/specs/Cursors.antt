-- Where a cursor is in its index.
use Rattle.std.specs.Prelude.{◌≡◌, ℕ, ◌*◌, ◌^◌, ◌<◌, Bool, false, IsTrue, List, ◌++◌, length, map, find}
use Rattle.std.specs.Prelude.{Option, Some, None, Result}
use Rattle.std.specs.Option.{option_map_or}
use Rattle.byteorder.specs.Endian.{big_bytes}
use Rattle.io_state.specs.declared.fault.Fault.{Fault}
use Rattle.pages.specs.PageMap.{PageMap}
use Rattle.pages.specs.Answer.{IsAnswer}
use Rattle.pages.specs.ShownPages.{ShownPages}
use Rattle.pages.specs.PageCalls.{ReadsPages}
use Rattle.bplus_tree.specs.Cursor.{Belongs}
use Rattle.bplus_tree.specs.Fields.{cursor_key}
use Rattle.key_index.specs.declared.entry.PrimeEntry.{PrimeEntry}
use Rattle.key_index.specs.declared.entry.AltEntry.{AltEntry}
use Rattle.key_index.specs.declared.prime_index.PrimeIndex.{PrimeIndex}
use Rattle.key_index.specs.declared.alt_index.AltIndex.{AltIndex}
use Rattle.key_index.specs.declared.cursor.PrimeCursor.{PrimeCursor}
use Rattle.key_index.specs.declared.cursor.AltCursor.{AltCursor}
use Rattle.key_index.specs.Stored.{prime_bytes, alt_bytes}
use Rattle.key_index.specs.Entries.{entry_has_value, after_prime, after_rank}
use Rattle.key_index.specs.Standing.{PrimeStands, AltStands, prime_height, alt_height}

-- the cursor is one of this index
abbrev pub PrimeBelongs : PrimeCursor → PrimeIndex → PageMap → List PrimeEntry → List ℕ → Type 0
PrimeBelongs cursor index pages entries own = Belongs cursor.cursor index.tree pages
    (map prime_bytes entries) own

abbrev pub AltBelongs : AltCursor → AltIndex → PageMap → List AltEntry → List ℕ → Type 0
AltBelongs cursor index pages entries own = Belongs cursor.cursor index.tree pages (map alt_bytes entries) own

-- the cursor is one of this index, behind a value
pub record IsPrimeCursor (cursor : PrimeCursor) (index : PrimeIndex) (value : List ℕ) : Type 0 where
  pub after : cursor_key cursor.cursor ≡ value
  pub belongs : (pages : PageMap) (entries : List PrimeEntry) (own : List ℕ)
      → PrimeBelongs cursor index pages entries own

-- the cursor is one of this index, behind a value and stamp
pub record IsAltCursor (cursor : AltCursor) (index : AltIndex) (value : List ℕ) (stamp : ℕ) : Type 0 where
  pub after : cursor_key cursor.cursor ≡ value ++ big_bytes 8 stamp
  pub belongs : (pages : PageMap) (entries : List AltEntry) (own : List ℕ)
      → AltBelongs cursor index pages entries own

-- the value of the entry that was given, or the one before where none was
abbrev pub value_after : List ℕ → Option PrimeEntry → List ℕ
value_after value None = value
value_after value (Some e) = e.value.items

-- the value and stamp of the entry that was given, as one key, or the one before where none was
abbrev pub rank_after : List ℕ → Option AltEntry → List ℕ
rank_after key None = key
rank_after key (Some e) = e.value.items ++ big_bytes 8 e.stamp

-- the first entry behind the cursor, which stands behind that one then
pub record PrimeHasMoved (old new : PrimeCursor) (index : PrimeIndex) (pages : PageMap)
    (entries : List PrimeEntry) (own : List ℕ) (found : Option PrimeEntry) : Type 0 where
  pub found_is : found ≡ find (after_prime (cursor_key old.cursor)) entries
  pub after : cursor_key new.cursor ≡ value_after (cursor_key old.cursor) found
  pub belongs : PrimeBelongs new index pages entries own

abbrev pub PrimeMoves : PrimeCursor → PrimeCursor → PrimeIndex → PageMap → Result (Option PrimeEntry) Fault
    → Type 0
PrimeMoves old new index pages result =
    (entries : List PrimeEntry) (own : List ℕ) → PrimeStands index pages entries own
    → PrimeBelongs old index pages entries own
    → IsAnswer result (PrimeHasMoved old new index pages entries own)

pub record AltHasMoved (value : List ℕ) (stamp : ℕ) (old new : AltCursor) (index : AltIndex)
    (pages : PageMap) (entries : List AltEntry) (own : List ℕ) (found : Option AltEntry) : Type 0 where
  pub found_is : found ≡ find (after_rank value stamp) entries
  pub after : cursor_key new.cursor ≡ rank_after (cursor_key old.cursor) found
  pub belongs : AltBelongs new index pages entries own

-- of a cursor behind a value and stamp
abbrev pub AltMoves : AltCursor → AltCursor → AltIndex → PageMap → Result (Option AltEntry) Fault → Type 0
AltMoves old new index pages result =
    (value : List ℕ) (stamp : ℕ) (entries : List AltEntry) (own : List ℕ)
    → AltStands index pages entries own → AltBelongs old index pages entries own
    → length value ≡ index.width → stamp < 2 ^ 64 → cursor_key old.cursor ≡ value ++ big_bytes 8 stamp
    → IsAnswer result (AltHasMoved value stamp old new index pages entries own)

-- whether the entry behind a cursor, which stands behind a value and stamp, has that value too
abbrev pub AltTellsNext : AltCursor → AltIndex → PageMap → Result Bool Fault → Type 0
AltTellsNext cursor index pages result =
    (value : List ℕ) (stamp : ℕ) (entries : List AltEntry) (own : List ℕ)
    → AltStands index pages entries own → AltBelongs cursor index pages entries own
    → length value ≡ index.width → stamp < 2 ^ 64 → cursor_key cursor.cursor ≡ value ++ big_bytes 8 stamp
    → IsAnswer result (λ told. told ≡ option_map_or (entry_has_value value)
    (find (after_rank value stamp) entries) false)

-- a call that moves a cursor of the prime index to the next entry
pub record MovesInPrime {S : Type 0} (shown : ShownPages S) (before after : S) (old new : PrimeCursor)
    (index : PrimeIndex) (result : Result (Option PrimeEntry) Fault) : Type 0 where
  pub moved : IsTrue (shown.state after).is_honest
      → PrimeMoves old new index (shown.state before).live result
  pub reads : ReadsPages shown (2 * prime_height index) before after result

-- the same in an index of an alternate key
pub record MovesInAlt {S : Type 0} (shown : ShownPages S) (before after : S) (old new : AltCursor)
    (index : AltIndex) (result : Result (Option AltEntry) Fault) : Type 0 where
  pub moved : IsTrue (shown.state after).is_honest → AltMoves old new index (shown.state before).live result
  pub reads : ReadsPages shown (2 * alt_height index) before after result

-- a call that tells whether the next entry has the value that a cursor stands behind
pub record TellsNextInAlt {S : Type 0} (shown : ShownPages S) (before after : S) (cursor : AltCursor)
    (index : AltIndex) (result : Result Bool Fault) : Type 0 where
  pub told : IsTrue (shown.state after).is_honest
      → AltTellsNext cursor index (shown.state before).live result
  pub reads : ReadsPages shown (2 * alt_height index) before after result
