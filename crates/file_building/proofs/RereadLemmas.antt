-- Rows that were built, read again one after another.
use Rattle.std.proofs.Common.{◌≡◌, ℕ, suc, ◌+◌, ◌-◌, ◌≤◌, ◌<◌, Bool, true, false, List, [], ◌∷◌, ◌++◌, length, map, take, drop, Some, Result, Ok, Err, ap, sym, subst, ◌∙◌, arith, length-append, append_assoc}
use Rattle.std.specs.Prelude.{slice_range, IfOk, IfErr, IsOkUnless}
use Rattle.std.proofs.Math.Seq.{take-append_seam}
use Rattle.std.proofs.lemmas.List.{length-map, map-append, append-nil, drop-take, take-take, drop_at, length-take}
use Rattle.io_state.specs.declared.fault.Fault.{Fault}
use Rattle.io_state.specs.declared.fault.Fault.TheVariants.{Damage, Device, Full, Memory, Broken}
use Rattle.pages.specs.Answer.{IsAnswer}
use Rattle.pages.specs.Cause.{IsCaused}
use Rattle.tree_building.specs.Fresh.{IsBuildCause}
use Rattle.key_index.specs.declared.entry.AltEntry.{AltEntry}
use Rattle.open_file.specs.InOrder.{alt_entry}
use Rattle.file_building.specs.declared.batch.Batch.{Batch}
use Rattle.file_building.specs.Batches.{HasTakenEntries, EndsOffer}
use Rattle.file_building.specs.Ranks.{is_lower, Untied, AreUntied}
use Rattle.file_building.specs.Written.{rows_of, rows_with_stamps}
use Rattle.record_layout.specs.Schema.{Schema, prime_of}
use Rattle.indexed_file.specs.File.{Row}
use Rattle.indexed_file.specs.Change.{new_row}
use Rattle.pages.specs.Each.{Each}
use Rattle.pages.specs.PageMap.{PageMap}
use Rattle.record_heap.specs.declared.shape.Place.{Place}
use Rattle.record_heap.specs.Chain.{Slots}
use Rattle.record_heap.specs.Standing.{HeapStands}
use Rattle.key_index.specs.Stored.{prime_bytes, IsPrimeEntry, entry_at}
use Rattle.open_file.specs.InOrder.{prime_entries}
use Rattle.open_file.specs.Stored.{AreAt, stored, stamp_bytes, stamps_length}
use Rattle.open_file.proofs.LengthLemmas.{stamp_length}
use Rattle.file_building.specs.declared.walk.TreeWalk.{TreeWalk}
use Rattle.file_building.specs.declared.rows_builder.RowParts.{RowParts}
use Rattle.file_building.specs.Walk.{HasWalked, BeginsWalk}
use Rattle.file_building.specs.Rereading.{RowsToRead, RowsStandIn, AreAhead, EndsTaking, entry_with_stamp}
use Rattle.file_building.proofs.CopiedLemmas.{primes_long}

-- the place of the next row, and those behind it
pub record NextRecord (schema : Schema) (parts : RowParts) (walk : TreeWalk) (live : PageMap) (row : Row) (rest : List Row) : Type 0 where
  pub slots : Slots
  pub heap_own : List ℕ
  pub heap : HeapStands parts.heap live slots heap_own
  pub place : Place
  pub places : List Place
  pub row_at : slots place ≡ Some (stored schema row)
  pub rows_at : AreAt schema slots places rest
  pub fits : IsPrimeEntry parts.prime.width (entry_at (prime_of schema row.bytes) place)
  pub each : Each (IsPrimeEntry parts.prime.width) (prime_entries schema places rest)
  pub given : List (List ℕ)
  pub own : List ℕ
  pub walked : HasWalked walk live given
      (prime_bytes (entry_at (prime_of schema row.bytes) place) ∷ map prime_bytes (prime_entries schema places rest)) own

pub next_read : (schema : Schema) (parts : RowParts) (walk : TreeWalk) (live : PageMap) (row : Row) (rest : List Row) → RowsToRead schema parts walk live (row ∷ rest) → NextRecord schema parts walk live row rest
next_read schema parts walk live row rest a = go a.places a.rows_at a.each a.walked
  where
    go : (places : List Place) → AreAt schema a.slots places (row ∷ rest) → Each (IsPrimeEntry parts.prime.width) (prime_entries schema places (row ∷ rest))
        → HasWalked walk live a.given (map prime_bytes (prime_entries schema places (row ∷ rest))) a.own → NextRecord schema parts walk live row rest
    go [] at each walked = absurd at
    go (place ∷ places) at each walked = record {
      slots = a.slots;
      heap_own = a.heap_own;
      heap = a.heap;
      place = place;
      places = places;
      row_at = at.0;
      rows_at = at.1;
      fits = each.0;
      each = each.1;
      given = a.given;
      own = a.own;
      walked = walked;
    }

-- the rows behind it are ahead
pub reads_behind : (schema : Schema) (parts : RowParts) (walk now : TreeWalk) (live : PageMap) (row : Row) (rest : List Row) (next : NextRecord schema parts walk live row rest)
    → HasWalked now live (next.given ++ prime_bytes (entry_at (prime_of schema row.bytes) next.place) ∷ []) (map prime_bytes (prime_entries schema next.places rest)) next.own
    → RowsToRead schema parts now live rest
reads_behind schema parts walk now live row rest next walked = record {
  slots = next.slots;
  heap_own = next.heap_own;
  heap = next.heap;
  places = next.places;
  rows_at = next.rows_at;
  each = next.each;
  given = next.given ++ prime_bytes (entry_at (prime_of schema row.bytes) next.place) ∷ [];
  own = next.own;
  walked = walked;
}

-- what was read is the row's
pub front_read : (s area old : List ℕ) (n : ℕ) → n ≡ length s → area ≡ s ++ drop (length s) old → s ≡ take n area
front_read s area old n many front = sym (ap (λ (m : ℕ). take m area) many ∙ ap (take (length s)) front ∙ take-append_seam s (drop (length s) old))

-- the record stands behind the stamps
pub record_behind : (schema : Schema) (stamp m least n : ℕ) (bytes area : List ℕ) → m ≡ stamps_length (drop 1 schema.keys) → m + least ≤ n
    → stored schema (new_row schema stamp bytes) ≡ take n area → slice_range area m (m + least) ≡ take least bytes
record_behind schema stamp m least n bytes area stamps within is =
    let row = new_row schema stamp bytes in
    let parts = drop 1 schema.keys in
    let long : length (stamp_bytes parts row.stamps) ≡ m = stamp_length parts row.stamps (length-map parts _) ∙ sym stamps in
    let sum : m + least - m ≡ least = omega arith in
    let rest : m + (n - m) ≡ n = omega (arith, within) in
    let behind : drop m (take n area) ≡ bytes = ap (drop m) (sym is) ∙ drop_at (stamp_bytes parts row.stamps) bytes m long in
    ap (λ (k : ℕ). take k (drop m area)) sum
    ∙ sym (take-take least (n - m) (drop m area) (omega (arith, within)))
    ∙ ap (take least) (sym (ap (λ (k : ℕ). drop m (take k area)) (sym rest) ∙ drop-take m (n - m) area) ∙ behind)

-- all rows are ahead of a walk that begins
pub reads_begun : (schema : Schema) (parts : RowParts) (walk : TreeWalk) (live : PageMap) (rows : List Row) → BeginsWalk parts.prime.tree walk
    → RowsStandIn schema parts live rows → RowsToRead schema parts walk live rows
reads_begun schema parts walk live rows begins stands =
    let entries = prime_entries schema stands.places rows in
    let long = subst (λ (n : ℕ). Each (λ e. length e ≡ n) (map prime_bytes entries)) (sym parts.prime.entries) (primes_long parts.prime.width entries stands.prime.each) in
    record {
      slots = stands.slots;
      heap_own = stands.heap_own;
      heap = stands.heap;
      places = stands.places;
      rows_at = stands.rows_at;
      each = stands.prime.each;
      given = [];
      own = stands.prime_own;
      walked = begins.begun live (map prime_bytes entries) stands.prime_own stands.prime.tree long;
    }

-- ---- answers and causes

-- an answer that is given unless memory is wanting
pub given_unless : {X : Type 0} (r : Result X Fault) (P Q : X → Type 0) → ((x : X) → P x → Q x) → IfOk r P → IsOkUnless r Memory → IsAnswer r Q
given_unless (Ok x) P Q f is only = record { answer = f x is; no_damage = tt }
given_unless (Err fault) P Q f is only = record { answer = tt; no_damage = λ e. let never : Memory ≡ Damage = sym only ∙ e in cc }

pub memory_cause : {X : Type 0} (r : Result X Fault) (failed lacks : Type 0) → IsOkUnless r Memory → IfErr r (IsBuildCause failed lacks)
memory_cause (Ok x) failed lacks only = tt
memory_cause (Err fault) failed lacks only = record {
  device = λ e. absurd (let never : Memory ≡ Device = sym only ∙ e in cc);
  full = λ e. absurd (let never : Memory ≡ Full = sym only ∙ e in cc);
  not_broken = λ e. let never : Memory ≡ Broken = sym only ∙ e in cc;
}

pub reading_held : (failed failed_now : Type 0) (fault : Fault) → (failed → failed_now) → IsCaused failed ⊥ fault → IsBuildCause failed_now ⊥ fault
reading_held failed failed_now fault since is = record { device = λ e. since (is.device e); full = is.full; not_broken = is.not_broken }

pub held_since : (failed failed_now lacks lacks_now : Type 0) (fault : Fault) → (failed → failed_now) → (lacks → lacks_now) → IsBuildCause failed lacks fault → IsBuildCause failed_now lacks_now fault
held_since failed failed_now lacks lacks_now fault since on is = record { device = λ e. since (is.device e); full = λ e. on (is.full e); not_broken = is.not_broken }

-- a row is not shorter than its stamps and the shortest record
pub row_long : (schema : Schema) (stamp m n : ℕ) (bytes area : List ℕ) → m ≡ stamps_length (drop 1 schema.keys) → schema.least ≤ length bytes
    → stored schema (new_row schema stamp bytes) ≡ take n area → m + schema.least ≤ n
row_long schema stamp m n bytes area stamps long is =
    let row = new_row schema stamp bytes in
    let parts = drop 1 schema.keys in
    let first : length (stamp_bytes parts row.stamps) ≡ m = stamp_length parts row.stamps (length-map parts _) ∙ sym stamps in
    let both = length-append (stamp_bytes parts row.stamps) bytes in
    let all = ap length is in
    let few = length-take n area in
    omega (arith, first, both, all, few, long)

-- ---- one more entry

pub ends_taking : (new : Batch) (seen : List AltEntry) (ahead : Type 0) (rises : Bool) → ahead → EndsOffer new seen rises → EndsTaking new seen ahead rises
ends_taking new seen ahead true is ends = (ends, is)
ends_taking new seen ahead false is ends = ends

rows_joined : (schema : Schema) (stamp : ℕ) (xs ys : List (List ℕ)) → rows_with_stamps schema stamp (xs ++ ys) ≡ rows_with_stamps schema stamp xs ++ rows_with_stamps schema (stamp + length xs) ys
rows_joined schema stamp [] ys = ap (λ (n : ℕ). rows_with_stamps schema n ys) (omega arith)
rows_joined schema stamp (x ∷ xs) ys =
    let on : stamp + 1 + length xs ≡ stamp + suc (length xs) = omega arith in
    ap (λ (l : List Row). new_row schema stamp x ∷ l) (rows_joined schema (stamp + 1) xs ys ∙ ap (λ (n : ℕ). rows_with_stamps schema (stamp + 1) xs ++ rows_with_stamps schema n ys) on)

-- the first records of some were read, and the others are ahead
pub record HasReadSome (schema : Schema) (k : ℕ) (parts : RowParts) (walk : TreeWalk) (live : PageMap) (batch : Batch) (records : List (List ℕ)) (i : ℕ) : Type 0 where
  pub done : List (List ℕ)
  pub rest : List (List ℕ)
  pub all : done ++ rest ≡ records
  pub many : length done ≡ i
  pub taken : HasTakenEntries batch (map (alt_entry schema k) (rows_of schema done))
  pub ahead : AreAhead schema parts walk live (i + 1) rest

pub record OneToRead (schema : Schema) (k : ℕ) (parts : RowParts) (walk : TreeWalk) (live : PageMap) (batch : Batch) (records : List (List ℕ)) (i : ℕ) : Type 0 where
  pub done : List (List ℕ)
  pub bytes : List ℕ
  pub rest : List (List ℕ)
  pub all : done ++ bytes ∷ rest ≡ records
  pub many : length done ≡ i
  pub taken : HasTakenEntries batch (map (alt_entry schema k) (rows_of schema done))
  pub ahead : AreAhead schema parts walk live (i + 1) (bytes ∷ rest)

pub one_to_read : (schema : Schema) (k : ℕ) (parts : RowParts) (walk : TreeWalk) (live : PageMap) (batch : Batch) (records : List (List ℕ)) (i : ℕ) → i < length records
    → HasReadSome schema k parts walk live batch records i → OneToRead schema k parts walk live batch records i
one_to_read schema k parts walk live batch records i within h = go h.rest h.all h.ahead
  where
    go : (rest : List (List ℕ)) → h.done ++ rest ≡ records → AreAhead schema parts walk live (i + 1) rest → OneToRead schema k parts walk live batch records i
    go [] all ahead = absurd (let long = ap length all in let sum = length-append h.done [] in omega (arith, within, long, sum, h.many))
    go (bytes ∷ rest) all ahead = record { done = h.done; bytes = bytes; rest = rest; all = all; many = h.many; taken = h.taken; ahead = ahead }

-- the entries of the records up to the next one
seen_more : (schema : Schema) (k i : ℕ) (done : List (List ℕ)) (bytes : List ℕ) → length done ≡ i
    → map (alt_entry schema k) (rows_of schema (done ++ bytes ∷ [])) ≡ map (alt_entry schema k) (rows_of schema done) ++ entry_with_stamp schema k (i + 1) bytes ∷ []
seen_more schema k i done bytes many =
    let number : 1 + length done ≡ i + 1 = omega (arith, many) in
    ap (map (alt_entry schema k)) (rows_joined schema 1 done (bytes ∷ []))
    ∙ map-append (alt_entry schema k) (rows_of schema done) (rows_with_stamps schema (1 + length done) (bytes ∷ []))
    ∙ ap (λ (n : ℕ). map (alt_entry schema k) (rows_of schema done) ++ entry_with_stamp schema k n bytes ∷ []) number

pub read_more : (schema : Schema) (k : ℕ) (parts : RowParts) (walk walk_now : TreeWalk) (live : PageMap) (batch batch_now : Batch) (records : List (List ℕ)) (i : ℕ) (one : OneToRead schema k parts walk live batch records i)
    → HasTakenEntries batch_now (map (alt_entry schema k) (rows_of schema one.done) ++ entry_with_stamp schema k (i + 1) one.bytes ∷ []) → AreAhead schema parts walk_now live (i + 1 + 1) one.rest
    → HasReadSome schema k parts walk_now live batch_now records (i + 1)
read_more schema k parts walk walk_now live batch batch_now records i one taken ahead = record {
  done = one.done ++ one.bytes ∷ [];
  rest = one.rest;
  all = append_assoc one.done (one.bytes ∷ []) one.rest ∙ one.all;
  many = length-append one.done (one.bytes ∷ []) ∙ omega (arith, one.many);
  taken = subst (HasTakenEntries batch_now) (sym (seen_more schema k i one.done one.bytes one.many)) taken;
  ahead = ahead;
}

each_front : {X : Type 0} (P : X → Type 0) (xs ys : List X) → Each P (xs ++ ys) → Each P xs
each_front P [] ys all = tt
each_front P (x ∷ xs) ys all = (all.0, each_front P xs ys all.1)

untied_front : (xs ys : List AltEntry) → AreUntied is_lower (xs ++ ys) → AreUntied is_lower xs
untied_front [] ys all = tt
untied_front (x ∷ xs) ys all = (each_front (Untied is_lower x) xs ys all.0, untied_front xs ys all.1)

-- where two of the first entries have one rank, two of all have it
pub tied_all : (schema : Schema) (k : ℕ) (parts : RowParts) (walk : TreeWalk) (live : PageMap) (batch : Batch) (records : List (List ℕ)) (i : ℕ) (one : OneToRead schema k parts walk live batch records i)
    → (AreUntied is_lower (map (alt_entry schema k) (rows_of schema one.done) ++ entry_with_stamp schema k (i + 1) one.bytes ∷ []) → ⊥)
    → AreUntied is_lower (map (alt_entry schema k) (rows_of schema records)) → ⊥
tied_all schema k parts walk live batch records i one tied untied =
    let first = one.done ++ one.bytes ∷ [] in
    let split : map (alt_entry schema k) (rows_of schema records) ≡ map (alt_entry schema k) (rows_of schema first) ++ map (alt_entry schema k) (rows_with_stamps schema (1 + length first) one.rest) =
    ap (λ (l : List (List ℕ)). map (alt_entry schema k) (rows_of schema l)) (sym (append_assoc one.done (one.bytes ∷ []) one.rest ∙ one.all))
    ∙ ap (map (alt_entry schema k)) (rows_joined schema 1 first one.rest)
    ∙ map-append (alt_entry schema k) (rows_of schema first) (rows_with_stamps schema (1 + length first) one.rest) in
    let here = untied_front (map (alt_entry schema k) (rows_of schema first)) (map (alt_entry schema k) (rows_with_stamps schema (1 + length first) one.rest)) (subst (AreUntied is_lower) split untied) in
    tied (subst (AreUntied is_lower) (seen_more schema k i one.done one.bytes one.many) here)

-- where all were read, all were taken
pub all_read : (schema : Schema) (k : ℕ) (parts : RowParts) (walk : TreeWalk) (live : PageMap) (batch : Batch) (records : List (List ℕ)) (i : ℕ) → length records ≤ i
    → HasReadSome schema k parts walk live batch records i → HasTakenEntries batch (map (alt_entry schema k) (rows_of schema records))
all_read schema k parts walk live batch records i within h = go h.rest h.all
  where
    go : (rest : List (List ℕ)) → h.done ++ rest ≡ records → HasTakenEntries batch (map (alt_entry schema k) (rows_of schema records))
    go [] all = subst (λ (l : List (List ℕ)). HasTakenEntries batch (map (alt_entry schema k) (rows_of schema l))) (sym (append-nil h.done) ∙ all) h.taken
    go (bytes ∷ rest) all = absurd (let long = ap length all in let sum = length-append h.done (bytes ∷ rest) in omega (arith, within, long, sum, h.many))
