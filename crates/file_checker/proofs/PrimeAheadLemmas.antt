-- Where the rows of a file stand, each entry and each slot has what a check looks for.
use Rattle.std.proofs.Common.{◌≡◌, ◌⊎◌, inl, inr, ℕ, zero, suc, nat_eq, ◌+◌, ◌<◌, ◌≤◌, Bool, true, false, List, [], ◌∷◌, length, take, drop, map, Option, Some, None, IsSome, Result, Ok, Err, IfErr, refl, ap, sym, subst, ◌∙◌, arith}
use Rattle.std.specs.Prelude.{IsErrAnd, IsTrue, OnErr, find, slice_index_or}
use Rattle.std.proofs.lemmas.Bool.{and_parts, eq-eqb, false≢true, lt-ltb}
use Rattle.byteorder.specs.Endian.{big_number}
use Rattle.pages.specs.Each.{Each}
use Rattle.pages.specs.Marks.{marked_in}
use Rattle.pages.specs.PageList.{pages_in}
use Rattle.pages.proofs.PartLemmas.{low_or_not}
use Rattle.record_layout.specs.Schema.{prime_of, value_of}
use Rattle.indexed_file.specs.File.{Row, stamp_of}
use Rattle.indexed_file.specs.Sound.{is_row}
use Rattle.page_walks.specs.declared.leaf.Leaf.{Leaf}
use Rattle.page_walks.specs.declared.spot.LeafSpot.{LeafSpot}
use Rattle.page_walks.specs.Spots.{IsSpotThere, entry_at_spot, entries_at, spots_in}
use Rattle.record_heap.specs.declared.shape.Place.{Place}
use Rattle.record_heap.specs.Calls.{used_at}
use Rattle.record_heap.specs.Slot.{room}
use Rattle.record_heap.specs.Chain.{IsOneOf}
use Rattle.record_heap.specs.Standing.{slot_off, slot_shape}
use Rattle.record_heap.specs.Walk.{is_in_list, slots_of}
use Rattle.record_heap.proofs.ChainLemmas.{place_made}
use Rattle.page_walks.proofs.HeapAheadLemmas.{each_one}
use Rattle.key_index.specs.declared.alt_index.AltIndex.{AltIndex}
use Rattle.key_index.specs.declared.entry.AltEntry.{AltEntry}
use Rattle.key_index.specs.Standing.{alt_key}
use Rattle.key_index.specs.Stored.{IsAltEntry, IsPrimeEntry, alt_bytes, alt_entry_in, prime_bytes}
use Rattle.key_index.proofs.KeyLemmas.{prime_key}
use Rattle.key_index.proofs.StoredLemmas.{alt_back}
use Rattle.open_file.specs.Fields.{file_schema, heap_of, next_stamp_of, prime_index_of}
use Rattle.open_file.specs.InOrder.{alt_entry as entry_of, in_order, prime_entries}
use Rattle.open_file.specs.ReadOff.{row_off}
use Rattle.open_file.specs.Stands.{is_same}
use Rattle.open_file.specs.Stored.{AreAt, stored}
use Rattle.open_file.specs.declared.open_file.OpenFile.{OpenFile}
use Rattle.open_file.proofs.ByKeyLemmas.{in_order_each}
use Rattle.open_file.proofs.OrderLemmas.{either}
use Rattle.open_file.proofs.PartsLemmas.{from_eq}
use Rattle.bplus_tree.specs.Fields.{tree_shape}
use Rattle.pages.specs.declared.walk_fault.WalkFault.{WalkFault}
use Rattle.pages.specs.declared.walk_fault.WalkFault.TheVariants.{Memory, At}
use Rattle.pages.specs.Refused.{RefusesRightly}
use Rattle.file_checker.specs.Rows.{EntriesRise, place_at, places_in, prime_at, row_at, rows_in}
use Rattle.file_checker.specs.Leading.{HasEntry, IsEntryOf, PageHasEntries, PagesHaveEntries, stored_row}
use Rattle.file_checker.specs.Search.{FindsEntry, value_at}
use Rattle.file_checker.specs.RowsAhead.{AlternateAhead, HasItsRow, HasRowAhead, LeadsAhead, PrimesLead, RowsAhead}
use Rattle.file_checker.proofs.SearchLemmas.{spots_there}
use Rattle.file_checker.proofs.SlotLemmas.{no_page, own_slot}

-- ---- why a check gives up

pub refuses_rows : {X : Type 0} (S : Type 0) (r : Result X WalkFault) → OnErr r (S → ⊥) → IfErr r (RefusesRightly S)
refuses_rows S (Ok x) never = tt
refuses_rows S (Err Memory) never = tt
refuses_rows S (Err (At damage place)) never = never

-- a fault is handed on
pub on_err : {X : Type 0} (P : Type 0) (r : Result X WalkFault) → P → OnErr r P
on_err P (Ok x) p = tt
on_err P (Err fault) p = p

pub memory_handed_on : {X : Type 0} (S : Type 0) (r : Result X WalkFault) (fault : WalkFault) → IsErrAnd r (λ e. e ≡ fault) → fault ≡ Memory → IfErr r (RefusesRightly S)
memory_handed_on S (Ok x) fault was is = tt
memory_handed_on S (Err e) fault was is = subst (RefusesRightly S) (sym (was ∙ is)) tt

pub never : IsTrue false → ⊥
never h = false≢true h

-- ---- each entry of the prime index

some_there : {X : Type 0} (o : Option X) → IsSome o → (x : X) × (o ≡ Some x)
some_there None some = absurd (cc)
some_there (Some x) some = (x, refl)

-- what the entry of a row that stands leads to
record RowThere (opened : OpenFile) (list : List (List ℕ)) (own : List ℕ) (spot : LeafSpot) : Type 0 where
  pub stored : List ℕ
  pub used : slot_off (heap_of opened) (pages_in list) (place_at opened list spot) ≡ Some stored
  pub held : is_in_list own (place_at opened list spot).page ≡ true
  pub inside : (place_at opened list spot).page < length list
  pub row : is_row (file_schema opened) (next_stamp_of opened) (row_at opened list spot) ≡ true
  pub value : value_at opened list spot ≡ prime_of (file_schema opened) (row_at opened list spot).bytes

module _ (opened : OpenFile) (list : List (List ℕ)) (own : List ℕ) where
  row_there : (spot : LeafSpot) → IsTrue (is_row (file_schema opened) (next_stamp_of opened) (row_at opened list spot))
      → slots_of (slot_shape (heap_of opened)) (pages_in list) own (place_at opened list spot) ≡ Some (stored (file_schema opened) (row_at opened list spot))
      → prime_bytes (record { value = record { items = prime_of (file_schema opened) (row_at opened list spot).bytes }; place = place_at opened list spot }) ≡ prime_at opened list spot
      → IsPrimeEntry (prime_index_of opened).width (record { value = record { items = prime_of (file_schema opened) (row_at opened list spot).bytes }; place = place_at opened list spot })
      → RowThere opened list own spot
  row_there spot row here entry fits =
      let place = place_at opened list spot in
      let shape = slot_shape (heap_of opened) in
      let slot = own_slot shape (pages_in list) own place (rw here refl) in
      let found = some_there (used_at shape (pages_in list) place) slot.2 in
      record {
        stored = found.0;
        used = found.1;
        held = slot.0;
        inside = by_page found.0 found.1 (low_or_not place.page (length list));
        row = row;
        value = ap (take (prime_index_of opened).width) (sym entry) ∙ prime_key (prime_index_of opened).width _ fits;
      }
    where
      by_page : (bytes : List ℕ) → used_at (slot_shape (heap_of opened)) (pages_in list) (place_at opened list spot) ≡ Some bytes
          → ((place_at opened list spot).page < length list) ⊎ (length list ≤ (place_at opened list spot).page) → (place_at opened list spot).page < length list
      by_page bytes is (inl less) = less
      by_page bytes is (inr past) = let none = no_page (slot_shape (heap_of opened)) list (place_at opened list spot) past in let no : None ≡ Some bytes = sym none ∙ is in absurd (cc)

  each_row_there : (spots : List LeafSpot) → Each (λ row. IsTrue (is_row (file_schema opened) (next_stamp_of opened) row)) (rows_in opened list spots)
      → AreAt (file_schema opened) (slots_of (slot_shape (heap_of opened)) (pages_in list) own) (places_in opened list spots) (rows_in opened list spots)
      → map prime_bytes (prime_entries (file_schema opened) (places_in opened list spots) (rows_in opened list spots)) ≡ entries_at (tree_shape (prime_index_of opened).tree) list spots
      → Each (IsPrimeEntry (prime_index_of opened).width) (prime_entries (file_schema opened) (places_in opened list spots) (rows_in opened list spots)) → Each (RowThere opened list own) spots
  each_row_there [] rows at entries fits = tt
  each_row_there (spot ∷ spots) rows at entries fits = (row_there spot rows.0 at.0 (cc) fits.0, each_row_there spots rows.1 at.1 (cc) fits.1)

  rows_there : (primes : List Leaf) → RowsAhead opened list own primes → Each (RowThere opened list own) (spots_in primes)
  rows_there primes ahead = each_row_there (spots_in primes) ahead.stand.rows_are ahead.stand.placed.rows_at ahead.stand.entries_are ahead.stand.each

  each_leads : (marks : List Bool) → length marks ≡ length list → ((n : ℕ) → n < length marks → is_in_list own n ≡ true → marked_in marks n ≡ true)
      → (spots : List LeafSpot) → Each (IsSpotThere (tree_shape (prime_index_of opened).tree) list) spots → Each (RowThere opened list own) spots → Each (LeadsAhead opened list marks) spots
  each_leads marks long all [] there rows = tt
  each_leads marks long all (spot ∷ spots) there rows =
      let r = rows.0 in
      let is : row_at opened list spot ≡ row_off (file_schema opened) (Some r.stored) = ap (row_off (file_schema opened)) r.used in (
        record {
          there = there.0;
          stored = r.stored;
          used = r.used;
          own = all (place_at opened list spot).page (let inside = r.inside in omega (arith, inside, long)) r.held;
          row = subst (λ (row : Row). IsTrue (is_row (file_schema opened) (next_stamp_of opened) row)) is r.row;
          value = r.value ∙ ap (λ (row : Row). prime_of (file_schema opened) row.bytes) is;
        },
        each_leads marks long all spots there.1 rows.1,
      )

  -- each entry leads to its row
  pub all_lead : (marks : List Bool) (primes : List Leaf) → length marks ≡ length list → ((n : ℕ) → n < length marks → is_in_list own n ≡ true → marked_in marks n ≡ true)
      → RowsAhead opened list own primes → Each (LeadsAhead opened list marks) (spots_in primes)
  all_lead marks primes long all ahead =
      each_leads marks long all (spots_in primes) (spots_there (tree_shape (prime_index_of opened).tree) list primes ahead.there) (rows_there primes ahead)

  each_has_row : (spots : List LeafSpot) → Each (IsSpotThere (tree_shape (prime_index_of opened).tree) list) spots → Each (RowThere opened list own) spots → Each (HasItsRow opened list) spots
  each_has_row [] there rows = tt
  each_has_row (spot ∷ spots) there rows =
      (record { there = there.0; used = rw rows.0.used refl; value = rows.0.value }, each_has_row spots there.1 rows.1)

  pub primes_lead : (primes : List Leaf) → EntriesRise opened list (spots_in primes) → RowsAhead opened list own primes → PrimesLead opened list primes
  primes_lead primes rise ahead = record {
    there = ahead.there;
    rise = rise;
    rows = each_has_row (spots_in primes) (spots_there (tree_shape (prime_index_of opened).tree) list primes ahead.there) (rows_there primes ahead);
  }

-- ---- each slot in use

one_place : (p q : Place) → is_same p q ≡ true → p ≡ q
one_place p q same = let parts = and_parts _ _ same in place_made p q (from_eq p.page q.page parts.0) (from_eq p.slot q.slot parts.1)

-- the one that leads to a place
pub one_found : {X : Type 0} (f : X → Place) (xs : List X) (p : Place) → IsSome (find (is_same p) (map f xs)) → (x : X) × IsOneOf xs x × (p ≡ f x)
one_found f [] p some = absurd (cc)
one_found f (y ∷ ys) p some =
    either (is_same p (f y)) ((x : _) × IsOneOf (y ∷ ys) x × (p ≡ f x))
    (λ here. (y, inl refl, one_place p (f y) here))
    (λ other. let rest = one_found f ys p (rw other at some) in (rest.0, inr rest.1, rest.2))

-- where the entry of a slot in use is sought by its value, it is found
pub slot_found : (opened : OpenFile) (list : List (List ℕ)) (primes : List Leaf) (place : Place) (bytes value : List ℕ) (found : Option LeafSpot) → slot_off (heap_of opened) (pages_in list) place ≡ Some bytes
    → value ≡ prime_of (file_schema opened) (stored_row opened bytes).bytes → FindsEntry opened list primes value found → PrimesLead opened list primes → HasEntry opened list (spots_in primes) place
    → (spot : LeafSpot) × (found ≡ Some spot) × IsSpotThere (tree_shape (prime_index_of opened).tree) list spot × (place ≡ place_at opened list spot)
slot_found opened list primes place bytes value found used is finds lead has =
    let one = one_found (place_at opened list) (spots_in primes) place (has (rw used refl)) in
    let row = each_one (HasItsRow opened list) (spots_in primes) one.0 lead.rows one.1 in
    let here : row_at opened list one.0 ≡ stored_row opened bytes = ap (λ (p : Place). row_off (file_schema opened) (slot_off (heap_of opened) (pages_in list) p)) (sym one.2) ∙ ap (row_off (file_schema opened)) used in
    let same : value_at opened list one.0 ≡ value = row.value ∙ ap (λ (r : Row). prime_of (file_schema opened) r.bytes) here ∙ sym is in
    (one.0, finds lead.there lead.rise one.0 one.1 same, row.there, one.2)

-- so the place of what is found is the slot
pub slot_is : (opened : OpenFile) (list : List (List ℕ)) (found : Option LeafSpot) (place : Place) (spot : LeafSpot) → found ≡ Some spot
    → (other : LeafSpot) × (found ≡ Some other) × IsSpotThere (tree_shape (prime_index_of opened).tree) list other × (place ≡ place_at opened list other)
    → IsSpotThere (tree_shape (prime_index_of opened).tree) list spot × (place ≡ place_at opened list spot)
slot_is opened list found place spot is at =
    let both : Some at.0 ≡ Some spot = sym at.1 ∙ is in
    let same : at.0 ≡ spot = cc in
    (subst (IsSpotThere (tree_shape (prime_index_of opened).tree) list) same at.2, at.3 ∙ ap (place_at opened list) same)

pub in_list_at : (xs : List ℕ) (i d : ℕ) → i < length xs → is_in_list xs (slice_index_or xs i d) ≡ true
in_list_at [] i d within = absurd (omega (arith, within))
in_list_at (x ∷ xs) zero d within = rw (eq-eqb x x refl) refl
in_list_at (x ∷ xs) (suc i) d within =
    let rest = in_list_at xs i d (omega (arith, within)) in
    either (nat_eq (slice_index_or xs i d) x) (is_in_list (x ∷ xs) (slice_index_or xs i d) ≡ true) (λ here. rw here refl) (λ other. rw other rest)

-- the slots of one of the heap's own pages
pub page_has : (opened : OpenFile) (list : List (List ℕ)) (primes : List LeafSpot) (own : List ℕ) (n : ℕ) → is_in_list own n ≡ true → PagesHaveEntries opened list primes own → PageHasEntries opened list primes n
page_has opened list primes own n one all p is within used =
    let here : is_in_list own p.page ≡ true = ap (is_in_list own) is ∙ one in
    all p (rw (here, lt-ltb p.slot (room (slot_shape (heap_of opened))) within) used)

-- ---- each entry of an alternate index

module _ (opened : OpenFile) (list : List (List ℕ)) (primes : List LeafSpot) (index : AltIndex) where
  -- the row is one that the prime index leads to
  abbrev HasLeader : Row → Type 0
  HasLeader row = (leader : LeafSpot) × IsOneOf primes leader × (row ≡ row_at opened list leader)

  each_has_leader : (spots : List LeafSpot) → ((spot : LeafSpot) → IsOneOf spots spot → IsOneOf primes spot) → Each HasLeader (rows_in opened list spots)
  each_has_leader [] among = tt
  each_has_leader (spot ∷ spots) among = ((spot, among spot (inl refl), refl), each_has_leader spots (λ s one. among s (inr one)))

  each_row_ahead : (rows : List Row) (spots : List LeafSpot) → Each HasLeader rows → Each (IsSpotThere (tree_shape index.tree) list) spots
      → map alt_bytes (map (entry_of (file_schema opened) (alt_key index)) rows) ≡ entries_at (tree_shape index.tree) list spots
      → Each (IsAltEntry index.width index.prime) (map (entry_of (file_schema opened) (alt_key index)) rows) → Each (HasRowAhead opened list primes index) spots
  each_row_ahead [] [] lead there entries fits = tt
  each_row_ahead [] (spot ∷ spots) lead there entries fits = absurd (cc)
  each_row_ahead (row ∷ rows) [] lead there entries fits = absurd (cc)
  each_row_ahead (row ∷ rows) (spot ∷ spots) lead there entries fits =
      let entry = entry_of (file_schema opened) (alt_key index) row in
      let bytes : alt_bytes entry ≡ entry_at_spot (tree_shape index.tree) list spot = cc in (
        record {
          there = there.0;
          leader = lead.0.0;
          one = lead.0.1;
          is = ap (alt_entry_in index.width) (sym bytes) ∙ alt_back index.width index.prime entry fits.0 ∙ ap (entry_of (file_schema opened) (alt_key index)) lead.0.2;
        },
        each_row_ahead rows spots lead.1 there.1 (cc) fits.1,
      )

pub rows_ahead : (opened : OpenFile) (list : List (List ℕ)) (primes : List Leaf) (index : AltIndex) (leaves : List Leaf) → AlternateAhead opened list primes index leaves
    → Each (HasRowAhead opened list (spots_in primes) index) (spots_in leaves)
rows_ahead opened list primes index leaves ahead =
    each_row_ahead opened list (spots_in primes) index (in_order (file_schema opened) (alt_key index) (rows_in opened list (spots_in primes))) (spots_in leaves)
    (in_order_each (file_schema opened) (alt_key index) (HasLeader opened list (spots_in primes) index) (rows_in opened list (spots_in primes))
    (each_has_leader opened list (spots_in primes) index (spots_in primes) (λ spot one. one)))
    (spots_there (tree_shape index.tree) list leaves ahead.there) ahead.rows.entries_are ahead.rows.each

-- ---- the entry of a row, by its parts

pub record EntryParts (opened : OpenFile) (w k : ℕ) (e bytes : List ℕ) : Type 0 where
  pub value : take w e ≡ value_of (file_schema opened) k (stored_row opened bytes).bytes
  pub stamp : big_number 8 (drop w e) ≡ stamp_of k (stored_row opened bytes)
  pub prime : drop (w + 8) e ≡ prime_of (file_schema opened) (stored_row opened bytes).bytes

pub entry_parts : (opened : OpenFile) (list : List (List ℕ)) (index : AltIndex) (leader : LeafSpot) (e bytes : List ℕ) → slot_off (heap_of opened) (pages_in list) (place_at opened list leader) ≡ Some bytes
    → IsEntryOf opened list index e leader → EntryParts opened index.width (alt_key index) e bytes
entry_parts opened list index leader e bytes there is =
    let all : alt_entry_in index.width e ≡ entry_of (file_schema opened) (alt_key index) (stored_row opened bytes) =
    is ∙ ap (λ (o : Option (List ℕ)). entry_of (file_schema opened) (alt_key index) (row_off (file_schema opened) o)) there in
    record { value = ap (λ (a : AltEntry). a.value.items) all; stamp = ap (λ (a : AltEntry). a.stamp) all; prime = ap (λ (a : AltEntry). a.prime.items) all }

-- where the row of an entry is sought by its prime value, it is found
pub leader_found : (opened : OpenFile) (list : List (List ℕ)) (primes : List Leaf) (index : AltIndex) (spot : LeafSpot) (value : List ℕ) (found : Option LeafSpot)
    → value ≡ drop (index.width + 8) (entry_at_spot (tree_shape index.tree) list spot) → FindsEntry opened list primes value found → PrimesLead opened list primes
    → HasRowAhead opened list (spots_in primes) index spot
    → (leader : LeafSpot) × (found ≡ Some leader) × HasItsRow opened list leader × IsEntryOf opened list index (entry_at_spot (tree_shape index.tree) list spot) leader
leader_found opened list primes index spot value found is finds lead has =
    let row = each_one (HasItsRow opened list) (spots_in primes) has.leader lead.rows has.one in
    let same : value_at opened list has.leader ≡ value = row.value ∙ sym (ap (λ (a : AltEntry). a.prime.items) has.is) ∙ sym is in
    (has.leader, finds lead.there lead.rise has.leader has.one same, row, has.is)

pub leader_is : (opened : OpenFile) (list : List (List ℕ)) (index : AltIndex) (e : List ℕ) (found : Option LeafSpot) (leader : LeafSpot) → found ≡ Some leader
    → (other : LeafSpot) × (found ≡ Some other) × HasItsRow opened list other × IsEntryOf opened list index e other → HasItsRow opened list leader × IsEntryOf opened list index e leader
leader_is opened list index e found leader is at =
    let both : Some at.0 ≡ Some leader = sym at.1 ∙ is in
    let same : at.0 ≡ leader = cc in
    (subst (HasItsRow opened list) same at.2, subst (IsEntryOf opened list index e) same at.3)
