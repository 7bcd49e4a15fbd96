-- What is wrong with the rows of a file, and where.
use Rattle.std.proofs.Common.{◌≡◌, ◌⊎◌, inl, inr, ℕ, zero, suc, ◌<◌, ◌≤◌, Bool, true, false, List, [], ◌∷◌, length, Option, Some, None, IsSome, Result, Ok, Err, IfErr, OnOk, refl, ap, sym, subst, ◌∙◌, arith}
use Rattle.std.specs.Prelude.{IsErrAnd, nat_eq, slice_index_or}
use Rattle.std.proofs.lemmas.Bool.{eq-eqb}
use Rattle.pages.specs.Each.{Each}
use Rattle.pages.specs.Marks.{marked_in}
use Rattle.pages.specs.PageList.{pages_in}
use Rattle.pages.specs.declared.fault_place.FaultPlace.{FaultPlace}
use Rattle.pages.specs.declared.fault_place.FaultPlace.TheVariants.{Entry}
use Rattle.pages.specs.declared.damage.Damage.TheVariants.{Index}
use Rattle.pages.specs.declared.walk_fault.WalkFault.{WalkFault}
use Rattle.pages.specs.declared.walk_fault.WalkFault.TheVariants.{Memory, At}
use Rattle.pages.proofs.PartLemmas.{low_or_not}
use Rattle.record_layout.specs.Schema.{prime_of}
use Rattle.indexed_file.specs.File.{Row}
use Rattle.page_walks.specs.declared.leaf.Leaf.{Leaf}
use Rattle.page_walks.specs.declared.spot.LeafSpot.{LeafSpot}
use Rattle.page_walks.specs.Spots.{IsSpotThere, spots_below, spots_in}
use Rattle.record_heap.specs.declared.shape.Place.{Place}
use Rattle.record_heap.specs.Calls.{used_at}
use Rattle.record_heap.specs.Slot.{room}
use Rattle.record_heap.specs.Chain.{IsOneOf}
use Rattle.record_heap.specs.Standing.{slot_off, slot_shape}
use Rattle.record_heap.specs.Walk.{is_in_list}
use Rattle.open_file.specs.Fields.{file_schema, heap_of, prime_index_of}
use Rattle.open_file.specs.ReadOff.{row_off}
use Rattle.open_file.specs.declared.open_file.OpenFile.{OpenFile}
use Rattle.open_file.proofs.OrderLemmas.{either}
use Rattle.open_file.proofs.PartsLemmas.{from_eq}
use Rattle.bplus_tree.specs.Fields.{tree_shape}
use Rattle.file_checker.specs.Rows.{EntriesRise, place_at, row_at}
use Rattle.file_checker.specs.Leading.{HasEntry, LeadsToRow}
use Rattle.file_checker.specs.Search.{IsPrimeLeaf}
use Rattle.file_checker.specs.RowsAhead.{HasItsRow, LeadsAhead, PrimesLead}
use Rattle.file_checker.specs.RowFaults.{HasNoEntry, IsEntryFault, LeadsToOwn, TellsOfRows}
use Rattle.file_checker.specs.Comparing.{HasLeaders, Judges, PagesRead}
use Rattle.file_checker.proofs.SearchLemmas.{spots_there}
use Rattle.file_checker.proofs.SlotLemmas.{no_page}
use Rattle.file_checker.proofs.SpotLemmas.{one_left, one_right}

-- ---- why a check gives up

-- a fault that is handed on
pub rows_on : {X : Type 0} (P : WalkFault → Type 0) (r : Result X WalkFault) (fault : WalkFault) → IsErrAnd r (λ e. e ≡ fault) → P fault → IfErr r P
rows_on P (Ok x) fault was h = tt
rows_on P (Err e) fault was h = subst P (sym was) h

pub never_ok : {X : Type 0} (P : Type 0) (r : Result X WalkFault) (fault : WalkFault) → IsErrAnd r (λ e. e ≡ fault) → OnOk r P
never_ok P (Ok x) fault was = absurd was
never_ok P (Err e) fault was = tt

-- a check that hands on the fault of another one
pub handed_on : {Stands Ahead : Type 0} {IsWrong : FaultPlace → Type 0} (read : PagesRead) (r : Result Unit WalkFault) (fault : WalkFault) → IsErrAnd r (λ e. e ≡ fault)
    → (HasLeaders read → Ahead → ⊥) → (HasLeaders read → TellsOfRows IsWrong fault) → Judges read Stands Ahead IsWrong r
handed_on read (Ok x) fault was never told = absurd was
handed_on {IsWrong = IsWrong} read (Err e) fault was never told = record { stands = tt; refused = never; told = λ lead. subst (TellsOfRows IsWrong) (sym was) (told lead) }

module _ (P Q : FaultPlace → Type 0) where
  -- what is told more exactly is told
  pub rows_more : (fault : WalkFault) → ((place : FaultPlace) → P place → Q place) → TellsOfRows P fault → TellsOfRows Q fault
  rows_more Memory f h = tt
  rows_more (At damage place) f h = (h.0, f place h.1)

-- ---- entries

pub entry_told : (spots : List LeafSpot) (P : LeafSpot → Type 0) (spot : LeafSpot) (fault : WalkFault) → fault ≡ At Index (Entry spot.page spot.place) → IsOneOf spots spot → (P spot → ⊥) → TellsOfRows (IsEntryFault spots P) fault
entry_told spots P spot fault is one wrong = subst (TellsOfRows (IsEntryFault spots P)) (sym is) (refl, record { spot = spot; one = one; told = refl; wrong = wrong })

-- among more places, and where less holds
pub entry_more : (spots more : List LeafSpot) (P Q : LeafSpot → Type 0) → ((spot : LeafSpot) → IsOneOf spots spot → IsOneOf more spot) → ((spot : LeafSpot) → Q spot → P spot)
    → (place : FaultPlace) → IsEntryFault spots P place → IsEntryFault more Q place
entry_more spots more P Q among less place h = record { spot = h.spot; one = among h.spot h.one; told = h.told; wrong = λ q. h.wrong (less h.spot q) }

-- the places of a leaf are among those of all
pub one_of_leaf : (leaves : List Leaf) (i : ℕ) (none : Leaf) → i < length leaves → (spot : LeafSpot) → IsOneOf (spots_below (slice_index_or leaves i none).page (slice_index_or leaves i none).count) spot
    → IsOneOf (spots_in leaves) spot
one_of_leaf [] i none within spot one = absurd (omega (arith, within))
one_of_leaf (leaf ∷ leaves) zero none within spot one = one_left (spots_below leaf.page leaf.count) (spots_in leaves) spot one
one_of_leaf (leaf ∷ leaves) (suc i) none within spot one =
    one_right (spots_below leaf.page leaf.count) (spots_in leaves) spot (one_of_leaf leaves i none (omega (arith, within)) spot one)

-- ---- slots

module _ (opened : OpenFile) (list : List (List ℕ)) (primes : List LeafSpot) where
  used_or_none : (p : Place) → (HasEntry opened list primes p → ⊥) → (o : Option (List ℕ)) → slot_off (heap_of opened) (pages_in list) p ≡ o → IsSome (slot_off (heap_of opened) (pages_in list) p)
  used_or_none p wrong (Some bytes) is = rw is refl
  used_or_none p wrong None is = absurd (wrong (λ used. absurd (nothing (slot_off (heap_of opened) (pages_in list) p) is used)))
    where
      nothing : (o : Option (List ℕ)) → o ≡ None → IsSome o → ⊥
      nothing None none some = (let bad : false ≡ true = some in cc)
      nothing (Some bytes) none some = cc none

  -- a slot of a page that has no entry
  pub slot_told : (slot : Place) (fault : WalkFault) → fault ≡ At Index (Entry slot.page slot.slot) → slot.slot < room (slot_shape (heap_of opened)) → (HasEntry opened list primes slot → ⊥)
      → TellsOfRows (HasNoEntry opened list primes (slot.page ∷ [])) fault
  slot_told slot fault is within wrong = subst (TellsOfRows (HasNoEntry opened list primes (slot.page ∷ []))) (sym is) (
    refl,
    record {
      slot = slot;
      page = here;
      within = within;
      told = refl;
      used = used_or_none slot wrong (slot_off (heap_of opened) (pages_in list) slot) refl;
      none = λ some. wrong (λ used. some);
    },
  )
    where
      here : is_in_list (slot.page ∷ []) slot.page ≡ true
      here = rw (eq-eqb slot.page slot.page refl) refl

  -- of one of these pages
  pub slot_more : (own : List ℕ) (n : ℕ) → is_in_list own n ≡ true → (place : FaultPlace) → HasNoEntry opened list primes (n ∷ []) place → HasNoEntry opened list primes own place
  slot_more own n one place h = record { slot = h.slot; page = ap (is_in_list own) (is_it h.slot.page h.page) ∙ one; within = h.within; told = h.told; used = h.used; none = h.none }
    where
      is_it : (m : ℕ) → is_in_list (n ∷ []) m ≡ true → m ≡ n
      is_it m h = either (nat_eq m n) (m ≡ n) (λ yes. from_eq m n yes) (λ no. (let bad : false ≡ true = rw no at h in absurd (cc)))

-- ---- all rows

module _ (opened : OpenFile) (list : List (List ℕ)) where
  used_inside : (p : Place) (bytes : List ℕ) → used_at (slot_shape (heap_of opened)) (pages_in list) p ≡ Some bytes → p.page < length list
  used_inside p bytes is = go (low_or_not p.page (length list))
    where
      go : (p.page < length list) ⊎ (length list ≤ p.page) → p.page < length list
      go (inl less) = less
      go (inr past) = let none = no_page (slot_shape (heap_of opened)) list p past in let no : None ≡ Some bytes = sym none ∙ is in absurd (cc)

  -- by marks on these pages
  pub leads_by_marks : (own : List ℕ) (marks : List Bool) → length marks ≡ length list → ((n : ℕ) → n < length marks → is_in_list own n ≡ true → marked_in marks n ≡ true)
      → (spot : LeafSpot) → LeadsToOwn opened list own spot → LeadsAhead opened list marks spot
  leads_by_marks own marks long all spot h = record {
    there = h.there;
    stored = h.stored;
    used = h.used;
    own = all (place_at opened list spot).page (let inside = used_inside (place_at opened list spot) h.stored h.used in omega (arith, inside, long)) h.page;
    row = h.row;
    value = h.value;
  }

  each_found : (marks : List Bool) (spots : List LeafSpot) → Each (IsSpotThere (tree_shape (prime_index_of opened).tree) list) spots → Each (LeadsToRow opened list marks) spots → Each (HasItsRow opened list) spots
  each_found marks [] there leads = tt
  each_found marks (spot ∷ spots) there leads =
      let is : row_at opened list spot ≡ row_off (file_schema opened) (Some leads.0.stored) = ap (row_off (file_schema opened)) leads.0.there in (
        record { there = there.0; used = rw leads.0.there refl; value = leads.0.value ∙ sym (ap (λ (row : Row). prime_of (file_schema opened) row.bytes) is) },
        each_found marks spots there.1 leads.1,
      )

  -- each entry was found to lead to its row
  pub primes_found : (marks : List Bool) (primes : List Leaf) → Each (IsPrimeLeaf opened list) primes → EntriesRise opened list (spots_in primes) → Each (LeadsToRow opened list marks) (spots_in primes)
      → PrimesLead opened list primes
  primes_found marks primes there rise leads = record {
    there = there;
    rise = rise;
    rows = each_found marks (spots_in primes) (spots_there (tree_shape (prime_index_of opened).tree) list primes there) leads;
  }
