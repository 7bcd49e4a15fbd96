-- The records of a file, moved one after another in the order of an alternate key.
use Rattle.std.proofs.Common.{◌≡◌, ◌≤◌, ◌<◌, ℕ, suc, List, [], ◌∷◌, ◌++◌, length, take, drop, Some, ap, sym, subst, ◌∙◌, inl, inr, arith, append_assoc}
use Rattle.std.specs.Prelude.{find, Bool}
use Rattle.std.proofs.Math.Seq.{take-append_seam}
use Rattle.std.proofs.lemmas.List.{append-nil}
use Rattle.pages.specs.Each.{Each}
use Rattle.pages.specs.PageMap.{PageMap}
use Rattle.record_heap.specs.declared.shape.Place.{Place}
use Rattle.record_heap.specs.Chain.{Slots, IsOneOf}
use Rattle.record_heap.specs.Standing.{HeapStands}
use Rattle.open_file.specs.Fields.{heap_of}
use Rattle.open_file.specs.declared.open_file.OpenFile.{OpenFile}
use Rattle.key_index.specs.declared.entry.PrimeEntry.{PrimeEntry}
use Rattle.key_index.specs.declared.entry.AltEntry.{AltEntry}
use Rattle.key_index.specs.declared.alt_index.AltIndex.{AltIndex}
use Rattle.open_file.proofs.OrderLemmas.{either}
use Rattle.file_building.specs.declared.new_places.NewPlaces.{NewPlaces}
use Rattle.file_building.specs.declared.records_mover.RecordsMover.{RecordsMover}
use Rattle.file_building.specs.declared.walk.TreeWalk.{TreeWalk}
use Rattle.file_building.specs.NewPlaces.{new_place}
use Rattle.file_building.specs.Moving.{HasMovedRecords, HasMovedTo, HasMovedEntries, LeadsToRecord, IsMovedEntry, EntriesAhead, KeepsKnown, IsMover}
use Rattle.file_building.proofs.CopiedLemmas.{WalkEnd}

-- the first that passes a test is one of them
pub found_one : {X : Type 0} (test : X → Bool) (xs : List X) (x : X) → find test xs ≡ Some x → IsOneOf xs x
found_one test [] x found = absurd (cc)
found_one {X} test (y ∷ xs) x found =
    either (test y) (IsOneOf (y ∷ xs) x)
    (λ yes. let same : Some y ≡ Some x = rw yes at found in inl (let e : x ≡ y = cc in e))
    (λ no. inr (found_one test xs x (rw no at found)))

-- what was read of a record is the front of the area
pub front_read : (bytes area old : List ℕ) (n : ℕ) → n ≡ length bytes → area ≡ bytes ++ drop (length bytes) old → bytes ≡ take n area
front_read bytes area old n many front = sym (ap (λ (m : ℕ). take m area) many ∙ ap (take (length bytes)) front ∙ take-append_seam bytes (drop (length bytes) old))

-- its slot is one that pages of the old heap have
pub slot_within : (source : OpenFile) (mover : RecordsMover) (place at : Place) (live : PageMap) (slots : Slots) (own bytes : List ℕ) → IsMover source mover → HeapStands (heap_of source) live slots own → place ≡ at
    → slots at ≡ Some bytes → place.slot < mover.places.room
slot_within source mover place at live slots own bytes is_mover stands is here =
    let of = (stands.keeps.used_are at bytes here).0 in
    let same : place.slot ≡ at.slot = ap (λ (p : Place). p.slot) is in
    let rooms = is_mover.room_is in
    omega (arith, of.slot, same, rooms)

-- what is known of the places stays known of each entry
pub still_moved : (primes : List PrimeEntry) (old new : NewPlaces) (entries : List AltEntry) → KeepsKnown old new → Each (IsMovedEntry primes old) entries → Each (IsMovedEntry primes new) entries
still_moved primes old new [] keeps each = tt
still_moved primes old new (e ∷ entries) keeps each = (record { at = each.0.at; found = each.0.found; known = keeps each.0.at.place each.0.known }, still_moved primes old new entries keeps each.1)

each_more : {X : Type 0} (P : X → Type 0) (xs : List X) (x : X) → Each P xs → P x → Each P (xs ++ x ∷ [])
each_more P [] x each one = (one, tt)
each_more P (y ∷ xs) x each one = (each.0, each_more P xs x each.1 one)

-- one entry of those that are left
pub record MoveLeft (index : AltIndex) (walk : TreeWalk) (mover : RecordsMover) (live start pages : PageMap) (slots : Slots) (primes : List PrimeEntry) (entries : List AltEntry) (left : ℕ) : Type 0 where
  pub done : List AltEntry
  pub next : AltEntry
  pub rest : List AltEntry
  pub all : done ++ next ∷ rest ≡ entries
  pub ahead : EntriesAhead index walk live (next ∷ rest)
  pub leads : LeadsToRecord slots primes next
  pub others : Each (LeadsToRecord slots primes) rest
  pub holds : HasMovedRecords slots primes mover start pages
  pub known : Each (IsMovedEntry primes mover.places) done
  pub many : length rest ≡ left

pub move_left : (index : AltIndex) (walk : TreeWalk) (mover : RecordsMover) (live start pages : PageMap) (slots : Slots) (primes : List PrimeEntry) (entries : List AltEntry) (left : ℕ)
    → HasMovedEntries index walk mover live start pages slots primes entries (suc left) → MoveLeft index walk mover live start pages slots primes entries left
move_left index walk mover live start pages slots primes entries left h = go h.rest h.all h.ahead h.leads h.many
  where
    go : (rest : List AltEntry) → h.done ++ rest ≡ entries → EntriesAhead index walk live rest → Each (LeadsToRecord slots primes) rest → length rest ≡ suc left
        → MoveLeft index walk mover live start pages slots primes entries left
    go [] all ahead leads many = absurd (omega (arith, many))
    go (next ∷ rest) all ahead leads many = record {
      done = h.done;
      next = next;
      rest = rest;
      all = all;
      ahead = ahead;
      leads = leads.0;
      others = leads.1;
      holds = h.holds;
      known = h.known;
      many = omega (arith, many);
    }

-- its record is moved
pub moved_one : (index : AltIndex) (walk now : TreeWalk) (mover built : RecordsMover) (live start pages after : PageMap) (slots : Slots) (primes : List PrimeEntry) (entries : List AltEntry) (left : ℕ)
    (one : MoveLeft index walk mover live start pages slots primes entries left) → EntriesAhead index now live one.rest → (place : Place) → place ≡ one.leads.at.place
    → HasMovedTo slots primes mover built start after place → HasMovedEntries index now built live start after slots primes entries left
moved_one index walk now mover built live start pages after slots primes entries left one ahead place is to = record {
  done = one.done ++ one.next ∷ [];
  rest = one.rest;
  all = append_assoc one.done (one.next ∷ []) one.rest ∙ one.all;
  ahead = ahead;
  leads = one.others;
  holds = to.holds;
  known = each_more (IsMovedEntry primes built.places) one.done one.next (still_moved primes mover.places built.places one.done to.keeps one.known)
      (record { at = one.leads.at; found = one.leads.found; known = subst (λ (p : Place). 1 ≤ (new_place built.places p).page) is to.known });
  many = one.many;
}

-- none is left
pub record AllMoved (walk : TreeWalk) (mover : RecordsMover) (live start pages : PageMap) (slots : Slots) (primes : List PrimeEntry) (entries : List AltEntry) : Type 0 where
  pub holds : HasMovedRecords slots primes mover start pages
  pub known : Each (IsMovedEntry primes mover.places) entries
  pub end : WalkEnd walk live

pub all_moved : (index : AltIndex) (walk : TreeWalk) (mover : RecordsMover) (live start pages : PageMap) (slots : Slots) (primes : List PrimeEntry) (entries : List AltEntry)
    → HasMovedEntries index walk mover live start pages slots primes entries 0 → AllMoved walk mover live start pages slots primes entries
all_moved index walk mover live start pages slots primes entries h = go h.rest h.all h.ahead h.many
  where
    go : (rest : List AltEntry) → h.done ++ rest ≡ entries → EntriesAhead index walk live rest → length rest ≡ 0 → AllMoved walk mover live start pages slots primes entries
    go [] all ahead none = record {
      holds = h.holds;
      known = subst (Each (IsMovedEntry primes mover.places)) (sym (append-nil h.done) ∙ all) h.known;
      end = record { given = ahead.given; own = ahead.own; walked = ahead.walked };
    }
    go (e ∷ rest) all ahead none = absurd (omega (arith, none))
