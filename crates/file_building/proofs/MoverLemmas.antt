-- Records that are moved, one behind the other.
use Rattle.std.proofs.Common.{◌≡◌, ◌≢◌, ◌⊎◌, inl, inr, true, ℕ, ◌≤◌, List, [], Some, None, Result, Ok, Err, refl, ap, sym, subst, ◌∙◌, arith}
use Rattle.std.specs.Prelude.{Option, IsSome, is_some, OnOk}
use Rattle.io_state.specs.declared.fault.Fault.{Fault}
use Rattle.io_state.specs.declared.fault.Fault.TheVariants.{Damage, Device, Full, Memory, Broken}
use Rattle.pages.specs.PageMap.{PageMap}
use Rattle.pages.specs.Owners.{ChangesPages}
use Rattle.pages.specs.Answer.{IsAnswer}
use Rattle.bplus_tree.proofs.RemoveLemmas.{changes_trans}
use Rattle.record_heap.specs.declared.shape.Place.{Place}
use Rattle.record_heap.specs.declared.builder.HeapBuilder.{HeapBuilder}
use Rattle.record_heap.specs.declared.heap.Heap.{Heap}
use Rattle.record_heap.specs.Chain.{Slots, put_slot, no_slots}
use Rattle.record_heap.specs.Filling.{IsFilling}
use Rattle.record_heap.specs.Standing.{HeapStands}
use Rattle.record_heap.proofs.ChainLemmas.{put_here, put_there, at_place}
use Rattle.key_index.specs.declared.entry.PrimeEntry.{PrimeEntry}
use Rattle.open_file.proofs.PartsLemmas.{some_none}
use Rattle.tree_building.specs.Fresh.{IsBuildCause}
use Rattle.file_building.specs.declared.new_places.NewPlaces.{NewPlaces}
use Rattle.file_building.specs.declared.records_mover.RecordsMover.{RecordsMover}
use Rattle.file_building.specs.NewPlaces.{new_place, HasNewPlace, AreNowhere}
use Rattle.file_building.specs.Moving.{HasMovedRecords, HasMovedTo, IsMoved, CameFrom, IsToMove}

-- two things that are known of an answer give a third
pub both_known : (r : Result Unit Fault) (A B C : Type 0) → (A → B → C) → IsAnswer r (λ done. A) → OnOk r B → IsAnswer r (λ done. C)
both_known (Ok done) A B C f a b = record { answer = f a.answer b; no_damage = tt }
both_known (Err fault) A B C f a b = record { answer = tt; no_damage = a.no_damage }

-- want of memory, and damage, need no cause
pub memory_cause : (failed ran_out : Type 0) (fault : Fault) → (fault ≡ Memory) ⊎ (fault ≡ Damage) → IsBuildCause failed ran_out fault
memory_cause failed ran_out fault (inl is) = record {
  device = λ e. absurd (let never : Memory ≡ Device = sym is ∙ e in cc);
  full = λ e. absurd (let never : Memory ≡ Full = sym is ∙ e in cc);
  not_broken = λ e. let never : Memory ≡ Broken = sym is ∙ e in cc;
}
memory_cause failed ran_out fault (inr is) = record {
  device = λ e. absurd (let never : Damage ≡ Device = sym is ∙ e in cc);
  full = λ e. absurd (let never : Damage ≡ Full = sym is ∙ e in cc);
  not_broken = λ e. let never : Damage ≡ Broken = sym is ∙ e in cc;
}

-- ---- no records yet

pub nothing_moved : (heap : HeapBuilder) (places : NewPlaces) (room : ℕ) (pages : PageMap) (slots : Slots) (primes : List PrimeEntry) → IsFilling heap pages no_slots [] [] → AreNowhere room places
    → HasMovedRecords slots primes (record { heap = heap; places = places }) pages pages
nothing_moved heap places room pages slots primes filling none = record {
  now = no_slots;
  own = [];
  order = [];
  filling = filling;
  changes = record { others = λ n some out. (refl, out); no_stray = λ n some out. (some, out); apart = tt };
  moved = record {
    moved = λ p known. absurd (let page = ap (λ (q : Place). q.page) (none.none p) in omega (arith, known, page));
    from = λ p some. absurd (some_none (no_slots p) some refl);
  };
}

-- ---- one record more

-- a place in use is in a page
pub used_page : (heap : Heap) (pages : PageMap) (slots : Slots) (own : List ℕ) → HeapStands heap pages slots own → (p : Place) → IsSome (slots p) → 1 ≤ p.page
used_page heap pages slots own stands p some = go (slots p) refl some
  where
    go : (o : Option (List ℕ)) → slots p ≡ o → is_some o ≡ true → 1 ≤ p.page
    go None is never = absurd (cc)
    go (Some bytes) is one = (stands.keeps.used_are p bytes is).0.some

module _ (slots : Slots) (primes : List PrimeEntry) (old new : RecordsMover) (start before after : PageMap) (h : HasMovedRecords slots primes old start before) (place to : Place) (bytes : List ℕ)
    (is : IsToMove slots primes old place bytes) (free : h.now to ≡ None) (own : List ℕ) (order : List Place) (filling : IsFilling new.heap after (put_slot h.now to (Some bytes)) own order)
    (put : new_place new.places place ≡ to) (others : (p : Place) → p ≢ place → new_place new.places p ≡ new_place old.places p) where
  abbrev now : Slots
  now = put_slot h.now to (Some bytes)

  page_of_it : 1 ≤ to.page
  page_of_it = (filling.stands.keeps.used_are to bytes (put_here h.now to (Some bytes))).0.some

  known_now : HasNewPlace new.places place
  known_now = subst (λ (q : Place). 1 ≤ q.page) (sym put) page_of_it

  here_now : IsMoved slots now place (new_place new.places place)
  here_now = record { bytes = bytes; was = is.here; is = ap now put ∙ put_here h.now to (Some bytes) }

  moved_now : (p : Place) → HasNewPlace new.places p → IsMoved slots now p (new_place new.places p)
  moved_now p known = at_place (IsMoved slots now p (new_place new.places p)) place p
      (λ e. subst (λ (q : Place). IsMoved slots now q (new_place new.places q)) (sym e) here_now)
      (λ other. let same = others p other in
      let it = h.moved.moved p (subst (λ (q : Place). 1 ≤ q.page) same known) in
      let apart : new_place old.places p ≢ to = λ e. let none : None ≡ Some it.bytes = sym (ap h.now e ∙ free) ∙ it.is in cc in
      record { bytes = it.bytes; was = it.was; is = ap now same ∙ put_there h.now to (new_place old.places p) (Some bytes) apart ∙ it.is })

  from_now : (q : Place) → IsSome (now q) → CameFrom primes new.places q
  from_now q some = at_place (CameFrom primes new.places q) to q
      (λ e. record { entry = is.entry; one = is.one; here = ap (new_place new.places) (sym is.place_is) ∙ put ∙ sym e })
      (λ other. let was : IsSome (h.now q) = ap is_some (sym (put_there h.now to q (Some bytes) other)) ∙ some in
      let it = h.moved.from q was in
      let page = used_page _ _ h.now h.own h.filling.stands q was in
      let elsewhere : it.entry.place ≢ place = λ e. let zero_page : q.page ≡ 0 = sym (ap (λ (x : Place). x.page) it.here) ∙ ap (λ (x : Place). (new_place old.places x).page) e ∙ is.unknown in omega (arith, page, zero_page) in
      record { entry = it.entry; one = it.one; here = others it.entry.place elsewhere ∙ it.here })

  pub moved_more : ChangesPages before after h.own own → HasMovedTo slots primes old new start after place
  moved_more changes = record {
    holds = record {
      now = now;
      own = own;
      order = order;
      filling = filling;
      changes = changes_trans start before after [] h.own own h.changes changes;
      moved = record { moved = moved_now; from = from_now };
    };
    keeps = λ p known. at_place (HasNewPlace new.places p) place p
        (λ e. subst (HasNewPlace new.places) (sym e) known_now)
        (λ other. subst (λ (q : Place). 1 ≤ q.page) (sym (others p other)) known);
    known = known_now;
  }
