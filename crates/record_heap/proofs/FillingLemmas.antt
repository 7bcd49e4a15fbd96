-- A heap that is built, whose last page is in memory.
use Rattle.std.proofs.Common.{◌≡◌, ◌≢◌, ◌⊎◌, ℕ, zero, suc, ◌+◌, ◌<◌, ◌≤◌, true, false, List, [], ◌∷◌, ◌++◌, Option, Some, None, IsSome, Ok, Err, Result, refl, ap, sym, subst, ◌∙◌, append_assoc, arith, inl, inr}
use Rattle.std.proofs.lemmas.Bool.{lt-ltb, le-ltb}
use Rattle.std.specs.Prelude.{nat_lt, OnOk, OnErr, IfErr, IsTrue, IsErrAnd, ⊤}
use Rattle.std.proofs.lemmas.Bool.Decides.{eqb_tells}
use Rattle.std.proofs.Math.Dec.{eqb}
use Rattle.io_state.specs.declared.fault.Fault.{Fault}
use Rattle.io_state.specs.declared.fault.Fault.TheVariants.{Damage}
use Rattle.pages.specs.Each.{Each}
use Rattle.pages.specs.PageMap.{PageMap, Takes, Writes}
use Rattle.pages.specs.PagesState.{PagesState}
use Rattle.record_heap.specs.declared.shape.SlotShape.{SlotShape}
use Rattle.record_heap.specs.declared.shape.Place.{Place}
use Rattle.record_heap.specs.declared.heap.Heap.{Heap}
use Rattle.record_heap.specs.declared.builder.HeapBuilder.{HeapBuilder}
use Rattle.record_heap.specs.Slot.{room, used_in, behind_in}
use Rattle.record_heap.specs.Slots.{behind_new, AreLinked, AreLinkedFrom, Edits, IsHeapPage}
use Rattle.record_heap.specs.Chain.{Slots, put_slot, IsOneOf, KeepsSlots}
use Rattle.record_heap.specs.Calls.{used_at, behind_at}
use Rattle.record_heap.specs.Standing.{HeapStands, IsPageChain, heap_with}
use Rattle.record_heap.specs.Order.{rising}
use Rattle.record_heap.specs.Filling.{with_page, next_slot, built_heap, places_filled, IsFilling, FillsOn, Fills, StandsWritten, HasFilled}
use Rattle.record_heap.proofs.ChainLemmas.{each_weaker, some_same, taken}
use Rattle.record_heap.proofs.EditLemmas.{edited_there, room_some}
use Rattle.record_heap.proofs.StandLemmas.{chain_written, slot_there, rewritten, heap_kept, each_of, changes_in}
use Rattle.record_heap.proofs.GrowLemmas.{stands_grown, changes_grown, changes_none, changes_on, free_outside}
use Rattle.record_heap.proofs.HeapLemmas.{fails}

-- ---- one page of others

pub with_here : (pages : PageMap) (n : ℕ) (bytes : List ℕ) → with_page pages n bytes n ≡ Some bytes
with_here pages n bytes = go (eqb_tells n n)
  where
    go : ((eqb n n ≡ true) × (n ≡ n)) ⊎ ((eqb n n ≡ false) × (n ≢ n)) → with_page pages n bytes n ≡ Some bytes
    go (inl a) = rw a.0 refl
    go (inr b) = absurd (b.1 refl)

pub with_there : (pages : PageMap) (n m : ℕ) (bytes : List ℕ) → m ≢ n → with_page pages n bytes m ≡ pages m
with_there pages n m bytes other = go (eqb_tells m n)
  where
    go : ((eqb m n ≡ true) × (m ≡ n)) ⊎ ((eqb m n ≡ false) × (m ≢ n)) → with_page pages n bytes m ≡ pages m
    go (inl a) = absurd (other a.1)
    go (inr b) = rw b.0 refl

written_with : (before after : PageMap) (n m : ℕ) (bytes : List ℕ) → Writes before after n bytes → after m ≡ with_page before n bytes m
written_with before after n m bytes w = go (eqb_tells m n)
  where
    go : ((eqb m n ≡ true) × (m ≡ n)) ⊎ ((eqb m n ≡ false) × (m ≢ n)) → after m ≡ with_page before n bytes m
    go (inl a) = ap after a.1 ∙ w.page ∙ sym (ap (with_page before n bytes) a.1 ∙ with_here before n bytes)
    go (inr b) = w.others m b.1 ∙ sym (with_there before n m bytes b.1)

every_one : (P : ℕ → Type 0) (ns : List ℕ) → ((n : ℕ) → P n) → Each P ns
every_one P [] f = tt
every_one P (n ∷ ns) f = (f n, every_one P ns f)

-- the first page of a chain is one of its pages
first_own : (pages : PageMap) (first : ℕ) (own : List ℕ) → first ≢ 0 → IsPageChain pages first own → IsOneOf own first
first_own pages first [] some chain = absurd (some chain)
first_own pages first (n ∷ ns) some chain = inl chain.0

-- ---- the page in memory is written

pub page_kept : (builder : HeapBuilder) (pages : PagesState) (slots : Slots) (own : List ℕ) (places : List Place) → builder.first ≡ 0 → IsTrue pages.is_sound
    → IsFilling builder pages.live slots own places → Fills builder pages pages (Ok tt) (λ (done : ⊤). StandsWritten builder pages pages slots own)
page_kept builder pages slots own places none sound f = record {
  answer = record {
    answer = record {
      stands = heap_kept (built_heap builder) (with_page pages.live builder.first builder.page) pages.live slots own
          (each_weaker (λ n. 1 ≤ n) (λ n. pages.live n ≡ with_page pages.live builder.first builder.page n)
          (λ n some. sym (with_there pages.live builder.first n builder.page (λ e. let zero_is : n ≡ 0 = e ∙ none in omega arith))) own f.some) f.stands;
      live = f.live;
      changes = changes_none pages.live own f.stands.apart;
    };
    no_damage = tt;
  };
  kept = λ n some other. refl;
  sound = sound;
}

pub page_written : (builder : HeapBuilder) (before after : PagesState) (slots : Slots) (own : List ℕ) (places : List Place) (r : Result ⊤ Fault) → builder.first ≢ 0
    → IsFilling builder before.live slots own places → IsTrue before.is_sound → (IsSome (before.live builder.first) → OnOk r (Writes before.live after.live builder.first builder.page))
    → OnErr r (after.live ≡ before.live) → (IsSome (before.live builder.first) → IfErr r (λ e. e ≢ Damage)) → (IsSome (before.live builder.first) → after.is_sound ≡ before.is_sound)
    → Fills builder before after r (λ (done : ⊤). StandsWritten builder before after slots own)
page_written builder before after slots own places r some f sound stored same damage as_sound = go r (stored live) same (damage live)
  where
    of : IsOneOf own builder.first
    of = first_own (with_page before.live builder.first builder.page) builder.first own some f.stands.chain

    live : IsSome (before.live builder.first)
    live = each_of (λ n. IsSome (before.live n)) own builder.first f.live of

    still_sound : IsTrue after.is_sound
    still_sound = rw (as_sound live) sound

    go : (r : Result ⊤ Fault) → OnOk r (Writes before.live after.live builder.first builder.page) → OnErr r (after.live ≡ before.live) → IfErr r (λ e. e ≢ Damage)
        → Fills builder before after r (λ (done : ⊤). StandsWritten builder before after slots own)
    go (Ok done) w same damage = record {
      answer = record {
        answer = record {
          stands = heap_kept (built_heap builder) (with_page before.live builder.first builder.page) after.live slots own
              (every_one (λ n. after.live n ≡ with_page before.live builder.first builder.page n) own (λ n. written_with before.live after.live builder.first n builder.page w)) f.stands;
          live = each_weaker (λ n. IsSome (before.live n)) (λ n. IsSome (after.live n)) (λ n here. still n here (eqb_tells n builder.first)) own f.live;
          changes = changes_in before.live after.live own builder.first of live f.stands.apart w.others;
        };
        no_damage = tt;
      };
      kept = λ n here other. w.others n other;
      sound = still_sound;
    }
      where
        still : (n : ℕ) → IsSome (before.live n) → ((eqb n builder.first ≡ true) × (n ≡ builder.first)) ⊎ ((eqb n builder.first ≡ false) × (n ≢ builder.first)) → IsSome (after.live n)
        still n here (inl a) = rw (ap after.live a.1 ∙ w.page) refl
        still n here (inr b) = subst (λ (o : Option (List ℕ)). IsSome o) (sym (w.others n b.1)) here
    go (Err e) w same damage = record {
      answer = record { answer = tt; no_damage = damage };
      kept = λ n here other. ap (λ (p : PageMap). p n) same;
      sound = still_sound;
    }

-- ---- a new page

append_end : {X : Type 0} (xs : List X) → xs ++ [] ≡ xs
append_end [] = refl
append_end (x ∷ xs) = ap (λ l. x ∷ l) (append_end xs)

no_next : (shape : SlotShape) (page used : ℕ) → room shape ≤ used → (next_slot shape page used).page ≡ 0
no_next shape page used full = let more : nat_lt used (room shape) ≡ false = le-ltb used (room shape) full in rw more refl

next_is : (shape : SlotShape) (page used : ℕ) → used < room shape → next_slot shape page used ≡ record { page = page; slot = used }
next_is shape page used less = let more : nat_lt used (room shape) ≡ true = lt-ltb used (room shape) less in rw more refl

pub page_turned : (old new : HeapBuilder) (before mid after : PagesState) (slots : Slots) (own : List ℕ) (places : List Place) (n : ℕ) (bytes : List ℕ)
    → IsFilling old before.live slots own places → StandsWritten old before mid slots own → room old.shape ≤ old.used → old.used ≤ room old.shape → 1 ≤ n → Takes mid.live after.live n bytes
    → new.shape ≡ old.shape → new.first ≡ n → new.used ≡ 0 → IsHeapPage old.first new.page → AreLinked old.shape n (room old.shape) new.page
    → mid.available ≡ before.available → after.available + 1 ≡ mid.available → FillsOn before after new slots own places
page_turned old new before mid after slots own places n bytes f w full within some takes shape_is first_is used_is page linked same one =
    let shape = old.shape in
    let wide = room_some shape in
    let now = with_page after.live n new.page in
    let over : Takes mid.live now n new.page =
    record { free = takes.free; page = with_here after.live n new.page; others = λ m other. with_there after.live n m new.page other ∙ takes.others m other } in
    let grown = stands_grown (built_heap old) mid.live now slots own new.page n w.stands (no_next shape old.first old.used full) some wide over page linked in
    let free : record { page = n; slot = 0 } ≡ next_slot shape n 0 = sym (next_is shape n 0 wide) in
    let stands : HeapStands (heap_with shape n (next_slot shape n 0)) now slots (n ∷ own) =
    subst (λ (p : Place). HeapStands (heap_with shape n p) now slots (n ∷ own)) free grown in
    let stands' : HeapStands (heap_with shape n (next_slot shape n new.used)) now slots (n ∷ own) =
    subst (λ (u : ℕ). HeapStands (heap_with shape n (next_slot shape n u)) now slots (n ∷ own)) (sym used_is) stands in
    let stands'' : HeapStands (built_heap new) (with_page after.live new.first new.page) slots (n ∷ own) =
    subst (λ (s : SlotShape). HeapStands (heap_with s new.first (next_slot s new.first new.used)) (with_page after.live new.first new.page) slots (n ∷ own)) (sym shape_is)
    (subst (λ (k : ℕ). HeapStands (heap_with shape k (next_slot shape k new.used)) (with_page after.live k new.page) slots (n ∷ own)) (sym first_is) stands') in
    let outside = free_outside mid.live own n takes.free w.live in
    let live = each_pairs (λ m. IsSome (mid.live m)) (λ m. n ≢ m) (λ m. IsSome (after.live m))
    (λ m here other. subst (λ (o : Option (List ℕ)). IsSome o) (sym (takes.others m (λ e. other (sym e)))) here) own w.live outside in
    let all_used : old.used ≡ room shape = omega arith in
    record {
      own_now = n ∷ own;
      filling = record {
        stands = stands'';
        live = (rw takes.page refl, live);
        some = (some, f.some);
        begun = λ less. rw first_is some;
        order = f.order ∙ ap (λ (u : ℕ). places_filled (room shape) u own) all_used ∙ sym (append_end (places_filled (room shape) (room shape) own))
            ∙ ap (λ (u : ℕ). places_filled (room shape) (room shape) own ++ rising n 0 u) (sym used_is)
            ∙ ap (λ (s : SlotShape). places_filled (room s) new.used (n ∷ own)) (sym shape_is);
      };
      changes = changes_on before.live mid.live after.live own own (n ∷ own) w.changes (changes_grown mid.live after.live own bytes n w.live f.stands.apart takes);
      taken = omega arith;
    }
  where
    each_pairs : (P Q R : ℕ → Type 0) → ((m : ℕ) → P m → Q m → R m) → (ms : List ℕ) → Each P ms → Each Q ms → Each R ms
    each_pairs P Q R g [] a b = tt
    each_pairs P Q R g (m ∷ ms) a b = (g m a.0 b.0, each_pairs P Q R g ms a.1 b.1)

-- nothing was written, since the page in memory has room
pub room_there : (builder : HeapBuilder) (pages : PagesState) (slots : Slots) (own : List ℕ) (places : List Place) → IsTrue pages.is_sound → IsFilling builder pages.live slots own places
    → Fills builder pages pages (Ok tt) (λ (done : ⊤). FillsOn pages pages builder slots own places)
room_there builder pages slots own places sound f = record {
  answer = record { answer = record { own_now = own; filling = f; changes = changes_none pages.live own f.stands.apart; taken = refl }; no_damage = tt };
  kept = λ n here other. refl;
  sound = sound;
}

-- ---- a record in the page in memory

rising_last : (n i k : ℕ) → rising n i (k + 1) ≡ rising n i k ++ record { page = n; slot = i + k } ∷ []
rising_last n i zero = let here : i + 0 ≡ i = omega arith in rw here refl
rising_last n i (suc k) =
    let up : suc k + 1 ≡ suc (k + 1) = omega arith in
    let at : suc i + k ≡ i + suc k = omega arith in
    let p : Place = record { page = n; slot = i } in
    ap (λ (m : ℕ). rising n i m) up ∙ ap (λ (l : List Place). p ∷ l) (rising_last n (suc i) k)
    ∙ ap (λ (m : ℕ). let q : Place = record { page = n; slot = m } in p ∷ (rising n (suc i) k ++ q ∷ [])) at

places_more : (pages : PageMap) (wide first used : ℕ) (own : List ℕ) → 1 ≤ first → IsPageChain pages first own
    → places_filled wide used own ++ record { page = first; slot = used } ∷ [] ≡ places_filled wide (used + 1) own
places_more pages wide first used [] some chain = absurd (let none : first ≡ 0 = chain in omega arith)
places_more pages wide first used (n ∷ ns) some chain =
    let front = places_filled wide wide ns in
    let p : Place = record { page = first; slot = used } in
    append_assoc front (rising n 0 used) (p ∷ [])
    ∙ ap (λ (m : ℕ). let q : Place = record { page = m; slot = used } in front ++ (rising n 0 used ++ q ∷ [])) chain.0
    ∙ ap (λ (l : List Place). front ++ l) (sym (last_of_zero n used))
  where
    last_of_zero : (n used : ℕ) → rising n 0 (used + 1) ≡ rising n 0 used ++ record { page = n; slot = used } ∷ []
    last_of_zero n used = let here : 0 + used ≡ used = omega arith in
        rising_last n 0 used ∙ ap (λ (m : ℕ). let q : Place = record { page = n; slot = m } in rising n 0 used ++ q ∷ []) here

-- the slots behind the written one are linked still
pub linked_behind : (shape : SlotShape) (n used : ℕ) (old new : List ℕ) (P : List ℕ → Type 0) → AreLinkedFrom shape n used old → Edits shape old new used P → AreLinkedFrom shape n (used + 1) new
linked_behind shape n used old new P linked e i low high =
    let other : i ≢ used = λ same. (omega (arith, same)) in
    ap behind_in (edited_there shape old new used i P e other) ∙ linked i (omega arith) high

pub record_put : (old new : HeapBuilder) (pages : PageMap) (slots : Slots) (own : List ℕ) (places : List Place) (bytes : List ℕ) → IsFilling old pages slots own places
    → old.used < room old.shape → AreLinkedFrom old.shape old.first old.used old.page → Edits old.shape old.page new.page old.used (λ slot. used_in old.shape slot ≡ Some bytes)
    → new.shape ≡ old.shape → new.first ≡ old.first → new.used ≡ old.used + 1
    → (slots (record { page = old.first; slot = old.used }) ≡ None)
    × IsFilling new pages (put_slot slots (record { page = old.first; slot = old.used }) (Some bytes)) own (places ++ record { page = old.first; slot = old.used } ∷ [])
record_put old new pages slots own places bytes f less linked e shape_is first_is used_is =
    let shape = old.shape in
    let place : Place = record { page = old.first; slot = old.used } in
    let before = with_page pages old.first old.page in
    let after = with_page pages old.first new.page in
    let P : List ℕ → Type 0 = λ slot. used_in shape slot ≡ Some bytes in
    let some = f.begun less in
    let there : before place.page ≡ Some old.page = with_here pages old.first old.page in
    let there' : after place.page ≡ Some new.page = with_here pages old.first new.page in
    let w = rewritten shape before after place old.page new.page P there there'
    (λ n other. with_there pages old.first n new.page other ∙ sym (with_there pages old.first n old.page other)) e less in
    let free_is = next_is shape old.first old.used less in
    let keeps = subst (λ (p : Place). KeepsSlots (room shape) own (used_at shape before) (behind_at shape before) slots p) free_is f.stands.keeps in
    let t = taken (room shape) own (used_at shape before) (used_at shape after) (behind_at shape before) (behind_at shape after) slots place bytes keeps some w.is
    (record { useds = λ q n. ap (used_in shape) (w.others q n); behinds = λ q n. ap behind_in (w.others q n) }) in
    let next : t.0.next ≡ behind_new (room shape) old.first old.used =
    some_same t.0.next (behind_new (room shape) old.first old.used)
    (sym t.0.linked ∙ ap behind_in (slot_there shape before place old.first old.page refl there) ∙ linked old.used (omega arith) less) in
    let stands : HeapStands (heap_with shape old.first (next_slot shape old.first (old.used + 1))) after (put_slot slots place (Some bytes)) own = record {
      chain = chain_written before after old.first own place.page w.heap w.pages f.stands.chain;
      apart = f.stands.apart;
      keeps = subst (KeepsSlots (room shape) own (used_at shape after) (behind_at shape after) (put_slot slots place (Some bytes))) next t.1;
    } in
    let stands' : HeapStands (heap_with shape old.first (next_slot shape old.first new.used)) after (put_slot slots place (Some bytes)) own =
    subst (λ (u : ℕ). HeapStands (heap_with shape old.first (next_slot shape old.first u)) after (put_slot slots place (Some bytes)) own) (sym used_is) stands in
    let stands'' : HeapStands (built_heap new) (with_page pages new.first new.page) (put_slot slots place (Some bytes)) own =
    subst (λ (s : SlotShape). HeapStands (heap_with s new.first (next_slot s new.first new.used)) (with_page pages new.first new.page) (put_slot slots place (Some bytes)) own) (sym shape_is)
    (subst (λ (k : ℕ). HeapStands (heap_with shape k (next_slot shape k new.used)) (with_page pages k new.page) (put_slot slots place (Some bytes)) own) (sym first_is) stands') in (
      t.0.none,
      record {
        stands = stands'';
        live = f.live;
        some = f.some;
        begun = λ more. rw first_is some;
        order = ap (λ (l : List Place). l ++ place ∷ []) f.order ∙ places_more before (room shape) old.first old.used own some f.stands.chain
            ∙ ap (λ (u : ℕ). places_filled (room shape) u own) (sym used_is) ∙ ap (λ (s : SlotShape). places_filled (room s) new.used own) (sym shape_is);
      },
    )

-- ---- faults

pub fills_not : {X Y : Type 0} (builder : HeapBuilder) (before after : PagesState) (r : Result X Fault) (fault : Fault) (Said : Y → Type 0) (Says : X → Type 0)
    → Fills builder before after (Err fault) Said → IsErrAnd r (λ e. e ≡ fault) → Fills builder before after r Says
fills_not builder before after r fault Said Says f was = record { answer = fails r fault Says was f.answer.no_damage; kept = f.kept; sound = f.sound }

-- a fault when the page in memory is written already
pub fills_later : {X : Type 0} (builder : HeapBuilder) (before mid after : PagesState) (r : Result X Fault) (fault : Fault) (Said : ⊤ → Type 0) (Says : X → Type 0)
    → Fills builder before mid (Ok tt) Said → IsErrAnd r (λ e. e ≡ fault) → fault ≢ Damage → after.live ≡ mid.live → IsTrue after.is_sound → Fills builder before after r Says
fills_later builder before mid after r fault Said Says f was no_damage same sound = record {
  answer = fails r fault Says was no_damage;
  kept = λ n here other. ap (λ (p : PageMap). p n) same ∙ f.kept n here other;
  sound = sound;
}

-- a new page, when the page in memory is written
pub fills_turned : (old new : HeapBuilder) (before mid after : PagesState) (slots : Slots) (own : List ℕ) (places : List Place) (n : ℕ) (bytes : List ℕ)
    → Fills old before mid (Ok tt) (λ (done : ⊤). StandsWritten old before mid slots own) → FillsOn before after new slots own places → Takes mid.live after.live n bytes → IsTrue after.is_sound
    → Fills old before after (Ok tt) (λ (done : ⊤). FillsOn before after new slots own places)
fills_turned old new before mid after slots own places n bytes f on takes sound = record {
  answer = record { answer = on; no_damage = tt };
  kept = λ m here other.
      let e = f.kept m here other in
      takes.others m (λ same. not_taken m (subst (λ (o : Option (List ℕ)). IsSome o) (sym e) here) same) ∙ e;
  sound = sound;
}
  where
    not_taken : (m : ℕ) → IsSome (mid.live m) → m ≡ n → ⊥
    not_taken m here same = none_some (mid.live m) here (ap mid.live same ∙ takes.free)
      where
        none_some : (o : Option (List ℕ)) → IsSome o → o ≡ None → ⊥
        none_some None here free = cc here
        none_some (Some b) here free = cc free

-- a record more, where there is room
pub fills_put : (old mid new : HeapBuilder) (before after : PagesState) (slots : Slots) (own : List ℕ) (places : List Place) (bytes : List ℕ) (place : Place)
    → Fills old before after (Ok tt) (λ (done : ⊤). FillsOn before after mid slots own places)
    → ((on : List ℕ) → IsFilling mid after.live slots on places → (slots place ≡ None) × IsFilling new after.live (put_slot slots place (Some bytes)) on (places ++ place ∷ []))
    → Fills old before after (Ok place) (λ (p : Place). (slots p ≡ None) × FillsOn before after new (put_slot slots p (Some bytes)) own (places ++ p ∷ []))
fills_put old mid new before after slots own places bytes place f put =
    let on = f.answer.answer in
    let p = put on.own_now on.filling in
    record {
      answer = record { answer = (p.0, record { own_now = on.own_now; filling = p.1; changes = on.changes; taken = on.taken }); no_damage = tt };
      kept = f.kept;
      sound = f.sound;
    }

-- the heap, when its last page is written
pub fills_finished : (builder : HeapBuilder) (before after : PagesState) (slots : Slots) (own : List ℕ) (places : List Place) (heap : Heap) → builder.used ≤ room builder.shape
    → IsFilling builder before.live slots own places → Fills builder before after (Ok tt) (λ (done : ⊤). StandsWritten builder before after slots own) → heap ≡ built_heap builder
    → Fills builder before after (Ok heap) (λ (h : Heap). (h.shape ≡ builder.shape) × HasFilled before after h slots own places)
fills_finished builder before after slots own places heap few f w is =
    let s = w.answer.answer in
    let has : HasFilled before after (built_heap builder) slots own places = record { stands = s.stands; changes = s.changes; used = builder.used; few = few; order = f.order; free = refl } in
    record {
      answer = record { answer = (ap (λ (h : Heap). h.shape) is, subst (λ (h : Heap). HasFilled before after h slots own places) (sym is) has); no_damage = tt };
      kept = w.kept;
      sound = w.sound;
    }
