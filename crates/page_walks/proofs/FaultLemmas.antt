-- What is wrong with a heap, and where.
use Rattle.std.proofs.Common.{◌≡◌, ◌≢◌, ◌⊎◌, ℕ, ◌*◌, ◌<◌, Bool, true, false, List, [], ◌∷◌, ◌++◌, length, get_or, Some, None, Result, IfErr, IsErrAnd, refl, sym, subst, ◌∙◌, arith, inl, inr}
use Rattle.std.proofs.lemmas.Bool.Decides.{eqb_tells}
use Rattle.std.proofs.lemmas.Result.{err_from_is_err_and}
use Rattle.std.proofs.Math.Dec.{eqb}
use Rattle.pages.specs.Each.{Each}
use Rattle.pages.specs.Owners.{IsOutside}
use Rattle.pages.specs.declared.fault_place.FaultPlace.{FaultPlace}
use Rattle.pages.specs.declared.fault_place.FaultPlace.TheVariants.{Page}
use Rattle.pages.specs.declared.damage.Damage.{Damage}
use Rattle.pages.specs.declared.damage.Damage.TheVariants.{Shared, Node, Order, Heap as BrokenHeap, Index, Lost}
use Rattle.pages.specs.declared.walk_fault.WalkFault.{WalkFault}
use Rattle.pages.specs.declared.walk_fault.WalkFault.TheVariants.{Memory, At}
use Rattle.pages.specs.Marks.{IsUnmarked, marked_in}
use Rattle.pages.specs.PageList.{pages_in}
use Rattle.pages.specs.Refused.{RefusesRightly}
use Rattle.pages.specs.Told.{TellsOfFault}
use Rattle.record_heap.specs.declared.heap.Heap.{Heap}
use Rattle.record_heap.specs.declared.shape.SlotShape.{SlotShape}
use Rattle.record_heap.specs.declared.shape.Place.{Place}
use Rattle.page_walks.specs.declared.slot_marks.SlotMarks.{SlotMarks}
use Rattle.record_heap.specs.Slot.{room}
use Rattle.record_heap.specs.Slots.{slot_at}
use Rattle.record_heap.specs.Calls.{slot_of, behind_at}
use Rattle.record_heap.specs.Chain.{IsOneOf}
use Rattle.page_walks.specs.SlotMarks.{HasMark, SameSlots, marked_slot}
use Rattle.record_heap.specs.Walk.{IsFreeOrUsed, IsPagePath, IsUsedAt, PagesWalked}
use Rattle.page_walks.specs.SlotWalk.{AreMarked, IsMarkedFree, SlotsWalked}
use Rattle.record_heap.specs.Faults.{AreOwnPages, BreaksFreeChain, IsChainFault, IsFreeSlotOf, IsHeapFault, IsLeftOut, IsSlotFault, IsWrongSlot}
use Rattle.page_walks.specs.SlotFaults.{IsFaultBehindSlots, IsLinkFault, IsWrongOfPage}
use Rattle.record_heap.specs.Faults.{TellsOfChain, TellsOfPage, last_heap_page, last_slot_place, slot_place}
use Rattle.page_walks.specs.SlotFaults.{TellsOfSlot}
use Rattle.record_heap.proofs.ChainLemmas.{at_place, each_weaker}
use Rattle.record_heap.proofs.StandLemmas.{slot_there}
use Rattle.page_walks.proofs.SlotWalkLemmas.{free_not_used, page_there, path_chain}
use Rattle.record_heap.proofs.WalkLemmas.{clash, path_ends}
use Rattle.page_walks.proofs.MarkAheadLemmas.{still_has}
use Rattle.page_walks.proofs.PigeonLemmas.{few_places}
use Rattle.page_walks.proofs.HeapAheadLemmas.{each_one, page_inside}

-- a fault that is handed on
pub fault_on : {X : Type 0} (P : WalkFault → Type 0) (r : Result X WalkFault) (fault : WalkFault) → IsErrAnd r (λ e. e ≡ fault) → P fault → IfErr r P
fault_on P r fault was h = let p = err_from_is_err_and r was in rw (p.1, p.2) h

-- ---- the chain of heap pages

pub last_page_more : (own : List ℕ) (n : ℕ) → last_heap_page (own ++ n ∷ []) ≡ n
last_page_more [] n = refl
last_page_more (m ∷ []) n = refl
last_page_more (m ∷ k ∷ ns) n = last_page_more (k ∷ ns) n

-- a page is one of these, or it is not
one_or_outside : (own : List ℕ) (n : ℕ) → IsOneOf own n ⊎ IsOutside own n
one_or_outside [] n = inr tt
one_or_outside (m ∷ ms) n = go (eqb_tells n m) (one_or_outside ms n)
  where
    go : ((eqb n m ≡ true) × (n ≡ m)) ⊎ ((eqb n m ≡ false) × (n ≢ m)) → IsOneOf ms n ⊎ IsOutside ms n → IsOneOf (m ∷ ms) n ⊎ IsOutside (m ∷ ms) n
    go (inl a) rest = inl (inl a.1)
    go (inr b) (inl of) = inl (inr of)
    go (inr b) (inr out) = inr (b.1, out)

module _ (list : List (List ℕ)) (first from at : ℕ) (marks now : List Bool) (own : List ℕ) (walked : PagesWalked (pages_in list) first at (marked_in marks) (marked_in now) own) (some : at ≢ 0) (last : last_heap_page own ≡ from) where
  -- a page that another page leads to
  pub tells_page : (fault : WalkFault) → TellsOfPage list from at fault → TellsOfFault (IsChainFault list first marks) fault
  tells_page fault (inl h) = subst (TellsOfFault (IsChainFault list first marks)) (sym h.0)
      (own, at, walked.path, some, inl (inl (subst (λ (n : ℕ). At BrokenHeap (Page from) ≡ At BrokenHeap (Page n)) (sym last) refl, h.1)))
  tells_page fault (inr h) = subst (TellsOfFault (IsChainFault list first marks)) (sym h.0) (own, at, walked.path, some, inl (inr (refl, h.1, h.2)))

  -- a page that has its mark
  pub tells_twice : (fault : WalkFault) → fault ≡ At Shared (Page at) → at < length list → length now ≡ length marks → (IsUnmarked now at → ⊥) → TellsOfFault (IsChainFault list first marks) fault
  tells_twice fault is inside long never = subst (TellsOfFault (IsChainFault list first marks)) (sym is)
      (own, at, walked.path, some, (refl, inside, λ free. among free (one_or_outside own at)))
    where
      among : IsUnmarked marks at → IsOneOf own at ⊎ IsOutside own at → IsOneOf own at
      among free (inl of) = of
      among free (inr out) = absurd (never (subst (λ (n : ℕ). at < n) (sym long) free.0, walked.marks.others at out ∙ free.1))

  -- a page behind as many as there are marks
  pub tells_too_many : (fault : WalkFault) → fault ≡ At BrokenHeap (Page from) → length own ≡ length marks → TellsOfFault (IsChainFault list first marks) fault
  tells_too_many fault is all = subst (TellsOfFault (IsChainFault list first marks)) (sym is)
      (own, at, walked.path, some, inr (all, subst (λ (n : ℕ). Page from ≡ Page n) (sym last) refl))

-- ---- the slots of pages

-- a slot of a page that is neither free nor in use
pub wrong_of_page : (shape : SlotShape) (page : List ℕ) (n : ℕ) (marks now : SlotMarks) (place : Place) (fault : WalkFault) → place.page ≡ n → place.slot < room shape → SameSlots marks now
    → fault ≡ At BrokenHeap (slot_place place) → RefusesRightly (HasMark now place × IsFreeOrUsed shape (slot_at shape page place.slot)) fault → TellsOfChain (IsWrongOfPage shape page n marks) fault
wrong_of_page shape page n marks now place fault on within same is never = subst (TellsOfChain (IsWrongOfPage shape page n marks)) (sym is) (
  refl,
  record {
    slot = place;
    on = on;
    within = within;
    told = refl;
    wrong = λ has kind. subst (RefusesRightly (HasMark now place × IsFreeOrUsed shape (slot_at shape page place.slot))) is never (still_has marks now place same has, kind);
  },
)

-- so a slot of one of these pages is
pub wrong_of_own : (shape : SlotShape) (list : List (List ℕ)) (own : List ℕ) (n : ℕ) (marks now : SlotMarks) (fault : WalkFault) → IsOneOf own n → n < length list → SameSlots marks now
    → ((p : Place) → IsOneOf own p.page → p.slot < room shape → HasMark marks p) → TellsOfChain (IsWrongOfPage shape (get_or list n []) n now) fault → TellsOfChain (IsWrongSlot shape list own) fault
wrong_of_own shape list own n marks now Memory of inside same has h = tt
wrong_of_own shape list own n marks now (At what place) of inside same has h =
    let w = h.1 in
    let page = subst (IsOneOf own) (sym w.on) of in (
      h.0,
      record {
        slot = w.slot;
        page = page;
        within = w.within;
        told = w.told;
        wrong = λ kind. w.wrong (still_has marks now w.slot same (has w.slot page w.within))
            (subst (IsFreeOrUsed shape) (slot_there shape (pages_in list) w.slot n (get_or list n []) w.on (page_there list n inside)) kind);
      },
    )

-- ---- the chain of free slots

pub last_slot_more : (ps : List Place) (p : Place) → last_slot_place (ps ++ p ∷ []) ≡ slot_place p
last_slot_more [] p = refl
last_slot_more (q ∷ []) p = refl
last_slot_more (q ∷ r ∷ ps) p = last_slot_more (r ∷ ps) p

module _ (shape : SlotShape) (list : List (List ℕ)) (first : Place) (marks now : SlotMarks) (free : List Place) (at : Place) (from : FaultPlace) (walked : SlotsWalked shape (pages_in list) first at marks now free)
    (some : at.page ≢ 0) (last : last_slot_place free ≡ from) where
  link : (place : FaultPlace) → IsFaultBehindSlots shape list marks free at place → IsLinkFault shape list first marks place
  link place wrong = record {
    free = free;
    at = at;
    path = walked.path;
    once = walked.once;
    were = each_weaker (λ q. (q.slot < room shape) × ((marked_slot marks q ≡ true) × (marked_slot now q ≡ false))) (λ q. (q.slot < room shape) × (marked_slot marks q ≡ true)) (λ q w. (w.0, w.1.0)) free walked.were;
    some = some;
    wrong = wrong;
  }

  -- a slot to which another place leads
  pub tells_link : (fault : WalkFault) → SameSlots marks now → RefusesRightly (IsMarkedFree shape list now at) fault → TellsOfSlot shape list now from at fault
      → TellsOfChain (IsLinkFault shape list first marks) fault
  tells_link fault same never (inl is) = subst (TellsOfChain (IsLinkFault shape list first marks)) (sym is) (refl, link from (inl (sym last, λ m. is_one m (walked.every at m.within m.marked))))
    where
      is_one : IsMarkedFree shape list marks at → (marked_slot now at ≡ true) ⊎ IsOneOf free at → IsOneOf free at
      is_one m (inl on) = absurd (subst (RefusesRightly (IsMarkedFree shape list now at)) is never
          (record { within = m.within; there = m.there; marked = on; can = still_has marks now at same m.can; free = m.free }))
      is_one m (inr of) = of
  tells_link fault same never (inr h) = subst (TellsOfChain (IsLinkFault shape list first marks)) (sym h.0)
      (refl, link (slot_place at) (inr (inr (refl, h.1, walked.only at h.1 h.2, h.3))))

  -- a slot behind as many as there are marks
  pub tells_many_slots : (fault : WalkFault) → fault ≡ At BrokenHeap from → length free ≡ marks.slots → TellsOfChain (IsLinkFault shape list first marks) fault
  tells_many_slots fault is all = subst (TellsOfChain (IsLinkFault shape list first marks)) (sym is) (refl, link from (inr (inl (sym last, all))))

-- a slot is one of these, or it is not
place_or_out : (ps : List Place) (p : Place) → IsOneOf ps p ⊎ Each (λ q. p ≢ q) ps
place_or_out [] p = inr tt
place_or_out (q ∷ qs) p = at_place (IsOneOf (q ∷ qs) p ⊎ Each (λ r. p ≢ r) (q ∷ qs)) p q (λ e. inl (inl (sym e))) (λ d. more d (place_or_out qs p))
  where
    more : q ≢ p → IsOneOf qs p ⊎ Each (λ r. p ≢ r) qs → IsOneOf (q ∷ qs) p ⊎ Each (λ r. p ≢ r) (q ∷ qs)
    more d (inl of) = inl (inr of)
    more d (inr out) = inr (λ e. d (sym e), out)

-- ---- all slots of a heap's own pages

module _ (heap : Heap) (list : List (List ℕ)) (own : List ℕ) where
  pub in_slots : (fault : WalkFault) → TellsOfChain (IsWrongSlot heap.shape list own) fault → TellsOfChain (IsSlotFault heap list own) fault
  in_slots Memory h = tt
  in_slots (At what place) h = (h.0, inl h.1)

module _ (heap : Heap) (list : List (List ℕ)) (own : List ℕ) (marks : SlotMarks) (are : AreMarked heap.shape (pages_in list) own marks) where
  free_of : (p : Place) → p.slot < room heap.shape → marked_slot marks p ≡ true → IsFreeSlotOf heap.shape list own p
  free_of p within on = let f = are.free p within on in record { page = f.0; within = within; free = f.1 }

  mark_of : (p : Place) → IsFreeSlotOf heap.shape list own p → (marked_slot marks p ≡ true) ⊎ IsUsedAt heap.shape (pages_in list) p → marked_slot marks p ≡ true
  mark_of p s (inl on) = on
  mark_of p s (inr used) = absurd (let none : None ≡ Some used.0 = sym (free_not_used heap.shape (slot_of heap.shape (pages_in list) p) s.free.0 s.free.1) ∙ used.1 in cc)

  -- the chain of free slots is broken
  pub breaks_chain : (fault : WalkFault) → AreOwnPages list own → ((p : Place) → IsOneOf own p.page → p.slot < room heap.shape → HasMark marks p) → marks.slots ≡ length own * room heap.shape
      → TellsOfChain (IsLinkFault heap.shape list heap.free marks) fault → TellsOfChain (IsSlotFault heap list own) fault
  breaks_chain Memory pages has many h = tt
  breaks_chain (At what place) pages has many h = (h.0, inr (go h.1 h.1.wrong))
    where
      breaks : (l : IsLinkFault heap.shape list heap.free marks place) → place ≡ last_slot_place l.free → (IsFreeSlotOf heap.shape list own l.at → IsOneOf l.free l.at)
          → BreaksFreeChain heap.shape list own heap.free place ⊎ IsLeftOut heap.shape list own heap.free place
      breaks l told wrong = inl (record {
        free = l.free;
        at = l.at;
        path = l.path;
        each = each_weaker (λ q. (q.slot < room heap.shape) × (marked_slot marks q ≡ true)) (IsFreeSlotOf heap.shape list own) (λ q w. free_of q w.0 w.1) l.free l.were;
        some = l.some;
        told = told;
        wrong = wrong;
      })

      places : (ps : List Place) → Each (λ q. (q.slot < room heap.shape) × (marked_slot marks q ≡ true)) ps → Each (λ q. IsOneOf own q.page × (q.slot < room heap.shape)) ps
      places = each_weaker (λ q. (q.slot < room heap.shape) × (marked_slot marks q ≡ true)) (λ q. IsOneOf own q.page × (q.slot < room heap.shape)) (λ q w. ((are.free q w.0 w.1).0, w.0))

      full : (l : IsLinkFault heap.shape list heap.free marks place) → length l.free ≡ marks.slots → IsFreeSlotOf heap.shape list own l.at → IsOneOf l.free l.at ⊎ Each (λ q. l.at ≢ q) l.free → IsOneOf l.free l.at
      full l all s (inl of) = of
      full l all s (inr out) = absurd (let few = few_places (room heap.shape) own (l.at ∷ l.free) (out, l.once) ((s.page, s.within), places l.free l.were) in omega (arith, few, all, many))

      go : (l : IsLinkFault heap.shape list heap.free marks place) → IsFaultBehindSlots heap.shape list marks l.free l.at place
          → BreaksFreeChain heap.shape list own heap.free place ⊎ IsLeftOut heap.shape list own heap.free place
      go l (inl a) = breaks l a.0 (λ s. a.1 (record {
        within = s.within;
        there = each_one (λ n. n < length list) own l.at.page pages.there s.page;
        marked = mark_of l.at s (are.every l.at s.within s.page);
        can = has l.at s.page s.within;
        free = s.free;
      }))
      go l (inr (inl b)) = breaks l b.0 (λ s. full l b.1 s (place_or_out l.free l.at))
      go l (inr (inr d)) = absurd (d.3 (are.free l.at d.1 d.2).1)

  -- a mark is left
  pub left_out : (now : SlotMarks) (at : Place) (free : List Place) (slot : Place) → SlotsWalked heap.shape (pages_in list) heap.free at marks now free → at.page ≡ 0 → slot.slot < room heap.shape
      → marked_slot now slot ≡ true → IsSlotFault heap list own (slot_place slot)
  left_out now at free slot walked end within on = inr (inr (record {
    slot = slot;
    is = free_of slot within (walked.only slot within on);
    told = refl;
    free = free;
    chain = path_chain (behind_at heap.shape (pages_in list)) heap.free at free walked.path end;
    out = λ of. clash (marked_slot now slot) on
        (each_one (λ q. (q.slot < room heap.shape) × ((marked_slot marks q ≡ true) × (marked_slot now q ≡ false))) free slot walked.were of).1.1;
  }))

-- ---- the heap

path_inside : (list : List (List ℕ)) (first at : ℕ) (own : List ℕ) → IsPagePath (pages_in list) first own at → Each (λ n. n < length list) own
path_inside list first at [] path = tt
path_inside list first at (n ∷ ns) path = (page_inside list n path.1.1.bytes path.1.1.there, path_inside list path.1.0 at ns path.1.2)

module _ (heap : Heap) (list : List (List ℕ)) (marks : List Bool) where
  pub in_chain : (what : Damage) (place : FaultPlace) → IsChainFault list heap.first marks what place → IsHeapFault heap list marks what place
  in_chain Shared place h = h
  in_chain BrokenHeap place h = inl h
  in_chain Node place h = h.4
  in_chain Order place h = h.4
  in_chain Index place h = h.4
  in_chain Lost place h = h.4

  pub own_pages : (now : List Bool) (own : List ℕ) → PagesWalked (pages_in list) heap.first 0 (marked_in marks) (marked_in now) own → AreOwnPages list own
  own_pages now own walked = record { there = path_inside list heap.first 0 own walked.path; apart = walked.marks.apart }

  pub in_heap : (now : List Bool) (own : List ℕ) (fault : WalkFault) → PagesWalked (pages_in list) heap.first 0 (marked_in marks) (marked_in now) own → TellsOfChain (IsSlotFault heap list own) fault
      → TellsOfFault (IsHeapFault heap list marks) fault
  in_heap now own Memory walked h = tt
  in_heap now own (At what place) walked h = subst (λ (f : Damage). IsHeapFault heap list marks f place) (sym h.0) (inr (record {
    own = own;
    chain = path_ends (pages_in list) heap.first own walked.path;
    pages = own_pages now own walked;
    wrong = h.1;
  }))
