-- A heap in pages, after a call on one page.
use Rattle.std.proofs.Common.{◌≡◌, ◌≢◌, ◌⊎◌, ℕ, ◌<◌, List, [], ◌∷◌, Option, Some, None, IsSome, refl, ap, sym, subst, ◌∙◌, inl, inr}
use Rattle.std.proofs.lemmas.Bool.Decides.{eqb_tells}
use Rattle.std.proofs.Math.Dec.{eqb}
use Rattle.std.specs.Prelude.{true, false}
use Rattle.pages.specs.Each.{Each}
use Rattle.pages.specs.PageMap.{PageMap}
use Rattle.pages.specs.Owners.{IsOutside, AreApart, ChangesPages}
use Rattle.record_heap.specs.declared.shape.SlotShape.{SlotShape}
use Rattle.record_heap.specs.declared.shape.Place.{Place}
use Rattle.record_heap.specs.declared.heap.Heap.{Heap}
use Rattle.record_heap.specs.Slot.{room, used_in, behind_in}
use Rattle.record_heap.specs.Chain.{Slots, put_slot, IsOneOf, IsPlaceOf, KeepsSlots}
use Rattle.record_heap.specs.Calls.{slot_of, used_at, behind_at, IsHeapAt, RewritesSlot}
use Rattle.record_heap.specs.Standing.{IsPageChain, HeapStands, slot_off}
use Rattle.std.specs.Option.{option_map_or}
use Rattle.record_heap.specs.Slots.{slot_at, Edits, IsHeapPage}
use Rattle.record_heap.proofs.EditLemmas.{edited_here, edited_there, still_heap}
use Rattle.record_heap.specs.Found.{HeapHas}
use Rattle.record_heap.proofs.ChainLemmas.{Writes, freed, set_again, each_weaker, chain_still, place_made, some_same}

-- a page of the chain is a heap page
pub page_of_chain : (pages : PageMap) (first : ℕ) (own : List ℕ) (n : ℕ) → IsPageChain pages first own → IsOneOf own n → (next : ℕ) × IsHeapAt pages n next
page_of_chain pages first [] n chain of = absurd of
page_of_chain pages first (m ∷ ms) n chain (inl e) = subst (λ (k : ℕ). (next : ℕ) × IsHeapAt pages k next) (sym e) (chain.1.0, chain.1.1)
page_of_chain pages first (m ∷ ms) n chain (inr of) = page_of_chain pages chain.1.0 ms n chain.1.2 of

-- every page of the chain is in use
pub chain_live : (pages : PageMap) (first : ℕ) (own : List ℕ) → IsPageChain pages first own → Each (λ n. IsSome (pages n)) own
chain_live pages first [] chain = tt
chain_live pages first (n ∷ ns) chain = (rw chain.1.1.there refl, chain_live pages chain.1.0 ns chain.1.2)

-- the chain after one page of it was written, which is a heap page with the same next one
pub chain_written : (before after : PageMap) (first : ℕ) (own : List ℕ) (p : ℕ) → ((next : ℕ) → IsHeapAt before p next → IsHeapAt after p next) → ((n : ℕ) → n ≢ p → after n ≡ before n)
    → IsPageChain before first own → IsPageChain after first own
chain_written before after first [] p here there chain = chain
chain_written before after first (n ∷ ns) p here there chain =
    (chain.0, (chain.1.0, head (eqb_tells n p), chain_written before after chain.1.0 ns p here there chain.1.2))
  where
    head : ((eqb n p ≡ true) × (n ≡ p)) ⊎ ((eqb n p ≡ false) × (n ≢ p)) → IsHeapAt after n chain.1.0
    head (inl a) = subst (λ (k : ℕ). IsHeapAt after k chain.1.0) (sym a.1) (here chain.1.0 (subst (λ (k : ℕ). IsHeapAt before k chain.1.0) a.1 chain.1.1))
    head (inr b) = record { bytes = chain.1.1.bytes; there = there n b.1 ∙ chain.1.1.there; heap = chain.1.1.heap }

-- a slot of a page that is there
pub slot_there : (shape : SlotShape) (pages : PageMap) (p : Place) (n : ℕ) (bytes : List ℕ) → p.page ≡ n → pages n ≡ Some bytes → slot_of shape pages p ≡ slot_at shape bytes p.slot
slot_there shape pages p n bytes e there = ap (λ (o : Option (List ℕ)). option_map_or (λ page. slot_at shape page p.slot) o []) (ap pages e ∙ there)

pub slot_still : (shape : SlotShape) (before after : PageMap) (p : Place) → after p.page ≡ before p.page → slot_of shape after p ≡ slot_of shape before p
slot_still shape before after p e = ap (λ (o : Option (List ℕ)). option_map_or (λ page. slot_at shape page p.slot) o []) e

-- bytes alone, to pages alone: one slot of a lent page was written
pub rewritten : (shape : SlotShape) (before after : PageMap) (place : Place) (old new : List ℕ) (P : List ℕ → Type 0)
    → before place.page ≡ Some old → after place.page ≡ Some new → ((n : ℕ) → n ≢ place.page → after n ≡ before n) → Edits shape old new place.slot P → place.slot < room shape
    → RewritesSlot shape before after place P
rewritten shape before after place old new P lent there others e within =
    record {
      is = subst P (sym (slot_there shape after place place.page new refl there ∙ edited_here shape old new place.slot P e within)) e.is;
      heap = λ next at. record { bytes = new; there = there; heap = still_heap shape old new place.slot next P e (subst (IsHeapPage next) (some_same at.bytes old (sym at.there ∙ lent)) at.heap) };
      others = λ q n. other q n (eqb_tells q.page place.page) (eqb_tells q.slot place.slot);
      pages = others;
    }
  where
    other : (q : Place) → q ≢ place → ((eqb q.page place.page ≡ true) × (q.page ≡ place.page)) ⊎ ((eqb q.page place.page ≡ false) × (q.page ≢ place.page))
        → ((eqb q.slot place.slot ≡ true) × (q.slot ≡ place.slot)) ⊎ ((eqb q.slot place.slot ≡ false) × (q.slot ≢ place.slot)) → slot_of shape after q ≡ slot_of shape before q
    other q n (inr b) y = slot_still shape before after q (others q.page b.1)
    other q n (inl a) (inl b) = absurd (n (place_made q place a.1 b.1))
    other q n (inl a) (inr b) =
        slot_there shape after q place.page new a.1 there ∙ edited_there shape old new place.slot q.slot P e b.1 ∙ sym (slot_there shape before q place.page old a.1 lent)

-- a free slot was written, and the one behind it is known
pub refills : (shape : SlotShape) (before after : PageMap) (place : Place) (bytes : List ℕ) (answer behind : Place) → answer ≡ behind
    → RewritesSlot shape before after place (λ slot. used_in shape slot ≡ Some bytes) → RewritesSlot shape before after place (λ slot. (answer ≡ behind) × (used_in shape slot ≡ Some bytes))
refills shape before after place bytes answer behind same w = record { is = (same, w.is); heap = w.heap; others = w.others; pages = w.pages }

-- a page of a heap that stands, at a place in use
pub record InHeap (heap : Heap) (pages : PageMap) (place : Place) (bytes : List ℕ) : Type 0 where
  pub next : ℕ
  pub at : IsHeapAt pages place.page next
  pub within : place.slot < room heap.shape
  pub used : used_at heap.shape pages place ≡ Some bytes

pub in_heap : (heap : Heap) (pages : PageMap) (slots : Slots) (own : List ℕ) (place : Place) (bytes : List ℕ) → HeapStands heap pages slots own → slots place ≡ Some bytes → InHeap heap pages place bytes
in_heap heap pages slots own place bytes stands here =
    let u = stands.keeps.used_are place bytes here in
    let p = page_of_chain pages heap.first own place.page stands.chain u.0.page in
    record { next = p.0; at = p.1; within = u.0.slot; used = u.1 }

-- what is read off the pages is what stands
pub slot_read : (heap : Heap) (pages : PageMap) (slots : Slots) (own : List ℕ) (place : Place) (bytes : List ℕ) → HeapStands heap pages slots own → slots place ≡ Some bytes → slot_off heap pages place ≡ Some bytes
slot_read heap pages slots own place bytes stands here = (stands.keeps.used_are place bytes here).1

-- own pages alone are what a heap needs
same_slots : (room : ℕ) (own : List ℕ) (used used' : Slots) (behind behind' : Place → Option Place) (slots : Slots) (first : Place) → KeepsSlots room own used behind slots first
    → ((p : Place) → IsPlaceOf room own p → used' p ≡ used p) → ((p : Place) → IsPlaceOf room own p → behind' p ≡ behind p) → KeepsSlots room own used' behind' slots first
same_slots room own used used' behind behind' slots first k same same' = record {
  free = k.free;
  chain = chain_still behind behind' k.free first (each_weaker (λ p. IsPlaceOf room own p × (slots p ≡ None)) (λ p. behind' p ≡ behind p) (λ p h. same' p h.0) k.free k.free_are) k.chain;
  once = k.once;
  used_are = λ p b is. let u = k.used_are p b is in (u.0, same p u.0 ∙ u.1);
  free_are = k.free_are;
  every = k.every;
}

pub each_of : {X : Type 0} (P : X → Type 0) (xs : List X) (x : X) → Each P xs → IsOneOf xs x → P x
each_of P [] x h of = absurd of
each_of P (y ∷ ys) x h (inl e) = subst P (sym e) h.0
each_of P (y ∷ ys) x h (inr of) = each_of P ys x h.1 of

pub chain_same : (before after : PageMap) (first : ℕ) (own : List ℕ) → Each (λ n. after n ≡ before n) own → IsPageChain before first own → IsPageChain after first own
chain_same before after first [] same chain = chain
chain_same before after first (n ∷ ns) same chain =
    (chain.0, (chain.1.0, record { bytes = chain.1.1.bytes; there = same.0 ∙ chain.1.1.there; heap = chain.1.1.heap }, chain_same before after chain.1.0 ns same.1 chain.1.2))

-- a heap stands while its pages stay as they are
pub heap_kept : (heap : Heap) (before after : PageMap) (slots : Slots) (own : List ℕ) → Each (λ n. after n ≡ before n) own → HeapStands heap before slots own → HeapStands heap after slots own
heap_kept heap before after slots own same stands =
    let still : (p : Place) → IsPlaceOf (room heap.shape) own p → slot_of heap.shape after p ≡ slot_of heap.shape before p =
    λ p of. slot_still heap.shape before after p (each_of (λ (n : ℕ). after n ≡ before n) own p.page same of.page) in
    record {
      chain = chain_same before after heap.first own same stands.chain;
      apart = stands.apart;
      keeps = same_slots (room heap.shape) own (used_at heap.shape before) (used_at heap.shape after) (behind_at heap.shape before) (behind_at heap.shape after) slots heap.free stands.keeps
          (λ p of. ap (used_in heap.shape) (still p of)) (λ p of. ap behind_in (still p of));
    }

-- one own page was written
outside_not : (own : List ℕ) (p n : ℕ) → IsOneOf own p → IsOutside own n → n ≢ p
outside_not own p n of out e = each_of (λ (m : ℕ). n ≢ m) own p out of e

pub changes_in : (before after : PageMap) (own : List ℕ) (p : ℕ) → IsOneOf own p → IsSome (before p) → AreApart own → ((n : ℕ) → n ≢ p → after n ≡ before n) → ChangesPages before after own own
changes_in before after own p of live apart others = record {
  others = λ n here out. (others n (outside_not own p n of out), out);
  no_stray = λ n here out. (subst (λ (o : Option (List ℕ)). IsSome o) (others n (outside_not own p n of out)) here, out);
  apart = apart;
}

-- what a rewriting of a slot in use leaves of the pages
pub record Rewritten (heap : Heap) (before after : PageMap) (own : List ℕ) (place : Place) : Type 0 where
  pub chain : IsPageChain after heap.first own
  pub writes : Writes place (used_at heap.shape before) (used_at heap.shape after) (behind_at heap.shape before) (behind_at heap.shape after)
  pub changes : ChangesPages before after own own

pub slot_rewritten : (heap : Heap) (before after : PageMap) (slots : Slots) (own : List ℕ) (place : Place) (P : List ℕ → Type 0) → HeapStands heap before slots own
    → IsOneOf own place.page → RewritesSlot heap.shape before after place P → Rewritten heap before after own place
slot_rewritten heap before after slots own place P stands of w =
    let p = page_of_chain before heap.first own place.page stands.chain of in
    record {
      chain = chain_written before after heap.first own place.page w.heap w.pages stands.chain;
      writes = record { useds = λ q n. ap (used_in heap.shape) (w.others q n); behinds = λ q n. ap behind_in (w.others q n) };
      changes = changes_in before after own place.page of (rw p.1.there refl) stands.apart w.pages;
    }

-- a place in use was made free
pub heap_freed : (heap : Heap) (before after : PageMap) (slots : Slots) (own : List ℕ) (place : Place) (bytes : List ℕ) → HeapStands heap before slots own → slots place ≡ Some bytes
    → RewritesSlot heap.shape before after place (λ slot. behind_in slot ≡ Some heap.free) → HeapHas before after (record heap { free = place }) own (put_slot slots place None)
heap_freed heap before after slots own place bytes stands here w =
    let of = (stands.keeps.used_are place bytes here).0 in
    let r = slot_rewritten heap before after slots own place (λ slot. behind_in slot ≡ Some heap.free) stands of.page w in
    record {
      own_now = own;
      stands = record {
        chain = r.chain;
        apart = stands.apart;
        keeps = freed (room heap.shape) own (used_at heap.shape before) (used_at heap.shape after) (behind_at heap.shape before) (behind_at heap.shape after) slots heap.free place bytes
            stands.keeps here w.is r.writes;
      };
      changes = r.changes;
    }

-- a place in use holds other bytes now
pub heap_set : (heap : Heap) (before after : PageMap) (slots : Slots) (own : List ℕ) (place : Place) (old bytes : List ℕ) → HeapStands heap before slots own → slots place ≡ Some old
    → RewritesSlot heap.shape before after place (λ slot. used_in heap.shape slot ≡ Some bytes) → HeapHas before after heap own (put_slot slots place (Some bytes))
heap_set heap before after slots own place old bytes stands here w =
    let of = (stands.keeps.used_are place old here).0 in
    let r = slot_rewritten heap before after slots own place (λ slot. used_in heap.shape slot ≡ Some bytes) stands of.page w in
    record {
      own_now = own;
      stands = record {
        chain = r.chain;
        apart = stands.apart;
        keeps = set_again (room heap.shape) own (used_at heap.shape before) (used_at heap.shape after) (behind_at heap.shape before) (behind_at heap.shape after) slots heap.free place old bytes
            stands.keeps here w.is r.writes;
      };
      changes = r.changes;
    }
