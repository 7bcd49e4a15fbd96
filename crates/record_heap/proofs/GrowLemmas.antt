-- A new page at the front of a heap that had no free slot.
use Rattle.std.proofs.Common.{◌≡◌, ◌≢◌, ◌⊎◌, ℕ, zero, suc, ◌+◌, ◌-◌, ◌<◌, ◌≤◌, true, false, List, [], ◌∷◌, Option, Some, None, IsSome, refl, ap, sym, subst, ◌∙◌, arith, inl, inr}
use Rattle.std.proofs.lemmas.Bool.{lt-ltb, le-ltb}
use Rattle.std.specs.Prelude.{nat_lt}
use Rattle.std.proofs.lemmas.Bool.Decides.{eqb_tells}
use Rattle.std.proofs.Math.Dec.{eqb}
use Rattle.pages.specs.Each.{Each}
use Rattle.pages.specs.PageMap.{PageMap, Takes, Writes}
use Rattle.pages.specs.Owners.{IsOutside, AreApart, ChangesPages}
use Rattle.record_heap.specs.declared.shape.Place.{Place}
use Rattle.record_heap.specs.declared.heap.Heap.{Heap}
use Rattle.record_heap.specs.Slot.{room, used_in, behind_in}
use Rattle.record_heap.specs.Slots.{behind_new, AreLinked, IsHeapPage}
use Rattle.record_heap.specs.Chain.{Slots, IsOneOf, AreOnce, IsPlaceOf, IsFreeChain, KeepsSlots}
use Rattle.record_heap.specs.Calls.{slot_of, used_at, behind_at, IsHeapAt}
use Rattle.record_heap.specs.Standing.{HeapStands}
use Rattle.record_heap.specs.Found.{HeapHas}
use Rattle.record_heap.specs.Order.{HasChains, rising, free_or_new, own_or_new}
use Rattle.record_heap.proofs.ChainLemmas.{place_made, each_weaker, some_none}
use Rattle.record_heap.proofs.StandLemmas.{chain_live, chain_same, each_of, slot_still, slot_there}

-- what each place of the rising ones has
each_rising : (P : Place → Type 0) (n i k : ℕ) → ((j : ℕ) → i ≤ j → j < i + k → P (record { page = n; slot = j })) → Each P (rising n i k)
each_rising P n i zero h = tt
each_rising P n i (suc k) h =
    (h i (omega arith) (omega arith), each_rising P n (suc i) k (λ j low high. h j (omega arith) (omega arith)))

rising_once : (n i k : ℕ) → AreOnce (rising n i k)
rising_once n i zero = tt
rising_once n i (suc k) = (
  each_rising (λ q. (let p : Place = record { page = n; slot = i } in p) ≢ q) n (suc i) k (λ j low high e. let f : i ≡ j = ap (λ (p : Place). p.slot) e in omega arith),
  rising_once n (suc i) k,
)

rising_has : (n i k : ℕ) (p : Place) → p.page ≡ n → i ≤ p.slot → p.slot < i + k → IsOneOf (rising n i k) p
rising_has n i zero p page low high = absurd (omega arith)
rising_has n i (suc k) p page low high = go (eqb_tells p.slot i) (λ d. rising_has n (suc i) k p page (omega (arith, d)) (omega arith))
  where
    go : ((eqb p.slot i ≡ true) × (p.slot ≡ i)) ⊎ ((eqb p.slot i ≡ false) × (p.slot ≢ i)) → (p.slot ≢ i → IsOneOf (rising n (suc i) k) p) → IsOneOf (rising n i (suc k)) p
    go (inl a) rest = inl (place_made p (record { page = n; slot = i }) page a.1)
    go (inr b) rest = inr (rest b.1)

-- the slots of the new page are a chain
rising_chain : (behind : Place → Option Place) (room n i k : ℕ) → i + suc k ≡ room → ((j : ℕ) → j < room → behind (record { page = n; slot = j }) ≡ Some (behind_new room n j))
    → IsFreeChain behind (record { page = n; slot = i }) (rising n i (suc k))
rising_chain behind room n i zero end linked =
    let last : nat_lt (i + 1) room ≡ false = le-ltb (i + 1) room (omega arith) in
    let here : i < room = omega arith in
    let none : Place = record { page = 0; slot = 0 } in
    let step : Some (behind_new room n i) ≡ Some none = rw last refl in
    (refl, (none, linked i here ∙ step, refl))
rising_chain behind room n i (suc k) end linked =
    let more : nat_lt (i + 1) room ≡ true = lt-ltb (i + 1) room (omega arith) in
    let here : i < room = omega arith in
    let rest : suc i + suc k ≡ room = omega arith in
    let up : i + 1 ≡ suc i = omega arith in
    let next : Place = record { page = n; slot = suc i } in
    let step : Some (behind_new room n i) ≡ Some next = rw more (ap (λ (j : ℕ). let it : Place = record { page = n; slot = j } in Some it) up) in
    (refl, (next, linked i here ∙ step, rising_chain behind room n (suc i) k rest linked))

rising_all : (behind : Place → Option Place) (room n : ℕ) → 1 ≤ room → ((j : ℕ) → j < room → behind (record { page = n; slot = j }) ≡ Some (behind_new room n j))
    → IsFreeChain behind (record { page = n; slot = 0 }) (rising n 0 room)
rising_all behind room n wide linked =
    let e : suc (room - 1) ≡ room = omega arith in
    subst (λ (k : ℕ). IsFreeChain behind (record { page = n; slot = 0 }) (rising n 0 k)) e (rising_chain behind room n 0 (room - 1) (omega arith) linked)

-- where the first free slot is none, the chain is empty
no_free : (room : ℕ) (own : List ℕ) (behind : Place → Option Place) (slots : Slots) (first : Place) (free : List Place) → first.page ≡ 0 → IsFreeChain behind first free
    → Each (λ p. IsPlaceOf room own p × (slots p ≡ None)) free → free ≡ []
no_free room own behind slots first [] none chain are = refl
no_free room own behind slots first (p ∷ ps) none chain are =
    let e : first.page ≡ p.page = ap (λ (q : Place). q.page) chain.0 in
    let some : 1 ≤ p.page = are.0.0.some in
    absurd (omega arith)

-- a new page, whose slots are linked in rising order
pub grown : (room : ℕ) (own : List ℕ) (used used' : Slots) (behind behind' : Place → Option Place) (slots : Slots) (first : Place) (n : ℕ)
    → KeepsSlots room own used behind slots first → first.page ≡ 0 → 1 ≤ n → 1 ≤ room → IsOutside own n
    → ((j : ℕ) → j < room → behind' (record { page = n; slot = j }) ≡ Some (behind_new room n j)) → ((q : Place) → q.page ≢ n → used' q ≡ used q)
    → KeepsSlots room (n ∷ own) used' behind' slots (record { page = n; slot = 0 })
grown room own used used' behind behind' slots first n keeps none some wide outside linked same = record {
  free = rising n 0 room;
  chain = rising_all behind' room n wide linked;
  once = rising_once n 0 room;
  used_are = λ p bytes is. let u = keeps.used_are p bytes is in (old p u.0, same p (not_new p u.0) ∙ u.1);
  free_are = each_rising (λ p. IsPlaceOf room (n ∷ own) p × (slots p ≡ None)) n 0 room (λ j low high. (record { page = inl refl; some = some; slot = (let below : j < room = omega arith in below) }, unused (record { page = n; slot = j }) refl (slots (record { page = n; slot = j })) refl));
  every = λ p of nothing. choose p of nothing of.page;
}
  where
    old : (p : Place) → IsPlaceOf room own p → IsPlaceOf room (n ∷ own) p
    old p of = record { page = inr of.page; some = of.some; slot = of.slot }

    not_new : (p : Place) → IsPlaceOf room own p → p.page ≢ n
    not_new p of e = each_of (λ (m : ℕ). n ≢ m) own p.page outside of.page (sym e)

    unused : (p : Place) → p.page ≡ n → (o : Option (List ℕ)) → slots p ≡ o → slots p ≡ None
    unused p page None is = is
    unused p page (Some bytes) is = absurd (not_new p (keeps.used_are p bytes is).0 page)

    choose : (p : Place) → IsPlaceOf room (n ∷ own) p → slots p ≡ None → IsOneOf (n ∷ own) p.page → IsOneOf (rising n 0 room) p
    choose p of nothing (inl e) = rising_has n 0 room p e (omega arith) (omega (arith, of.slot))
    choose p of nothing (inr at) =
        absurd (subst (λ (l : List Place). IsOneOf l p) (no_free room own behind slots first keeps.free none keeps.chain keeps.free_are)
        (keeps.every p (record { page = at; some = of.some; slot = of.slot }) nothing))

-- a page in use is not free
live_free : (o : Option (List ℕ)) → IsSome o → o ≡ None → ⊥
live_free None here free = cc here
live_free (Some bytes) here free = some_none bytes free

-- pages in use are not the free one
pub free_outside : (pages : PageMap) (own : List ℕ) (n : ℕ) → pages n ≡ None → Each (λ m. IsSome (pages m)) own → IsOutside own n
free_outside pages [] n free live = tt
free_outside pages (m ∷ ms) n free live = (λ e. live_free (pages m) live.0 (ap pages (sym e) ∙ free), free_outside pages ms n free live.1)

-- pages alone: the heap with a page that was free
pub stands_grown : (heap : Heap) (before after : PageMap) (slots : Slots) (own bytes : List ℕ) (n : ℕ) → HeapStands heap before slots own → heap.free.page ≡ 0 → 1 ≤ n → 1 ≤ room heap.shape
    → Takes before after n bytes → IsHeapPage heap.first bytes → AreLinked heap.shape n (room heap.shape) bytes
    → HeapStands (record heap { first = n; free = record { page = n; slot = 0 } }) after slots (n ∷ own)
stands_grown heap before after slots own bytes n stands none some wide takes page linked =
    let live = chain_live before heap.first own stands.chain in
    let outside = free_outside before own n takes.free live in
    let same = each_weaker (λ m. n ≢ m) (λ m. after m ≡ before m) (λ m d. takes.others m (λ e. d (sym e))) own outside in
    let still : (q : Place) → q.page ≢ n → slot_of heap.shape after q ≡ slot_of heap.shape before q = λ q d. slot_still heap.shape before after q (takes.others q.page d) in
    let heap_page : IsHeapAt after n heap.first = record { bytes = bytes; there = takes.page; heap = page } in
    record {
      chain = (refl, (heap.first, heap_page, chain_same before after heap.first own same stands.chain));
      apart = (outside, stands.apart);
      keeps = grown (room heap.shape) own (used_at heap.shape before) (used_at heap.shape after) (behind_at heap.shape before) (behind_at heap.shape after) slots heap.free n stands.keeps none some wide outside
          (λ j below. ap behind_in (slot_there heap.shape after (record { page = n; slot = j }) n bytes refl takes.page) ∙ linked j below) (λ q d. ap (used_in heap.shape) (still q d));
    }

-- one page more was taken
pub changes_grown : (before after : PageMap) (own bytes : List ℕ) (n : ℕ) → Each (λ m. IsSome (before m)) own → AreApart own → Takes before after n bytes → ChangesPages before after own (n ∷ own)
changes_grown before after own bytes n live apart takes =
    let outside = free_outside before own n takes.free live in
    record {
      others = λ m here out. let d : m ≢ n = λ e. taken_not m here e in (takes.others m d, (d, out));
      no_stray = λ m here out. (subst (λ (o : Option (List ℕ)). IsSome o) (takes.others m out.0) here, out.1);
      apart = (outside, apart);
    }
  where
    taken_not : (m : ℕ) → IsSome (before m) → m ≡ n → ⊥
    taken_not m here e = live_free (before m) here (ap before e ∙ takes.free)

pub heap_grown : (heap : Heap) (before after : PageMap) (slots : Slots) (own bytes : List ℕ) (n : ℕ) → HeapStands heap before slots own → heap.free.page ≡ 0 → 1 ≤ n → 1 ≤ room heap.shape
    → Takes before after n bytes → IsHeapPage heap.first bytes → AreLinked heap.shape n (room heap.shape) bytes
    → HeapHas before after (record heap { first = n; free = record { page = n; slot = 0 } }) own slots
heap_grown heap before after slots own bytes n stands none some wide takes page linked = record {
  own_now = n ∷ own;
  stands = stands_grown heap before after slots own bytes n stands none some wide takes page linked;
  changes = changes_grown before after own bytes n (chain_live before heap.first own stands.chain) stands.apart takes;
}

-- its chains: the new page is the first one, and its slots are free in rising order
pub chains_grown : (heap : Heap) (before after : PageMap) (slots : Slots) (own bytes : List ℕ) (n : ℕ) → heap.free.page ≡ 0 → 1 ≤ room heap.shape
    → Takes before after n bytes → IsHeapPage heap.first bytes → AreLinked heap.shape n (room heap.shape) bytes → (stands : HeapStands heap before slots own)
    → HasChains (record heap { first = n; free = record { page = n; slot = 0 } }) after (free_or_new heap.shape n stands.keeps.free) (own_or_new n stands.keeps.free own)
chains_grown heap before after slots own bytes n none wide takes page linked stands =
    let live = chain_live before heap.first own stands.chain in
    let outside = free_outside before own n takes.free live in
    let same = each_weaker (λ m. n ≢ m) (λ m. after m ≡ before m) (λ m d. takes.others m (λ e. d (sym e))) own outside in
    let heap_page : IsHeapAt after n heap.first = record { bytes = bytes; there = takes.page; heap = page } in
    let grown_heap : Heap = record heap { first = n; free = record { page = n; slot = 0 } } in
    let chains : HasChains grown_heap after (rising n 0 (room heap.shape)) (n ∷ own) = record {
      free_chain = rising_all (behind_at heap.shape after) (room heap.shape) n wide
          (λ j below. ap behind_in (slot_there heap.shape after (record { page = n; slot = j }) n bytes refl takes.page) ∙ linked j below);
      once = rising_once n 0 (room heap.shape);
      page_chain = (refl, (heap.first, heap_page, chain_same before after heap.first own same stands.chain));
    } in
    let empty = no_free (room heap.shape) own (behind_at heap.shape before) slots heap.free stands.keeps.free none stands.keeps.chain stands.keeps.free_are in
    subst (λ (free : List Place). HasChains grown_heap after (free_or_new heap.shape n free) (own_or_new n free own)) (sym empty) chains

-- a page was taken, and then written
pub taken_written : (a b c : PageMap) (n : ℕ) (first bytes : List ℕ) → Takes a b n first → Writes b c n bytes → Takes a c n bytes
taken_written a b c n first bytes takes writes = record { free = takes.free; page = writes.page; others = λ m d. writes.others m d ∙ takes.others m d }

-- two changes in a row are one
pub changes_on : (a b c : PageMap) (xs ys zs : List ℕ) → ChangesPages a b xs ys → ChangesPages b c ys zs → ChangesPages a c xs zs
changes_on a b c xs ys zs one two = record {
  others = λ n here out. let f = one.others n here out in
      let s = two.others n (subst (λ (o : Option (List ℕ)). IsSome o) (sym f.0) here) f.1 in (s.0 ∙ f.0, s.1);
  no_stray = λ n here out. let s = two.no_stray n here out in one.no_stray n s.0 s.1;
  apart = two.apart;
}

-- nothing has changed
pub changes_none : (a : PageMap) (own : List ℕ) → AreApart own → ChangesPages a a own own
changes_none a own apart = record { others = λ n here out. (refl, out); no_stray = λ n here out. (here, out); apart = apart }
