-- The order of a heap's chains after its calls.
use Rattle.std.proofs.Common.{◌≡◌, ◌≢◌, ℕ, ◌≤◌, ◌∙◌, ap, subst, List, [], ◌∷◌, Some, None, Ok, refl, sym, arith}
use Rattle.std.specs.Prelude.{IsTrue, ⊤}
use Rattle.pages.specs.Each.{Each}
use Rattle.pages.specs.PageMap.{PageMap}
use Rattle.pages.specs.PagesState.{PagesState}
use Rattle.record_heap.specs.declared.shape.Place.{Place}
use Rattle.record_heap.specs.declared.heap.Heap.{Heap}
use Rattle.record_heap.specs.Slot.{room, used_in, behind_in}
use Rattle.record_heap.specs.Chain.{Slots, IsPlaceOf, IsFreeChain}
use Rattle.record_heap.specs.Calls.{behind_at, RewritesSlot, Rewriting, Refilling}
use Rattle.record_heap.specs.Standing.{HeapStands}
use Rattle.record_heap.specs.Found.{MakesRoom}
use Rattle.record_heap.specs.Order.{HasChains, free_or_new, own_or_new, AddsInOrder, MakesRoomInOrder, SetsInOrder}
use Rattle.record_heap.proofs.ChainLemmas.{each_weaker, chain_still, not_used}
use Rattle.record_heap.proofs.StandLemmas.{in_heap, chain_written}
use Rattle.record_heap.proofs.HeapLemmas.{some_of, has_front}

-- free slots are not the place in use
free_apart : (heap : Heap) (pages : PageMap) (slots : Slots) (own : List ℕ) (place : Place) (bytes : List ℕ) → (stands : HeapStands heap pages slots own) → slots place ≡ Some bytes
    → Each (λ q. q ≢ place) stands.keeps.free
free_apart heap pages slots own place bytes stands here =
    each_weaker (λ q. IsPlaceOf (room heap.shape) own q × (slots q ≡ None)) (λ q. q ≢ place) (λ q f. not_used slots place bytes here q f.1) stands.keeps.free stands.keeps.free_are

-- the chain of places that are not the written one
chain_beside : (heap : Heap) (before after : PageMap) (place first : Place) (P : List ℕ → Type 0) (free : List Place) → RewritesSlot heap.shape before after place P → Each (λ q. q ≢ place) free
    → IsFreeChain (behind_at heap.shape before) first free → IsFreeChain (behind_at heap.shape after) first free
chain_beside heap before after place first P free w apart chain =
    chain_still (behind_at heap.shape before) (behind_at heap.shape after) free first
    (each_weaker (λ q. q ≢ place) (λ q. behind_at heap.shape after q ≡ behind_at heap.shape before q) (λ q n. ap behind_in (w.others q n)) free apart) chain

pub frees_in_order : {X : Type 0} (x : X) (heap : Heap) (before after : PagesState) (place : Place) → Rewriting heap.shape place (λ (u : X) slot. behind_in slot ≡ Some heap.free) before after (Ok x)
    → SetsInOrder before after heap (record heap { free = place }) place (place ∷ []) (Ok x)
frees_in_order x heap before after place linked honest sound slots own stands here =
    let b = some_of (slots place) here in
    let at = in_heap heap before.live slots own place b.0 stands b.1 in
    let w = (linked honest sound at.next at.at at.within).answer.0 in
    let apart = free_apart heap before.live slots own place b.0 stands b.1 in
    record {
      free_chain = (refl, (heap.free, w.is, chain_beside heap before.live after.live place heap.free (λ slot. behind_in slot ≡ Some heap.free) stands.keeps.free w apart stands.keeps.chain));
      once = (each_weaker (λ q. q ≢ place) (λ q. place ≢ q) (λ q n e. n (sym e)) stands.keeps.free apart, stands.keeps.once);
      page_chain = chain_written before.live after.live heap.first own place.page w.heap w.pages stands.chain;
    }

pub sets_in_order : {X : Type 0} (x : X) (heap : Heap) (before after : PagesState) (place : Place) (P : X → List ℕ → Type 0) → Rewriting heap.shape place P before after (Ok x)
    → SetsInOrder before after heap heap place [] (Ok x)
sets_in_order x heap before after place P written honest sound slots own stands here =
    let b = some_of (slots place) here in
    let at = in_heap heap before.live slots own place b.0 stands b.1 in
    let w = (written honest sound at.next at.at at.within).answer.0 in
    let apart = free_apart heap before.live slots own place b.0 stands b.1 in
    record {
      free_chain = chain_beside heap before.live after.live place heap.free (P x) stands.keeps.free w apart stands.keeps.chain;
      once = stands.keeps.once;
      page_chain = chain_written before.live after.live heap.first own place.page w.heap w.pages stands.chain;
    }

-- the first free slot was taken: the ones behind it are free still
refilled_chains : (heap : Heap) (before after : PageMap) (free : List Place) (own bytes : List ℕ) (next : Place) → 1 ≤ heap.free.page → HasChains heap before free own
    → ((behind : Place) → behind_at heap.shape before heap.free ≡ Some behind → RewritesSlot heap.shape before after heap.free (λ slot. (next ≡ behind) × (used_in heap.shape slot ≡ Some bytes)))
    → (rest : List Place) × (heap.free ∷ rest ≡ free) × HasChains (record heap { free = next }) after rest own
refilled_chains heap before after [] own bytes next some chains writes = absurd (let none : heap.free.page ≡ 0 = chains.free_chain in omega arith)
refilled_chains heap before after (p ∷ ps) own bytes next some chains writes =
    let is = sym chains.free_chain.0 in
    let w = writes chains.free_chain.1.0 (ap (behind_at heap.shape before) (sym is) ∙ chains.free_chain.1.1) in
    let apart = each_weaker (λ q. p ≢ q) (λ q. q ≢ heap.free) (λ q n e. n (is ∙ sym e)) ps chains.once.0 in (
      ps,
      ap (λ (q : Place). q ∷ ps) (sym is),
      record {
        free_chain = chain_beside heap before after heap.free next (λ slot. (next ≡ chains.free_chain.1.0) × (used_in heap.shape slot ≡ Some bytes)) ps w apart
            (subst (λ (q : Place). IsFreeChain (behind_at heap.shape before) q ps) (sym w.is.0) chains.free_chain.1.2);
        once = chains.once.1;
        page_chain = chain_written before after heap.first own heap.free.page w.heap w.pages chains.page_chain;
      },
    )

pub adds_in_order : (u : ⊤) (old mid : Heap) (before middle after : PagesState) (bytes : List ℕ) (next : Place) → (IsTrue after.is_honest → IsTrue middle.is_honest)
    → MakesRoom before middle old mid (Ok u) → MakesRoomInOrder before middle old mid (Ok u) → Refilling mid.shape mid.free bytes middle after (Ok next)
    → AddsInOrder before after old (record mid { free = next }) (Ok mid.free)
adds_in_order u old mid before middle after bytes next back made order filled honest sound slots own stands =
    let h = has_front u old mid before middle slots own (back honest) sound stands made in
    let chains = order (back honest) sound slots own stands in
    let r = refilled_chains mid middle.live after.live (free_or_new old.shape mid.free.page stands.keeps.free) (own_or_new mid.free.page stands.keeps.free own) bytes next h.some chains
    (λ behind linked. (filled behind linked honest h.sound h.next h.page h.front.of.slot).answer.0) in
    record { rest = r.0; first = r.1; chains = r.2 }
