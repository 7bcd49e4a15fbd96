-- The calls of a heap.
use Rattle.std.proofs.Common.{◌≡◌, ◌≢◌, ℕ, ◌≤◌, ◌∙◌, subst, List, Option, Some, None, Ok, Err, Result, IsSome, refl, sym}
use Rattle.std.specs.Prelude.{IsErrAnd, IsTrue, ⊤}
use Rattle.std.proofs.lemmas.Result.{err_from_is_err_and}
use Rattle.pages.specs.PageMap.{PageMap}
use Rattle.pages.specs.PagesState.{PagesState}
use Rattle.io_state.specs.declared.fault.Fault.{Fault}
use Rattle.io_state.specs.declared.fault.Fault.TheVariants.{Damage}
use Rattle.record_heap.specs.declared.shape.Place.{Place}
use Rattle.record_heap.specs.declared.heap.Heap.{Heap}
use Rattle.record_heap.specs.Slot.{room, used_in, behind_in}
use Rattle.record_heap.specs.Chain.{Slots, put_slot, KeepsSlots}
use Rattle.record_heap.specs.Calls.{used_at, behind_at, IsHeapAt, RewritesSlot, Rewriting, Refilling, Gets, GetsRecord}
use Rattle.pages.specs.Answer.{IsAnswer}
use Rattle.record_heap.specs.Standing.{HeapStands}
use Rattle.record_heap.specs.Found.{HeapHas, Got, GotRecord, Sets, Adds, MakesRoom}
use Rattle.record_heap.proofs.StandLemmas.{in_heap, page_of_chain, slot_rewritten, heap_freed, heap_set}
use Rattle.record_heap.proofs.GrowLemmas.{changes_on}
use Rattle.record_heap.proofs.ChainLemmas.{Front, front_of, taken, some_same}

-- a fault that is no damage is handed on
pub fails : {X : Type 0} (r : Result X Fault) (fault : Fault) (P : X → Type 0) → IsErrAnd r (λ e. e ≡ fault) → fault ≢ Damage → IsAnswer r P
fails r fault P was sound =
    let p = err_from_is_err_and r was in
    rw (p.1, p.2) (record { answer = tt; no_damage = sound })

pub some_of : {X : Type 0} (o : Option X) → IsSome o → (x : X) × (o ≡ Some x)
some_of None h = absurd (cc h)
some_of (Some x) h = (x, refl)

pub frees_ok : {X : Type 0} (x : X) (heap : Heap) (before after : PagesState) (place : Place)
    → Rewriting heap.shape place (λ (u : X) slot. behind_in slot ≡ Some heap.free) before after (Ok x) → Sets before after heap (record heap { free = place }) place None (Ok x)
frees_ok x heap before after place linked honest sound slots own stands here =
    let b = some_of (slots place) here in
    let at = in_heap heap before.live slots own place b.0 stands b.1 in
    let w = (linked honest sound at.next at.at at.within).answer in
    record { answer = (heap_freed heap before.live after.live slots own place b.0 stands b.1 w.0, w.1); no_damage = tt }

pub sets_ok : {X : Type 0} (x : X) (heap : Heap) (before after : PagesState) (place : Place) (bytes : List ℕ)
    → Rewriting heap.shape place (λ (u : X) slot. used_in heap.shape slot ≡ Some bytes) before after (Ok x) → Sets before after heap heap place (Some bytes) (Ok x)
sets_ok x heap before after place bytes filled honest sound slots own stands here =
    let b = some_of (slots place) here in
    let at = in_heap heap before.live slots own place b.0 stands b.1 in
    let w = (filled honest sound at.next at.at at.within).answer in
    record { answer = (heap_set heap before.live after.live slots own place b.0 bytes stands b.1 w.0, w.1); no_damage = tt }

-- a fault of a call that rewrites a slot in use
pub rewriting_fails : {X Y : Type 0} (heap new : Heap) (before after : PagesState) (place : Place) (bytes : Option (List ℕ)) (P : X → List ℕ → Type 0) (fault : Fault) (out : Result Y Fault)
    → Rewriting heap.shape place P before after (Err fault) → IsErrAnd out (λ e. e ≡ fault) → Sets before after heap new place bytes out
rewriting_fails heap new before after place bytes P fault out rewriting was honest sound slots own stands here =
    let b = some_of (slots place) here in
    let at = in_heap heap before.live slots own place b.0 stands b.1 in
    fails out fault _ was (rewriting honest sound at.next at.at at.within).no_damage

pub gets : (heap : Heap) (pages : PageMap) (place : Place) (old new : List ℕ) (result : Result ℕ Fault) → Gets heap.shape place pages old new result → Got heap place pages old new result
gets heap pages place old new result reads slots own bytes stands here =
    let at = in_heap heap pages slots own place bytes stands here in reads at.next at.at at.within bytes at.used

pub gets_record : (heap : Heap) (pages : PageMap) (place : Place) (old new : List ℕ) (result : Result ℕ Fault) → GetsRecord heap.shape place pages old new result
    → GotRecord heap place pages old new result
gets_record heap pages place old new result reads slots own bytes stands here =
    let at = in_heap heap pages slots own place bytes stands here in reads at.next at.at at.within bytes at.used

-- the first free slot holds a record now
pub heap_refilled : (heap : Heap) (before after : PageMap) (slots : Slots) (own bytes : List ℕ) (next : Place) → HeapStands heap before slots own → 1 ≤ heap.free.page
    → (f : Front (room heap.shape) own (used_at heap.shape before) (behind_at heap.shape before) slots heap.free)
    → RewritesSlot heap.shape before after heap.free (λ slot. (next ≡ f.next) × (used_in heap.shape slot ≡ Some bytes))
    → HeapHas before after (record heap { free = next }) own (put_slot slots heap.free (Some bytes))
heap_refilled heap before after slots own bytes next stands some f w =
    let r = slot_rewritten heap before after slots own heap.free (λ slot. (next ≡ f.next) × (used_in heap.shape slot ≡ Some bytes)) stands f.of.page w in
    let t = taken (room heap.shape) own (used_at heap.shape before) (used_at heap.shape after) (behind_at heap.shape before) (behind_at heap.shape after) slots heap.free bytes
    stands.keeps some w.is.1 r.writes in
    let same : t.0.next ≡ next = some_same t.0.next f.next (sym t.0.linked ∙ f.linked) ∙ sym w.is.0 in
    record {
      own_now = own;
      stands = record {
        chain = r.chain;
        apart = stands.apart;
        keeps = subst (KeepsSlots (room heap.shape) own (used_at heap.shape after) (behind_at heap.shape after) (put_slot slots heap.free (Some bytes))) same t.1;
      };
      changes = r.changes;
    }

-- a heap that has room: what the first free slot's call is told
pub record HasFront (old mid : Heap) (before middle : PagesState) (slots : Slots) (own : List ℕ) : Type 0 where
  pub has : HeapHas before.live middle.live mid own slots
  pub some : 1 ≤ mid.free.page
  pub sound : IsTrue middle.is_sound
  pub front : Front (room mid.shape) has.own_now (used_at mid.shape middle.live) (behind_at mid.shape middle.live) slots mid.free
  pub next : ℕ
  pub page : IsHeapAt middle.live mid.free.page next

pub has_front : (u : ⊤) (old mid : Heap) (before middle : PagesState) (slots : Slots) (own : List ℕ) → IsTrue middle.is_honest → IsTrue before.is_sound → HeapStands old before.live slots own
    → MakesRoom before middle old mid (Ok u) → HasFront old mid before middle slots own
has_front u old mid before middle slots own honest sound stands made =
    let m = (made honest sound slots own stands).answer in
    let f = front_of (room mid.shape) m.0.own_now (used_at mid.shape middle.live) (behind_at mid.shape middle.live) slots mid.free m.0.stands.keeps m.1 in
    let p = page_of_chain middle.live mid.first m.0.own_now mid.free.page m.0.stands.chain f.of.page in
    record { has = m.0; some = m.1; sound = m.2; front = f; next = p.0; page = p.1 }

pub adds_ok : (u : ⊤) (old mid : Heap) (before middle after : PagesState) (bytes : List ℕ) (next : Place) → (IsTrue after.is_honest → IsTrue middle.is_honest)
    → MakesRoom before middle old mid (Ok u) → Refilling mid.shape mid.free bytes middle after (Ok next) → Adds before after old (record mid { free = next }) bytes (Ok mid.free)
adds_ok u old mid before middle after bytes next back made filled honest sound slots own stands =
    let h = has_front u old mid before middle slots own (back honest) sound stands made in
    let w = (filled h.front.next h.front.linked honest h.sound h.next h.page h.front.of.slot).answer in
    let r = heap_refilled mid middle.live after.live slots h.has.own_now bytes next h.has.stands h.some h.front w.0 in
    record {
      answer = (h.front.none, record { own_now = r.own_now; stands = r.stands; changes = changes_on before.live middle.live after.live own h.has.own_now r.own_now h.has.changes r.changes }, w.1);
      no_damage = tt;
    }

-- a fault before or at the slot
pub room_fails : (old mid new : Heap) (before middle : PagesState) (bytes : List ℕ) (fault : Fault) (out : Result Place Fault) → MakesRoom before middle old mid (Err fault)
    → IsErrAnd out (λ e. e ≡ fault) → Adds before middle old new bytes out
room_fails old mid new before middle bytes fault out made was honest sound slots own stands =
    fails out fault _ was (made honest sound slots own stands).no_damage

pub refill_fails : (u : ⊤) (old mid new : Heap) (before middle after : PagesState) (bytes : List ℕ) (fault : Fault) (out : Result Place Fault) → (IsTrue after.is_honest → IsTrue middle.is_honest)
    → MakesRoom before middle old mid (Ok u) → Refilling mid.shape mid.free bytes middle after (Err fault) → IsErrAnd out (λ e. e ≡ fault) → Adds before after old new bytes out
refill_fails u old mid new before middle after bytes fault out back made filled was honest sound slots own stands =
    let h = has_front u old mid before middle slots own (back honest) sound stands made in
    fails out fault _ was (filled h.front.next h.front.linked honest h.sound h.next h.page h.front.of.slot).no_damage
