-- A page after one of its slots was written.
use Rattle.std.proofs.Common.{rules, ◌≡◌, ◌≢◌, ◌⊎◌, inl, inr, Some, ℕ, suc, ◌+◌, ◌*◌, ◌<◌, ◌≤◌, List, [], length, take, drop, set, get_or, ap, sym, subst, ◌∙◌, arith}
use Rattle.std.proofs.lemmas.List.{drop-drop, length-append, length-drop, length-take-le, get_or-set_same, get_or-set_other}
use Rattle.std.proofs.lemmas.Slice.{take-put_mid_below}
use Rattle.std.proofs.Math.Nat.{suc-mul}
use borrow.Rule.Slice.PartMut.{put_mid}
use Rattle.pages.specs.Chunks.{chunks}
use Rattle.pages.proofs.ChunkLemmas.{times_less, get_or-chunks, length-chunks}
use Rattle.pages.proofs.ChunkLemmas.{chunks_set_behind}
use Rattle.pages.proofs.RoomLemmas.{room_fits}
use Rattle.record_heap.specs.declared.shape.SlotShape.{SlotShape}
use Rattle.std.proofs.lemmas.Bool.Decides.{eqb_tells}
use Rattle.std.proofs.Math.Dec.{eqb}
use Rattle.std.specs.Prelude.{true, false}
use Rattle.record_heap.specs.Slot.{size, room, behind_in}
use Rattle.record_heap.specs.Slots.{slots_in, slot_at, behind_new, AreLinked, Edits, IsHeapPage}

pub edits : (shape : SlotShape) (page part : List ℕ) (i s k : ℕ) (P : List ℕ → Type 0) → length page ≡ 4096 → s ≡ size shape → i < room shape → k ≡ s
    → length part ≡ length (take k (drop (16 + i * s) page)) → P part → Edits shape page (put_mid (16 + i * s) k page part) i P
edits shape page part i s k P long is place width same holds =
    let fits : room shape * s ≤ 4080 = subst (λ (n : ℕ). room shape * n ≤ 4080) (sym is) (room_fits 4080 (size shape) (room shape) (omega arith)) in
    let below : suc i ≤ room shape = omega arith in
    let split = times_less (room shape) (suc i) s below in
    let step : suc i * s ≡ i * s + s = suc-mul i s in
    let reach : 16 + i * s + s ≤ length page = omega arith in
    let inside : k ≤ length (drop (16 + i * s) page) = rw length-drop (omega arith) in
    let same' : length part ≡ k = same ∙ length-take-le k (drop (16 + i * s) page) inside in
    record {
      slot = part;
      is = holds;
      slots = subst (λ (n : ℕ). chunks n (room shape) (drop 16 (put_mid (16 + i * s) k page part)) ≡ set (chunks n (room shape) (drop 16 page)) i part) is
          (chunks_set_behind page part 16 s (room shape) i k place (omega arith) (same' ∙ width) width);
      start = take-put_mid_below (16 + i * s) k page part 16 (omega arith) (omega arith);
      long = rw (length-append, length-append, length-take-le (16 + i * s) page (omega arith), length-drop, length-drop) (omega arith);
    }

pub slot_is : (shape : SlotShape) (page : List ℕ) (i s k : ℕ) → s ≡ size shape → k ≡ s → i < room shape → take k (drop (16 + i * s) page) ≡ slot_at shape page i
slot_is shape page i s k is width place =
    ap (λ (n : ℕ). take n (drop (16 + i * s) page)) width ∙ ap (λ (n : ℕ). take n (drop (16 + i * n) page)) is
    ∙ sym (get_or-chunks (size shape) (room shape) i (drop 16 page) [] place ∙ ap (take (size shape)) (drop-drop (i * size shape) 16 page))

-- the slots of the page then
pub edited_here : (shape : SlotShape) (old new : List ℕ) (i : ℕ) (P : List ℕ → Type 0) → (e : Edits shape old new i P) → i < room shape → slot_at shape new i ≡ e.slot
edited_here shape old new i P e place =
    ap (λ (l : List (List ℕ)). get_or l i []) e.slots ∙ get_or-set_same (slots_in shape old) i e.slot [] (rw (length-chunks (size shape) (room shape) (drop 16 old)) place)

pub edited_there : (shape : SlotShape) (old new : List ℕ) (i j : ℕ) (P : List ℕ → Type 0) → Edits shape old new i P → j ≢ i → slot_at shape new j ≡ slot_at shape old j
edited_there shape old new i j P e other =
    ap (λ (l : List (List ℕ)). get_or l j []) e.slots ∙ get_or-set_other (slots_in shape old) i j e.slot [] other

pub still_heap : (shape : SlotShape) (old new : List ℕ) (i next : ℕ) (P : List ℕ → Type 0) → Edits shape old new i P → IsHeapPage next old → IsHeapPage next new
still_heap shape old new i next P e heap = record { size = e.long ∙ heap.size; start = e.start ∙ heap.start }

-- one more slot of the new page is linked
pub linked_more : (shape : SlotShape) (old new : List ℕ) (n i : ℕ) → AreLinked shape n i old → Edits shape old new i (λ slot. behind_in slot ≡ Some (behind_new (room shape) n i)) → i < room shape
    → AreLinked shape n (i + 1) new
linked_more shape old new n i linked e place j below = go (eqb_tells j i)
  where
    go : ((eqb j i ≡ true) × (j ≡ i)) ⊎ ((eqb j i ≡ false) × (j ≢ i)) → behind_in (slot_at shape new j) ≡ Some (behind_new (room shape) n j)
    go (inl a) = rw a.1 (ap behind_in (edited_here shape old new i (λ slot. behind_in slot ≡ Some (behind_new (room shape) n i)) e place) ∙ e.is)
    go (inr b) = let less : j < i = omega (arith, b.1) in
        ap behind_in (edited_there shape old new i j (λ slot. behind_in slot ≡ Some (behind_new (room shape) n i)) e b.1) ∙ linked j less

-- a page has a slot
pub room_some : (shape : SlotShape) → 1 ≤ room shape
room_some shape = search rules
