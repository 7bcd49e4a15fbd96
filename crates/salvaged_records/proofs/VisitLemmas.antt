-- Slots in use, and more of them.
use Rattle.std.proofs.Common.{◌≡◌, ℕ, suc, ◌+◌, ◌<◌, ◌≤◌, Bool, true, false, cond, List, [], ◌++◌, length, get_or, Option, Some, None, refl, sym, ap, subst, append-nil, arith}
use Rattle.std.specs.Prelude.{nat_lt}
use Rattle.std.proofs.lemmas.Bool.{ltb-true, ltb-false}
use Rattle.pages.specs.PageList.{pages_in}
use Rattle.record_heap.specs.declared.shape.SlotShape.{SlotShape}
use Rattle.record_heap.specs.Slot.{room}
use Rattle.salvaged_records.specs.Slots.{FoundSlot, is_heap_page, record_at, slots_to, slots_of_page, slots_before, with_slot}

-- one slot more, behind others
with_more : (slots : List FoundSlot) (n i : ℕ) (found : Option (List ℕ)) → slots ++ with_slot [] n i found ≡ with_slot slots n i found
with_more slots n i None = append-nil slots
with_more slots n i (Some bytes) = refl

pub slot_next : (P : List FoundSlot → Type 0) (shape : SlotShape) (page : List ℕ) (n i : ℕ) → P (slots_to shape page n i ++ with_slot [] n i (record_at shape page i)) → P (slots_to shape page n (i + 1))
slot_next P shape page n i is =
    let up : i + 1 ≡ suc i = omega arith in
    subst (λ (k : ℕ). P (slots_to shape page n k)) (sym up) (subst P (with_more (slots_to shape page n i) n i (record_at shape page i)) is)

-- one page more
pub page_next : (P : List FoundSlot → Type 0) (shape : SlotShape) (pages : List (List ℕ)) (n : ℕ) (page : List ℕ) → page ≡ get_or pages n []
    → P (slots_before shape pages n ++ slots_of_page shape page n) → P (slots_before shape pages (n + 1))
page_next P shape pages n page here is =
    let up : n + 1 ≡ suc n = omega arith in
    subst (λ (k : ℕ). P (slots_before shape pages k)) (sym up) (subst (λ (p : List ℕ). P (slots_before shape pages n ++ slots_of_page shape p n)) here is)

-- a page that came is there
pub there : (list : List (List ℕ)) (n : ℕ) (page : List ℕ) → Some page ≡ pages_in list n → (n < length list) × (page ≡ get_or list n [])
there list n page is = go (nat_lt n (length list)) refl
  where
    go : (b : Bool) → nat_lt n (length list) ≡ b → (n < length list) × (page ≡ get_or list n [])
    go true e = (ltb-true n (length list) e, let one : Some page ≡ Some (get_or list n []) = rw e at is in cc)
    go false e = absurd (let none : Some page ≡ None = rw e at is in cc)

-- a page that did not come is not
pub no_more : (list : List (List ℕ)) (n : ℕ) → None ≡ pages_in list n → length list ≤ n
no_more list n is = go (nat_lt n (length list)) refl
  where
    go : (b : Bool) → nat_lt n (length list) ≡ b → length list ≤ n
    go true e = absurd (let none : None ≡ Some (get_or list n []) = rw e at is in cc)
    go false e = ltb-false n (length list) e

-- the slots of a page that is a heap page, and of one that is not
pub of_heap_page : (shape : SlotShape) (page : List ℕ) (n : ℕ) → is_heap_page page ≡ true → slots_of_page shape page n ≡ slots_to shape page n (room shape)
of_heap_page shape page n is = ap (λ (b : Bool). cond b (slots_to shape page n (room shape)) []) is

pub of_other_page : (shape : SlotShape) (page : List ℕ) (n : ℕ) → is_heap_page page ≡ false → slots_of_page shape page n ≡ []
of_other_page shape page n is = ap (λ (b : Bool). cond b (slots_to shape page n (room shape)) []) is
