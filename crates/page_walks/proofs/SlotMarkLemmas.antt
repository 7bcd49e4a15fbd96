-- A mark is set, and every other one stays.
use Rattle.std.proofs.Common.{◌≡◌, ◌≢◌, ◌⊎◌, ℕ, ◌+◌, ◌*◌, ◌/◌, ◌<◌, Bool, false, List, Option, Some, None, refl, ap, sym, ◌∙◌, arith, inl, inr}
use Rattle.std.specs.Prelude.{nat_lt, slice_get}
use Rattle.std.proofs.lemmas.Bool.{cases_Bool, lt-ltb, ltb-true, eq-eqb}
use Rattle.std.proofs.lemmas.Bool.Decides.{eqb_tells}
use Rattle.std.proofs.lemmas.Nat.{div-mul-add}
use Rattle.std.proofs.lemmas.Option.{slice_get_cases}
use Rattle.record_heap.specs.declared.shape.Place.{Place}
use Rattle.page_walks.specs.declared.slot_marks.SlotMarks.{SlotMarks}
use Rattle.page_walks.specs.Bits.{bit_of}
use Rattle.page_walks.specs.SlotMarks.{IsSlotOf, MarkAt, SetsMark, marked_slot}
use Rattle.record_heap.proofs.ChainLemmas.{place_made}

-- a number has one quotient and one rest
pub one_rest : (a b r s t : ℕ) → s < r → t < r → a * r + s ≡ b * r + t → (a ≡ b) × (s ≡ t)
one_rest a b r s t low low' same =
    let e : a ≡ b = sym (div-mul-add a r s low) ∙ ap (λ (n : ℕ). n / r) same ∙ div-mul-add b r t low' in
    let m : a * r ≡ b * r = ap (λ (n : ℕ). n * r) e in
    (e, omega (arith, m, same))

-- the same slots have marks
pub record IsAlike (old new : SlotMarks) : Type 0 where
  pub own : new.own.now ≡ old.own.now
  pub positions : new.positions.items ≡ old.positions.items
  pub room : new.room ≡ old.room

pub alike_itself : (m : SlotMarks) → IsAlike m m
alike_itself m = record { own = refl; positions = refl; room = refl }

pub told : (m : SlotMarks) (p : Place) (seen : IsSlotOf m p) → marked_slot m p ≡ bit_of m.marks.words.items (seen.at * m.room + p.slot)
told m p seen = rw (seen.position, seen.page, eq-eqb p.page p.page refl, lt-ltb p.slot m.room seen.slot) refl

pub looks : (m : SlotMarks) (p : Place) → IsSlotOf m p ⊎ ((w : SlotMarks) → IsAlike m w → marked_slot w p ≡ false)
looks m p = elim (slice_get_cases m.positions.items p.page).1 [
  | inr past ↦ inr (λ w alike. rw (position w alike None past.1) refl)
  | inl found ↦ elim (slice_get_cases m.own.now found.0).1 [
    | inr past ↦ inr (λ w alike. rw (position w alike (Some found.0) found.2, page w alike found.0 None past.1) refl)
    | inl owned ↦ elim (eqb_tells owned.0 p.page) [
      | inr other ↦ inr (λ w alike. rw (position w alike (Some found.0) found.2, page w alike found.0 (Some owned.0) owned.2, other.0) refl)
      | inl same ↦ elim (cases_Bool (nat_lt p.slot m.room)) [
        | inr high ↦ inr (λ w alike. rw (position w alike (Some found.0) found.2, page w alike found.0 (Some owned.0) owned.2, same.0, ap (nat_lt p.slot) alike.room ∙ high) refl)
        | inl low ↦ inl (record { at = found.0; position = found.2; page = owned.2 ∙ ap Some same.1; slot = ltb-true p.slot m.room low })
      ]
    ]
  ]
]
  where
    position : (w : SlotMarks) → IsAlike m w → (o : Option ℕ) → slice_get m.positions.items p.page ≡ o → slice_get w.positions.items p.page ≡ o
    position w alike o is = ap (λ (l : List ℕ). slice_get l p.page) alike.positions ∙ is

    page : (w : SlotMarks) → IsAlike m w → (at : ℕ) (o : Option ℕ) → slice_get m.own.now at ≡ o → slice_get w.own.now at ≡ o
    page w alike at o is = ap (λ (l : List ℕ). slice_get l at) alike.own ∙ is

abbrev still_seen : (m w : SlotMarks) (p : Place) → IsAlike m w → IsSlotOf m p → IsSlotOf w p
still_seen m w p alike seen = record {
  at = seen.at;
  position = ap (λ (l : List ℕ). slice_get l p.page) alike.positions ∙ seen.position;
  page = ap (λ (l : List ℕ). slice_get l seen.at) alike.own ∙ seen.page;
  slot = omega (arith, alike.room, seen.slot);
}

-- the mark at i is set
pub mark_set : (m w : SlotMarks) (place : Place) (to : Bool) (i : ℕ) → MarkAt m place i → w.own.now ≡ m.own.now → w.positions.items ≡ m.positions.items → w.room ≡ m.room
    → bit_of w.marks.words.items i ≡ to → ((j : ℕ) → j ≢ i → bit_of w.marks.words.items j ≡ bit_of m.marks.words.items j) → SetsMark place to m w
mark_set m w place to i at own positions room is others = record {
  here = now place here ∙ ap (bit_of w.marks.words.items) (sym at.is) ∙ is;
  others = λ p d. elim (looks m p) [
    | inr none ↦ none w alike ∙ sym (none m (alike_itself m))
    | inl seen ↦ now p seen ∙ others (seen.at * m.room + p.slot) (λ e. d (one_place p seen e)) ∙ sym (told m p seen)
  ];
}
  where
    alike : IsAlike m w
    alike = record { own = own; positions = positions; room = room }

    here : IsSlotOf m place
    here = record { at = at.at; position = at.position; page = at.page; slot = at.slot }

    now : (p : Place) (seen : IsSlotOf m p) → marked_slot w p ≡ bit_of w.marks.words.items (seen.at * m.room + p.slot)
    now p seen = told w p (still_seen m w p alike seen) ∙ ap (λ (r : ℕ). bit_of w.marks.words.items (seen.at * r + p.slot)) room

    one_place : (p : Place) (seen : IsSlotOf m p) → seen.at * m.room + p.slot ≡ i → p ≡ place
    one_place p seen e =
        let one = one_rest seen.at at.at m.room p.slot place.slot seen.slot at.slot (e ∙ at.is) in
        let same : Some p.page ≡ Some place.page = sym seen.page ∙ ap (λ (n : ℕ). slice_get m.own.now n) one.0 ∙ at.page in
        let page : p.page ≡ place.page = cc in
        place_made p place page one.1
