-- The numbers of slots, and what is told at them.
use Rattle.std.proofs.Common.{◌≡◌, ◌≢◌, ◌<◌, ◌+◌, ◌*◌, ℕ, zero, suc, true, false, List, length, slice_set, Some, None, refl, ap, sym, ◌∙◌, if◌then◌else◌, arith}
use Rattle.std.specs.Prelude.{nat_lt, Bool, Option}
use Rattle.std.proofs.lemmas.Bool.{ltb-true, lt-ltb}
use Rattle.std.proofs.lemmas.List.{get_or-set_same, get_or-set_other}
use Rattle.record_heap.specs.declared.shape.Place.{Place}
use Rattle.file_building.specs.NewPlaces.{slot_number, number_within, told_at, nowhere}

same_parts : (room a b s t : ℕ) → s < room → t < room → a * room + s ≡ b * room + t → (a ≡ b) × (s ≡ t)
same_parts room zero zero s t ls lt e = (refl, omega (arith, e))
same_parts room zero (suc b) s t ls lt e = absurd (omega (arith, ls, lt, e))
same_parts room (suc a) zero s t ls lt e = absurd (omega (arith, ls, lt, e))
same_parts room (suc a) (suc b) s t ls lt e = let rest = same_parts room a b s t ls lt (omega (arith, e)) in (ap suc rest.0, rest.1)

-- no two slots have one number
pub same_slot : (room : ℕ) (p q : Place) → p.slot < room → q.slot < room → slot_number room p ≡ slot_number room q → p ≡ q
same_slot room p q lp lq e =
    let parts = same_parts room p.page q.page p.slot q.slot lp lq e in
    λ i. record { page = parts.0 i; slot = parts.1 i }

-- ---- a slot that pages have, or have not

from_some : (x y : ℕ) → Some x ≡ Some y → x ≡ y
from_some x y e = cc

within_of : (room : ℕ) (p : Place) (n : ℕ) → number_within room p ≡ Some n → (p.slot < room) × (n ≡ slot_number room p)
within_of room p n e = go (nat_lt p.slot room) refl e
  where
    go : (b : Bool) → nat_lt p.slot room ≡ b → (if b then Some (slot_number room p) else None) ≡ Some n → (p.slot < room) × (n ≡ slot_number room p)
    go true is e = (ltb-true p.slot room is, sym (from_some (slot_number room p) n e))
    go false is e = absurd (cc)

-- ---- what is told once one place was put

pub put_told : (xs : List Place) (room : ℕ) (from to : Place) (n : ℕ) → number_within room from ≡ Some n → n < length xs → told_at (slice_set xs n to) (number_within room from) ≡ to
put_told xs room from to n at within = ap (told_at (slice_set xs n to)) at ∙ get_or-set_same xs n to nowhere within

pub other_told : (xs ys : List Place) (room : ℕ) (from to p : Place) (n : ℕ) → number_within room from ≡ Some n → ((i : ℕ) → told_at xs (Some i) ≡ told_at ys (Some i)) → p ≢ from
    → told_at (slice_set xs n to) (number_within room p) ≡ told_at ys (number_within room p)
other_told xs ys room from to p n at same differs = go (number_within room p) refl
  where
    go : (o : Option ℕ) → number_within room p ≡ o → told_at (slice_set xs n to) o ≡ told_at ys o
    go None is = refl
    go (Some m) is =
        let mine = within_of room p m is in
        let its = within_of room from n at in
        get_or-set_other xs n m to nowhere (λ e. differs (same_slot room p from mine.0 its.0 (sym mine.1 ∙ e ∙ its.1))) ∙ same m

-- a slot that pages have is one with a number
pub has_number : (room : ℕ) (p : Place) → p.slot < room → nat_lt p.slot room ≡ true
has_number room p within = lt-ltb p.slot room within
