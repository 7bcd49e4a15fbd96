-- Places of slots: those in use, and the chain of the free ones.
use Rattle.std.specs.Prelude.{◌≡◌, ◌≢◌, ◌⊎◌, ℕ, ◌≤◌, ◌<◌, Bool, ◌==◌, ◌&&◌, List, [], ◌∷◌, Option, Some, None}
use Rattle.std.specs.Prelude.{⊤, if◌then◌else◌}
use Rattle.pages.specs.Each.{Each}
use Rattle.record_heap.specs.declared.shape.Place.{Place}

-- the stamps and the record at each place in use
abbrev pub Slots : Type 0
Slots = Place → Option (List ℕ)

-- no place is in use
abbrev pub no_slots : Slots
no_slots place = None

abbrev pub is_place : Place → Place → Bool
is_place p q = (p.page == q.page) && (p.slot == q.slot)

-- the slots with this at a place
abbrev pub put_slot : Slots → Place → Option (List ℕ) → Slots
put_slot slots place bytes p = if is_place place p then bytes else slots p

abbrev pub IsOneOf : {X : Type 0} → List X → X → Type 0
IsOneOf [] x = ⊥
IsOneOf (y ∷ ys) x = (x ≡ y) ⊎ IsOneOf ys x

-- no place stands twice
abbrev pub AreOnce : List Place → Type 0
AreOnce [] = ⊤
AreOnce (p ∷ ps) = Each (λ q. p ≢ q) ps × AreOnce ps

-- a place in one of these pages
pub record IsPlaceOf (room : ℕ) (own : List ℕ) (p : Place) : Type 0 where
  pub page : IsOneOf own p.page
  pub some : 1 ≤ p.page
  pub slot : p.slot < room

-- these are the free slots from the first on, each with the place of the next; page 0 is none
abbrev pub IsFreeChain : (Place → Option Place) → Place → List Place → Type 0
IsFreeChain behind first [] = first.page ≡ 0
IsFreeChain behind first (p ∷ ps) = (first ≡ p) × ((next : Place) × (behind p ≡ Some next)
    × IsFreeChain behind next ps)

-- Every slot of the pages is in use, or stands once in the chain of free slots.
pub record KeepsSlots (room : ℕ) (own : List ℕ) (used : Slots) (behind : Place → Option Place)
    (slots : Slots) (first : Place) : Type 0 where
  pub free : List Place
  pub chain : IsFreeChain behind first free
  pub once : AreOnce free
  pub used_are : (p : Place) (bytes : List ℕ) → slots p ≡ Some bytes → IsPlaceOf room own p
      × (used p ≡ Some bytes)
  pub free_are : Each (λ p. IsPlaceOf room own p × (slots p ≡ None)) free
  pub every : (p : Place) → IsPlaceOf room own p → slots p ≡ None → IsOneOf free p
