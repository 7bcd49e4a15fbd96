-- Which slots have a mark that can be set.
use Rattle.std.proofs.Common.{◌≡◌, ◌≢◌, ◌⊎◌, ℕ, zero, suc, ◌+◌, ◌*◌, ◌<◌, ◌≤◌, Bool, true, false, List, [], ◌∷◌, ◌++◌, length, get_or, set, Some, refl, ap, sym, subst, ◌∙◌, arith, inl, inr}
use Rattle.std.specs.Prelude.{slice_get}
use Rattle.std.proofs.lemmas.Bool.{cases_Bool, false≢true}
use Rattle.std.proofs.lemmas.Bool.Decides.{eqb_tells}
use Rattle.std.proofs.lemmas.List.{length-set, get_or-set_same, get_or-set_other}
use Rattle.std.proofs.lemmas.Option.{slice_get_within, slice_get-get_or, get_or_from_slice_get}
use Rattle.std.proofs.Math.Dec.{eqb}
use Rattle.std.proofs.Math.Nat.{suc-mul}
use Rattle.pages.specs.Each.{Each}
use Rattle.pages.proofs.ChunkLemmas.{times_less}
use Rattle.pages.specs.Owners.{AreApart}
use Rattle.record_heap.specs.declared.shape.Place.{Place}
use Rattle.page_walks.specs.declared.slot_marks.SlotMarks.{SlotMarks}
use Rattle.page_walks.specs.Bits.{bit_of}
use Rattle.record_heap.specs.Chain.{IsOneOf}
use Rattle.page_walks.specs.SlotMarks.{ArePositions, AreFor, HasMark, IsSlotOf, MarkAt, SameSlots, marked_slot}
use Rattle.record_heap.proofs.ChainLemmas.{place_made}
use Rattle.page_walks.proofs.SlotMarkLemmas.{alike_itself, looks, told}
use Rattle.page_walks.proofs.SlotWalkLemmas.{one_before}

-- ---- positions

each_at : (P : ℕ → Type 0) (xs : List ℕ) (i : ℕ) → i < length xs → Each P xs → P (get_or xs i 0)
each_at P [] i inside all = absurd (omega arith)
each_at P (x ∷ xs) zero inside all = all.0
each_at P (x ∷ xs) (suc i) inside all = each_at P xs i (omega arith) all.1

differ_at : (xs : List ℕ) (i j : ℕ) → AreApart xs → i < j → j < length xs → get_or xs i 0 ≢ get_or xs j 0
differ_at [] i j apart less inside = absurd (omega arith)
differ_at (x ∷ xs) zero zero apart less inside = absurd (omega arith)
differ_at (x ∷ xs) zero (suc j) apart less inside = each_at (λ m. x ≢ m) xs j (omega arith) apart.0
differ_at (x ∷ xs) (suc i) zero apart less inside = absurd (omega arith)
differ_at (x ∷ xs) (suc i) (suc j) apart less inside = differ_at xs i j apart.1 (omega arith) (omega arith)

set_there : (ps : List ℕ) (n v : ℕ) → n < length ps → slice_get (set ps n v) n ≡ Some v
set_there ps n v inside =
    slice_get-get_or (set ps n v) n 0 (let long = length-set ps n v in omega (arith, long)) ∙ ap Some (get_or-set_same ps n v 0 inside)

set_other : (ps : List ℕ) (n v m k : ℕ) → m ≢ n → slice_get ps m ≡ Some k → slice_get (set ps n v) m ≡ Some k
set_other ps n v m k other is =
    let inside = slice_get_within ps m k is in
    slice_get-get_or (set ps n v) m 0 (let long = length-set ps n v in omega (arith, long, inside)) ∙ ap Some (get_or-set_other ps n m v 0 other ∙ get_or_from_slice_get ps m k 0 is)

-- one position more
pub position_more : (own ps : List ℕ) (i : ℕ) → i < length own → get_or own i 0 < length ps → (AreApart own → (j : ℕ) → j < i → slice_get ps (get_or own j 0) ≡ Some j)
    → AreApart own → (j : ℕ) → j < i + 1 → slice_get (set ps (get_or own i 0) i) (get_or own j 0) ≡ Some j
position_more own ps i inside low before apart j less = go (eqb_tells j i)
  where
    go : ((eqb j i ≡ true) × (j ≡ i)) ⊎ ((eqb j i ≡ false) × (j ≢ i)) → slice_get (set ps (get_or own i 0) i) (get_or own j 0) ≡ Some j
    go (inl a) = subst (λ (k : ℕ). slice_get (set ps (get_or own i 0) i) (get_or own k 0) ≡ Some k) (sym a.1) (set_there ps (get_or own i 0) i low)
    go (inr b) = let other = b.1 in
        let less' : j < i = omega (arith, less, other) in
        set_other ps (get_or own i 0) i (get_or own j 0) j (differ_at own j i apart less' inside) (before apart j less')

-- ---- marks

index_in : (own : List ℕ) (n : ℕ) → IsOneOf own n → (i : ℕ) × ((i < length own) × (get_or own i 0 ≡ n))
index_in [] n of = absurd of
index_in (m ∷ ms) n (inl e) = (0, (omega arith, sym e))
index_in (m ∷ ms) n (inr of) = let rest = index_in ms n of in (suc rest.0, ((let less = rest.1.0 in omega (arith, less)), rest.1.1))

-- each slot of the pages has its mark
pub marks_for : (own : List ℕ) (room : ℕ) (marks : SlotMarks) → marks.own.now ≡ own → marks.room ≡ room → marks.slots ≡ length own * room → ArePositions own marks.positions.items
    → length own * room ≤ 64 * length marks.marks.words.items → AreFor own room marks
marks_for own room marks is width many positions words = record {
  many = many;
  width = width;
  every = λ apart p of below. (
      let i = index_in own p.page of in
      let split = times_less (length own) (suc i.0) room (let within = i.1.0 in omega (arith, within)) in
      let step = suc-mul i.0 room in
      let at : i.0 * marks.room ≡ i.0 * room = ap (λ (r : ℕ). i.0 * r) width in
      record {
        one = record {
          at = i.0;
          position = subst (λ (n : ℕ). slice_get marks.positions.items n ≡ Some i.0) i.1.1 (positions apart i.0 i.1.0);
          page = ap (λ (l : List ℕ). slice_get l i.0) is ∙ slice_get-get_or own i.0 0 i.1.0 ∙ ap Some i.1.1;
          slot = omega (arith, width, below);
        };
        inside = omega (arith, split, step, at, words, below);
      });
}

-- a slot has one mark
one_at : (m : SlotMarks) (p : Place) (a b : IsSlotOf m p) → a.at ≡ b.at
one_at m p a b = let e : Some a.at ≡ Some b.at = sym a.position ∙ b.position in cc

-- the mark of a slot is where it is looked for
pub mark_there : (m : SlotMarks) (p : Place) (i : ℕ) → MarkAt m p i → 64 * length m.marks.words.items ≤ i → HasMark m p → ⊥
mark_there m p i at past has =
    let here : IsSlotOf m p = record { at = at.at; position = at.position; page = at.page; slot = at.slot } in
    let same : has.one.at * m.room ≡ at.at * m.room = ap (λ (k : ℕ). k * m.room) (one_at m p has.one here) in
    let is = at.is in
    let inside = has.inside in
    omega (arith, same, is, inside, past)

pub told_at : (m : SlotMarks) (p : Place) (i : ℕ) → MarkAt m p i → marked_slot m p ≡ bit_of m.marks.words.items i
told_at m p i at = told m p (record { at = at.at; position = at.position; page = at.page; slot = at.slot }) ∙ ap (bit_of m.marks.words.items) (sym at.is)

pub not_marked : (m : SlotMarks) (p : Place) → (IsSlotOf m p → ⊥) → marked_slot m p ≡ false
not_marked m p never = elim (looks m p) [
  | inl seen ↦ absurd (never seen)
  | inr off ↦ off m (alike_itself m)
]

pub marked_one : (m : SlotMarks) (p : Place) → marked_slot m p ≡ true → IsSlotOf m p
marked_one m p on = elim (looks m p) [
  | inl seen ↦ seen
  | inr off ↦ absurd (let f : false ≡ true = sym (off m (alike_itself m)) ∙ on in false≢true f)
]

pub same_itself : (m : SlotMarks) → SameSlots m m
same_itself m = record { own = refl; positions = refl; room = refl; slots = refl; words = refl }

pub same_on : (a b c : SlotMarks) → SameSlots a b → SameSlots b c → SameSlots a c
same_on a b c one two = record {
  own = two.own ∙ one.own;
  positions = two.positions ∙ one.positions;
  room = two.room ∙ one.room;
  slots = two.slots ∙ one.slots;
  words = two.words ∙ one.words;
}

-- a mark that can be set stays one
pub still_has : (a b : SlotMarks) (p : Place) → SameSlots a b → HasMark a p → HasMark b p
still_has a b p same has = record {
  one = record {
    at = has.one.at;
    position = ap (λ (l : List ℕ). slice_get l p.page) same.positions ∙ has.one.position;
    page = ap (λ (l : List ℕ). slice_get l has.one.at) same.own ∙ has.one.page;
    slot = let room = same.room in let slot = has.one.slot in omega (arith, room, slot);
  };
  inside =
      let room : has.one.at * b.room ≡ has.one.at * a.room = ap (λ (r : ℕ). has.one.at * r) same.room in
      let words = same.words in
      let inside = has.inside in
      omega (arith, room, words, inside);
}

-- ---- the first mark

pub not_on : (b m : Bool) → b ≡ false → (m ≡ true → b ≡ true) → m ≡ false
not_on b true off f = absurd (false≢true (sym off ∙ f refl))
not_on b false off f = refl

pub none_more : (m : SlotMarks) (page i : ℕ) → ((p : Place) → p.page ≡ page → p.slot < i → marked_slot m p ≡ false) → marked_slot m (record { page = page; slot = i }) ≡ false
    → (p : Place) → p.page ≡ page → p.slot < i + 1 → marked_slot m p ≡ false
none_more m page i before here p on less = go (eqb_tells p.slot i)
  where
    go : ((eqb p.slot i ≡ true) × (p.slot ≡ i)) ⊎ ((eqb p.slot i ≡ false) × (p.slot ≢ i)) → marked_slot m p ≡ false
    go (inl a) = ap (marked_slot m) (place_made p (record { page = page; slot = i }) on a.1) ∙ here
    go (inr b) = before p on (let other = b.1 in omega (arith, less, other))

pub none_of_page : (m : SlotMarks) (page i : ℕ) → m.room ≤ i → ((p : Place) → p.page ≡ page → p.slot < i → marked_slot m p ≡ false) → (p : Place) → p.page ≡ page → marked_slot m p ≡ false
none_of_page m page i all none p on = elim (cases_Bool (marked_slot m p)) [
  | inl set ↦ none p on (let low = (marked_one m p set).slot in omega (arith, all, low))
  | inr off ↦ off
]

one_of_index : (own : List ℕ) (at n : ℕ) → slice_get own at ≡ Some n → IsOneOf own n
one_of_index own at n is = go own at (slice_get_within own at n is) (get_or_from_slice_get own at n 0 is)
  where
    go : (xs : List ℕ) (i : ℕ) → i < length xs → get_or xs i 0 ≡ n → IsOneOf xs n
    go [] i inside e = absurd (omega (arith, inside))
    go (x ∷ xs) zero inside e = inl (sym e)
    go (x ∷ xs) (suc i) inside e = inr (go xs i (omega (arith, inside)) e)

-- no slot of the pages is marked, and so none
pub none_at_all : (m : SlotMarks) → ((p : Place) → IsOneOf m.own.now p.page → marked_slot m p ≡ false) → (p : Place) → marked_slot m p ≡ false
none_at_all m none p = elim (cases_Bool (marked_slot m p)) [
  | inl set ↦ none p (let one = marked_one m p set in one_of_index m.own.now one.at p.page one.page)
  | inr off ↦ off
]

pub page_more : (m : SlotMarks) (own : List ℕ) (n : ℕ) → ((p : Place) → IsOneOf own p.page → marked_slot m p ≡ false) → ((p : Place) → p.page ≡ n → marked_slot m p ≡ false)
    → (p : Place) → IsOneOf (own ++ n ∷ []) p.page → marked_slot m p ≡ false
page_more m own n before here p of = elim (one_before own n p.page of) [
  | inl early ↦ before p early
  | inr last ↦ here p last
]
