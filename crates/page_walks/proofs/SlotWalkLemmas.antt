-- Slots that are marked, and found again in the chain of free slots.
use Rattle.std.proofs.Common.{length, get_or, take, drop, ◌≡◌, ◌≢◌, ◌⊎◌, ℕ, ◌+◌, ◌<◌, ◌≤◌, Bool, true, false, ◌&&◌, List, [], ◌∷◌, ◌++◌, Option, Some, None, refl, ap, sym, subst, ◌∙◌, arith, inl, inr}
use Rattle.std.specs.Prelude.{slice_index, nat_lt, if◌then◌else◌}
use Rattle.std.proofs.lemmas.Bool.{lt-ltb, ltb-true}
use Rattle.std.proofs.lemmas.Bool.Decides.{eqb_tells}
use Rattle.std.proofs.Math.Dec.{eqb}
use Rattle.pages.specs.Each.{Each}
use Rattle.pages.specs.PageMap.{PageMap}
use Rattle.record_heap.specs.declared.shape.SlotShape.{SlotShape}
use Rattle.record_heap.specs.declared.shape.Place.{Place}
use Rattle.record_heap.specs.Slot.{room, head, length_in_slot, used_in, behind_in, is_used}
use Rattle.record_heap.specs.Slots.{slot_at}
use Rattle.record_heap.specs.Chain.{IsOneOf, IsPlaceOf, IsFreeChain, KeepsSlots}
use Rattle.record_heap.specs.Calls.{slot_of, used_at, behind_at}
use Rattle.pages.specs.PageList.{pages_in}
use Rattle.page_walks.specs.declared.slot_marks.SlotMarks.{SlotMarks}
use Rattle.page_walks.specs.SlotMarks.{marked_slot}
use Rattle.record_heap.specs.Walk.{is_in_list, slots_of, IsUsedAt, IsFreeAt, IsFreePath}
use Rattle.page_walks.specs.SlotWalk.{SlotMarked, PageMarked, AreMarked, SlotsWalked, TakesMark}
use Rattle.record_heap.proofs.ChainLemmas.{each_weaker, at_place, place_made, some_none}
use Rattle.record_heap.proofs.StandLemmas.{each_of, slot_there}
use Rattle.record_heap.proofs.WalkLemmas.{clash, each_more, once_more, free_path_more}

-- one of them, or the one behind them
one_more : {X : Type 0} (xs : List X) (x y : X) → IsOneOf xs y → IsOneOf (xs ++ x ∷ []) y
one_more [] x y of = absurd of
one_more (z ∷ zs) x y (inl e) = inl e
one_more (z ∷ zs) x y (inr of) = inr (one_more zs x y of)

one_last : {X : Type 0} (xs : List X) (x y : X) → y ≡ x → IsOneOf (xs ++ x ∷ []) y
one_last [] x y e = inl e
one_last (z ∷ zs) x y e = inr (one_last zs x y e)

pub one_before : {X : Type 0} (xs : List X) (x y : X) → IsOneOf (xs ++ x ∷ []) y → IsOneOf xs y ⊎ (y ≡ x)
one_before [] x y (inl e) = inr e
one_before [] x y (inr of) = absurd of
one_before (z ∷ zs) x y (inl e) = inl (inl e)
one_before (z ∷ zs) x y (inr of) = go (one_before zs x y of)
  where
    go : IsOneOf zs y ⊎ (y ≡ x) → IsOneOf (z ∷ zs) y ⊎ (y ≡ x)
    go (inl a) = inl (inr a)
    go (inr b) = inr b

-- one slot more of a page
pub page_more : (shape : SlotShape) (page : List ℕ) (n i : ℕ) (m0 m m' : SlotMarks) (place : Place) → place.page ≡ n → place.slot ≡ i
    → PageMarked shape page n i m0 m → SlotMarked shape (slot_at shape page i) place m m' → PageMarked shape page n (i + 1) m0 m'
page_more shape page n i m0 m m' place here_page here_slot marked (inl a) = record {
  free = λ p on below mark. at_place ((marked_slot m0 p ≡ true) ⊎ ((next : Place) × (behind_in (slot_at shape page p.slot) ≡ Some next))) place p
      (λ e. inr (a.0.0, ap (λ (k : ℕ). behind_in (slot_at shape page k)) (ap (λ (q : Place). q.slot) e ∙ here_slot) ∙ a.0.1))
      (λ d. marked.free p on (less p d on below) (sym (a.1.others p d) ∙ mark));
  every = λ p on below. at_place ((marked_slot m' p ≡ true) ⊎ ((found : List ℕ) × (used_in shape (slot_at shape page p.slot) ≡ Some found))) place p
      (λ e. inl (ap (marked_slot m') e ∙ a.1.here))
      (λ d. moved p (a.1.others p d) (marked.every p on (less p d on below)));
  others = λ p out. a.1.others p (apart p out) ∙ marked.others p (wider p out);
}
  where
    less : (p : Place) → p ≢ place → p.page ≡ n → p.slot < i + 1 → p.slot < i
    less p d on below = let other : p.slot ≢ i = λ e. d (place_made p place (on ∙ sym here_page) (e ∙ sym here_slot)) in omega (arith, other)

    moved : (p : Place) → marked_slot m' p ≡ marked_slot m p → (marked_slot m p ≡ true) ⊎ ((found : List ℕ) × (used_in shape (slot_at shape page p.slot) ≡ Some found))
        → (marked_slot m' p ≡ true) ⊎ ((found : List ℕ) × (used_in shape (slot_at shape page p.slot) ≡ Some found))
    moved p same (inl on) = inl (same ∙ on)
    moved p same (inr found) = inr found

    apart : (p : Place) → (p.page ≢ n) ⊎ (i + 1 ≤ p.slot) → p ≢ place
    apart p (inl d) e = d (ap (λ (q : Place). q.page) e ∙ here_page)
    apart p (inr high) e = let at : p.slot ≡ i = ap (λ (q : Place). q.slot) e ∙ here_slot in omega (arith, at, high)

    wider : (p : Place) → (p.page ≢ n) ⊎ (i + 1 ≤ p.slot) → (p.page ≢ n) ⊎ (i ≤ p.slot)
    wider p (inl d) = inl d
    wider p (inr high) = inr (omega (arith, high))
page_more shape page n i m0 m m' place here_page here_slot marked (inr b) = subst (PageMarked shape page n (i + 1) m0) (sym b.1) (record {
  free = λ p on below mark. choose p (eqb_tells p.slot i) on below mark;
  every = λ p on below. whole p (eqb_tells p.slot i) on below;
  others = λ p out. marked.others p (wider p out);
})
  where
    choose : (p : Place) → ((eqb p.slot i ≡ true) × (p.slot ≡ i)) ⊎ ((eqb p.slot i ≡ false) × (p.slot ≢ i)) → p.page ≡ n → p.slot < i + 1 → marked_slot m p ≡ true
        → (marked_slot m0 p ≡ true) ⊎ ((next : Place) × (behind_in (slot_at shape page p.slot) ≡ Some next))
    choose p (inl e) on below mark = inl (sym (marked.others p (inr (omega (arith, e.1)))) ∙ mark)
    choose p (inr d) on below mark = marked.free p on (omega (arith, d.1)) mark

    whole : (p : Place) → ((eqb p.slot i ≡ true) × (p.slot ≡ i)) ⊎ ((eqb p.slot i ≡ false) × (p.slot ≢ i)) → p.page ≡ n → p.slot < i + 1
        → (marked_slot m p ≡ true) ⊎ ((found : List ℕ) × (used_in shape (slot_at shape page p.slot) ≡ Some found))
    whole p (inl e) on below = inr (b.0.0, ap (λ (k : ℕ). used_in shape (slot_at shape page k)) e.1 ∙ b.0.1)
    whole p (inr d) on below = marked.every p on (omega (arith, d.1))

    wider : (p : Place) → (p.page ≢ n) ⊎ (i + 1 ≤ p.slot) → (p.page ≢ n) ⊎ (i ≤ p.slot)
    wider p (inl d) = inl d
    wider p (inr high) = inr (omega (arith, high))

-- one page more
pub marked_more : (shape : SlotShape) (pages : PageMap) (page own : List ℕ) (n : ℕ) (m m' : SlotMarks) → AreMarked shape pages own m → pages n ≡ Some page
    → PageMarked shape page n (room shape) m m' → AreMarked shape pages (own ++ n ∷ []) m'
marked_more shape pages page own n m m' marked there one = record {
  free = λ p below mark. free p below mark (eqb_tells p.page n);
  every = λ p below of. every p below (eqb_tells p.page n) (one_before own n p.page of);
}
  where
    at : (p : Place) → p.page ≡ n → slot_of shape pages p ≡ slot_at shape page p.slot
    at p on = slot_there shape pages p n page on there

    free : (p : Place) → p.slot < room shape → marked_slot m' p ≡ true → ((eqb p.page n ≡ true) × (p.page ≡ n)) ⊎ ((eqb p.page n ≡ false) × (p.page ≢ n))
        → IsOneOf (own ++ n ∷ []) p.page × IsFreeAt shape pages p
    free p below mark (inl e) = of_page (one.free p e.1 below mark)
      where
        of_page : (marked_slot m p ≡ true) ⊎ ((next : Place) × (behind_in (slot_at shape page p.slot) ≡ Some next)) → IsOneOf (own ++ n ∷ []) p.page × IsFreeAt shape pages p
        of_page (inl on) = let f = marked.free p below on in (one_more own n p.page f.0, f.1)
        of_page (inr found) = (one_last own n p.page e.1, (found.0, ap behind_in (at p e.1) ∙ found.1))
    free p below mark (inr d) = let f = marked.free p below (sym (one.others p (inl d.1)) ∙ mark) in (one_more own n p.page f.0, f.1)

    every : (p : Place) → p.slot < room shape → ((eqb p.page n ≡ true) × (p.page ≡ n)) ⊎ ((eqb p.page n ≡ false) × (p.page ≢ n)) → IsOneOf own p.page ⊎ (p.page ≡ n)
        → (marked_slot m' p ≡ true) ⊎ IsUsedAt shape pages p
    every p below (inl e) of = of_page (one.every p e.1 below)
      where
        of_page : (marked_slot m' p ≡ true) ⊎ ((found : List ℕ) × (used_in shape (slot_at shape page p.slot) ≡ Some found)) → (marked_slot m' p ≡ true) ⊎ IsUsedAt shape pages p
        of_page (inl on) = inl on
        of_page (inr found) = inr (found.0, ap (used_in shape) (at p e.1) ∙ found.1)
    every p below (inr d) (inr e) = absurd (d.1 e)
    every p below (inr d) (inl of) = kept (marked.every p below of)
      where
        kept : (marked_slot m p ≡ true) ⊎ IsUsedAt shape pages p → (marked_slot m' p ≡ true) ⊎ IsUsedAt shape pages p
        kept (inl on) = inl (one.others p (inl d.1) ∙ on)
        kept (inr found) = inr found

-- one slot more of the chain
pub slots_more : (shape : SlotShape) (pages : PageMap) (first at next : Place) (m0 m m' : SlotMarks) (free : List Place) → SlotsWalked shape pages first at m0 m free
    → TakesMark shape pages at next m m' → SlotsWalked shape pages first next m0 m' (free ++ at ∷ [])
slots_more shape pages first at next m0 m m' free walked takes =
    let off = each_weaker (λ q. (q.slot < room shape) × ((marked_slot m0 q ≡ true) × (marked_slot m q ≡ false))) (λ q. q ≢ at)
    (λ q w same. clash (marked_slot m q) (ap (marked_slot m) same ∙ takes.was) w.1.1) free walked.were in
    record {
      path = free_path_more (behind_at shape pages) first free at next walked.path takes.linked;
      once = once_more free at walked.once off;
      were = each_more (λ q. (q.slot < room shape) × ((marked_slot m0 q ≡ true) × (marked_slot m' q ≡ false))) free at (still free walked.were off)
          (takes.within, (walked.only at takes.within takes.was, takes.sets.here));
      every = λ p below mark. at_place ((marked_slot m' p ≡ true) ⊎ IsOneOf (free ++ at ∷ []) p) at p (λ e. inr (one_last free at p e)) (λ d. moved p below d (walked.every p below mark));
      only = λ p below mark. at_place (marked_slot m0 p ≡ true) at p (λ e. absurd (clash (marked_slot m' p) mark (ap (marked_slot m') e ∙ takes.sets.here)))
          (λ d. walked.only p below (sym (takes.sets.others p d) ∙ mark));
    }
  where
    still : (qs : List Place) → Each (λ q. (q.slot < room shape) × ((marked_slot m0 q ≡ true) × (marked_slot m q ≡ false))) qs → Each (λ q. q ≢ at) qs
        → Each (λ q. (q.slot < room shape) × ((marked_slot m0 q ≡ true) × (marked_slot m' q ≡ false))) qs
    still [] w off = tt
    still (q ∷ qs) w off = ((w.0.0, (w.0.1.0, takes.sets.others q off.0 ∙ w.0.1.1)), still qs w.1 off.1)

    moved : (p : Place) → p.slot < room shape → p ≢ at → (marked_slot m p ≡ true) ⊎ IsOneOf free p → (marked_slot m' p ≡ true) ⊎ IsOneOf (free ++ at ∷ []) p
    moved p below d (inl on) = inl (takes.sets.others p d ∙ on)
    moved p below d (inr of) = inr (one_more free at p of)

pub path_chain : (behind : Place → Option Place) (first at : Place) (free : List Place) → IsFreePath behind first free at → at.page ≡ 0 → IsFreeChain behind first free
path_chain behind first at [] path end = ap (λ (p : Place). p.page) path ∙ end
path_chain behind first at (p ∷ ps) path end = (path.0, (path.1.0, path.1.1, path_chain behind path.1.0 at ps path.1.2 end))

one_tells : (xs : List ℕ) (n : ℕ) → is_in_list xs n ≡ true → IsOneOf xs n
one_tells [] n h = absurd (clash false h refl)
one_tells (m ∷ ms) n h = go (eqb_tells n m) (one_tells ms n)
  where
    go : ((eqb n m ≡ true) × (n ≡ m)) ⊎ ((eqb n m ≡ false) × (n ≢ m)) → (is_in_list ms n ≡ true → IsOneOf ms n) → IsOneOf (m ∷ ms) n
    go (inl a) rest = inl a.1
    go (inr b) rest = inr (rest (rw b.0 at h))

one_told : (xs : List ℕ) (n : ℕ) → IsOneOf xs n → is_in_list xs n ≡ true
one_told [] n of = absurd of
one_told (m ∷ ms) n of = go (eqb_tells n m) of (one_told ms n)
  where
    go : ((eqb n m ≡ true) × (n ≡ m)) ⊎ ((eqb n m ≡ false) × (n ≢ m)) → IsOneOf (m ∷ ms) n → (IsOneOf ms n → is_in_list ms n ≡ true) → is_in_list (m ∷ ms) n ≡ true
    go (inl a) of rest = rw a.0 refl
    go (inr b) (inl e) rest = absurd (b.1 e)
    go (inr b) (inr of) rest = rw b.0 (rest of)

-- a test of two parts
both : (b d : Bool) (o : Option (List ℕ)) (bytes : List ℕ) → (if b && d then o else None) ≡ Some bytes → (b ≡ true) × ((d ≡ true) × (o ≡ Some bytes))
both true true o bytes is = (refl, (refl, is))
both true false o bytes is = absurd (some_none bytes (sym is))
both false d o bytes is = absurd (some_none bytes (sym is))

neither : (b d : Bool) (o : Option (List ℕ)) → o ≡ None → (if b && d then o else None) ≡ None
neither true true o is = is
neither true false o is = refl
neither false d o is = refl

nothing_in : (b d : Bool) (o : Option (List ℕ)) → b ≡ true → d ≡ true → (if b && d then o else None) ≡ None → o ≡ None
nothing_in true true o one two is = is
nothing_in true false o one two is = absurd (clash false two refl)
nothing_in false d o one two is = absurd (clash false one refl)

-- a free slot is not in use
pub free_not_used : (shape : SlotShape) (slot : List ℕ) (next : Place) → behind_in slot ≡ Some next → used_in shape slot ≡ None
free_not_used shape slot next is = go (eqb_tells (slice_index slot 0) 0) (eqb_tells (slice_index slot 0) 1)
  where
    go : ((eqb (slice_index slot 0) 0 ≡ true) × (slice_index slot 0 ≡ 0)) ⊎ ((eqb (slice_index slot 0) 0 ≡ false) × (slice_index slot 0 ≢ 0))
        → ((eqb (slice_index slot 0) 1 ≡ true) × (slice_index slot 0 ≡ 1)) ⊎ ((eqb (slice_index slot 0) 1 ≡ false) × (slice_index slot 0 ≢ 1)) → used_in shape slot ≡ None
    go (inr b) y = absurd (some_none next (sym is ∙ rw b.0 refl))
    go (inl a) (inl e) = absurd (omega (arith, a.1, e.1))
    go (inl a) (inr e) = rw e.0 refl

-- all slots are marked, all marks are found and taken: each is in use or in the chain
pub slots_kept : (shape : SlotShape) (pages : PageMap) (own : List ℕ) (first at : Place) (m m' : SlotMarks) (free : List Place) → AreMarked shape pages own m → SlotsWalked shape pages first at m m' free
    → at.page ≡ 0 → ((p : Place) → marked_slot m' p ≡ false) → Each (λ n. 1 ≤ n) own → KeepsSlots (room shape) own (used_at shape pages) (behind_at shape pages) (slots_of shape pages own) first
slots_kept shape pages own first at m m' free marked walked end none some = record {
  free = free;
  chain = path_chain (behind_at shape pages) first at free walked.path end;
  once = walked.once;
  used_are = λ p bytes is. let b = both (is_in_list own p.page) (nat_lt p.slot (room shape)) (used_at shape pages p) bytes is in
      let of = one_tells own p.page b.0 in
      (record { page = of; some = each_of (λ n. 1 ≤ n) own p.page some of; slot = ltb-true p.slot (room shape) b.1.0 }, b.1.1);
  free_are = each_weaker (λ p. (p.slot < room shape) × ((marked_slot m p ≡ true) × (marked_slot m' p ≡ false))) (λ p. IsPlaceOf (room shape) own p × (slots_of shape pages own p ≡ None))
      (λ p w. let f = marked.free p w.0 w.1.0 in (
        record { page = f.0; some = each_of (λ n. 1 ≤ n) own p.page some f.0; slot = w.0 },
        neither (is_in_list own p.page) (nat_lt p.slot (room shape)) (used_at shape pages p) (free_not_used shape (slot_of shape pages p) f.1.0 f.1.1),
      )) free walked.were;
  every = λ p of nothing. found p of nothing (marked.every p of.slot of.page);
}
  where
    unused : (p : Place) → IsPlaceOf (room shape) own p → slots_of shape pages own p ≡ None → used_at shape pages p ≡ None
    unused p of nothing = nothing_in (is_in_list own p.page) (nat_lt p.slot (room shape)) (used_at shape pages p) (one_told own p.page of.page) (lt-ltb p.slot (room shape) of.slot) nothing

    chain_has : (p : Place) → (marked_slot m' p ≡ true) ⊎ IsOneOf free p → IsOneOf free p
    chain_has p (inl on) = absurd (clash (marked_slot m' p) on (none p))
    chain_has p (inr of) = of

    found : (p : Place) → IsPlaceOf (room shape) own p → slots_of shape pages own p ≡ None → (marked_slot m p ≡ true) ⊎ IsUsedAt shape pages p → IsOneOf free p
    found p of nothing (inl on) = chain_has p (walked.every p of.slot on)
    found p of nothing (inr used) = absurd (some_none used.0 (sym used.1 ∙ unused p of nothing))

-- a slot that is tested has what it holds
pub used_found : (shape : SlotShape) (slot : List ℕ) → is_used shape slot ≡ true → (found : List ℕ) × (used_in shape slot ≡ Some found)
used_found shape slot is = (take (shape.stamps + length_in_slot shape slot) (drop (head shape) slot), rw is refl)

-- a page of the list
pub page_there : (pages : List (List ℕ)) (n : ℕ) → n < length pages → pages_in pages n ≡ Some (get_or pages n [])
page_there pages n inside = rw (lt-ltb n (length pages) inside) refl
