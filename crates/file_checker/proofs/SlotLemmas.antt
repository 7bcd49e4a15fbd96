-- Slots in use, and the entries that lead to them.
use Rattle.std.proofs.Common.{Some, ◌≡◌, ◌≢◌, ◌⊎◌, inl, inr, ℕ, ◌+◌, ◌==◌, ◌&&◌, ◌≤◌, ◌<◌, nat_lt, Bool, true, false, List, [], ◌∷◌, ◌++◌, length, drop, map, None, refl, ap, sym, subst, ◌∙◌, arith}
use Rattle.std.specs.Prelude.{IsSome, find, slice_index_or}
use Rattle.std.proofs.lemmas.Bool.{and_parts, and_from, le-ltb, eq-eqb}
use Rattle.std.proofs.lemmas.List.{get_or_past}
use Rattle.std.proofs.lemmas.Bool.Decides.{eqb_tells}
use Rattle.std.proofs.Math.Dec.{eqb}
use Rattle.std.proofs.lemmas.Grind.{common_steps}
use Rattle.pages.proofs.ChunkLemmas.{length-chunks}
use Rattle.pages.specs.PageMap.{PageMap}
use Rattle.pages.specs.PageList.{pages_in}
use Rattle.record_heap.specs.declared.shape.SlotShape.{SlotShape}
use Rattle.record_heap.specs.declared.shape.Place.{Place}
use Rattle.record_heap.specs.Slot.{room, size, used_in}
use Rattle.record_heap.specs.Slots.{slot_at}
use Rattle.record_heap.specs.Chain.{IsOneOf}
use Rattle.record_heap.specs.Calls.{used_at}
use Rattle.record_heap.specs.Walk.{slots_of, is_in_list}
use Rattle.open_file.specs.Stands.{is_same}
use Rattle.open_file.proofs.OrderLemmas.{either}

-- no bytes are a slot in use
none_used : (shape : SlotShape) (slot : List ℕ) → slot ≡ [] → used_in shape slot ≡ None
none_used shape slot none = ap (used_in shape) none

-- what a slot of a page of the list holds
pub used_here : (shape : SlotShape) (list : List (List ℕ)) (p : Place) (bytes : List ℕ) → pages_in list p.page ≡ Some bytes → used_at shape (pages_in list) p ≡ used_in shape (slot_at shape bytes p.slot)
used_here shape list p bytes is = rw is refl

-- past the pages that were read, and past the slots of a page, none is in use
pub no_page : (shape : SlotShape) (list : List (List ℕ)) (p : Place) → length list ≤ p.page → used_at shape (pages_in list) p ≡ None
no_page shape list p past = let no : nat_lt p.page (length list) ≡ false = le-ltb p.page (length list) past in rw no refl

pub no_slot : (shape : SlotShape) (list : List (List ℕ)) (p : Place) → room shape ≤ p.slot → used_at shape (pages_in list) p ≡ None
no_slot shape list p past =
    either (nat_lt p.page (length list)) (used_at shape (pages_in list) p ≡ None)
    (λ yes. rw yes (none_used shape (slot_at shape (slice_index_or list p.page []) p.slot) (none_past (slice_index_or list p.page []))))
    (λ no. rw no refl)
  where
    none_past : (page : List ℕ) → slot_at shape page p.slot ≡ []
    none_past page = get_or_past _ p.slot [] (let long = length-chunks (size shape) (room shape) (drop 16 page) in omega (arith, long, past))

pub same_place : (p : Place) → is_same p p ≡ true
same_place p = and_from _ _ (eq-eqb p.page p.page refl) (eq-eqb p.slot p.slot refl)

-- where one of these leads to the place, it is found
pub found_one : {X : Type 0} (f : X → Place) (xs : List X) (x : X) (p : Place) → IsOneOf xs x → p ≡ f x → IsSome (find (is_same p) (map f xs))
found_one f [] x p one is = absurd one
found_one f (y ∷ ys) x p one is =
    either (is_same p (f y)) (IsSome (find (is_same p) (map f (y ∷ ys))))
    (λ here. rw here refl)
    (λ other. rw other (by_one other (λ rest. found_one f ys x p rest is) one))
  where
    by_one : is_same p (f y) ≡ false → (IsOneOf ys x → IsSome (find (is_same p) (map f ys))) → (x ≡ y) ⊎ IsOneOf ys x → IsSome (find (is_same p) (map f ys))
    by_one other again (inl same) =
        let e : p ≡ f y = is ∙ ap f same in
        let here : is_same p (f y) ≡ true = subst (λ (q : Place). is_same p q ≡ true) e (same_place p) in
        cc (here, other)
    by_one other again (inr rest) = again rest

-- ---- the heap's own pages

pub one_of_more : (ms : List ℕ) (m n : ℕ) → is_in_list (ms ++ m ∷ []) n ≡ true → (is_in_list ms n ≡ true) ⊎ (n ≡ m)
one_of_more [] m n h = by_test (eqb_tells n m)
  where
    by_test : ((eqb n m ≡ true) × (n ≡ m)) ⊎ ((eqb n m ≡ false) × (n ≢ m)) → (false ≡ true) ⊎ (n ≡ m)
    by_test (inl here) = inr here.1
    by_test (inr other) = let bad : false ≡ true = rw other.0 at h in inl bad
one_of_more (k ∷ ms) m n h =
    either (n == k) ((is_in_list (k ∷ ms) n ≡ true) ⊎ (n ≡ m))
    (λ yes. inl (rw yes refl))
    (λ no. next no (one_of_more ms m n (rw no at h)))
  where
    next : (n == k) ≡ false → (is_in_list ms n ≡ true) ⊎ (n ≡ m) → (is_in_list (k ∷ ms) n ≡ true) ⊎ (n ≡ m)
    next other (inl one) = inl (rw other one)
    next other (inr same) = inr same

pub one_of_front : (ms : List ℕ) (m n : ℕ) → (is_in_list ms n ≡ true) ⊎ (n ≡ m) → is_in_list (ms ++ m ∷ []) n ≡ true
one_of_front [] m n (inl one) = absurd (cc)
one_of_front [] m n (inr same) = rw (eq-eqb n m same) refl
one_of_front (k ∷ ms) m n h =
    either (n == k) (is_in_list (k ∷ (ms ++ m ∷ [])) n ≡ true)
    (λ yes. rw yes refl)
    (λ no. rw no (one_of_front ms m n (next no h)))
  where
    next : (n == k) ≡ false → (is_in_list (k ∷ ms) n ≡ true) ⊎ (n ≡ m) → (is_in_list ms n ≡ true) ⊎ (n ≡ m)
    next other (inl one) = inl (rw other at one)
    next other (inr same) = inr same

-- the pages that were marked one after another
pub marked_more : (ms : List ℕ) (m : ℕ) (before after : ℕ → Bool) → ((n : ℕ) → before n ≡ true → is_in_list ms n ≡ true) → ((n : ℕ) → n ≢ m → after n ≡ before n) → (n : ℕ) → after n ≡ true
    → is_in_list (ms ++ m ∷ []) n ≡ true
marked_more ms m before after all others n on = by_test (eqb_tells n m)
  where
    by_test : ((eqb n m ≡ true) × (n ≡ m)) ⊎ ((eqb n m ≡ false) × (n ≢ m)) → is_in_list (ms ++ m ∷ []) n ≡ true
    by_test (inl here) = one_of_front ms m n (inr here.1)
    by_test (inr other) = one_of_front ms m n (inl (all n (sym (others n other.1) ∙ on)))

pub all_marked_more : (count : ℕ) (ms : List ℕ) (m : ℕ) (before after : ℕ → Bool) → ((n : ℕ) → n < count → is_in_list ms n ≡ true → before n ≡ true) → (m < count → after m ≡ true)
    → ((n : ℕ) → n ≢ m → after n ≡ before n) → (n : ℕ) → n < count → is_in_list (ms ++ m ∷ []) n ≡ true → after n ≡ true
all_marked_more count ms m before after all here others n within one = by_test (eqb_tells n m) (one_of_more ms m n one)
  where
    by_test : ((eqb n m ≡ true) × (n ≡ m)) ⊎ ((eqb n m ≡ false) × (n ≢ m)) → (is_in_list ms n ≡ true) ⊎ (n ≡ m) → after n ≡ true
    by_test (inl same) one' = ap after same.1 ∙ here (let e = same.1 in omega (arith, e, within))
    by_test (inr other) (inl old) = others n other.1 ∙ all n within old
    by_test (inr other) (inr same) = absurd (other.1 same)

-- ---- the slots of these pages

module _ (shape : SlotShape) (Has : Place → Type 0) where
  -- the slots of one more page
  pub pages_more : (ms : List ℕ) (m : ℕ) → ((p : Place) → is_in_list ms p.page ≡ true → p.slot < room shape → Has p) → ((p : Place) → p.page ≡ m → p.slot < room shape → Has p)
      → (p : Place) → is_in_list (ms ++ m ∷ []) p.page ≡ true → p.slot < room shape → Has p
  pages_more ms m all here p one within = by_page (one_of_more ms m p.page one)
    where
      by_page : (is_in_list ms p.page ≡ true) ⊎ (p.page ≡ m) → Has p
      by_page (inl old) = all p old within
      by_page (inr new) = here p new within

  -- one more slot of a page
  pub slots_more : (n i : ℕ) → ((p : Place) → p.page ≡ n → p.slot < i → Has p) → Has (record { page = n; slot = i }) → (p : Place) → p.page ≡ n → p.slot < i + 1 → Has p
  slots_more n i all here p is below = by_slot (eqb_tells p.slot i)
    where
      by_slot : ((eqb p.slot i ≡ true) × (p.slot ≡ i)) ⊎ ((eqb p.slot i ≡ false) × (p.slot ≢ i)) → Has p
      by_slot (inl same) = subst Has (λ j. record { page = sym is j; slot = sym same.1 j }) here
      by_slot (inr other) = all p is (omega (arith, below, other.1))

-- a slot of the heap's own pages that is in use
pub own_slot : (shape : SlotShape) (pages : PageMap) (own : List ℕ) (p : Place) → IsSome (slots_of shape pages own p) → (is_in_list own p.page ≡ true) × (p.slot < room shape) × IsSome (used_at shape pages p)
own_slot shape pages own p some =
    either (is_in_list own p.page && nat_lt p.slot (room shape)) ((is_in_list own p.page ≡ true) × (p.slot < room shape) × IsSome (used_at shape pages p))
    (λ yes. let parts = and_parts _ _ yes in (parts.0, below p.slot (room shape) parts.1, rw yes at some))
    (λ no. let bad : false ≡ true = rw no at some in absurd (cc))
  where
    below : (a b : ℕ) → nat_lt a b ≡ true → a < b
    below a b h = grind (arith, common_steps)
