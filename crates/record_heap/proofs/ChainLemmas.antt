-- Places of slots: one slot freed, one taken.
use Rattle.std.proofs.Common.{◌≡◌, ◌≢◌, ℕ, ◌≤◌, true, false, List, [], ◌∷◌, Option, Some, None, refl, ap, sym, subst, ◌∙◌, arith, inl, inr, ◌⊎◌, ◌==◌}
use Rattle.std.proofs.lemmas.Bool.Decides.{eqb_tells}
use Rattle.pages.specs.Each.{Each}
use Rattle.record_heap.specs.declared.shape.Place.{Place}
use Rattle.record_heap.specs.Chain.{Slots, is_place, put_slot, IsOneOf, AreOnce, IsPlaceOf, IsFreeChain, KeepsSlots}

pub each_weaker : {X : Type 0} (P Q : X → Type 0) → ((x : X) → P x → Q x) → (xs : List X) → Each P xs → Each Q xs
each_weaker P Q f [] h = tt
each_weaker P Q f (x ∷ xs) h = (f x h.0, each_weaker P Q f xs h.1)

pub place_made : (p q : Place) → p.page ≡ q.page → p.slot ≡ q.slot → p ≡ q
place_made p q e f = ap (λ (n : ℕ). let it : Place = record { page = n; slot = p.slot } in it) e ∙ ap (λ (n : ℕ). let it : Place = record { page = q.page; slot = n } in it) f

-- two places are one or differ
place_tells : (p q : Place) → ((is_place p q ≡ true) × (p ≡ q)) ⊎ ((is_place p q ≡ false) × (p ≢ q))
place_tells p q = go (eqb_tells p.page q.page) (eqb_tells p.slot q.slot)
  where
    go : ((p.page == q.page) ≡ true) × (p.page ≡ q.page) ⊎ ((p.page == q.page) ≡ false) × (p.page ≢ q.page)
        → ((p.slot == q.slot) ≡ true) × (p.slot ≡ q.slot) ⊎ ((p.slot == q.slot) ≡ false) × (p.slot ≢ q.slot)
        → ((is_place p q ≡ true) × (p ≡ q)) ⊎ ((is_place p q ≡ false) × (p ≢ q))
    go (inl a) (inl b) = inl (rw (a.0, b.0) refl, place_made p q a.1 b.1)
    go (inl a) (inr b) = inr (rw (a.0, b.0) refl, λ e. b.1 (ap (λ (r : Place). r.slot) e))
    go (inr a) y = inr (rw a.0 refl, λ e. a.1 (ap (λ (r : Place). r.page) e))

place_same : (p : Place) → is_place p p ≡ true
place_same p = go (place_tells p p)
  where
    go : ((is_place p p ≡ true) × (p ≡ p)) ⊎ ((is_place p p ≡ false) × (p ≢ p)) → is_place p p ≡ true
    go (inl a) = a.0
    go (inr b) = absurd (b.1 refl)

place_not : (p q : Place) → q ≢ p → is_place p q ≡ false
place_not p q h = go (place_tells p q)
  where
    go : ((is_place p q ≡ true) × (p ≡ q)) ⊎ ((is_place p q ≡ false) × (p ≢ q)) → is_place p q ≡ false
    go (inl a) = absurd (h (sym a.1))
    go (inr b) = b.0

pub put_here : (slots : Slots) (p : Place) (b : Option (List ℕ)) → put_slot slots p b p ≡ b
put_here slots p b = rw (place_same p) refl

pub put_there : (slots : Slots) (p q : Place) (b : Option (List ℕ)) → q ≢ p → put_slot slots p b q ≡ slots q
put_there slots p q b h = rw (place_not p q h) refl

-- a place is the written one, or it is another
pub at_place : (R : Type 0) (p q : Place) → (q ≡ p → R) → (q ≢ p → R) → R
at_place R p q same other = go (place_tells p q)
  where
    go : ((is_place p q ≡ true) × (p ≡ q)) ⊎ ((is_place p q ≡ false) × (p ≢ q)) → R
    go (inl a) = same (sym a.1)
    go (inr b) = other (λ e. b.1 (sym e))

pub chain_still : (behind behind' : Place → Option Place) (free : List Place) (first : Place) → Each (λ q. behind' q ≡ behind q) free → IsFreeChain behind first free → IsFreeChain behind' first free
chain_still behind behind' [] first same chain = chain
chain_still behind behind' (p ∷ ps) first same chain =
    (chain.0, (chain.1.0, same.0 ∙ chain.1.1, chain_still behind behind' ps chain.1.0 same.1 chain.1.2))

-- one place was written
pub record Writes (place : Place) (used used' : Slots) (behind behind' : Place → Option Place) : Type 0 where
  pub useds : (q : Place) → q ≢ place → used' q ≡ used q
  pub behinds : (q : Place) → q ≢ place → behind' q ≡ behind q

pub some_none : {X : Type 0} (x : X) → Some x ≡ None → ⊥
some_none x e = cc

pub some_same : {X : Type 0} (x y : X) → Some x ≡ Some y → x ≡ y
some_same x y e = cc

-- a free place is not one in use
pub not_used : (slots : Slots) (place : Place) (bytes : List ℕ) → slots place ≡ Some bytes → (q : Place) → slots q ≡ None → q ≢ place
not_used slots place bytes used q none e = some_none bytes (sym used ∙ ap slots (sym e) ∙ none)

still_free : (room : ℕ) (own : List ℕ) (slots : Slots) (place : Place) (b : Option (List ℕ)) (free : List Place) → Each (λ q. q ≢ place) free
    → Each (λ q. IsPlaceOf room own q × (slots q ≡ None)) free → Each (λ q. IsPlaceOf room own q × (put_slot slots place b q ≡ None)) free
still_free room own slots place b [] apart free = tt
still_free room own slots place b (q ∷ qs) apart free = ((free.0.0, put_there slots place q b apart.0 ∙ free.0.1), still_free room own slots place b qs apart.1 free.1)

-- A place in use was made free: it heads the free slots now.
pub freed : (room : ℕ) (own : List ℕ) (used used' : Slots) (behind behind' : Place → Option Place) (slots : Slots) (first place : Place) (bytes : List ℕ)
    → KeepsSlots room own used behind slots first → slots place ≡ Some bytes → behind' place ≡ Some first → Writes place used used' behind behind'
    → KeepsSlots room own used' behind' (put_slot slots place None) place
freed room own used used' behind behind' slots first place bytes keeps here linked writes =
    let apart = each_weaker (λ q. IsPlaceOf room own q × (slots q ≡ None)) (λ q. q ≢ place) (λ q f. not_used slots place bytes here q f.1) keeps.free keeps.free_are in
    record {
      free = place ∷ keeps.free;
      chain = (refl, (first, linked, chain_still behind behind' keeps.free first (each_weaker (λ q. q ≢ place) (λ q. behind' q ≡ behind q) writes.behinds keeps.free apart) keeps.chain));
      once = (each_weaker (λ q. q ≢ place) (λ q. place ≢ q) (λ q n e. n (sym e)) keeps.free apart, keeps.once);
      used_are = λ q b is. at_place (IsPlaceOf room own q × (used' q ≡ Some b)) place q
          (λ e. absurd (some_none b (sym is ∙ ap (put_slot slots place None) e ∙ put_here slots place None)))
          (λ n. let u = keeps.used_are q b (sym (put_there slots place q None n) ∙ is) in (u.0, writes.useds q n ∙ u.1));
      free_are = (((keeps.used_are place bytes here).0, put_here slots place None), still_free room own slots place None keeps.free apart keeps.free_are);
      every = λ q of none. at_place (IsOneOf (place ∷ keeps.free) q) place q
          (λ e. inl e)
          (λ n. inr (keeps.every q of (sym (put_there slots place q None n) ∙ none)));
    }

-- A place in use holds other bytes now.
pub set_again : (room : ℕ) (own : List ℕ) (used used' : Slots) (behind behind' : Place → Option Place) (slots : Slots) (first place : Place) (old bytes : List ℕ)
    → KeepsSlots room own used behind slots first → slots place ≡ Some old → used' place ≡ Some bytes → Writes place used used' behind behind'
    → KeepsSlots room own used' behind' (put_slot slots place (Some bytes)) first
set_again room own used used' behind behind' slots first place old bytes keeps here now writes =
    let apart = each_weaker (λ q. IsPlaceOf room own q × (slots q ≡ None)) (λ q. q ≢ place) (λ q f. not_used slots place old here q f.1) keeps.free keeps.free_are in
    record {
      free = keeps.free;
      chain = chain_still behind behind' keeps.free first (each_weaker (λ q. q ≢ place) (λ q. behind' q ≡ behind q) writes.behinds keeps.free apart) keeps.chain;
      once = keeps.once;
      used_are = λ q b is. at_place (IsPlaceOf room own q × (used' q ≡ Some b)) place q
          (λ e. let same : b ≡ bytes = some_same b bytes (sym is ∙ ap (put_slot slots place (Some bytes)) e ∙ put_here slots place (Some bytes)) in
          (subst (IsPlaceOf room own) (sym e) (keeps.used_are place old here).0, ap used' e ∙ now ∙ ap Some (sym same)))
          (λ n. let u = keeps.used_are q b (sym (put_there slots place q (Some bytes) n) ∙ is) in (u.0, writes.useds q n ∙ u.1));
      free_are = still_free room own slots place (Some bytes) keeps.free apart keeps.free_are;
      every = λ q of none. at_place (IsOneOf keeps.free q) place q
          (λ e. absurd (some_none bytes (sym (put_here slots place (Some bytes)) ∙ ap (put_slot slots place (Some bytes)) (sym e) ∙ none)))
          (λ n. keeps.every q of (sym (put_there slots place q (Some bytes) n) ∙ none));
    }

behind_first : (q : Place) (qs : List Place) (p : Place) → p ≢ q → IsOneOf (q ∷ qs) p → IsOneOf qs p
behind_first q qs p n (inl e) = absurd (n e)
behind_first q qs p n (inr i) = i

-- The first free slot: it is of the pages, and this one is behind it.
pub record Front (room : ℕ) (own : List ℕ) (used : Slots) (behind : Place → Option Place) (slots : Slots) (first : Place) : Type 0 where
  pub of : IsPlaceOf room own first
  pub none : slots first ≡ None
  pub next : Place
  pub linked : behind first ≡ Some next

-- The first free slot was taken: the one behind it is the first now.
pub taken : (room : ℕ) (own : List ℕ) (used used' : Slots) (behind behind' : Place → Option Place) (slots : Slots) (first : Place) (bytes : List ℕ)
    → KeepsSlots room own used behind slots first → 1 ≤ first.page → used' first ≡ Some bytes → Writes first used used' behind behind'
    → (f : Front room own used behind slots first) × KeepsSlots room own used' behind' (put_slot slots first (Some bytes)) f.next
taken room own used used' behind behind' slots first bytes keeps some now writes = go keeps.free keeps.chain keeps.once keeps.free_are keeps.every
  where
    go : (free : List Place) → IsFreeChain behind first free → AreOnce free → Each (λ p. IsPlaceOf room own p × (slots p ≡ None)) free
        → ((p : Place) → IsPlaceOf room own p → slots p ≡ None → IsOneOf free p)
        → (f : Front room own used behind slots first) × KeepsSlots room own used' behind' (put_slot slots first (Some bytes)) f.next
    go [] chain once free every = absurd (omega arith)
    go (q ∷ qs) chain once free every =
        let is = sym chain.0 in
        let of = subst (λ (p : Place). IsPlaceOf room own p × (slots p ≡ None)) is free.0 in
        let apart = each_weaker (λ p. q ≢ p) (λ p. p ≢ first) (λ p n e. n (is ∙ sym e)) qs once.0 in (
          record { of = of.0; none = of.1; next = chain.1.0; linked = ap behind (sym is) ∙ chain.1.1 },
          record {
            free = qs;
            chain = chain_still behind behind' qs chain.1.0 (each_weaker (λ p. p ≢ first) (λ p. behind' p ≡ behind p) writes.behinds qs apart) chain.1.2;
            once = once.1;
            used_are = λ p b at. at_place (IsPlaceOf room own p × (used' p ≡ Some b)) first p
                (λ e. let same : b ≡ bytes = some_same b bytes (sym at ∙ ap (put_slot slots first (Some bytes)) e ∙ put_here slots first (Some bytes)) in
                (subst (IsPlaceOf room own) (sym e) of.0, ap used' e ∙ now ∙ ap Some (sym same)))
                (λ n. let u = keeps.used_are p b (sym (put_there slots first p (Some bytes) n) ∙ at) in (u.0, writes.useds p n ∙ u.1));
            free_are = still_free room own slots first (Some bytes) qs apart free.1;
            every = λ p in_page none. at_place (IsOneOf qs p) first p
                (λ e. absurd (some_none bytes (sym (put_here slots first (Some bytes)) ∙ ap (put_slot slots first (Some bytes)) (sym e) ∙ none)))
                (λ n. behind_first q qs p (λ e. n (e ∙ is)) (every p in_page (sym (put_there slots first p (Some bytes) n) ∙ none)));
          },
        )

-- the first free slot, as it is before it is taken
pub front_of : (room : ℕ) (own : List ℕ) (used : Slots) (behind : Place → Option Place) (slots : Slots) (first : Place) → KeepsSlots room own used behind slots first → 1 ≤ first.page
    → Front room own used behind slots first
front_of room own used behind slots first keeps some =
    (taken room own used (put_slot used first (Some [])) behind behind slots first [] keeps some (put_here used first (Some []))
    (record { useds = λ q n. put_there used first q (Some []) n; behinds = λ q n. refl })).0
