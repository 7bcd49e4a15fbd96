-- The chain of free pages, and the pages in use, where a page in use changes.
use Rattle.std.proofs.Common.{zero, suc, ◌≡◌, ◌≢◌, inl, inr, ℕ, ◌+◌, ◌-◌, ◌<◌, ◌≤◌, length, arith, ltb, ◌&&◌, ◌||◌, ◌==◌, not, true, false, if◌then◌else◌, nat_eq, List, [], ◌∷◌, Option, Some, None, is_some, IsSome, option_and_then, refl, sym, ◌∙◌, ap, subst}
use Rattle.std.specs.List.{IsDistinct, AllByRecursion}
use Rattle.std.proofs.lemmas.Map.Steps.{length-le_from_distinct_below}
use Rattle.std.proofs.lemmas.Bool.{cases_Bool, and_parts, or_parts, eqb-true, eqb-false, ne_eqb, eq-eqb, ltb-true, ltb-false, lt-ltb, le-ltb, and_from, and_right}
use Rattle.page_alloc.specs.FreePage.{is_free, next_of}
use Rattle.pages.specs.PageMap.{Writes, Takes, Gives}
use Rattle.page_alloc.specs.Chain.{is_page, is_among, chain, used}

abbrev Bytes : Type 0
Bytes = ℕ → List ℕ

-- page n in front of a chain in which it is not
abbrev in_front : ℕ → Option (List ℕ) → Option (List ℕ)
in_front n o = option_and_then (λ ns. if is_among n ns then None else Some (n ∷ ns)) o

-- a page in front of a chain
pub front_parts : (n : ℕ) (o : Option (List ℕ)) (ns : List ℕ) → in_front n o ≡ Some ns → (rest : List ℕ) × (o ≡ Some rest) × (is_among n rest ≡ false) × (ns ≡ n ∷ rest)
front_parts n None ns is = absurd (cc)
front_parts n (Some rest) ns is = elim (cases_Bool (is_among n rest)) [
  | inl found ↦ let h = rw found at is in absurd (cc)
  | inr apart ↦ let h = rw apart at is in (rest, refl, apart, cc)
]

-- a chain that is not empty
pub record ChainStep (pages : Bytes) (count first free : ℕ) (ns : List ℕ) : Type 0 where
  pub rest : List ℕ
  pub page : is_page count first ≡ true
  pub marked : is_free (pages first) ≡ true
  pub goes_on : chain pages count (next_of (pages first)) free ≡ Some rest
  pub apart : is_among first rest ≡ false
  pub is : ns ≡ first ∷ rest

pub chain_step : (pages : Bytes) (count first free : ℕ) (ns : List ℕ) → chain pages count first (suc free) ≡ Some ns → ChainStep pages count first free ns
chain_step pages count first free ns is = elim (cases_Bool (is_page count first && is_free (pages first))) [
  | inl good ↦
      let parts = front_parts first (chain pages count (next_of (pages first)) free) ns (rw good at is) in
      let both = and_parts (is_page count first) (is_free (pages first)) good in
      record { rest = parts.0; page = both.0; marked = both.1; goes_on = parts.1; apart = parts.2; is = parts.3 }
  | inr bad ↦ let h = rw bad at is in absurd (cc)
]

among_parts : (n p : ℕ) (ns : List ℕ) → is_among n (p ∷ ns) ≡ false → (nat_eq n p ≡ false) × (is_among n ns ≡ false)
among_parts n p ns h = or_parts (nat_eq n p) (is_among n ns) h

-- the chain stays where a page that is not in it changes
pub chain_kept : (pages after : Bytes) (count n first free : ℕ) (ns : List ℕ) → ((k : ℕ) → k ≢ n → after k ≡ pages k) → is_among n ns ≡ false
    → chain pages count first free ≡ Some ns → chain after count first free ≡ Some ns
chain_kept pages after count n first zero ns others apart is = is
chain_kept pages after count n first (suc free) ns others apart is =
    let s = chain_step pages count first free ns is in
    let out = among_parts n first s.rest (subst (λ l. is_among n l ≡ false) s.is apart) in
    let same : after first ≡ pages first = others first (λ e. eqb-false n first out.0 (sym e)) in
    let next = chain_kept pages after count n (next_of (pages first)) free s.rest others out.1 s.goes_on in
    rw (same, s.page, s.marked, next, s.apart) (ap Some (sym s.is))

-- a page in use is a page that is not free
pub in_use : (pages : Bytes) (count n : ℕ) (o : Option (List ℕ)) → IsSome (used pages count o n) → (free : List ℕ) × (o ≡ Some free) × (is_page count n ≡ true) × (is_among n free ≡ false)
in_use pages count n None there = absurd (cc)
in_use pages count n (Some free) there = elim (cases_Bool (is_page count n)) [
  | inl page ↦ elim (cases_Bool (is_among n free)) [
    | inl found ↦ let h = rw (page, found) at there in absurd (cc)
    | inr apart ↦ (free, refl, page, apart)
  ]
  | inr past ↦ let h = rw past at there in absurd (cc)
]

module _ (pages after : Bytes) (count n first free : ℕ) (others : (k : ℕ) → k ≢ n → after k ≡ pages k) (there : IsSome (used pages count (chain pages count first free) n)) where
  parts : (ns : List ℕ) × (chain pages count first free ≡ Some ns) × (is_page count n ≡ true) × (is_among n ns ≡ false)
  parts = in_use pages count n (chain pages count first free) there

  pub same_chain : chain after count first free ≡ chain pages count first free
  same_chain = chain_kept pages after count n first free parts.0 others parts.3 parts.1 ∙ sym parts.1

  -- a page in use was changed
  pub use_kept : (w : List ℕ) → after n ≡ w → Writes (used pages count (chain pages count first free)) (used after count (chain after count first free)) n w
  use_kept w here = record {
    page = rw (chain_kept pages after count n first free parts.0 others parts.3 parts.1, parts.2, parts.3) (ap Some here);
    others = λ m differs. rw (chain_kept pages after count n first free parts.0 others parts.3 parts.1, parts.1) (ap (λ bytes. if is_page count m && not (is_among m parts.0) then Some bytes else None) (others m differs));
  }

-- a chain has so many pages, each of them a page below the count, and none twice
pub record IsChain (count free : ℕ) (ns : List ℕ) : Type 0 where
  pub long : length ns ≡ free
  pub low : (q : ℕ) → is_among q ns ≡ true → is_page count q ≡ true
  pub distinct : IsDistinct nat_eq ns

all_apart : (n : ℕ) (ns : List ℕ) → is_among n ns ≡ false → AllByRecursion (λ m. nat_eq n m ≡ false) ns
all_apart n [] out = tt
all_apart n (m ∷ ns) out = let p = among_parts n m ns out in (p.0, all_apart n ns p.1)

distinct_none : IsDistinct nat_eq []
unfolding IsDistinct
distinct_none = tt

distinct_front : (n : ℕ) (ns : List ℕ) → is_among n ns ≡ false → IsDistinct nat_eq ns → IsDistinct nat_eq (n ∷ ns)
unfolding IsDistinct
distinct_front n ns out rest = (all_apart n ns out, rest)

front_low : (count n q : ℕ) (ns : List ℕ) → is_page count n ≡ true → ((k : ℕ) → is_among k ns ≡ true → is_page count k ≡ true) → is_among q (n ∷ ns) ≡ true → is_page count q ≡ true
front_low count n q ns page low found = elim (cases_Bool (nat_eq q n)) [
  | inl same ↦ subst (λ k. is_page count k ≡ true) (sym (eqb-true q n same)) page
  | inr apart ↦ low q (subst (λ b. (b || is_among q ns) ≡ true) apart found)
]

pub is_chain : (pages : Bytes) (count first free : ℕ) (ns : List ℕ) → chain pages count first free ≡ Some ns → IsChain count free ns
is_chain pages count first zero ns is = elim (cases_Bool (first == 0)) [
  | inl end ↦ let h : Some [] ≡ Some ns = rw end at is in let e : [] ≡ ns = cc in
      subst (IsChain count 0) e (record { long = refl; low = λ q found. absurd (cc); distinct = distinct_none })
  | inr more ↦ let h = rw more at is in absurd (cc)
]
is_chain pages count first (suc free) ns is =
    let s = chain_step pages count first free ns is in
    let rest = is_chain pages count (next_of (pages first)) free s.rest s.goes_on in
    subst (IsChain count (suc free)) (sym s.is) (record {
      long = ap suc rest.long;
      low = λ q found. front_low count first q s.rest s.page rest.low found;
      distinct = distinct_front first s.rest s.apart rest.distinct;
    })

page_low : (count n : ℕ) → is_page count n ≡ true → (0 < n) × (n < count)
page_low count n page = let p = and_parts (ltb 0 n) (ltb n count) page in (ltb-true 0 n p.0, ltb-true n count p.1)

no_zero : (count : ℕ) (ns : List ℕ) → ((k : ℕ) → is_among k ns ≡ true → is_page count k ≡ true) → is_among 0 ns ≡ false
no_zero count ns low = elim (cases_Bool (is_among 0 ns)) [
  | inl found ↦ let p = (page_low count 0 (low 0 found)).0 in absurd (omega arith)
  | inr out ↦ out
]

-- where a page is in use, not all pages are free
pub room_to_give : (pages : Bytes) (count n first free : ℕ) (ns : List ℕ) → chain pages count first free ≡ Some ns → is_page count n ≡ true → is_among n ns ≡ false → free + 2 ≤ count
room_to_give pages count n first free ns is page out =
    let good = is_chain pages count first free ns is in
    let all : (q : ℕ) → is_among q (n ∷ ns) ≡ true → is_page count q ≡ true = λ q found. front_low count n q ns page good.low found in
    let apart = distinct_front 0 (n ∷ ns) (no_zero count (n ∷ ns) all) (distinct_front n ns out good.distinct) in
    let below = length-le_from_distinct_below (0 ∷ n ∷ ns) count apart (λ q found. zero_or q found) in
    let long = good.long in
    omega arith
  where
    zero_or : (q : ℕ) → is_among q (0 ∷ n ∷ ns) ≡ true → q < count
    zero_or q found = elim (cases_Bool (nat_eq q 0)) [
      | inl same ↦ let e = eqb-true q 0 same in let p = page_low count n page in omega arith
      | inr apart ↦ (page_low count q (front_low count n q ns page (is_chain pages count first free ns is).low (subst (λ b. (b || is_among q (n ∷ ns)) ≡ true) apart found))).1
    ]

-- page n goes in front of the chain
module _ (pages after : Bytes) (count n first free : ℕ) (others : (k : ℕ) → k ≢ n → after k ≡ pages k) (marked : is_free (after n) ≡ true) (linked : next_of (after n) ≡ first)
    (there : IsSome (used pages count (chain pages count first free) n)) where
  was : (ns : List ℕ) × (chain pages count first free ≡ Some ns) × (is_page count n ≡ true) × (is_among n ns ≡ false)
  was = in_use pages count n (chain pages count first free) there

  now : chain after count n (suc free) ≡ Some (n ∷ was.0)
  now = rw (was.2, marked, linked, chain_kept pages after count n first free was.0 others was.3 was.1, was.3) refl

  pub given_sound : is_some (chain after count n (suc free)) ≡ is_some (chain pages count first free)
  given_sound = ap is_some now ∙ sym (ap is_some was.1)

  pub given : Gives (used pages count (chain pages count first free)) (used after count (chain after count n (suc free))) n
  given = record {
    free = rw (now, was.2, eq-eqb n n refl) refl;
    others = λ m differs. rw (now, was.1, ne_eqb m n differs) (ap (λ bytes. if is_page count m && not (is_among m was.0) then Some bytes else None) (others m differs));
  }

-- the front page leaves the chain
module _ (pages : Bytes) (count first free : ℕ) (sound : is_some (chain pages count first (suc free)) ≡ true) where
  some : (o : Option (List ℕ)) → is_some o ≡ true → (ns : List ℕ) × (o ≡ Some ns)
  some None is = absurd (cc)
  some (Some ns) is = (ns, refl)

  front : (ns : List ℕ) × (chain pages count first (suc free) ≡ Some ns)
  front = some (chain pages count first (suc free)) sound

  step : ChainStep pages count first free front.0
  step = chain_step pages count first free front.0 front.1

  pub front_page : is_page count first ≡ true
  front_page = step.page

  pub front_marked : is_free (pages first) ≡ true
  front_marked = step.marked

  pub taken_sound : is_some (chain pages count (next_of (pages first)) free) ≡ true
  taken_sound = ap is_some step.goes_on

  pub taken : Takes (used pages count (chain pages count first (suc free))) (used pages count (chain pages count (next_of (pages first)) free)) first (pages first)
  taken = record {
    free = rw (front.1 ∙ ap Some step.is, step.page, eq-eqb first first refl) refl;
    page = rw (step.goes_on, step.page, step.apart) refl;
    others = λ m differs. rw (front.1 ∙ ap Some step.is, step.goes_on, ne_eqb m first differs) refl;
  }

pub front_marked_at : (pages : Bytes) (count first free : ℕ) → 0 < free → is_some (chain pages count first free) ≡ true → is_free (pages first) ≡ true
front_marked_at pages count first zero low sound = absurd (omega arith)
front_marked_at pages count first (suc free) low sound = front_marked pages count first free sound

pub front_page_at : (pages : Bytes) (count first free : ℕ) → 0 < free → is_some (chain pages count first free) ≡ true → is_page count first ≡ true
front_page_at pages count first zero low sound = absurd (omega arith)
front_page_at pages count first (suc free) low sound = front_page pages count first free sound

pub taken_at : (pages after : Bytes) (count first next free : ℕ) → 0 < free → after ≡ pages → next ≡ next_of (pages first) → is_some (chain pages count first free) ≡ true
    → Takes (used pages count (chain pages count first free)) (used after count (chain after count next (free - 1))) first (pages first)
taken_at pages after count first next zero low same linked sound = absurd (omega arith)
taken_at pages after count first next (suc free) low same linked sound = let e : suc free - 1 ≡ free = omega arith in rw (e, same, linked) (taken pages count first free sound)

pub taken_sound_at : (pages after : Bytes) (count first next free : ℕ) → 0 < free → after ≡ pages → next ≡ next_of (pages first) → is_some (chain pages count first free) ≡ true
    → is_some (chain after count next (free - 1)) ≡ true
taken_sound_at pages after count first next zero low same linked sound = absurd (omega arith)
taken_sound_at pages after count first next (suc free) low same linked sound = let e : suc free - 1 ≡ free = omega arith in rw (e, same, linked) (taken_sound pages count first free sound)

ltb_past : (n : ℕ) → ltb n n ≡ false
ltb_past n = le-ltb n n (omega arith)

page_past : (count : ℕ) → is_page count count ≡ false
page_past count = and_right (ltb 0 count) (ltb count count) (ltb_past count)

page_more : (count m : ℕ) → m ≢ count → is_page (count + 1) m ≡ is_page count m
page_more count m differs = elim (cases_Bool (ltb m count)) [
  | inl low ↦ rw (low, lt-ltb m (count + 1) (let l = ltb-true m count low in omega arith)) refl
  | inr high ↦ rw (high, le-ltb m (count + 1) (let l = ltb-false m count high in omega (arith, differs))) refl
]

-- a new page is added at the end, where no page is free
pub added : (pages after : Bytes) (count first : ℕ) → 0 < count → ((k : ℕ) → k ≢ count → after k ≡ pages k) → is_some (chain pages count first 0) ≡ true
    → Takes (used pages count (chain pages count first 0)) (used after (count + 1) (chain after (count + 1) first 0)) count (after count)
added pages after count first low others sound = elim (cases_Bool (first == 0)) [
  | inl end ↦ record {
    free = rw (end, page_past count) refl;
    page = rw (end, and_from (ltb 0 count) (ltb count (count + 1)) (lt-ltb 0 count low) (lt-ltb count (count + 1) (omega arith))) refl;
    others = λ m differs. rw (end, page_more count m differs) (ap (λ bytes. if is_page count m && not (is_among m []) then Some bytes else None) (others m differs));
  }
  | inr more ↦ let h = rw more at sound in absurd (cc)
]

-- a page in use is within the pages, and not all pages are free
pub can_give : (pages : Bytes) (count n first free : ℕ) → IsSome (used pages count (chain pages count first free) n) → (0 < n) × (n < count) × (free + 2 ≤ count)
can_give pages count n first free there =
    let was = in_use pages count n (chain pages count first free) there in
    let low = page_low count n was.2 in
    (low.0, low.1, room_to_give pages count n first free was.0 was.1 was.2 was.3)

pub given_at : (pages after : Bytes) (count n first free more : ℕ) → more ≡ suc free → ((k : ℕ) → k ≢ n → after k ≡ pages k) → is_free (after n) ≡ true → next_of (after n) ≡ first
    → IsSome (used pages count (chain pages count first free) n) → Gives (used pages count (chain pages count first free)) (used after count (chain after count n more)) n
given_at pages after count n first free more is others marked linked there = rw is (given pages after count n first free others marked linked there)

pub given_sound_at : (pages after : Bytes) (count n first free more : ℕ) → more ≡ suc free → ((k : ℕ) → k ≢ n → after k ≡ pages k) → is_free (after n) ≡ true → next_of (after n) ≡ first
    → IsSome (used pages count (chain pages count first free) n) → is_some (chain after count n more) ≡ is_some (chain pages count first free)
given_sound_at pages after count n first free more is others marked linked there = rw is (given_sound pages after count n first free others marked linked there)

-- the first page was taken: the others are left
pub first_taken : (pages after : Bytes) (count first next free : ℕ) (ns : List ℕ) → 0 < free → after ≡ pages → next ≡ next_of (pages first) → chain pages count first free ≡ Some ns
    → (rest : List ℕ) × (ns ≡ first ∷ rest) × (chain after count next (free - 1) ≡ Some rest)
first_taken pages after count first next zero ns low same linked is = absurd (omega arith)
first_taken pages after count first next (suc free) ns low same linked is =
    let s = chain_step pages count first free ns is in
    let e : suc free - 1 ≡ free = omega arith in
    (s.rest, s.is, rw (e, same, linked) s.goes_on)

-- no page is free, and none is where there are more
pub still_none : (pages after : Bytes) (count more first : ℕ) (ns : List ℕ) → chain pages count first 0 ≡ Some ns → (ns ≡ []) × (chain after more first 0 ≡ Some [])
still_none pages after count more first ns is = elim (cases_Bool (first == 0)) [
  | inl end ↦ let h : Some [] ≡ Some ns = rw end at is in let e : [] ≡ ns = cc in (sym e, rw end refl)
  | inr other ↦ let h = rw other at is in absurd (cc)
]

-- page n stands before the others
pub given_first : (pages after : Bytes) (count n first free more : ℕ) (ns : List ℕ) → more ≡ suc free → ((k : ℕ) → k ≢ n → after k ≡ pages k) → is_free (after n) ≡ true → next_of (after n) ≡ first
    → IsSome (used pages count (chain pages count first free) n) → chain pages count first free ≡ Some ns → chain after count n more ≡ Some (n ∷ ns)
given_first pages after count n first free more ns is others marked linked there before =
    let found = was pages after count n first free others marked linked there in
    let front = now pages after count n first free others marked linked there in
    let same : Some found.0 ≡ Some ns = sym found.1 ∙ before in
    let e : found.0 ≡ ns = cc in
    rw is (front ∙ ap (λ (l : List ℕ). Some (n ∷ l)) e)
