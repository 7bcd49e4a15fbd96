-- Free pages that a walk has yet to find.
use Rattle.std.proofs.Common.{◌≡◌, ℕ, zero, suc, ◌<◌, Bool, true, false, ltb, ◌&&◌, List, [], ◌∷◌, length, Option, Some, None, refl, ap, sym, ◌∙◌, subst, arith}
use Rattle.std.specs.Prelude.{if◌then◌else◌, ◌==◌, nat_eq, option_and_then}
use Rattle.std.proofs.lemmas.Bool.{and_parts, ltb-true, eqb-true, false≢true}
use Rattle.pages.specs.Each.{Each}
use Rattle.page_alloc.specs.FreePage.{is_free, next_of}
use Rattle.page_alloc.specs.Chain.{is_page, is_among, chain}
use Rattle.pages.specs.Marks.{IsUnmarked, Marks, marked_in}
use Rattle.pages.proofs.EachLemmas.{outside_symm}
use Rattle.pages.proofs.RefusedLemmas.{still_unmarked}
use Rattle.page_walks.specs.FreeWalk.{page_in, FreeAhead, IsFreePage, IsFreePageAt, IsFreePagePath}
use Rattle.page_walks.proofs.FileLemmas.{among_outside}

-- the free pages behind the first one
record Opened (list : List (List ℕ)) (n k : ℕ) (own : List ℕ) : Type 0 where
  pub here : IsFreePageAt list n (next_of (page_in list n))
  pub rest : List ℕ
  pub behind : chain (page_in list) (length list) (next_of (page_in list n)) k ≡ Some rest
  pub are : own ≡ n ∷ rest
  pub out : is_among n rest ≡ false

chosen : (n : ℕ) (ns own : List ℕ) (b : Bool) → is_among n ns ≡ b → (if b then None else Some (n ∷ ns)) ≡ Some own → (own ≡ n ∷ ns) × (is_among n ns ≡ false)
chosen n ns own true e is = absurd (cc)
chosen n ns own false e is = (cc, e)

opened : (list : List (List ℕ)) (n k : ℕ) (own : List ℕ) (o : Option (List ℕ)) → chain (page_in list) (length list) (next_of (page_in list n)) k ≡ o → (b : Bool)
    → (is_page (length list) n && is_free (page_in list n)) ≡ b
    → (if b then option_and_then (λ ns. if is_among n ns then None else Some (n ∷ ns)) o else None) ≡ Some own → Opened list n k own
opened list n k own o behind false test is = absurd (cc)
opened list n k own None behind true test is = absurd (cc)
opened list n k own (Some ns) behind true test is =
    let tests = and_parts (is_page (length list) n) (is_free (page_in list n)) test in
    let page = and_parts (ltb 0 n) (ltb n (length list)) tests.0 in
    let one = chosen n ns own (is_among n ns) refl is in
    record {
      here = record { some = ltb-true 0 n page.0; inside = ltb-true n (length list) page.1; free = tests.1; leads = refl };
      rest = ns;
      behind = behind;
      are = one.0;
      out = one.1;
    }

opens : (list : List (List ℕ)) (n k : ℕ) (own : List ℕ) → chain (page_in list) (length list) n (suc k) ≡ Some own → Opened list n k own
opens list n k own is =
    opened list n k own (chain (page_in list) (length list) (next_of (page_in list n)) k) refl (is_page (length list) n && is_free (page_in list n)) refl is

-- the next page of a chain is free, and was not reached
pub ahead_free : (list : List (List ℕ)) (at left : ℕ) (reached : List Bool) → 0 < left → FreeAhead list at left reached → IsFreePage list at
ahead_free list at zero reached some a = absurd (omega arith)
ahead_free list at (suc k) reached some a = (next_of (page_in list at), (opens list at k a.own a.is).here)

pub ahead_unmarked : (list : List (List ℕ)) (at left : ℕ) (reached : List Bool) → 0 < left → FreeAhead list at left reached → IsUnmarked reached at
ahead_unmarked list at zero reached some a = absurd (omega arith)
ahead_unmarked list at (suc k) reached some a = (subst (Each (IsUnmarked reached)) (opens list at k a.own a.is).are a.unmarked).0

-- one is walked
pub ahead_next : (list : List (List ℕ)) (at next left less : ℕ) (before after : List Bool) → left ≡ suc less → IsFreePageAt list at next
    → Marks (marked_in before) (marked_in after) (at ∷ []) → length after ≡ length before → FreeAhead list at left before → FreeAhead list next less after
ahead_next list at next zero less before after one here marks long a = absurd (omega arith)
ahead_next list at next (suc k) less before after one here marks long a =
    let even : k ≡ less = omega arith in
    let o = opens list at k a.own a.is in
    record {
      own = o.rest;
      is = subst (λ (m : ℕ). chain (page_in list) (length list) next m ≡ Some o.rest) even
          (subst (λ (m : ℕ). chain (page_in list) (length list) m k ≡ Some o.rest) here.leads o.behind);
      unmarked = still_unmarked before after (at ∷ []) o.rest marks long (outside_symm (at ∷ []) o.rest (among_outside at o.rest o.out, tt))
          (subst (Each (IsUnmarked before)) o.are a.unmarked).1;
    }

-- behind the last page of a chain is page 0
pub ahead_ends : (list : List (List ℕ)) (at left : ℕ) (reached : List Bool) → left ≡ 0 → FreeAhead list at left reached → at ≡ 0
ahead_ends list at (suc k) reached none a = absurd (omega arith)
ahead_ends list at zero reached none a = go (at == 0) refl a.is
  where
    go : (b : Bool) → (at == 0) ≡ b → (if b then Some [] else None) ≡ Some a.own → at ≡ 0
    go true e is = eqb-true at 0 e
    go false e is = absurd (cc)

pub among_tail : (n m : ℕ) (ms : List ℕ) → nat_eq n m ≡ false → is_among n (m ∷ ms) ≡ true → is_among n ms ≡ true
among_tail n m ms differs found = rw differs at found

-- some pages of a chain, fewer than so many, lead to page n
abbrev pub LedTo : List (List ℕ) → (first count n : ℕ) → Type 0
LedTo list first count n = (front : List ℕ) × (length front < count) × IsFreePagePath list first front n

none_among : (n : ℕ) (own : List ℕ) → Some [] ≡ Some own → is_among n own ≡ true → ⊥
none_among n own is found = let none : [] ≡ own = cc is in let bad : is_among n [] ≡ true = ap (is_among n) none ∙ found in false≢true bad

led_first : (list : List (List ℕ)) (first k n : ℕ) → n ≡ first → LedTo list first (suc k) n
led_first list first k n same = ([], (let some : 0 < suc k = omega arith in some), sym same)

led_on : (list : List (List ℕ)) (first next k n : ℕ) → IsFreePageAt list first next → LedTo list next k n → LedTo list first (suc k) n
led_on list first next k n here rest =
    let less : length rest.0 < k = rest.1 in
    (first ∷ rest.0, (let more : suc (length rest.0) < suc k = omega (arith, less) in more), (refl, (next, here, rest.2)))

led_either : (list : List (List ℕ)) (first k n : ℕ) (own : List ℕ) (o : Opened list first k own) → is_among n own ≡ true → (is_among n o.rest ≡ true → LedTo list (next_of (page_in list first)) k n)
    → (b : Bool) → nat_eq n first ≡ b → LedTo list first (suc k) n
led_either list first k n own o found rest true e = led_first list first k n (eqb-true n first e)
led_either list first k n own o found rest false e =
    led_on list first (next_of (page_in list first)) k n o.here (rest (among_tail n first o.rest e (ap (is_among n) (sym o.are) ∙ found)))

pub led_by_chain : (list : List (List ℕ)) (first count : ℕ) (own : List ℕ) → chain (page_in list) (length list) first count ≡ Some own → (n : ℕ) → is_among n own ≡ true
    → LedTo list first count n
led_by_chain list first zero own is n found = go (first == 0) is
  where
    go : (b : Bool) → (if b then Some [] else None) ≡ Some own → LedTo list first 0 n
    go true e = absurd (none_among n own e found)
    go false e = absurd (cc)
led_by_chain list first (suc k) own is n found =
    let o = opens list first k own is in
    led_either list first k n own o found (λ on. led_by_chain list (next_of (page_in list first)) k o.rest o.behind n on) (nat_eq n first) refl
