-- The free pages that a walk finds.
use Rattle.std.proofs.Common.{◌≡◌, ℕ, suc, Bool, true, false, ltb, ◌&&◌, List, [], ◌∷◌, ◌++◌, length, Some, refl, subst, ◌∙◌, arith}
use Rattle.std.proofs.lemmas.List.{length-append}
use Rattle.std.proofs.lemmas.Bool.{and_from, lt-ltb, ne_eqb}
use Rattle.pages.specs.Owners.{IsOutside, AreApart}
use Rattle.page_alloc.specs.FreePage.{is_free}
use Rattle.page_alloc.specs.Chain.{is_page, is_among, chain}
use Rattle.pages.specs.Marks.{Marks}
use Rattle.pages.proofs.MarksLemmas.{marks_none, marks_on}
use Rattle.page_walks.specs.FreeWalk.{page_in, IsFreePageAt, IsFreePagePath, FreeFront, FreeWalked, last_page}

path_more : (list : List (List ℕ)) (first : ℕ) (own : List ℕ) (n next : ℕ) → IsFreePagePath list first own n → IsFreePageAt list n next → IsFreePagePath list first (own ++ n ∷ []) next
path_more list first [] n next path at = (path, (next, at, refl))
path_more list first (m ∷ ms) n next path at = (path.0, (path.1.0, path.1.1, path_more list path.1.0 ms n next path.1.2 at))

-- none is walked yet
pub free_none : (list : List (List ℕ)) (first : ℕ) (marks : ℕ → Bool) → FreeFront list first 0 first 0 marks marks
free_none list first marks = record { own = []; path = refl; last = refl; as_many = refl; marks = marks_none marks }

pub last_added : (own : List ℕ) (n : ℕ) → last_page (own ++ n ∷ []) ≡ n
last_added [] n = refl
last_added (m ∷ []) n = refl
last_added (m ∷ k ∷ ms) n = last_added (k ∷ ms) n

-- one more is walked
pub free_more : (list : List (List ℕ)) (first from at next count : ℕ) (a b c : ℕ → Bool) → FreeFront list first from at count a b → IsFreePageAt list at next → Marks b c (at ∷ [])
    → FreeFront list first at next (suc count) a c
free_more list first from at next count a b c front here marks = record {
  own = front.own ++ at ∷ [];
  path = path_more list first front.own at next front.path here;
  last = last_added front.own at;
  as_many = length-append front.own (at ∷ []) ∙ (let n = front.as_many in omega arith);
  marks = marks_on a b c front.own (at ∷ []) front.marks marks;
}

pub not_among : (n : ℕ) (ns : List ℕ) → IsOutside ns n → is_among n ns ≡ false
not_among n [] out = refl
not_among n (m ∷ ms) out = rw (ne_eqb n m out.0, not_among n ms out.1) refl

free_page : (list : List (List ℕ)) (n next : ℕ) → IsFreePageAt list n next → (is_page (length list) n && is_free (page_in list n)) ≡ true
free_page list n next at =
    and_from (is_page (length list) n) (is_free (page_in list n)) (and_from (ltb 0 n) (ltb n (length list)) (lt-ltb 0 n at.some) (lt-ltb n (length list) at.inside)) at.free

-- a path to page 0 is the chain
path_is : (list : List (List ℕ)) (first : ℕ) (own : List ℕ) → IsFreePagePath list first own 0 → AreApart own → chain (page_in list) (length list) first (length own) ≡ Some own
path_is list first [] path apart = rw path refl
path_is list first (n ∷ ns) path apart =
    let at = path.1.1 in
    let rest = path_is list path.1.0 ns path.1.2 apart.1 in
    rw (path.0, free_page list n path.1.0 at, at.leads, rest, not_among n ns apart.0) refl

pub free_walked : (list : List (List ℕ)) (first from count : ℕ) (before after : ℕ → Bool) → FreeFront list first from 0 count before after → FreeWalked list first count before after
free_walked list first from count before after front = record {
  own = front.own;
  is = subst (λ (n : ℕ). chain (page_in list) (length list) first n ≡ Some front.own) front.as_many (path_is list first front.own front.path front.marks.apart);
  marks = front.marks;
}
