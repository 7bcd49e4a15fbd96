-- A walk goes one step on, and what it finds at its end.
use Rattle.std.proofs.Common.{◌≡◌, ◌≢◌, ℕ, ◌^◌, ◌<◌, ◌≤◌, Bool, true, false, List, [], ◌∷◌, ◌++◌, Option, Some, refl, sym, subst, arith}
use Rattle.pages.specs.Each.{Each}
use Rattle.pages.specs.PageMap.{PageMap}
use Rattle.record_heap.specs.declared.shape.Place.{Place}
use Rattle.record_heap.specs.Chain.{AreOnce}
use Rattle.record_heap.specs.Calls.{IsHeapAt}
use Rattle.pages.specs.Marks.{Marks}
use Rattle.pages.proofs.MarksLemmas.{marks_on}
use Rattle.record_heap.specs.Standing.{IsPageChain}
use Rattle.record_heap.specs.Walk.{IsPagePath, PagesWalked, IsFreePath}

pub each_more : {X : Type 0} (P : X → Type 0) (xs : List X) (x : X) → Each P xs → P x → Each P (xs ++ x ∷ [])
each_more P [] x h p = (p, tt)
each_more P (y ∷ ys) x h p = (h.0, each_more P ys x h.1 p)

pub once_more : (ps : List Place) (p : Place) → AreOnce ps → Each (λ q. q ≢ p) ps → AreOnce (ps ++ p ∷ [])
once_more [] p once other = (tt, tt)
once_more (q ∷ qs) p once other = (each_more (λ k. q ≢ k) qs p once.0 other.0, once_more qs p once.1 other.1)

pub page_path_more : (pages : PageMap) (first : ℕ) (own : List ℕ) (n next : ℕ) → IsPagePath pages first own n → IsHeapAt pages n next → IsPagePath pages first (own ++ n ∷ []) next
page_path_more pages first [] n next path at = (path, (next, at, refl))
page_path_more pages first (m ∷ ms) n next path at = (path.0, (path.1.0, path.1.1, page_path_more pages path.1.0 ms n next path.1.2 at))

pub free_path_more : (behind : Place → Option Place) (first : Place) (free : List Place) (p next : Place) → IsFreePath behind first free p → behind p ≡ Some next
    → IsFreePath behind first (free ++ p ∷ []) next
free_path_more behind first [] p next path at = (path, (next, at, refl))
free_path_more behind first (q ∷ qs) p next path at = (path.0, (path.1.0, path.1.1, free_path_more behind path.1.0 qs p next path.1.2 at))

pub clash : (b : Bool) → b ≡ true → b ≡ false → ⊥
clash b on off = cc (on, off)

pub pages_more : (pages : PageMap) (first at next : ℕ) (a b c : ℕ → Bool) (own own' : List ℕ) → PagesWalked pages first at a b own → IsHeapAt pages at next → Marks b c (at ∷ []) → at ≢ 0 → at < 2 ^ 32
    → own' ≡ own ++ at ∷ [] → PagesWalked pages first next a c own'
pages_more pages first at next a b c own own' walked here marks some low grown =
    subst (PagesWalked pages first next a c) (sym grown) (record {
      path = page_path_more pages first own at next walked.path here;
      some = each_more (λ n. 1 ≤ n) own at walked.some (omega (arith, some));
      low = each_more (λ n. n < 2 ^ 32) own at walked.low low;
      marks = marks_on a b c own (at ∷ []) walked.marks marks;
    })

-- a path that ends at page 0 is a chain
pub path_ends : (pages : PageMap) (first : ℕ) (own : List ℕ) → IsPagePath pages first own 0 → IsPageChain pages first own
path_ends pages first [] path = path
path_ends pages first (n ∷ ns) path = (path.0, (path.1.0, path.1.1, path_ends pages path.1.0 ns path.1.2))
