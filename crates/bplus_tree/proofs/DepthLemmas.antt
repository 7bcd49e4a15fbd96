-- A tree that stands has neither 20 levels nor more entries than its pages have room for.
use Rattle.std.proofs.Common.{◌≡◌, inl, inr, ℕ, zero, suc, ◌*◌, ◌^◌, ◌<◌, ◌≤◌, ◌||◌, true, false, nat_eq, List, [], ◌∷◌, length, None, IsSome, refl, sym, subst, arith, flat_map}
use Rattle.std.specs.List.{IsDistinct, AllByRecursion, list_any}
use Rattle.std.proofs.Math.Nat.{div-le_self}
use Rattle.std.proofs.lemmas.Bool.{cases_Bool, eqb-true, ne_eqb}
use Rattle.std.proofs.lemmas.List.{length-append}
use Rattle.std.proofs.lemmas.Map.Steps.{length-le_from_distinct_below}
use Rattle.tree_node.specs.declared.shape.NodeShape.{NodeShape}
use Rattle.tree_node.proofs.OrderLemmas.{Each-weaker}
use Rattle.tree_node.proofs.TableLemmas.{length_table}
use Rattle.pages.specs.Each.{Each}
use Rattle.pages.specs.PageMap.{PageMap}
use Rattle.pages.specs.Owners.{IsOutside, AreApart}
use Rattle.tree_search.specs.Tree.{TreeOf, entries_of, pages_of}
use Rattle.tree_search.specs.Stored.{Holds}
use Rattle.tree_search.specs.Calls.{IsWhole}
use Rattle.bplus_tree.specs.declared.tree.Tree.{Tree}
use Rattle.bplus_tree.specs.Count.{fewest}
use Rattle.bplus_tree.specs.Standing.{TreeStands}
use Rattle.bplus_tree.proofs.CountLemmas.{have_many_entries}
use Rattle.bplus_tree.proofs.PageLemmas.{pages_live}

-- ---- different numbers below a count are no more than it

apart_one : (n : ℕ) (ns : List ℕ) → IsOutside ns n → AllByRecursion (λ m. nat_eq n m ≡ false) ns
apart_one n [] out = tt
apart_one n (m ∷ ns) out = (ne_eqb n m out.0, apart_one n ns out.1)

all_distinct : (ns : List ℕ) → AreApart ns → IsDistinct nat_eq ns
unfolding IsDistinct
all_distinct [] apart = tt
all_distinct (n ∷ ns) apart = (apart_one n ns apart.0, all_distinct ns apart.1)

each_below : (count q : ℕ) (ns : List ℕ) → Each (λ n. n < count) ns → list_any (nat_eq q) ns ≡ true → q < count
each_below count q [] all found = absurd (cc)
each_below count q (n ∷ ns) all found = elim (cases_Bool (nat_eq q n)) [
  | inl same ↦ subst (λ (m : ℕ). m < count) (sym (eqb-true q n same)) all.0
  | inr other ↦ each_below count q ns all.1 (subst (λ b. (b || list_any (nat_eq q) ns) ≡ true) other found)
]

few_apart : (count : ℕ) (ns : List ℕ) → AreApart ns → Each (λ n. n < count) ns → length ns ≤ count
few_apart count ns apart all = length-le_from_distinct_below ns count (all_distinct ns apart) (λ q found. each_below count q ns all found)

-- ---- the entries that pages have room for

many_over : {X A B : Type 0} (entries : X → List A) (pages : X → List B) (Q : X → Type 0) → ((x : X) → Q x → length (entries x) ≤ 4080 * length (pages x)) → (xs : List X) → Each Q xs
    → length (flat_map entries xs) ≤ 4080 * length (flat_map pages xs)
many_over entries pages Q each [] all = let none : length (flat_map entries []) ≡ 0 = refl in omega arith
many_over entries pages Q each (x ∷ xs) all =
    let here = each x all.0 in
    let rest = many_over entries pages Q each xs all.1 in
    let more = length-append (entries x) (flat_map entries xs) in
    let longer = length-append (pages x) (flat_map pages xs) in
    omega arith

fit : (shape : NodeShape) (pages : PageMap) (h : ℕ) (t : TreeOf h) → Holds shape pages h t → length (entries_of h t) ≤ 4080 * length (pages_of h t)
fit shape pages zero t holds =
    let long = length_table 16 shape.entry holds.bytes in
    let few = holds.leaf.few in
    let room = div-le_self 4080 shape.entry in
    let same = subst (λ (es : List (List ℕ)). length es ≤ 4080) holds.holds (omega arith) in
    let one : length (pages_of 0 t) ≡ 1 = refl in
    omega arith
fit shape pages (suc h) t holds =
    let below = many_over (entries_of h) (pages_of h) (Holds shape pages h) (fit shape pages h) t.2 holds.1 in
    let more : length (pages_of (suc h) t) ≡ suc (length (flat_map (pages_of h) t.2)) = refl in
    omega arith

-- a tree that stands in pages below a count
pub few_entries : (tree : Tree) (pages : PageMap) (entries : List (List ℕ)) (own : List ℕ) (count : ℕ) → TreeStands tree pages entries own → ((n : ℕ) → IsSome (pages n) → n < count) → length entries ≤ 4080 * count
few_entries tree pages entries own count stands low =
    let live = pages_live tree.shape pages tree.levels stands.value stands.whole.stands.holds in
    let all = Each-weaker (λ n. IsSome (pages n)) (λ n. n < count) low (pages_of tree.levels stands.value) live in
    let few = few_apart count (pages_of tree.levels stands.value) stands.whole.apart all in
    let room = fit tree.shape pages tree.levels stands.value stands.whole.stands.holds in
    subst (λ (es : List (List ℕ)). length es ≤ 4080 * count) stands.has (omega arith)

-- a tree has a page
some_below : (h : ℕ) (t : TreeOf h) (count : ℕ) → count ≡ 0 → Each (λ n. n < count) (pages_of h t) → ⊥
some_below zero t count none all = absurd (omega (arith, none, all.0))
some_below (suc h) t count none all = absurd (omega (arith, none, all.0))

-- ---- the entries that a height needs

many_deep : (shape : NodeShape) (pages : PageMap) (h page : ℕ) (t : TreeOf h) → IsWhole shape pages h page None None t → h ≡ 19 → 2 ^ 57 ≤ length (entries_of h t)
many_deep shape pages zero page t whole deep = absurd (omega arith)
many_deep shape pages (suc k) page t whole deep =
    let e : 18 ≡ k = omega arith in
    let some : fewest k ≡ 2 ^ 56 = subst (λ (n : ℕ). fewest n ≡ 2 ^ 56) e refl in
    let all = have_many_entries shape pages k page t whole in
    omega arith

-- with the pages below a count that a number of 32 bits holds
module _ (tree : Tree) (pages : PageMap) (entries : List (List ℕ)) (own : List ℕ) (count : ℕ) (stands : TreeStands tree pages entries own) (low : (n : ℕ) → IsSome (pages n) → n < count) where
  pub never_deep : count < 2 ^ 32 → 19 ≤ tree.levels → ⊥
  never_deep few deep =
      let room = few_entries tree pages entries own count stands low in
      let many = many_deep tree.shape pages tree.levels tree.root stands.value stands.whole (omega (arith, deep, tree.low)) in
      let same = subst (λ (es : List (List ℕ)). 2 ^ 57 ≤ length es) stands.has many in
      omega arith

  pub never_full : 4096 * count ≤ tree.count → ⊥
  never_full full =
      let room = few_entries tree pages entries own count stands low in
      let is = stands.count in
      let none : count ≡ 0 = omega arith in
      let live = pages_live tree.shape pages tree.levels stands.value stands.whole.stands.holds in
      let all = Each-weaker (λ n. IsSome (pages n)) (λ n. n < count) low (pages_of tree.levels stands.value) live in
      some_below tree.levels stands.value count none all
