-- Entries that rise by their keys have equal values together.
use Rattle.std.proofs.Common.{◌≡◌, ℕ, zero, suc, ◌<◌, ◌≤◌, ◌⊎◌, inl, inr, true, false}
use Rattle.std.proofs.Common.{List, [], ◌∷◌, length, take, slice_index_or, refl, ap, sym, ◌∙◌, arith}
use Rattle.std.specs.Ordering.{nat_cmp, ordering_then, is_lt}
use Rattle.std.specs.declared.cmp.Ordering.{Ordering}
use Rattle.std.specs.Cmp.Lexicographic.{slice_cmp}
use Rattle.std.proofs.lemmas.Cmp.{ranked, by_ranked}
use Rattle.std.proofs.lemmas.List.{length-map, take-take}
use Rattle.pages.specs.Each.{Each}
use Rattle.tree_node.specs.Order.{less, Ascends}
use Rattle.tree_node.proofs.OrderLemmas.{less_itself, not_less}
use Rattle.tree_search.specs.Tree.{entries_of}
use Rattle.tree_search.proofs.DescentLemmas.{tree_ascends}
use Rattle.page_walks.specs.Runs.{values_of, AreTogether, TreesKeepTogether}

-- bytes that are not below others begin with a greater one, or with the same and go on so
from_first : (x y : ℕ) (xs ys : List ℕ) → less (y ∷ ys) (x ∷ xs) ≡ false
    → (x < y) ⊎ ((x ≡ y) × (less ys xs ≡ false))
unfolding less
from_first x y xs ys above =
    let answer = λ (o : Ordering). is_lt (ordering_then o (slice_cmp nat_cmp ys xs)) in
    by_ranked (y < x) (y ≡ x) (x < y) (nat_cmp y x) (ranked y x (nat_cmp y x) refl)
    (λ e low. let bad : true ≡ false = sym (ap answer e) ∙ above in cc)
    (λ e same. inr (sym same, sym (ap answer e) ∙ above))
    (λ e high. inl high)

-- bytes between two others that begin alike begin as they do
front_between : (width : ℕ) (x y z : List ℕ) → less y x ≡ false → less z y ≡ false
    → take width x ≡ take width z → take width y ≡ take width z
unfolding less
front_between zero x y z above below same = refl
front_between (suc width) [] [] z above below same = same
front_between (suc width) [] (y ∷ ys) [] above below same = let bad : true ≡ false = below in cc
front_between (suc width) [] (y ∷ ys) (z ∷ zs) above below same =
    let bad : [] ≡ z ∷ take width zs = same in cc
front_between (suc width) (x ∷ xs) [] z above below same = let bad : true ≡ false = above in cc
front_between (suc width) (x ∷ xs) (y ∷ ys) [] above below same =
    let bad : x ∷ take width xs ≡ [] = same in cc
front_between (suc width) (x ∷ xs) (y ∷ ys) (z ∷ zs) above below same =
    by_first (from_first x y xs ys above) (from_first y z ys zs below)
    (λ above below. front_between width xs ys zs above below tails)
  where
    heads : x ≡ z
    heads = let e : x ∷ take width xs ≡ z ∷ take width zs = same in cc

    tails : take width xs ≡ take width zs
    tails = let e : x ∷ take width xs ≡ z ∷ take width zs = same in cc

    by_first : (x < y) ⊎ ((x ≡ y) × (less ys xs ≡ false))
        → (y < z) ⊎ ((y ≡ z) × (less zs ys ≡ false))
        → (less ys xs ≡ false → less zs ys ≡ false → take width ys ≡ take width zs)
        → y ∷ take width ys ≡ z ∷ take width zs
    by_first (inl low) (inl high) on = absurd (omega (arith, low, high, heads))
    by_first (inl low) (inr high) on = absurd (omega (arith, low, high.0, heads))
    by_first (inr low) (inl high) on = absurd (omega (arith, low.0, high, heads))
    by_first (inr low) (inr high) on = let rest = on low.1 high.1 in λ i. high.0 i ∷ rest i

each_at : (P : List ℕ → Type 0) (es : List (List ℕ)) (i : ℕ) → i < length es → Each P es
    → P (slice_index_or es i [])
each_at P [] i inside all = absurd (omega arith)
each_at P (e ∷ es) zero inside all = all.0
each_at P (e ∷ es) (suc i) inside all = each_at P es i (omega arith) all.1

-- no entry has a key below that of one before it
not_before : (key : ℕ) (es : List (List ℕ)) (i j : ℕ) → i ≤ j → j < length es → Ascends key es
    → less (take key (slice_index_or es j [])) (take key (slice_index_or es i [])) ≡ false
not_before key [] i j up inside rises = absurd (omega arith)
not_before key (e ∷ es) zero zero up inside rises = less_itself (take key e)
not_before key (e ∷ es) zero (suc j) up inside rises =
    let other = slice_index_or es j [] in
    let above = each_at (λ y. less (take key e) (take key y) ≡ true) es j (omega arith) rises.0 in
    not_less (take key e) (take key other) (take key e) above (less_itself (take key e))
not_before key (e ∷ es) (suc i) zero up inside rises = absurd (omega arith)
not_before key (e ∷ es) (suc i) (suc j) up inside rises =
    not_before key es i j (omega arith) (omega arith) rises.1

value_at : (width : ℕ) (es : List (List ℕ)) (i : ℕ) → i < length es
    → slice_index_or (values_of width es) i [] ≡ take width (slice_index_or es i [])
value_at width [] i inside = absurd (omega arith)
value_at width (e ∷ es) zero inside = refl
value_at width (e ∷ es) (suc i) inside = value_at width es i (omega arith)

rising_together : (key width : ℕ) (es : List (List ℕ)) → width ≤ key → Ascends key es
    → AreTogether (values_of width es)
rising_together key width es narrow rises i j k up on inside same =
    let long = length-map es (take width) in
    let within : k < length es = omega (arith, inside, long) in
    let x = slice_index_or es i [] in
    let y = slice_index_or es j [] in
    let z = slice_index_or es k [] in
    let first = value_at width es i (omega (arith, within, up, on)) in
    let here = value_at width es j (omega (arith, within, on)) in
    let last = value_at width es k within in
    let from = not_before key es i j up (omega (arith, within, on)) rises in
    let upto = not_before key es j k on within rises in
    let front = take-take width key x narrow in
    let back = take-take width key z narrow in
    here ∙ sym (take-take width key y narrow)
    ∙ front_between width (take key x) (take key y) (take key z) from upto
    (front ∙ sym first ∙ same ∙ last ∙ sym back)
    ∙ back ∙ sym last

pub trees_keep_together : TreesKeepTogether
trees_keep_together key width h low high tree narrow ordered =
    rising_together key width (entries_of h tree) narrow (tree_ascends key h low high tree ordered)
