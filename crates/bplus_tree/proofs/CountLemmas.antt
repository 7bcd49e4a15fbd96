-- How many entries a tree of a height has at least.
use Rattle.std.proofs.Common.{◌≡◌, ℕ, zero, suc, ◌+◌, ◌*◌, ◌≤◌, List, [], ◌∷◌, length, Some, None, refl, arith, flat_map}
use Rattle.std.proofs.lemmas.List.{length-append}
use Rattle.tree_node.specs.declared.shape.NodeShape.{NodeShape}
use Rattle.pages.specs.Each.{Each}
use Rattle.tree_node.proofs.LeafLemmas.{leaf_room_some}
use Rattle.tree_node.proofs.InnerLemmas.{inner_room_some}
use Rattle.tree_node.specs.Fill.{least_entries}
use Rattle.tree_search.specs.Tree.{TreeOf, entries_of, Bound, IsRow, IsOrdered}
use Rattle.tree_search.specs.Calls.{size_of, IsHalfFull}
use Rattle.bplus_tree.specs.Count.{fewest, HaveManyEntries}
use Rattle.tree_search.proofs.RowLemmas.{row_length}

-- n times e
abbrev times : ℕ → ℕ → ℕ
times zero e = 0
times (suc n) e = e + times n e

eight_times : (e : ℕ) → times 8 e ≡ 8 * e
eight_times e = let sum : times 8 e ≡ e + (e + (e + (e + (e + (e + (e + (e + 0))))))) = refl in omega arith

two_times : (e : ℕ) → times 2 e ≡ 2 * e
two_times e = let sum : times 2 e ≡ e + (e + 0) = refl in omega arith

-- members of which each has so many
many_in : {X A : Type 0} (f : X → List A) (Q : X → Type 0) (e : ℕ) → ((x : X) → Q x → e ≤ length (f x)) → (n : ℕ) (xs : List X) → Each Q xs → n ≤ length xs → times n e ≤ length (flat_map f xs)
many_in f Q e each zero xs all h = let none : times 0 e ≡ 0 = refl in omega arith
many_in f Q e each (suc n) [] all h = absurd (omega arith)
many_in f Q e each (suc n) (x ∷ xs) all h =
    let here = each x all.0 in
    let rec = many_in f Q e each n xs all.1 (omega arith) in
    let both = length-append (f x) (flat_map f xs) in
    let step : times (suc n) e ≡ e + times n e = refl in
    omega arith

record IsChild (shape : NodeShape) (k : ℕ) (t : TreeOf k) : Type 0 where
  pub low : Bound
  pub high : Bound
  pub ordered : IsOrdered shape.width k low high t
  pub full : (least_entries shape k ≤ size_of k t) × IsHalfFull shape k t

children_are : (shape : NodeShape) (k : ℕ) (low : Bound) (ss : List (List ℕ)) (xs : List (TreeOf k)) (high : Bound) → IsRow (IsOrdered shape.width k) low ss xs high
    → Each (λ c. (least_entries shape k ≤ size_of k c) × IsHalfFull shape k c) xs → Each (IsChild shape k) xs
children_are shape k low [] [] high row fill = tt
children_are shape k low [] (x ∷ []) high row fill = (record { low = low; high = high; ordered = row; full = fill.0 }, tt)
children_are shape k low [] (x ∷ y ∷ xs) high row fill = absurd row
children_are shape k low (s ∷ ss) [] high row fill = tt
children_are shape k low (s ∷ ss) (x ∷ xs) high row fill = (record { low = low; high = Some s; ordered = row.2; full = fill.0 }, children_are shape k (Some s) ss xs high row.3 fill.1)

many_below : (shape : NodeShape) (h : ℕ) (t : TreeOf h) → IsChild shape h t → fewest h ≤ length (entries_of h t)
many_below shape zero t child =
    let room = leaf_room_some shape in
    let full = child.full.0 in
    omega arith
many_below shape (suc k) t child =
    let room = inner_room_some shape in
    let full = child.full.0 in
    let long = row_length (IsOrdered shape.width k) child.low t.1 t.2 child.high child.ordered.1 in
    let eight : 8 ≤ length t.2 = omega arith in
    let many = many_in (entries_of k) (IsChild shape k) (fewest k) (many_below shape k) 8 t.2 (children_are shape k child.low t.1 t.2 child.high child.ordered.1 child.full.1) eight in
    let product = eight_times (fewest k) in
    omega arith

pub have_many_entries : HaveManyEntries
have_many_entries shape pages h page t whole =
    let some = whole.rooted in
    let ordered = whole.stands.ordered in
    let long = row_length (IsOrdered shape.width h) None t.1 t.2 None ordered.1 in
    let two : 2 ≤ length t.2 = omega arith in
    let many = many_in (entries_of h) (IsChild shape h) (fewest h) (many_below shape h) 2 t.2 (children_are shape h None t.1 t.2 None ordered.1 whole.filled) two in
    let product = two_times (fewest h) in
    omega arith
