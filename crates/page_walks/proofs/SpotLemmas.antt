-- The places of the entries of leaves.
use Rattle.std.proofs.Common.{◌≡◌, ℕ, zero, suc, ◌+◌, ◌≤◌, List, [], ◌∷◌, ◌++◌, length, take, slice_index_or, refl, ap, sym, ◌∙◌, arith}
use Rattle.std.proofs.lemmas.List.{map-append, take_all, length-append, append-nil}
use Rattle.std.proofs.lemmas.Grind.{flat_map-append}
use Rattle.std.proofs.Math.Seq.{take-suc}
use Rattle.tree_node.specs.declared.shape.NodeShape.{NodeShape}
use Rattle.tree_node.specs.Leaf.{leaf_entries}
use Rattle.page_walks.specs.declared.leaf.Leaf.{Leaf}
use Rattle.page_walks.specs.declared.spot.LeafSpot.{LeafSpot}
use Rattle.page_walks.specs.Spots.{entry_at_spot, entries_at, spots_below, spots_in}

pub length_below : (page n : ℕ) → length (spots_below page n) ≡ n
length_below page zero = refl
length_below page (suc n) = length-append (spots_below page n) (record { page = page; place = n } ∷ []) ∙ (let rest = length_below page n in omega arith)

-- one leaf more
pub spots_more : (leaves : List Leaf) (leaf : Leaf) → spots_in (leaves ++ leaf ∷ []) ≡ spots_in leaves ++ spots_below leaf.page leaf.count
spots_more leaves leaf =
    flat_map-append (λ (l : Leaf). spots_below l.page l.count) leaves (leaf ∷ []) ∙ ap (λ (l : List LeafSpot). spots_in leaves ++ l) (append-nil (spots_below leaf.page leaf.count))

pub spots_many_more : (leaves : List Leaf) (leaf : Leaf) → length (spots_in (leaves ++ leaf ∷ [])) ≡ length (spots_in leaves) + leaf.count
spots_many_more leaves leaf =
    ap (λ (l : List LeafSpot). length l) (spots_more leaves leaf) ∙ length-append (spots_in leaves) (spots_below leaf.page leaf.count)
    ∙ ap (λ (n : ℕ). length (spots_in leaves) + n) (length_below leaf.page leaf.count)

-- the entries at the first places of a page
entries_below : (shape : NodeShape) (list : List (List ℕ)) (page n : ℕ) → n ≤ length (leaf_entries shape (slice_index_or list page []))
    → entries_at shape list (spots_below page n) ≡ take n (leaf_entries shape (slice_index_or list page []))
entries_below shape list page zero few = refl
entries_below shape list page (suc n) few =
    let es = leaf_entries shape (slice_index_or list page []) in
    map-append (entry_at_spot shape list) (spots_below page n) (record { page = page; place = n } ∷ [])
    ∙ ap (λ (l : List (List ℕ)). l ++ slice_index_or es n [] ∷ []) (entries_below shape list page n (omega (arith, few))) ∙ sym (take-suc es n [] few)

-- with a leaf more come all its entries
pub entries_more : (shape : NodeShape) (list : List (List ℕ)) (leaves : List Leaf) (leaf : Leaf) → leaf.count ≡ length (leaf_entries shape (slice_index_or list leaf.page []))
    → entries_at shape list (spots_in (leaves ++ leaf ∷ [])) ≡ entries_at shape list (spots_in leaves) ++ leaf_entries shape (slice_index_or list leaf.page [])
entries_more shape list leaves leaf all =
    let es = leaf_entries shape (slice_index_or list leaf.page []) in
    ap (entries_at shape list) (spots_more leaves leaf) ∙ map-append (entry_at_spot shape list) (spots_in leaves) (spots_below leaf.page leaf.count)
    ∙ ap (λ (l : List (List ℕ)). entries_at shape list (spots_in leaves) ++ l)
    (entries_below shape list leaf.page leaf.count (omega (arith, all)) ∙ take_all leaf.count es (omega (arith, all)))
