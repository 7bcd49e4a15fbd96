-- How long an entry is, and what is said of each entry of a list.
use Rattle.std.proofs.Common.{◌≡◌, inl, inr, ℕ, zero, suc, ◌+◌, ◌*◌, ◌≤◌, ◌<◌, List, [], ◌∷◌, length, take, drop, refl, ap, subst, ◌∙◌, arith, length-drop, length-take-le}
use Rattle.std.specs.Prelude.{slice_index_or}
use Rattle.std.proofs.Math.Nat.{suc-mul}
use Rattle.pages.proofs.ChunkLemmas.{get_or-chunks, times_less}
use Rattle.tree_node.specs.declared.shape.NodeShape.{NodeShape}
use Rattle.tree_node.specs.Table.{count_of, table}
use Rattle.tree_node.proofs.TableLemmas.{length_table}
use Rattle.tree_node.proofs.LeafLemmas.{leaf_fits}
use Rattle.page_walks.specs.declared.spot.LeafSpot.{LeafSpot}
use Rattle.page_walks.specs.Spots.{IsSpotThere, entry_at_spot}
use Rattle.record_heap.specs.Chain.{IsOneOf}

long_at : (size i n : ℕ) (page : List ℕ) → i < n → 16 + n * size ≤ length page → length (take size (drop (i * size) (drop 16 page))) ≡ size
long_at size i n page within fits =
    let split = times_less n (suc i) size (omega (arith, within)) in
    let step = suc-mul i size in
    length-take-le size (drop (i * size) (drop 16 page)) (rw (length-drop, length-drop) (omega (arith, split, step, fits)))

pub entry_long : (shape : NodeShape) (list : List (List ℕ)) (spot : LeafSpot) → IsSpotThere shape list spot → length (entry_at_spot shape list spot) ≡ shape.entry
unfolding table
entry_long shape list spot there =
    let page = slice_index_or list spot.page [] in
    let within : spot.place < count_of page = subst (λ (n : ℕ). spot.place < n) (length_table 16 shape.entry page) there.place in
    ap length (get_or-chunks shape.entry (count_of page) spot.place (drop 16 page) [] within)
    ∙ long_at shape.entry spot.place (count_of page) page within (leaf_fits shape page there.leaf)

-- what stands at a place of a list is one of it
pub one_at : {X : Type 0} (xs : List X) (i : ℕ) (d : X) → i < length xs → IsOneOf xs (slice_index_or xs i d)
one_at [] i d within = absurd (omega (arith, within))
one_at (x ∷ xs) zero d within = inl refl
one_at (x ∷ xs) (suc i) d within = inr (one_at xs i d (omega (arith, within)))
