-- What is said of the entries of leaves.
use Rattle.std.proofs.Common.{◌≡◌, ◌≢◌, ◌⊎◌, inl, inr, ℕ, zero, suc, ◌+◌, ◌<◌, ◌≤◌, true, false, List, [], ◌∷◌, ◌++◌, Option, Some, None, length, slice_index_or, ap, subst, ◌∙◌, arith}
use Rattle.std.specs.Prelude.{All, IfSome}
use Rattle.std.proofs.lemmas.Bool.Decides.{eqb_tells}
use Rattle.std.proofs.lemmas.List.{get_or_default}
use Rattle.std.proofs.Math.Dec.{eqb}
use Rattle.pages.specs.Each.{Each}
use Rattle.pages.proofs.EachLemmas.{each_join}
use Rattle.pages.proofs.PartLemmas.{low_or_not}
use Rattle.page_walks.specs.declared.leaf.Leaf.{Leaf}
use Rattle.page_walks.specs.declared.spot.LeafSpot.{LeafSpot}
use Rattle.page_walks.specs.Spots.{spots_below, spots_in}
use Rattle.record_heap.specs.Chain.{IsOneOf}

module _ (P : LeafSpot → Type 0) where
  -- of one place more
  pub each_below : (page n : ℕ) → Each P (spots_below page n) → P (record { page = page; place = n }) → Each P (spots_below page (n + 1))
  each_below page n each more =
      let up : suc n ≡ n + 1 = omega arith in
      subst (λ (m : ℕ). Each P (spots_below page m)) up (each_join P (spots_below page n) (record { page = page; place = n } ∷ []) each (more, tt))

  -- of all leaves
  pub each_in : (leaves : List Leaf) → All (λ leaf. Each P (spots_below leaf.page leaf.count)) leaves → Each P (spots_in leaves)
  each_in [] all = tt
  each_in (leaf ∷ leaves) all =
      each_join P (spots_below leaf.page leaf.count) (spots_in leaves) (all 0 leaf (omega arith)) (each_in leaves (λ k d within. all (suc k) d (omega (arith, within))))

  -- of one leaf more
  pub each_more : (leaves : List Leaf) (n : ℕ) (none : Leaf) → n < length leaves
      → ((k : ℕ) (d : Leaf) → k < n → Each P (spots_below (slice_index_or leaves k d).page (slice_index_or leaves k d).count))
      → Each P (spots_below (slice_index_or leaves n none).page (slice_index_or leaves n none).count)
      → (k : ℕ) (d : Leaf) → k < n + 1 → Each P (spots_below (slice_index_or leaves k d).page (slice_index_or leaves k d).count)
  each_more leaves n none within each more k d less = by_place (low_or_not k n)
    where
      by_place : (k < n) ⊎ (n ≤ k) → Each P (spots_below (slice_index_or leaves k d).page (slice_index_or leaves k d).count)
      by_place (inl before) = each k d before
      by_place (inr last) =
          let same : n ≡ k = omega arith in
          subst (λ (at : Leaf). Each P (spots_below at.page at.count)) (get_or_default leaves n none d within ∙ ap (λ (m : ℕ). slice_index_or leaves m d) same) more

pub one_left : {X : Type 0} (xs ys : List X) (x : X) → IsOneOf xs x → IsOneOf (xs ++ ys) x
one_left [] ys x one = absurd one
one_left (y ∷ xs) ys x (inl same) = inl same
one_left (y ∷ xs) ys x (inr one) = inr (one_left xs ys x one)

pub one_right : {X : Type 0} (xs ys : List X) (x : X) → IsOneOf ys x → IsOneOf (xs ++ ys) x
one_right [] ys x one = one
one_right (y ∷ xs) ys x one = inr (one_right xs ys x one)

pub one_below : (page n place : ℕ) → place < n → IsOneOf (spots_below page n) (record { page = page; place = place })
one_below page zero place within = absurd (omega (arith, within))
one_below page (suc n) place within = by_place (λ less. one_below page n place less) (eqb_tells place n)
  where
    by_place : (place < n → IsOneOf (spots_below page n) (record { page = page; place = place })) → ((eqb place n ≡ true) × (place ≡ n)) ⊎ ((eqb place n ≡ false) × (place ≢ n))
        → IsOneOf (spots_below page (suc n)) (record { page = page; place = place })
    by_place again (inl last) =
        one_right (spots_below page n) (record { page = page; place = n } ∷ []) (record { page = page; place = place }) (inl (ap (λ (p : ℕ). record { page = page; place = p }) last.1))
    by_place again (inr other) =
        one_left (spots_below page n) (record { page = page; place = n } ∷ []) (record { page = page; place = place }) (again (omega (arith, within, other.1)))

-- a place below the count of one of the leaves is one of their places
pub one_in : (leaves : List Leaf) (leaf : Leaf) (spot : LeafSpot) → IsOneOf leaves leaf → spot.page ≡ leaf.page → spot.place < leaf.count → IsOneOf (spots_in leaves) spot
one_in [] leaf spot one page place = absurd one
one_in (l ∷ leaves) leaf spot (inl same) page place =
    one_left (spots_below l.page l.count) (spots_in leaves) spot
    (subst (λ (at : Leaf). IsOneOf (spots_below at.page at.count) spot) same
    (subst (λ (p : ℕ). IsOneOf (spots_below p leaf.count) spot) page (one_below spot.page leaf.count spot.place place)))
one_in (l ∷ leaves) leaf spot (inr one) page place = one_right (spots_below l.page l.count) (spots_in leaves) spot (one_in leaves leaf spot one page place)

pub found_in : (leaves : List Leaf) (leaf : Leaf) (found : Option LeafSpot) → IsOneOf leaves leaf → IfSome found (λ spot. spot.page ≡ leaf.page) → IfSome found (λ spot. spot.place < leaf.count)
    → IfSome found (λ spot. IsOneOf (spots_in leaves) spot)
found_in leaves leaf None one page place = tt
found_in leaves leaf (Some spot) one page place = one_in leaves leaf spot one page place
