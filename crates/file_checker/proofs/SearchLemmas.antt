-- The leaf, and the place in it, where the entry of a value stands.
use Rattle.std.proofs.Common.{◌≡◌, ◌⊎◌, inl, inr, ℕ, zero, suc, ◌+◌, ◌-◌, ◌<◌, ◌≤◌, true, false, List, [], ◌∷◌, ◌++◌, Option, Some, length, take, drop, slice_index_or, refl, ap, sym, subst, ◌∙◌, arith, append-nil}
use Rattle.pages.specs.Each.{Each}
use Rattle.pages.proofs.EachLemmas.{each_left, each_right}
use Rattle.pages.proofs.PartLemmas.{low_or_not}
use Rattle.tree_node.specs.declared.shape.NodeShape.{NodeShape}
use Rattle.tree_node.specs.Leaf.{leaf_entries}
use Rattle.tree_node.specs.Order.{less, Ascends, AreBelow, AreNotBelow, FindsRank, IsRank}
use Rattle.tree_node.proofs.OrderLemmas.{Each-get_or, less-trans, less_itself}
use Rattle.page_walks.specs.declared.spot.LeafSpot.{LeafSpot}
use Rattle.page_walks.specs.declared.leaf.Leaf.{Leaf}
use Rattle.page_walks.specs.Spots.{IsLeafThere, IsSpotThere, entry_at_spot, entries_at, spots_below, spots_in}
use Rattle.page_walks.proofs.SpotLemmas.{entries_more}
use Rattle.record_heap.specs.Chain.{IsOneOf}
use Rattle.page_walks.proofs.HeapAheadLemmas.{each_one}
use Rattle.open_file.specs.Fields.{prime_index_of}
use Rattle.open_file.specs.declared.open_file.OpenFile.{OpenFile}
use Rattle.bplus_tree.specs.Fields.{tree_shape}
use Rattle.file_checker.specs.Search.{FindsEntry, FindsKeyInLeaf, IsPrimeLeaf, IsNear, last_value, leaf_at, value_at}
use Rattle.file_checker.proofs.EntryLemmas.{one_at}
use Rattle.file_checker.proofs.SpotLemmas.{one_in, one_right, one_below}

-- ---- members of lists

pub one_split : {X : Type 0} (xs ys : List X) (x : X) → IsOneOf (xs ++ ys) x → IsOneOf xs x ⊎ IsOneOf ys x
one_split [] ys x one = inr one
one_split (z ∷ xs) ys x (inl same) = inl (inl same)
one_split (z ∷ xs) ys x (inr one) = next (one_split xs ys x one)
  where
    next : IsOneOf xs x ⊎ IsOneOf ys x → IsOneOf (z ∷ xs) x ⊎ IsOneOf ys x
    next (inl h) = inl (inr h)
    next (inr h) = inr h

-- ---- the places of a leaf

-- a place of a page
pub place_below : (page n : ℕ) (spot : LeafSpot) → IsOneOf (spots_below page n) spot → (spot.page ≡ page) × (spot.place < n)
place_below page zero spot one = absurd one
place_below page (suc n) spot one = next (λ h. place_below page n spot h) (one_split (spots_below page n) (record { page = page; place = n } ∷ []) spot one)
  where
    next : (IsOneOf (spots_below page n) spot → (spot.page ≡ page) × (spot.place < n)) → IsOneOf (spots_below page n) spot ⊎ IsOneOf (record { page = page; place = n } ∷ []) spot
        → (spot.page ≡ page) × (spot.place < suc n)
    next again (inl h) = let p = again h in (p.0, (let less = p.1 in omega (arith, less)))
    next again (inr (inl same)) = (ap (λ (s : LeafSpot). s.page) same, (let at : spot.place ≡ n = ap (λ (s : LeafSpot). s.place) same in omega (arith, at)))
    next again (inr (inr none)) = absurd none

spot_is : (spot : LeafSpot) (page : ℕ) → spot.page ≡ page → record { page = page; place = spot.place } ≡ spot
spot_is spot page same = λ i. record { page = sym same i; place = spot.place }

-- the places of all leaves are those of each of them
leaf_places : (P : LeafSpot → Type 0) (page n : ℕ) → ((place : ℕ) → place < n → P (record { page = page; place = place })) → Each P (spots_below page n)
leaf_places P page zero all = tt
leaf_places P page (suc n) all = join (spots_below page n) (leaf_places P page n (λ place less. all place (omega (arith, less)))) (all n (omega arith))
  where
    join : (xs : List LeafSpot) → Each P xs → P (record { page = page; place = n }) → Each P (xs ++ record { page = page; place = n } ∷ [])
    join [] h last = (last, tt)
    join (x ∷ xs) h last = (h.0, join xs h.1 last)

-- each place of a leaf that is there has an entry
pub leaf_spots_there : (shape : NodeShape) (list : List (List ℕ)) (leaf : Leaf) → IsLeafThere shape list leaf → Each (IsSpotThere shape list) (spots_below leaf.page leaf.count)
leaf_spots_there shape list leaf there =
    leaf_places (IsSpotThere shape list) leaf.page leaf.count (λ place less. record {
      page = there.page;
      leaf = there.is;
      place = let many = there.many in omega (arith, less, many);
    })

pub spots_there : (shape : NodeShape) (list : List (List ℕ)) (leaves : List Leaf) → Each (IsLeafThere shape list) leaves → Each (IsSpotThere shape list) (spots_in leaves)
spots_there shape list [] there = tt
spots_there shape list (leaf ∷ leaves) there = join (spots_below leaf.page leaf.count) (leaf_spots_there shape list leaf there.0) (spots_there shape list leaves there.1)
  where
    join : (xs : List LeafSpot) → Each (IsSpotThere shape list) xs → Each (IsSpotThere shape list) (spots_in leaves) → Each (IsSpotThere shape list) (xs ++ spots_in leaves)
    join [] h rest = rest
    join (x ∷ xs) h rest = (h.0, join xs h.1 rest)

-- what each place of all leaves has, each of one leaf has
pub each_of_leaf : (P : LeafSpot → Type 0) (leaves : List Leaf) (i : ℕ) (d : Leaf) → i < length leaves → Each P (spots_in leaves)
    → Each P (spots_below (slice_index_or leaves i d).page (slice_index_or leaves i d).count)
each_of_leaf P [] i d within all = absurd (omega (arith, within))
each_of_leaf P (leaf ∷ leaves) zero d within all = each_left P (spots_below leaf.page leaf.count) (spots_in leaves) all
each_of_leaf P (leaf ∷ leaves) (suc i) d within all = each_of_leaf P leaves i d (omega (arith, within)) (each_right P (spots_below leaf.page leaf.count) (spots_in leaves) all)

-- one of the places of a page has what each has
pub each_place : (P : LeafSpot → Type 0) (page n place : ℕ) → place < n → Each P (spots_below page n) → P (record { page = page; place = place })
each_place P page n place within all = each_one P (spots_below page n) (record { page = page; place = place }) all (one_below page n place within)

-- ---- keys that rise

module _ (shape : NodeShape) (list : List (List ℕ)) (width : ℕ) where
  key_at : LeafSpot → List ℕ
  key_at spot = take width (entry_at_spot shape list spot)

  each_entry : (P : List ℕ → Type 0) (spots : List LeafSpot) (spot : LeafSpot) → Each P (entries_at shape list spots) → IsOneOf spots spot → P (entry_at_spot shape list spot)
  each_entry P [] spot all one = absurd one
  each_entry P (s ∷ spots) spot all (inl same) = subst (λ (x : LeafSpot). P (entry_at_spot shape list x)) (sym same) all.0
  each_entry P (s ∷ spots) spot all (inr one) = each_entry P spots spot all.1 one

  -- one of the front comes before one behind it
  rises_across : (xs ys : List LeafSpot) (x y : LeafSpot) → Ascends width (entries_at shape list (xs ++ ys)) → IsOneOf xs x → IsOneOf ys y
      → less (take width (entry_at_spot shape list x)) (take width (entry_at_spot shape list y)) ≡ true
  rises_across [] ys x y rises one two = absurd one
  rises_across (z ∷ xs) ys x y rises (inl same) two =
      subst (λ (s : LeafSpot). less (take width (entry_at_spot shape list s)) (take width (entry_at_spot shape list y)) ≡ true) (sym same)
      (each_entry (λ e. less (take width (entry_at_spot shape list z)) (take width e) ≡ true) (xs ++ ys) y rises.0 (one_right xs ys y two))
  rises_across (z ∷ xs) ys x y rises (inr one) two = rises_across xs ys x y rises.1 one two

  rises_left : (xs ys : List LeafSpot) → Ascends width (entries_at shape list (xs ++ ys)) → Ascends width (entries_at shape list xs)
  rises_left [] ys rises = tt
  rises_left (x ∷ xs) ys rises = (front xs rises.0, rises_left xs ys rises.1)
    where
      front : (zs : List LeafSpot) → Each (λ e. less (take width (entry_at_spot shape list x)) (take width e) ≡ true) (entries_at shape list (zs ++ ys))
          → Each (λ e. less (take width (entry_at_spot shape list x)) (take width e) ≡ true) (entries_at shape list zs)
      front [] h = tt
      front (z ∷ zs) h = (h.0, front zs h.1)

  rises_right : (xs ys : List LeafSpot) → Ascends width (entries_at shape list (xs ++ ys)) → Ascends width (entries_at shape list ys)
  rises_right [] ys rises = rises
  rises_right (x ∷ xs) ys rises = rises_right xs ys rises.1

  -- those of one leaf rise
  pub leaf_rises : (leaves : List Leaf) (i : ℕ) (d : Leaf) → i < length leaves → Ascends width (entries_at shape list (spots_in leaves))
      → Ascends width (entries_at shape list (spots_below (slice_index_or leaves i d).page (slice_index_or leaves i d).count))
  leaf_rises [] i d within rises = absurd (omega (arith, within))
  leaf_rises (leaf ∷ leaves) zero d within rises = rises_left (spots_below leaf.page leaf.count) (spots_in leaves) rises
  leaf_rises (leaf ∷ leaves) (suc i) d within rises = leaf_rises leaves i d (omega (arith, within)) (rises_right (spots_below leaf.page leaf.count) (spots_in leaves) rises)

  -- a place of a page comes before a later one
  places_rise : (page n a b : ℕ) → a < b → b < n → Ascends width (entries_at shape list (spots_below page n))
      → less (take width (entry_at_spot shape list (record { page = page; place = a }))) (take width (entry_at_spot shape list (record { page = page; place = b }))) ≡ true
  places_rise page zero a b before within rises = absurd (omega (arith, within))
  places_rise page (suc n) a b before within rises =
      by_place (λ less_than. places_rise page n a b before less_than (rises_left (spots_below page n) (record { page = page; place = n } ∷ []) rises)) (low_or_not b n)
    where
      by_place : (b < n → less (take width (entry_at_spot shape list (record { page = page; place = a }))) (take width (entry_at_spot shape list (record { page = page; place = b }))) ≡ true)
          → (b < n) ⊎ (n ≤ b)
          → less (take width (entry_at_spot shape list (record { page = page; place = a }))) (take width (entry_at_spot shape list (record { page = page; place = b }))) ≡ true
      by_place again (inl less_than) = again less_than
      by_place again (inr last) =
          let same : b ≡ n = omega (arith, within, last) in
          rises_across (spots_below page n) (record { page = page; place = n } ∷ []) (record { page = page; place = a }) (record { page = page; place = b }) rises
          (one_below page n a (omega (arith, before, same))) (inl (ap (λ (p : ℕ). record { page = page; place = p }) same))

-- the entries at the places of a leaf that is there are its own
pub leaf_entries_are : (shape : NodeShape) (list : List (List ℕ)) (leaf : Leaf) → IsLeafThere shape list leaf
    → entries_at shape list (spots_below leaf.page leaf.count) ≡ leaf_entries shape (slice_index_or list leaf.page [])
leaf_entries_are shape list leaf there =
    ap (entries_at shape list) (sym (append-nil (spots_below leaf.page leaf.count))) ∙ entries_more shape list [] leaf there.many

-- ---- the leaf of a value

module _ (opened : OpenFile) (list : List (List ℕ)) (value : List ℕ) where
  abbrev shape : NodeShape
  shape = tree_shape (prime_index_of opened).tree

  abbrev w : ℕ
  w = (prime_index_of opened).width

  not_below_itself : (v : List ℕ) → v ≡ value → less v value ≡ true → ⊥
  not_below_itself v same below = let bad : less value value ≡ true = ap (λ (l : List ℕ). less l value) (sym same) ∙ below in let no = less_itself value in cc (bad, no)

  -- the last place of a leaf is one of its places
  last_one : (leaf : Leaf) → IsPrimeLeaf opened list leaf → IsOneOf (spots_below leaf.page leaf.count) (record { page = leaf.page; place = leaf.count - 1 })
  last_one leaf there = one_below leaf.page leaf.count (leaf.count - 1) (let some = there.some in omega (arith, some))

  -- no place of a leaf that ends below the value has it
  not_in_leaf : (leaf : Leaf) (spot : LeafSpot) → IsPrimeLeaf opened list leaf → Ascends w (entries_at shape list (spots_below leaf.page leaf.count)) → less (last_value opened list leaf) value ≡ true
      → IsOneOf (spots_below leaf.page leaf.count) spot → value_at opened list spot ≡ value → ⊥
  not_in_leaf leaf spot there rises ends one has = by_place (low_or_not spot.place (leaf.count - 1))
    where
      at : (spot.page ≡ leaf.page) × (spot.place < leaf.count)
      at = place_below leaf.page leaf.count spot one

      here : value_at opened list (record { page = leaf.page; place = spot.place }) ≡ value
      here = ap (value_at opened list) (spot_is spot leaf.page at.0) ∙ has

      by_place : (spot.place < leaf.count - 1) ⊎ (leaf.count - 1 ≤ spot.place) → ⊥
      by_place (inl before) =
          let some = there.some in
          let to_last = places_rise shape list w leaf.page leaf.count spot.place (leaf.count - 1) before (omega (arith, some)) rises in
          not_below_itself (value_at opened list (record { page = leaf.page; place = spot.place })) here
          (less-trans (value_at opened list (record { page = leaf.page; place = spot.place })) (last_value opened list leaf) value to_last ends)
      by_place (inr last) =
          let less_than = at.1 in
          let same : leaf.count - 1 ≡ spot.place = omega (arith, last, less_than) in
          not_below_itself (last_value opened list leaf) (ap (λ (p : ℕ). value_at opened list (record { page = leaf.page; place = p })) same ∙ here) ends

  -- the leaf that a search comes to has the entry of the value, if one of them has it
  pub leaf_has : (leaves : List Leaf) (i : ℕ) → i ≤ length leaves → Each (IsPrimeLeaf opened list) leaves → Ascends w (entries_at shape list (spots_in leaves))
      → ((k : ℕ) → i ≡ suc k → less (last_value opened list (leaf_at leaves k)) value ≡ true) → (i < length leaves → less (last_value opened list (leaf_at leaves i)) value ≡ false)
      → (spot : LeafSpot) → IsOneOf (spots_in leaves) spot → value_at opened list spot ≡ value
      → (i < length leaves) × IsOneOf (spots_below (leaf_at leaves i).page (leaf_at leaves i).count) spot
  leaf_has [] i within there rises before from spot one has = absurd one
  leaf_has (leaf ∷ leaves) zero within there rises before from spot one has = next (one_split (spots_below leaf.page leaf.count) (spots_in leaves) spot one)
    where
      next : IsOneOf (spots_below leaf.page leaf.count) spot ⊎ IsOneOf (spots_in leaves) spot → (0 < suc (length leaves)) × IsOneOf (spots_below leaf.page leaf.count) spot
      next (inl h) = (omega arith, h)
      next (inr h) =
          let up = rises_across shape list w (spots_below leaf.page leaf.count) (spots_in leaves) (record { page = leaf.page; place = leaf.count - 1 }) spot rises (last_one leaf there.0) h in
          let up' : less (last_value opened list leaf) value ≡ true = ap (less (last_value opened list leaf)) (sym has) ∙ up in
          let no = from (omega arith) in
          absurd (cc (up', no))
  leaf_has (leaf ∷ leaves) (suc i) within there rises before from spot one has =
      next (λ h. leaf_has leaves i (omega (arith, within)) there.1 (rises_right shape list w (spots_below leaf.page leaf.count) (spots_in leaves) rises)
      (λ k same. before (suc k) (ap suc same)) (λ less_than. from (omega (arith, less_than))) spot h has) (one_split (spots_below leaf.page leaf.count) (spots_in leaves) spot one)
    where
      in_front : (j : ℕ) → i ≡ j → IsOneOf (spots_below leaf.page leaf.count) spot → ⊥
      in_front zero same h =
          not_in_leaf leaf spot there.0 (rises_left shape list w (spots_below leaf.page leaf.count) (spots_in leaves) rises)
          (subst (λ (k : ℕ). less (last_value opened list (leaf_at (leaf ∷ leaves) k)) value ≡ true) same (before i refl)) h has
      in_front (suc j) same h =
          let m = leaf_at leaves j in
          let inside : j < length leaves = omega (arith, within, same) in
          let ends : less (last_value opened list m) value ≡ true = subst (λ (k : ℕ). less (last_value opened list (leaf_at (leaf ∷ leaves) k)) value ≡ true) same (before i refl) in
          let there' : IsPrimeLeaf opened list m = Each-get_or (IsPrimeLeaf opened list) leaves j (record { page = 0; count = 0 }) inside there.1 in
          let some = there'.some in
          let last : IsOneOf (spots_in leaves) (record { page = m.page; place = m.count - 1 }) =
          one_in leaves m (record { page = m.page; place = m.count - 1 }) (one_at leaves j (record { page = 0; count = 0 }) inside) refl (omega (arith, some)) in
          let up = rises_across shape list w (spots_below leaf.page leaf.count) (spots_in leaves) spot (record { page = m.page; place = m.count - 1 }) rises h last in
          not_below_itself (value_at opened list spot) has (less-trans (value_at opened list spot) (last_value opened list m) value up ends)

      next : (IsOneOf (spots_in leaves) spot → (i < length leaves) × IsOneOf (spots_below (leaf_at leaves i).page (leaf_at leaves i).count) spot)
          → IsOneOf (spots_below leaf.page leaf.count) spot ⊎ IsOneOf (spots_in leaves) spot
          → (suc i < suc (length leaves)) × IsOneOf (spots_below (leaf_at leaves i).page (leaf_at leaves i).count) spot
      next again (inl h) = absurd (in_front i refl h)
      next again (inr h) =
          let rest = again h in
          ((let less_than = rest.0 in omega (arith, less_than)), rest.1)

  -- so it is there that a search finds it
  pub found_near : (leaves : List Leaf) (i : ℕ) → IsNear opened list leaves value i → Each (IsPrimeLeaf opened list) leaves → Ascends w (entries_at shape list (spots_in leaves))
      → (spot : LeafSpot) → IsOneOf (spots_in leaves) spot → value_at opened list spot ≡ value
      → (i < length leaves) × (spot.page ≡ (leaf_at leaves i).page) × (spot.place < (leaf_at leaves i).count)
  found_near leaves i near there rises spot one has =
      let at = leaf_has leaves i near.within there rises
      (λ k same. near.before k (same ∙ (let up : suc k ≡ k + 1 = omega arith in up)) (Each-get_or (IsPrimeLeaf opened list) leaves k (record { page = 0; count = 0 }) (let w = near.within in omega (arith, w, same)) there))
      (λ less_than. near.from less_than (Each-get_or (IsPrimeLeaf opened list) leaves i (record { page = 0; count = 0 }) less_than there)) spot one has in
      let place = place_below (leaf_at leaves i).page (leaf_at leaves i).count spot at.1 in
      (at.0, place.0, place.1)

  -- and the place in it is found
  pub entry_found : (leaves : List Leaf) (i : ℕ) (found : Option LeafSpot) → IsNear opened list leaves value i → FindsKeyInLeaf shape list (leaf_at leaves i) value found
      → FindsEntry opened list leaves value found
  entry_found leaves i found near finds there rises spot one has =
      let at = found_near leaves i near there rises spot one has in
      let leaf = leaf_at leaves i in
      let here : IsLeafThere shape list leaf = Each-get_or (IsPrimeLeaf opened list) leaves i (record { page = 0; count = 0 }) at.0 there in
      let keys : w ≡ shape.width = sym (prime_index_of opened).keys in
      let up : Ascends shape.width (leaf_entries shape (slice_index_or list leaf.page [])) =
      subst (Ascends shape.width) (leaf_entries_are shape list leaf here)
      (leaf_rises shape list shape.width leaves i (record { page = 0; count = 0 }) at.0 (subst (λ (n : ℕ). Ascends n (entries_at shape list (spots_in leaves))) keys rises)) in
      let key : take shape.width (entry_at_spot shape list (record { page = leaf.page; place = spot.place })) ≡ value =
      ap (λ (s : LeafSpot). take shape.width (entry_at_spot shape list s)) (spot_is spot leaf.page at.1) ∙ ap (λ (n : ℕ). take n (entry_at_spot shape list spot)) (sym keys) ∙ has in
      finds here up spot.place at.2 key ∙ ap Some (spot_is spot leaf.page at.1)

-- the rank of a key that a leaf has is the place of its entry
pub leaf_found : (shape : NodeShape) (list : List (List ℕ)) (leaf : Leaf) (key : List ℕ) (rank : ℕ) → FindsRank shape.width key (leaf_entries shape (slice_index_or list leaf.page [])) rank → IsLeafThere shape list leaf
    → Ascends shape.width (leaf_entries shape (slice_index_or list leaf.page [])) → (place : ℕ) → place < leaf.count
    → take shape.width (entry_at_spot shape list (record { page = leaf.page; place = place })) ≡ key → rank ≡ place
leaf_found shape list leaf key rank finds there rises place within has = by_place (low_or_not place rank) (low_or_not rank place)
  where
    es : List (List ℕ)
    es = leaf_entries shape (slice_index_or list leaf.page [])

    is : IsRank shape.width key (leaf_entries shape (slice_index_or list leaf.page [])) rank
    is = finds.rank rises

    inside : place < length (leaf_entries shape (slice_index_or list leaf.page []))
    inside = let many = there.many in omega (arith, within, many)

    front : (xs : List (List ℕ)) (n p : ℕ) → AreBelow shape.width key (take n xs) → p < n → p < length xs → less (take shape.width (slice_index_or xs p [])) key ≡ true
    front [] n p below less_than short = absurd (omega (arith, short))
    front (x ∷ xs) zero p below less_than short = absurd (omega (arith, less_than))
    front (x ∷ xs) (suc n) zero below less_than short = below.0
    front (x ∷ xs) (suc n) (suc p) below less_than short = front xs n p below.1 (omega (arith, less_than)) (omega (arith, short))

    first : (xs : List (List ℕ)) (n : ℕ) → AreNotBelow shape.width key (drop n xs) → n < length xs → less (take shape.width (slice_index_or xs n [])) key ≡ false
    first [] n above short = absurd (omega (arith, short))
    first (x ∷ xs) zero above short = above.0
    first (x ∷ xs) (suc n) above short = first xs n above (omega (arith, short))

    rise : (xs : List (List ℕ)) (n p : ℕ) → Ascends shape.width xs → n < p → p < length xs → less (take shape.width (slice_index_or xs n [])) (take shape.width (slice_index_or xs p [])) ≡ true
    rise [] n p up before short = absurd (omega (arith, short))
    rise (x ∷ xs) zero zero up before short = absurd (omega (arith, before))
    rise (x ∷ xs) zero (suc p) up before short = Each-get_or (λ y. less (take shape.width x) (take shape.width y) ≡ true) xs p [] (omega (arith, short)) up.0
    rise (x ∷ xs) (suc n) zero up before short = absurd (omega (arith, before))
    rise (x ∷ xs) (suc n) (suc p) up before short = rise xs n p up.1 (omega (arith, before)) (omega (arith, short))

    itself : less (take shape.width (slice_index_or (leaf_entries shape (slice_index_or list leaf.page [])) place [])) key ≡ true → ⊥
    itself below = let bad : less key key ≡ true = ap (λ (l : List ℕ). less l key) (sym has) ∙ below in let no = less_itself key in cc (bad, no)

    by_place : (place < rank) ⊎ (rank ≤ place) → (rank < place) ⊎ (place ≤ rank) → rank ≡ place
    by_place (inl before) other = absurd (itself (front es rank place is.below before inside))
    by_place (inr from) (inr to) = omega (arith, from, to)
    by_place (inr from) (inl after) =
        let up : less (take shape.width (slice_index_or es rank [])) key ≡ true = ap (less (take shape.width (slice_index_or es rank []))) (sym has) ∙ rise es rank place rises after inside in
        let no = first es rank is.above (omega (arith, after, inside)) in
        absurd (cc (up, no))
