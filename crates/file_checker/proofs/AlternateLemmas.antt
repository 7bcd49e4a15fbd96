-- Trees that were walked one after another.
use Rattle.std.proofs.Common.{◌≡◌, ◌⊎◌, ℕ, ◌+◌, ◌<◌, ◌≤◌, Bool, List, [], ◌∷◌, ◌++◌, length, slice_index_or, None, sym, ap, subst, ◌∙◌, append-nil, length-append, arith, inl, inr}
use Rattle.std.proofs.lemmas.List.{length-map, get_or_default, get_or_append_left}
use Rattle.std.proofs.lemmas.Grind.{flat_map-append}
use Rattle.std.proofs.Math.Seq.{get_or-append_seam}
use Rattle.pages.specs.PageMap.{PageMap}
use Rattle.tree_node.specs.Order.{Ascends}
use Rattle.bplus_tree.specs.declared.tree.Tree.{Tree}
use Rattle.bplus_tree.specs.Standing.{TreeStands}
use Rattle.bplus_tree.specs.Fields.{tree_shape, tree_levels, tree_count}
use Rattle.tree_search.proofs.DescentLemmas.{tree_ascends}
use Rattle.pages.specs.Marks.{Marks}
use Rattle.pages.specs.PageList.{pages_in}
use Rattle.pages.specs.Parted.{own_at, all_of}
use Rattle.pages.proofs.MarksLemmas.{marks_on}
use Rattle.pages.proofs.PartLemmas.{low_or_not}
use Rattle.page_walks.specs.declared.spot.LeafSpot.{LeafSpot}
use Rattle.page_walks.specs.Spots.{entries_at, entry_at_spot}
use Rattle.page_walks.specs.TreeWalk.{TreeWalked}
use Rattle.key_index.specs.declared.alt_index.AltIndex.{AltIndex}
use Rattle.open_file.specs.Fields.{alternates_of, prime_index_of}
use Rattle.open_file.specs.declared.open_file.OpenFile.{OpenFile}
use Rattle.file_checker.specs.Rows.{EntriesRise}
use Rattle.file_checker.specs.Parts.{AlternateFound, AlternatesFound}

-- the entries of a tree that stands rise
pub entries_rise : (tree : Tree) (pages : PageMap) (entries : List (List ℕ)) (own : List ℕ) → TreeStands tree pages entries own → Ascends (tree_shape tree).width entries
entries_rise tree pages entries own stands =
    subst (Ascends (tree_shape tree).width) stands.has (tree_ascends (tree_shape tree).width (tree_levels tree) None None stands.value stands.whole.stands.ordered)

-- those of the prime index rise by their values
pub prime_rise : (opened : OpenFile) (list : List (List ℕ)) (before after : ℕ → Bool) (spots : List LeafSpot) → TreeWalked (prime_index_of opened).tree list before after spots → EntriesRise opened list spots
prime_rise opened list before after spots walked =
    let index = prime_index_of opened in
    subst (λ (width : ℕ). Ascends width (entries_at (tree_shape index.tree) list spots)) index.keys
    (entries_rise index.tree (pages_in list) (entries_at (tree_shape index.tree) list spots) walked.own walked.stands)

-- a tree has as many entries as places were found
pub spots_many : (tree : Tree) (list : List (List ℕ)) (before after : ℕ → Bool) (spots : List LeafSpot) → TreeWalked tree list before after spots → length spots ≡ tree_count tree
spots_many tree list before after spots walked = sym (walked.stands.count ∙ length-map spots (entry_at_spot (tree_shape tree) list))

own_left : (owns : List (List ℕ)) (own : List ℕ) (j : ℕ) → j < length owns → own_at owns j ≡ own_at (owns ++ own ∷ []) j
own_left owns own j within = sym (get_or_append_left owns (own ∷ []) [] j within)

own_last : (owns : List (List ℕ)) (own : List ℕ) (j : ℕ) → length owns ≡ j → own ≡ own_at (owns ++ own ∷ []) j
own_last owns own j e = subst (λ (n : ℕ). own ≡ own_at (owns ++ own ∷ []) n) e (sym (get_or-append_seam owns own [] []))

-- what stands at a place of a list, whatever would stand past its end
one_item : {X : Type 0} (xs : List X) (i j : ℕ) (x y : X) → i < length xs → i ≡ j → x ≡ slice_index_or xs i x → y ≡ slice_index_or xs j y → x ≡ y
one_item xs i j x y within same one two = one ∙ get_or_default xs i x y within ∙ ap (λ n. slice_index_or xs n y) same ∙ sym two

-- one more was walked
pub alternates_more : (opened : OpenFile) (list : List (List ℕ)) (primes : List LeafSpot) (index : AltIndex) (n : ℕ) (own : List ℕ) (a b c : ℕ → Bool)
    → n < length (alternates_of opened) → index ≡ slice_index_or (alternates_of opened) n index → AlternatesFound opened list primes n a b
    → AlternateFound opened list primes index own → Marks b c own → AlternatesFound opened list primes (n + 1) a c
alternates_more opened list primes index n own a b c within is front found marks = record {
  owns = front.owns ++ own ∷ [];
  as_many = length-append front.owns (own ∷ []) ∙ (let many = front.as_many in omega arith);
  marks = subst (Marks a c) (ap (λ l. all_of front.owns ++ l) (sym (append-nil own)) ∙ sym (flat_map-append (λ o. o) front.owns (own ∷ [])))
      (marks_on a b c (all_of front.owns) own front.marks marks);
  each = λ j other less at. by_place j other less at (low_or_not j n);
}
  where
    by_place : (j : ℕ) (other : AltIndex) → j < n + 1 → other ≡ slice_index_or (alternates_of opened) j other → (j < n) ⊎ (n ≤ j)
        → AlternateFound opened list primes other (own_at (front.owns ++ own ∷ []) j)
    by_place j other less at (inl before) =
        subst (AlternateFound opened list primes other) (own_left front.owns own j (let many = front.as_many in omega arith)) (front.each j other before at)
    by_place j other less at (inr last) =
        let here : n ≡ j = omega arith in
        subst (AlternateFound opened list primes other) (own_last front.owns own j (front.as_many ∙ here))
        (subst (λ (x : AltIndex). AlternateFound opened list primes x own) (one_item (alternates_of opened) n j index other within here is at) found)
