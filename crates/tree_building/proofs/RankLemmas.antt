-- The order of entries is that of their tree keys.
use Rattle.std.proofs.Common.{◌≡◌, ℕ, ◌+◌, List, [], ◌∷◌, map, true, refl, sym, ap, subst, ◌∙◌, None}
use Rattle.pages.specs.Each.{Each}
use Rattle.tree_node.specs.Order.{less, Ascends}
use Rattle.tree_search.proofs.DescentLemmas.{tree_ascends}
use Rattle.bplus_tree.specs.Fields.{tree_shape, tree_levels}
use Rattle.bplus_tree.specs.declared.tree.Tree.{Tree}
use Rattle.bplus_tree.specs.Standing.{TreeStands}
use Rattle.pages.specs.PageMap.{PageMap}
use Rattle.std.specs.Prelude.{take, ⊤}
use Rattle.key_index.specs.declared.entry.PrimeEntry.{PrimeEntry}
use Rattle.key_index.specs.Stored.{prime_bytes, alt_bytes, IsPrimeEntry}
use Rattle.key_index.proofs.KeyLemmas.{prime_key}
use Rattle.tree_building.specs.Laws.{standing_primes_rise, standing_alts_rise, places_do_not_order}

tree_rises : (tree : Tree) (pages : PageMap) (rows : List (List ℕ)) (own : List ℕ) (width : ℕ) → TreeStands tree pages rows own → (tree_shape tree).width ≡ width → Ascends width rows
tree_rises tree pages rows own width stands is =
    subst (λ (n : ℕ). Ascends n rows) is
    (subst (Ascends (tree_shape tree).width) stands.has
    (tree_ascends (tree_shape tree).width (tree_levels tree) None None stands.value stands.whole.stands.ordered))

pub primes_rise : standing_primes_rise
primes_rise index pages entries own stands = tree_rises index.tree pages (map prime_bytes entries) own index.width stands.tree index.keys

pub alts_rise : standing_alts_rise
alts_rise index pages entries own stands = tree_rises index.tree pages (map alt_bytes entries) own (index.width + 8) stands.tree index.keys

-- keys that rise
KeysRise : List (List ℕ) → Type 0
KeysRise [] = ⊤
KeysRise (k ∷ ks) = Each (λ l. less k l ≡ true) ks × KeysRise ks

above_keys : (width : ℕ) (k : List ℕ) (rows : List (List ℕ)) → Each (λ y. less k (take width y) ≡ true) rows → Each (λ l. less k l ≡ true) (map (take width) rows)
above_keys width k [] all = tt
above_keys width k (r ∷ rs) all = (all.0, above_keys width k rs all.1)

above_rows : (width : ℕ) (k : List ℕ) (rows : List (List ℕ)) → Each (λ l. less k l ≡ true) (map (take width) rows) → Each (λ y. less k (take width y) ≡ true) rows
above_rows width k [] all = tt
above_rows width k (r ∷ rs) all = (all.0, above_rows width k rs all.1)

to_keys : (width : ℕ) (rows : List (List ℕ)) → Ascends width rows → KeysRise (map (take width) rows)
unfolding KeysRise
to_keys width [] rise = tt
to_keys width (r ∷ rs) rise = (above_keys width (take width r) rs rise.0, to_keys width rs rise.1)

from_keys : (width : ℕ) (rows : List (List ℕ)) → KeysRise (map (take width) rows) → Ascends width rows
unfolding KeysRise
from_keys width [] rise = tt
from_keys width (r ∷ rs) rise = (above_rows width (take width r) rs rise.0, from_keys width rs rise.1)

prime_keys : (width : ℕ) (entries : List PrimeEntry) → Each (IsPrimeEntry width) entries → map (take width) (map prime_bytes entries) ≡ map (λ e. e.value.items) entries
prime_keys width [] fit = refl
prime_keys width (e ∷ es) fit =
    ap (λ (k : List ℕ). k ∷ map (take width) (map prime_bytes es)) (prime_key width e fit.0)
    ∙ ap (λ (ks : List (List ℕ)). e.value.items ∷ ks) (prime_keys width es fit.1)

pub any_place : places_do_not_order
any_place width entries others fit fits same rise =
    from_keys width (map prime_bytes others)
    (subst KeysRise (prime_keys width entries fit ∙ sym same ∙ sym (prime_keys width others fits)) (to_keys width (map prime_bytes entries) rise))
