-- An index that stands: what is read off its pages, and that it stands while they stay.
use Rattle.std.proofs.Common.{◌≡◌, ℕ, List, [], ◌∷◌, map, IsSome, refl, sym, ap, subst, ◌∙◌}
use Rattle.pages.specs.Each.{Each}
use Rattle.pages.specs.PageMap.{PageMap}
use Rattle.pages.specs.Owners.{IsOutside, ChangesPages}
use Rattle.bplus_tree.specs.declared.tree.Tree.{Tree}
use Rattle.bplus_tree.specs.Standing.{TreeStands}
use Rattle.bplus_tree.specs.ReadOff.{entries_in}
use Rattle.bplus_tree.proofs.PageLemmas.{pages_live, holds_still}
use Rattle.bplus_tree.proofs.ReadOffLemmas.{reads_its_entries}
use Rattle.bplus_tree.specs.Fields.{tree_shape, tree_root, tree_levels}
use Rattle.key_index.specs.Stored.{prime_bytes, alt_bytes, prime_entry_in, alt_entry_in, IsPrimeEntry, IsAltEntry}
use Rattle.key_index.specs.Laws.{AreInUse, prime_reads, prime_is_live, prime_is_kept, prime_stands_aside, alt_reads, alt_is_live, alt_is_kept, alt_stands_aside}
use Rattle.key_index.proofs.StoredLemmas.{prime_back, alt_back}

-- ---- trees

tree_reads : (tree : Tree) (pages : PageMap) (rows : List (List ℕ)) (own : List ℕ) → TreeStands tree pages rows own → entries_in (tree_shape tree) pages (tree_levels tree) (tree_root tree) ≡ rows
tree_reads tree pages rows own stands =
    ap (entries_in (tree_shape tree) pages (tree_levels tree)) (sym stands.whole.stands.root)
    ∙ reads_its_entries (tree_shape tree) pages (tree_levels tree) stands.value stands.whole.stands.holds ∙ stands.has

tree_live : (tree : Tree) (pages : PageMap) (rows : List (List ℕ)) (own : List ℕ) → TreeStands tree pages rows own → AreInUse pages own
tree_live tree pages rows own stands =
    subst (AreInUse pages) stands.pages_are
    (record { live = pages_live (tree_shape tree) pages (tree_levels tree) stands.value stands.whole.stands.holds; apart = stands.whole.apart })

tree_kept : (tree : Tree) (before after : PageMap) (rows : List (List ℕ)) (own : List ℕ) → TreeStands tree before rows own → Each (λ n. after n ≡ before n) own → TreeStands tree after rows own
tree_kept tree before after rows own stands same =
    let own_same = subst (λ (l : List ℕ). Each (λ n. after n ≡ before n) l) (sym stands.pages_are) same in
    record {
      value = stands.value;
      whole = record {
        stands = record {
          holds = holds_still (tree_shape tree) before after (tree_levels tree) stands.value stands.whole.stands.holds own_same;
          root = stands.whole.stands.root;
          ordered = stands.whole.stands.ordered;
        };
        apart = stands.whole.apart;
        filled = stands.whole.filled;
        rooted = stands.whole.rooted;
      };
      has = stands.has;
      pages_are = stands.pages_are;
      count = stands.count;
    }

same_aside : (before after : PageMap) (own old new : List ℕ) → Each (λ n. IsSome (before n)) own → ChangesPages before after old new → Each (IsOutside old) own → Each (λ n. after n ≡ before n) own
same_aside before after [] old new live changes aside = tt
same_aside before after (n ∷ ns) old new live changes aside =
    ((changes.others n live.0 aside.0).0, same_aside before after ns old new live.1 changes aside.1)

still_aside : (before after : PageMap) (own old new : List ℕ) → Each (λ n. IsSome (before n)) own → ChangesPages before after old new → Each (IsOutside old) own → Each (IsOutside new) own
still_aside before after [] old new live changes aside = tt
still_aside before after (n ∷ ns) old new live changes aside =
    ((changes.others n live.0 aside.0).1, still_aside before after ns old new live.1 changes aside.1)

read_back : {X : Type 0} (bytes : X → List ℕ) (entry : List ℕ → X) (Fits : X → Type 0) → ((x : X) → Fits x → entry (bytes x) ≡ x)
    → (xs : List X) → Each Fits xs → map entry (map bytes xs) ≡ xs
read_back bytes entry Fits back [] fit = refl
read_back {X = X} bytes entry Fits back (x ∷ xs) fit =
    ap (λ (y : X). y ∷ map entry (map bytes xs)) (back x fit.0) ∙ ap (λ (ys : List X). x ∷ ys) (read_back bytes entry Fits back xs fit.1)

-- ---- the prime index

pub prime_reads_off : prime_reads
prime_reads_off index pages entries own stands =
    ap (map (prime_entry_in index.width)) (tree_reads index.tree pages (map prime_bytes entries) own stands.tree)
    ∙ read_back prime_bytes (prime_entry_in index.width) (IsPrimeEntry index.width) (prime_back index.width) entries stands.each

pub prime_live : prime_is_live
prime_live index pages entries own stands = tree_live index.tree pages (map prime_bytes entries) own stands.tree

pub prime_kept : prime_is_kept
prime_kept index before after entries own stands same =
    record { tree = tree_kept index.tree before after (map prime_bytes entries) own stands.tree same; each = stands.each }

pub prime_aside : prime_stands_aside
prime_aside index before after entries own old new stands changes aside =
    let live = (prime_live index before entries own stands).live in
    (prime_kept index before after entries own stands (same_aside before after own old new live changes aside), still_aside before after own old new live changes aside)

-- ---- an alternate index

pub alt_reads_off : alt_reads
alt_reads_off index pages entries own stands =
    ap (map (alt_entry_in index.width)) (tree_reads index.tree pages (map alt_bytes entries) own stands.tree)
    ∙ read_back alt_bytes (alt_entry_in index.width) (IsAltEntry index.width index.prime) (alt_back index.width index.prime) entries stands.each

pub alt_live : alt_is_live
alt_live index pages entries own stands = tree_live index.tree pages (map alt_bytes entries) own stands.tree

pub alt_kept : alt_is_kept
alt_kept index before after entries own stands same =
    record { tree = tree_kept index.tree before after (map alt_bytes entries) own stands.tree same; each = stands.each }

pub alt_aside : alt_stands_aside
alt_aside index before after entries own old new stands changes aside =
    let live = (alt_live index before entries own stands).live in
    (alt_kept index before after entries own stands (same_aside before after own old new live changes aside), still_aside before after own old new live changes aside)
