-- The counts of the trees of all keys.
use Rattle.std.proofs.Common.{◌≡◌, ℕ, zero, suc, ◌+◌, ◌<◌, ◌≤◌, ◌⊎◌, inl, inr, List, [], ◌∷◌, ◌++◌, length, slice_index_or, refl, ap, sym, ◌∙◌, arith, subst}
use Rattle.std.proofs.lemmas.List.{length-append}
use Rattle.pages.specs.PageMap.{PageMap}
use Rattle.pages.proofs.PartLemmas.{low_or_not}
use Rattle.bplus_tree.specs.declared.tree.Tree.{Tree}
use Rattle.bplus_tree.specs.Standing.{TreeStands}
use Rattle.key_index.specs.declared.alt_index.AltIndex.{AltIndex}
use Rattle.open_file.specs.Fields.{alternates_of, prime_index_of}
use Rattle.open_file.specs.declared.open_file.OpenFile.{OpenFile}
use Rattle.open_file.specs.Stands.{Stands}
use Rattle.indexed_file.specs.File.{File}
use Rattle.page_walks.specs.Levels.{AreShown}
use Rattle.file_reports.specs.declared.statistics.KeyStatistics.{KeyStatistics}
use Rattle.file_reports.specs.Statistics.{AreKeyCounts, HasFileStanding, HasTreeStanding, KeysCounted}

module _ {X : Type 0} where
  front_at : (xs : List X) (y : X) (i : ℕ) (d : X) → i < length xs → slice_index_or (xs ++ y ∷ []) i d ≡ slice_index_or xs i d
  front_at [] y i d inside = absurd (omega arith)
  front_at (x ∷ xs) y zero d inside = refl
  front_at (x ∷ xs) y (suc i) d inside = front_at xs y i d (omega arith)

  end_at : (xs : List X) (y : X) (n : ℕ) (d : X) → n ≡ length xs → slice_index_or (xs ++ y ∷ []) n d ≡ y
  end_at [] y zero d e = refl
  end_at [] y (suc n) d e = absurd (omega arith)
  end_at (x ∷ xs) y zero d e = absurd (omega arith)
  end_at (x ∷ xs) y (suc n) d e = end_at xs y n d (omega arith)

  same_at : (xs : List X) (n m : ℕ) (x y : X) → n ≡ m → n < length xs → x ≡ slice_index_or xs n x → y ≡ slice_index_or xs m y → x ≡ y
  same_at [] n m x y e inside is is' = absurd (omega arith)
  same_at (z ∷ zs) zero zero x y e inside is is' = is ∙ sym is'
  same_at (z ∷ zs) zero (suc m) x y e inside is is' = absurd (omega arith)
  same_at (z ∷ zs) (suc n) zero x y e inside is is' = absurd (omega arith)
  same_at (z ∷ zs) (suc n) (suc m) x y e inside is is' = same_at zs n m x y (omega arith) (omega arith) is is'

-- these are the counts of the tree, whose values have so many bytes, wherever it stands in the
-- pages of the list
abbrev pub CountsTree : Tree → ℕ → List (List ℕ) → KeyStatistics → Type 0
CountsTree tree width list key =
    (map : PageMap) (entries : List (List ℕ)) (own : List ℕ)
    (stands : TreeStands tree map entries own) → AreShown map list
    → AreKeyCounts tree width map entries own stands key

pub keys_first : (opened : OpenFile) (list : List (List ℕ)) (key : KeyStatistics) (none keys : List KeyStatistics) → none ≡ [] → keys ≡ none ++ key ∷ []
    → CountsTree (prime_index_of opened).tree (prime_index_of opened).width list key → KeysCounted opened list 0 keys
keys_first opened list key none keys empty is counts =
    let one : keys ≡ key ∷ [] = is ∙ ap (λ (l : List KeyStatistics). l ++ key ∷ []) empty in
    subst (KeysCounted opened list 0) (sym one)
    (record {
      many = omega arith;
      are = λ map file stands shown. record {
        prime = λ other at.
            (let tree = stands.parts.prime_stands.tree in
            subst (AreKeyCounts (prime_index_of opened).tree (prime_index_of opened).width map _ _ tree) (sym at)
            (counts map _ _ tree shown));
        alternates = λ j index within at other low. absurd (omega (arith, low));
      };
    })

pub keys_more : (opened : OpenFile) (list : List (List ℕ)) (n m : ℕ) (keys new : List KeyStatistics) (key : KeyStatistics) (index : AltIndex) → m ≡ suc n
    → KeysCounted opened list n keys → new ≡ keys ++ key ∷ [] → n < length (alternates_of opened) → index ≡ slice_index_or (alternates_of opened) n index
    → CountsTree index.tree index.width list key → KeysCounted opened list m new
keys_more opened list n m keys new key index e before is inside at counts =
    let old = before.many in
    subst (KeysCounted opened list m) (sym is)
    (record {
      many = (let long = length-append keys (key ∷ []) in omega (arith, long, old, e));
      are = λ map file stands shown. record {
        prime = λ other has. (before.are map file stands shown).prime other (has ∙ front_at keys key 0 other (omega (arith, old)));
        alternates = λ j index' within at' other low has. by_place map file stands shown j index' within at' other has (low_or_not j n) low;
      };
    })
  where
    by_place : (map : PageMap) (file : File) (stands : Stands opened map file) (shown : AreShown map list) (j : ℕ) (index' : AltIndex) (within : j < length (alternates_of opened))
        (at' : index' ≡ slice_index_or (alternates_of opened) j index') (other : KeyStatistics) → other ≡ slice_index_or (keys ++ key ∷ []) (j + 1) other → (j < n) ⊎ (n ≤ j) → j < m
        → AreKeyCounts index'.tree index'.width map _ _ (stands.parts.alternates_stand j index' within at').tree other
    by_place map file stands shown j index' within at' other has (inl front) low =
        let old = before.many in
        (before.are map file stands shown).alternates j index' within at' other front (has ∙ front_at keys key (j + 1) other (omega (arith, old, front)))
    by_place map file stands shown j index' within at' other has (inr past) low =
        let old = before.many in
        let same : index ≡ index' = same_at (alternates_of opened) n j index index' (omega (arith, past, low, e)) inside at at' in
        let told : key ≡ other = sym (end_at keys key (j + 1) other (omega (arith, past, low, e, old))) ∙ sym has in
        subst (AreKeyCounts index'.tree index'.width map _ _ (stands.parts.alternates_stand j index' within at').tree) told
        ((subst (λ (i : AltIndex). CountsTree i.tree i.width list key) same counts) map _ _ (stands.parts.alternates_stand j index' within at').tree shown)

-- the tree of each key stands in a file that stands
pub prime_standing : (opened : OpenFile) (list : List (List ℕ)) → HasFileStanding opened list → HasTreeStanding (prime_index_of opened).tree list
prime_standing opened list known =
    let tree = known.stands.parts.prime_stands.tree in
    record {
      pages = known.pages;
      entries = _;
      own = _;
      stands = tree;
      shown = known.shown;
      few = known.few 1;
      counted = (let a = tree.count in let b = known.prime_counted in omega (arith, a, b));
    }

pub alternate_standing : (opened : OpenFile) (list : List (List ℕ)) → HasFileStanding opened list → (j : ℕ) (index : AltIndex) → j < length (alternates_of opened)
    → index ≡ slice_index_or (alternates_of opened) j index → HasTreeStanding index.tree list
alternate_standing opened list known j index within at =
    let tree = (known.stands.parts.alternates_stand j index within at).tree in
    record {
      pages = known.pages;
      entries = _;
      own = _;
      stands = tree;
      shown = known.shown;
      few = known.few (j + 2);
      counted = (let a = tree.count in let b = known.counted j index within at in omega (arith, a, b));
    }
