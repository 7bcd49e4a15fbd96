-- The counts of a tree that stands.
use Rattle.std.proofs.Common.{◌≡◌, ℕ, ◌<◌, ◌≤◌, ◌^◌, List, [], ◌∷◌, length, None, ap, sym, subst, ◌∙◌, arith}
use Rattle.pages.specs.PageMap.{PageMap}
use Rattle.pages.specs.Each.{Each}
use Rattle.tree_search.specs.Tree.{TreeOf}
use Rattle.bplus_tree.specs.declared.tree.Tree.{Tree}
use Rattle.bplus_tree.specs.Standing.{TreeStands}
use Rattle.bplus_tree.specs.Fields.{tree_shape, tree_root, tree_levels, tree_count}
use Rattle.page_walks.specs.declared.level.TreeCounts.{TreeCounts}
use Rattle.page_walks.specs.Rows.{IsLeafIn, entries_in_row}
use Rattle.page_walks.specs.Levels.{IsTreeIn, AreShown, AreCounts, LevelsHaveAllPages, levels_of, all_pages}
use Rattle.page_walks.specs.Runs.{values_of, AreTogether, IsGreatestCount, TreesKeepTogether}
use Rattle.file_reports.specs.declared.statistics.KeyStatistics.{KeyStatistics}
use Rattle.file_reports.specs.Statistics.{AreKeyCounts, HasTreeStanding}

pub tree_in : (tree : Tree) (list : List (List ℕ)) (pages : PageMap) (entries : List (List ℕ)) (own : List ℕ) (stands : TreeStands tree pages entries own) → AreShown pages list
    → HasTreeStanding tree list → IsTreeIn (tree_shape tree) list (tree_levels tree) (tree_root tree) stands.value
tree_in tree list pages entries own stands shown known = record {
  pages = pages;
  shown = shown;
  holds = stands.whole.stands.holds;
  root_is = stands.whole.stands.root;
  few = (let has = ap length stands.has in let a = stands.count in let b = known.stands.count in let c = known.counted in omega (arith, has, a, b, c));
}

-- the pages of the levels are those of the tree
pub level_pages : (tree : Tree) (pages : PageMap) (entries : List (List ℕ)) (own : List ℕ) (stands : TreeStands tree pages entries own) → LevelsHaveAllPages
    → all_pages (levels_of (tree_shape tree) (tree_levels tree) (stands.value ∷ [])) ≡ length own
level_pages tree pages entries own stands law = law (tree_shape tree) (tree_levels tree) stands.value ∙ ap length stands.pages_are

-- these are the counts of the tree, whatever its value is
abbrev CountsAll : Tree → List (List ℕ) → TreeCounts → Type 0
CountsAll tree list counts =
    (value : TreeOf (tree_levels tree)) → IsTreeIn (tree_shape tree) list (tree_levels tree) (tree_root tree) value
    → AreCounts (tree_shape tree) list (tree_levels tree) value counts

module _ (tree : Tree) (list : List (List ℕ)) (known : HasTreeStanding tree list)
    (counts : TreeCounts) (told : CountsAll tree list counts) where
  -- the counts of the tree as it stands
  are : (pages : PageMap) (entries : List (List ℕ)) (own : List ℕ)
      (stands : TreeStands tree pages entries own) → AreShown pages list
      → AreCounts (tree_shape tree) list (tree_levels tree) stands.value counts
  are pages entries own stands shown =
      told stands.value (tree_in tree list pages entries own stands shown known)

  known_are : AreCounts (tree_shape tree) list (tree_levels tree) known.stands.value counts
  known_are = are known.pages known.entries known.own known.stands known.shown

  pub few_pages : LevelsHaveAllPages → all_pages counts.levels.items < 2 ^ 64
  few_pages law =
      let same = ap all_pages known_are.levels
      ∙ level_pages tree known.pages known.entries known.own known.stands law in
      let few = known.few in
      omega (arith, same, few)

  pub leaves_are : Each (IsLeafIn (tree_shape tree) list) counts.leaves.items
  leaves_are = known_are.leaves

  -- the entries of the leaves can be counted
  pub few_entries : length (entries_in_row (tree_shape tree) list counts.leaves.items) < 2 ^ 64
  few_entries =
      let same = ap length (known_are.entries ∙ known.stands.has) in
      let few = known.counted in
      omega (arith, same, few)

  -- and their values stand together
  pub values_together : (width : ℕ) → width ≤ (tree_shape tree).width → TreesKeepTogether
      → AreTogether (values_of width (entries_in_row (tree_shape tree) list counts.leaves.items))
  values_together width narrow law =
      let ordered = known.stands.whole.stands.ordered in
      subst (λ (es : List (List ℕ)). AreTogether (values_of width es)) (sym known_are.entries)
      (law (tree_shape tree).width width (tree_levels tree) None None known.stands.value narrow ordered)

  pub key_counts : (width : ℕ) (pages : PageMap) (entries : List (List ℕ)) (own : List ℕ)
      (stands : TreeStands tree pages entries own) → AreShown pages list → LevelsHaveAllPages
      → (key : KeyStatistics) → key.levels.items ≡ counts.levels.items
      → key.pages ≡ all_pages counts.levels.items → key.entries ≡ tree_count tree
      → IsGreatestCount (values_of width (entries_in_row (tree_shape tree) list counts.leaves.items)) key.longest
      → AreKeyCounts tree width pages entries own stands key
  key_counts width pages entries own stands shown law key levels many count longest =
      let here = are pages entries own stands shown in
      record {
        levels = levels ∙ here.levels;
        pages_are = many ∙ ap all_pages here.levels ∙ level_pages tree pages entries own stands law;
        entries_are = count ∙ stands.count;
        longest_is = subst (λ (es : List (List ℕ)). IsGreatestCount (values_of width es) key.longest)
            (here.entries ∙ stands.has) longest;
      }
