-- A tree that is being built, leaf by leaf and entry by entry.
use Rattle.std.proofs.Common.{◌≡◌, ℕ, ◌+◌, ◌≤◌, List, [], ◌∷◌, ◌++◌, length, map, None, IsSome, refl, ap, sym, subst, ◌∙◌, arith, flat_map, append_assoc}
use Rattle.std.proofs.lemmas.Grind.{flat_map-append}
use Rattle.std.proofs.lemmas.List.{map-append, length-append}
use Rattle.tree_node.specs.declared.shape.NodeShape.{NodeShape}
use Rattle.tree_node.specs.Leaf.{IsLeaf, leaf_entries, leaf_room}
use Rattle.tree_node.proofs.OrderLemmas.{Each-weaker}
use Rattle.tree_node.specs.declared.separator.Separator.{Separator}
use Rattle.tree_node.specs.Fill.{least_entries}
use Rattle.pages.specs.Each.{Each}
use Rattle.pages.specs.PageMap.{PageMap, Takes}
use Rattle.pages.specs.Owners.{AreApart, ChangesPages}
use Rattle.tree_search.specs.Tree.{TreeOf, page_of, entries_of, pages_of}
use Rattle.tree_search.specs.Stored.{Holds}
use Rattle.tree_search.specs.Calls.{IsWhole}
use Rattle.tree_node.specs.Order.{Ascends}
use Rattle.bplus_tree.specs.declared.tree.Tree.{Tree}
use Rattle.bplus_tree.proofs.RemoveLemmas.{changes_trans}
use Rattle.tree_building.specs.declared.rising.BuiltRoot.{BuiltRoot}
use Rattle.tree_building.specs.Rising.{HasRootOver}
use Rattle.std.specs.Prelude.{Result, Ok}
use Rattle.io_state.specs.declared.fault.Fault.{Fault}
use Rattle.pages.specs.Answer.{IsAnswer}
use Rattle.tree_building.proofs.RootLemmas.{answer_map}
use Rattle.tree_building.proofs.LedLemmas.{no_bounds}
use Rattle.tree_search.proofs.RowLemmas.{Each-append}
use Rattle.bplus_tree.proofs.PageLemmas.{rows_still}
use Rattle.tree_building.specs.declared.builder.TreeBuilder.{TreeBuilder}
use Rattle.tree_building.specs.Level.{lead_of, IsBelow}
use Rattle.tree_building.specs.Leaves.{HasNextLeaf}
use Rattle.tree_building.specs.Pending.{TakesEntryBehind}
use Rattle.tree_building.specs.Building.{AreInLeaves, AreInFullLeaves, HasWritten, IsBuilding, BuildsOn, WritesMore, StandsOver, StandsFilled, HasBuilt, FinishesTree}
use Rattle.tree_building.specs.Filled.{AllBut, AreFilled, entry_counts}
use Rattle.tree_building.proofs.PageLemmas.{taken_keeps, changes_more, changes_same, keeps_on}
use Rattle.tree_building.proofs.CountLemmas.{append_none}
use Rattle.tree_building.proofs.RisingLemmas.{kids_live, leaf_pages, level_length}

-- one leaf more is written
pub written_more : (shape : NodeShape) (before after : PageMap) (nodes now : List Separator) (entries : List (List ℕ)) (own leaf : List ℕ)
    → (w : AreInLeaves shape before nodes entries own) → IsLeaf shape leaf → least_entries shape 0 ≤ length (leaf_entries shape leaf)
    → HasNextLeaf shape leaf before after nodes now
    → HasWritten shape before after now (entries ++ leaf_entries shape leaf) own (entry_counts w.leaves ++ length (leaf_entries shape leaf) ∷ [])
written_more shape before after nodes now entries own leaf w is large added =
    let t : TreeOf 0 = (added.page, leaf_entries shape leaf) in
    let kept = taken_keeps added.takes in
    let live = kids_live shape before 0 w.leaves w.level.holds in
    let changes : ChangesPages before after own (own ++ added.page ∷ []) =
    subst (λ (l : List ℕ). ChangesPages before after l (own ++ added.page ∷ [])) (append_none own)
    (changes_more before before after own [] own added.page leaf (changes_same before own w.apart) added.takes
    (subst AreApart (sym (append_none own)) w.apart) tt (subst (Each (λ n. IsSome (before n))) w.own_are live)) in
    record {
      own_now = own ++ added.page ∷ [];
      written = record {
        leaves = w.leaves ++ t ∷ [];
        level = record {
          holds = Each-append (Holds shape after 0) w.leaves (t ∷ [])
              (rows_still shape before after 0 w.leaves w.level.holds
              (Each-weaker (λ n. IsSome (before n)) (λ n. after n ≡ before n) kept (flat_map (pages_of 0) w.leaves) live))
              (record { bytes = leaf; there = added.takes.page; leaf = is; holds = refl }, tt);
          below = Each-append (IsBelow shape 0) w.leaves (t ∷ []) w.level.below (record { large = large; filled = tt; led = tt }, tt);
          keys = added.keys ∙ ap (λ l. l ++ lead_of shape.width 0 t ∷ []) w.level.keys ∙ sym (map-append (lead_of shape.width 0) w.leaves (t ∷ []));
          leads = added.leads ∙ ap (λ l. l ++ added.page ∷ []) w.level.leads ∙ sym (map-append (page_of 0) w.leaves (t ∷ []));
        };
        own_are = flat_map-append (pages_of 0) w.leaves (t ∷ []) ∙ ap (λ l. l ++ added.page ∷ []) w.own_are;
        apart = changes.apart;
        has = flat_map-append (entries_of 0) w.leaves (t ∷ []) ∙ ap (λ l. l ++ (leaf_entries shape leaf ++ [])) w.has ∙ ap (λ l. entries ++ l) (append_none (leaf_entries shape leaf));
      };
      counts_are = map-append (λ (s : TreeOf 0). length s.1) w.leaves (t ∷ []);
      changes = changes;
    }

-- each leaf has its page
pub leaves_many : (shape : NodeShape) (pages : PageMap) (nodes : List Separator) (entries : List (List ℕ)) (own : List ℕ) → AreInLeaves shape pages nodes entries own → length own ≡ length nodes
leaves_many shape pages nodes entries own w = sym (ap length w.own_are) ∙ leaf_pages w.leaves ∙ level_length shape pages 0 nodes w.leaves w.level

-- a full leaf more is written
full_more : (shape : NodeShape) (before after : PageMap) (nodes now : List Separator) (entries : List (List ℕ)) (own leaf : List ℕ) → (f : AreInFullLeaves shape before nodes entries own)
    → IsLeaf shape leaf → leaf_room shape ≡ length (leaf_entries shape leaf) → HasNextLeaf shape leaf before after nodes now
    → (own_now : List ℕ) × AreInFullLeaves shape after now (entries ++ leaf_entries shape leaf) own_now × ChangesPages before after own own_now
full_more shape before after nodes now entries own leaf f is full added =
    let w = written_more shape before after nodes now entries own leaf f.in_leaves is (omega arith) added in (
      w.own_now,
      record {
        in_leaves = w.written;
        full = subst (Each (λ n. n ≡ leaf_room shape)) (sym w.counts_are)
            (Each-append (λ n. n ≡ leaf_room shape) (entry_counts f.in_leaves.leaves) (length (leaf_entries shape leaf) ∷ []) f.full (sym full, tt));
        many = leaves_many shape after now (entries ++ leaf_entries shape leaf) w.own_now w.written;
      },
      w.changes,
    )

-- the first of two full leaves is written
pub room_made : (before after : PageMap) (old new : TreeBuilder) (now : List Separator) (entries : List (List ℕ)) (own : List ℕ) → IsBuilding old before entries own
    → HasNextLeaf old.shape old.lower before after old.leaves.items now → IsLeaf old.shape old.lower → leaf_room old.shape ≡ length (leaf_entries old.shape old.lower)
    → new.shape ≡ old.shape → new.leaves.items ≡ now → new.lower ≡ old.upper → leaf_entries old.shape new.upper ≡ [] → new.count ≡ old.count
    → BuildsOn before after new own entries
room_made before after old new now entries own b added is full shape_is leaves_are lower_is none count_is =
    let shape = old.shape in
    let lower = leaf_entries shape old.lower in
    let upper = leaf_entries shape old.upper in
    let w = full_more shape before after old.leaves.items now b.front own old.lower b.written is full added in
    let first : leaf_entries new.shape new.lower ≡ upper = ap (λ (s : NodeShape). leaf_entries s new.lower) shape_is ∙ ap (leaf_entries shape) lower_is in
    let second : leaf_entries new.shape new.upper ≡ [] = ap (λ (s : NodeShape). leaf_entries s new.upper) shape_is ∙ none in
    record {
      own_now = w.0;
      building = record {
        front = b.front ++ lower;
        written = subst (λ (s : NodeShape). AreInFullLeaves s after new.leaves.items (b.front ++ lower) w.0) (sym shape_is)
            (subst (λ (l : List Separator). AreInFullLeaves shape after l (b.front ++ lower) w.0) (sym leaves_are) w.1);
        has = ap (λ l. (b.front ++ lower) ++ (l ++ leaf_entries new.shape new.upper)) first ∙ ap (λ l. (b.front ++ lower) ++ (upper ++ l)) second
            ∙ ap (λ l. (b.front ++ lower) ++ l) (append_none upper) ∙ append_assoc b.front lower upper ∙ b.has;
        count = count_is ∙ b.count;
      };
      changes = w.2;
    }

-- nothing is written
pub room_kept : (pages : PageMap) (builder : TreeBuilder) (entries : List (List ℕ)) (own : List ℕ) → IsBuilding builder pages entries own → BuildsOn pages pages builder own entries
room_kept pages builder entries own b = record { own_now = own; building = b; changes = changes_same pages own b.written.in_leaves.apart }

-- one entry more stands in the leaves that are not written
pub entry_pushed : (before after : PageMap) (mid new : TreeBuilder) (entry own : List ℕ) (entries : List (List ℕ)) → BuildsOn before after mid own entries
    → TakesEntryBehind mid.shape entry mid.lower mid.upper new.lower new.upper → new.shape ≡ mid.shape → new.leaves.items ≡ mid.leaves.items → new.count ≡ mid.count + 1
    → BuildsOn before after new own (entries ++ entry ∷ [])
entry_pushed before after mid new entry own entries goes takes shape_is leaves_are count_is =
    let b = goes.building in
    let lower = leaf_entries mid.shape mid.lower in
    let upper = leaf_entries mid.shape mid.upper in
    let had = b.count in
    record {
      own_now = goes.own_now;
      building = record {
        front = b.front;
        written = subst (λ (s : NodeShape). AreInFullLeaves s after new.leaves.items b.front goes.own_now) (sym shape_is)
            (subst (λ (l : List Separator). AreInFullLeaves mid.shape after l b.front goes.own_now) (sym leaves_are) b.written);
        has = ap (λ l. b.front ++ l) (ap (λ (s : NodeShape). leaf_entries s new.lower ++ leaf_entries s new.upper) shape_is ∙ takes.has ∙ sym (append_assoc lower upper (entry ∷ [])))
            ∙ sym (append_assoc b.front (lower ++ upper) (entry ∷ [])) ∙ ap (λ l. l ++ entry ∷ []) b.has;
        count = omega (arith, length-append entries (entry ∷ []));
      };
      changes = goes.changes;
    }

pub none_written : (shape : NodeShape) (pages : PageMap) → AreInFullLeaves shape pages [] [] []
none_written shape pages = record {
  in_leaves = record { leaves = []; level = record { holds = tt; below = tt; keys = refl; leads = refl }; own_are = refl; apart = tt; has = refl };
  full = tt;
  many = refl;
}

-- two leaves are written, one behind the other
pub two_written : (shape : NodeShape) (before mid after : PageMap) (first second : List Separator) (entries lower upper all : List (List ℕ)) (own had : List ℕ) (m n : ℕ)
    → (one : HasWritten shape before mid first (entries ++ lower) own (had ++ m ∷ []))
    → HasWritten shape mid after second ((entries ++ lower) ++ upper) one.own_now (entry_counts one.written.leaves ++ n ∷ []) → lower ++ upper ≡ all
    → HasWritten shape before after second (entries ++ all) own (had ++ m ∷ n ∷ [])
two_written shape before mid after first second entries lower upper all own had m n one two same =
    let counts : entry_counts two.written.leaves ≡ had ++ m ∷ n ∷ [] = two.counts_are ∙ ap (λ (l : List ℕ). l ++ n ∷ []) one.counts_are ∙ append_assoc had (m ∷ []) (n ∷ []) in
    subst (λ (l : List (List ℕ)). HasWritten shape before after second l own (had ++ m ∷ n ∷ [])) (append_assoc entries lower upper ∙ ap (λ l. entries ++ l) same) (record {
      own_now = two.own_now;
      written = two.written;
      counts_are = counts;
      changes = changes_trans before mid after own one.own_now two.own_now one.changes two.changes;
    })

-- ---- the whole tree

stands_of : (tree : Tree) (pages : PageMap) (entries : List (List ℕ)) (own : List ℕ) (shape : NodeShape) (root levels : ℕ) → tree.shape ≡ shape → tree.root ≡ root → tree.levels ≡ levels
    → tree.count ≡ length entries → (value : TreeOf levels) → IsWhole shape pages levels root None None value → entries_of levels value ≡ entries → pages_of levels value ≡ own
    → AreFilled shape levels (value ∷ []) → StandsFilled tree pages entries own
stands_of tree pages entries own shape root levels shape_is root_is levels_are count value whole has own_are filled =
    subst (λ (l : ℕ). (v : TreeOf l) → IsWhole shape pages l root None None v → entries_of l v ≡ entries → pages_of l v ≡ own → AreFilled shape l (v ∷ []) → StandsFilled tree pages entries own)
    levels_are
    (λ v whole has own_are filled. record {
      stands = record {
        value = v;
        whole = subst (λ (s : NodeShape). IsWhole s pages tree.levels tree.root None None v) (sym shape_is)
            (subst (λ (r : ℕ). IsWhole shape pages tree.levels r None None v) (sym root_is) whole);
        has = has;
        pages_are = own_are;
        count = count;
      };
      filled = subst (λ (s : NodeShape). AreFilled s tree.levels (v ∷ [])) (sym shape_is) filled;
    }) value whole has own_are filled

pub stands_over : (shape : NodeShape) (before after : PageMap) (nodes : List Separator) (entries : List (List ℕ)) (own : List ℕ) (base : BuiltRoot) (tree : Tree) (count : ℕ)
    → (left left_now : ℕ) → (w : AreInLeaves shape before nodes entries own) → HasRootOver shape left left_now before after 0 w.leaves base → Ascends shape.width (entries ++ [])
    → count ≡ length (entries ++ []) → AllBut 2 (leaf_room shape) (entry_counts w.leaves ++ [])
    → tree.shape ≡ shape → tree.root ≡ base.root → tree.levels ≡ base.levels → tree.count ≡ count → HasBuilt left left_now before after tree own (entries ++ [])
stands_over shape before after nodes entries own base tree count left left_now w root rises counted full shape_is root_is levels_are count_is =
    let all : flat_map (entries_of 0) w.leaves ≡ entries ++ [] = w.has ∙ sym (append_none entries) in
    record {
      own_now = pages_of base.levels root.tree;
      standing = stands_of tree after (entries ++ []) (pages_of base.levels root.tree) shape base.root base.levels shape_is root_is levels_are (count_is ∙ counted) root.tree
          (root.whole (subst (Ascends shape.width) (sym all) rises)) (root.has ∙ all) refl
          (root.filled (subst (AllBut 2 (leaf_room shape)) (append_none (entry_counts w.leaves)) full));
      taken = let took = root.taken in let same = ap length w.own_are in omega arith;
      changes = subst (λ (l : List ℕ). ChangesPages before after l (pages_of base.levels root.tree)) w.own_are root.changes;
    }

no_leaves : (leaves : List (TreeOf 0)) → [] ≡ map (page_of 0) leaves → leaves ≡ []
no_leaves [] e = refl
no_leaves (t ∷ ts) e = cc e

pub stands_alone : (shape : NodeShape) (before after : PageMap) (entries : List (List ℕ)) (own leaf : List ℕ) (root count : ℕ) (tree : Tree) → AreInLeaves shape before [] entries own
    → Takes before after root leaf → IsLeaf shape leaf → Ascends shape.width (entries ++ leaf_entries shape leaf) → count ≡ length (entries ++ leaf_entries shape leaf)
    → tree.shape ≡ shape → tree.root ≡ root → tree.levels ≡ 0 → tree.count ≡ count → (left left_now : ℕ) → left_now + 1 ≡ left
    → HasBuilt left left_now before after tree own (entries ++ leaf_entries shape leaf)
stands_alone shape before after entries own leaf root count tree w takes is rises counted shape_is root_is levels_are count_is left left_now one =
    let none = no_leaves w.leaves w.level.leads in
    let no_entries : entries ≡ [] = sym w.has ∙ ap (flat_map (entries_of 0)) none in
    let no_pages : own ≡ [] = sym w.own_are ∙ ap (flat_map (pages_of 0)) none in
    let all : leaf_entries shape leaf ≡ entries ++ leaf_entries shape leaf = sym (ap (λ l. l ++ leaf_entries shape leaf) no_entries) in
    let value : TreeOf 0 = (root, leaf_entries shape leaf) in
    let changes : ChangesPages before after [] (root ∷ []) = changes_more before before after [] [] [] root leaf (changes_same before [] tt) takes tt tt tt in
    record {
      own_now = root ∷ [];
      taken = let none_had = ap length no_pages in omega arith;
      standing = stands_of tree after (entries ++ leaf_entries shape leaf) (root ∷ []) shape root 0 shape_is root_is levels_are (count_is ∙ counted) value
          (record {
            stands = record {
              holds = record { bytes = leaf; there = takes.page; leaf = is; holds = refl };
              root = refl;
              ordered = (subst (Ascends shape.width) (sym all) rises, no_bounds shape.width (leaf_entries shape leaf));
            };
            apart = changes.apart;
            filled = tt;
            rooted = tt;
          }) all refl (record { front = []; last = length (leaf_entries shape leaf) ∷ []; are = refl; few = omega arith; full = tt });
      changes = subst (λ (l : List ℕ). ChangesPages before after l (root ∷ [])) (sym no_pages) changes;
    }

-- what stands over more leaves stands over those before, with the entries of the others
pub more_stands : (shape : NodeShape) (before mid after : PageMap) (old new : List Separator) (more : List (List ℕ)) (counts : List ℕ) (count : ℕ) (result : Result Tree Fault)
    (left left_mid left_now : ℕ) {still is_sound : Type 0} → left_mid + length counts ≡ left → length new ≡ length old + length counts
    → WritesMore shape old new more counts (Ok tt) before mid still → StandsOver shape new [] [] count result left_mid left_now mid after is_sound
    → StandsOver shape old more counts count result left left_now before after is_sound
more_stands shape before mid after old new more counts count result left left_mid left_now took longer writes over = record {
  stands = λ entries own w rises counted full.
      let all = append_none (entries ++ more) in
      let had = (writes.writes entries own w).answer in
      let many = leaves_many shape before old entries own w in
      let many_now = leaves_many shape mid new (entries ++ more) had.own_now had.written in
      let full_now : AllBut 2 (leaf_room shape) (entry_counts had.written.leaves ++ []) =
      subst (AllBut 2 (leaf_room shape)) (sym (append_none (entry_counts had.written.leaves) ∙ had.counts_are)) full in
      answer_map (over.stands (entries ++ more) had.own_now had.written (subst (Ascends shape.width) (sym all) rises) (counted ∙ sym (ap length all)) full_now)
      (λ tree now. record {
        own_now = now.own_now;
        standing = subst (λ (l : List (List ℕ)). StandsFilled tree after l now.own_now) all now.standing;
        changes = changes_trans before mid after own had.own_now now.own_now had.changes now.changes;
        taken = let more_taken = now.taken in omega arith;
      });
  kept = keeps_on writes.kept over.kept;
  sound = over.sound;
}

-- what stands over the leaves of a builder, with the entries of those that were not written
pub finishes : (old : TreeBuilder) (before after : PageMap) (more : List (List ℕ)) (counts : List ℕ) (result : Result Tree Fault) (left left_now : ℕ) {is_sound : Type 0} → length counts ≤ 2
    → leaf_entries old.shape old.lower ++ leaf_entries old.shape old.upper ≡ more
    → StandsOver old.shape old.leaves.items more counts old.count result left left_now before after is_sound → FinishesTree old result left left_now before after is_sound
finishes old before after more counts result left left_now few same over = record {
  finished = λ entries own b rises.
      let all : b.front ++ more ≡ entries = ap (λ l. b.front ++ l) (sym same) ∙ b.has in
      let leaves = b.written.in_leaves in
      subst (λ (l : List (List ℕ)). IsAnswer result (λ tree. HasBuilt left left_now before after tree own l)) all
      (over.stands b.front own leaves (subst (Ascends old.shape.width) (sym all) rises) (b.count ∙ sym (ap length all))
      (record { front = entry_counts leaves.leaves; last = counts; are = refl; few = few; full = b.written.full }));
  kept = over.kept;
  sound = over.sound;
}

pub behind_none : (lower upper : List (List ℕ)) → length upper ≡ 0 → lower ++ upper ≡ lower
behind_none lower [] e = append_none lower
behind_none lower (x ∷ xs) e = absurd (omega arith)

pub no_nodes : (nodes : List Separator) → length nodes ≡ 0 → nodes ≡ []
no_nodes [] e = refl
no_nodes (n ∷ ns) e = absurd (omega arith)
