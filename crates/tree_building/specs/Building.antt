-- A tree that is being built: the leaves that are written, and what comes of it.
use Rattle.std.specs.Prelude.{◌≡◌, ◌≤◌, ◌+◌, ℕ, List, [], ◌∷◌, ◌++◌, flat_map, length, Result}
use Rattle.std.specs.Global.{Vec}
use Rattle.io_state.specs.declared.fault.Fault.{Fault}
use Rattle.tree_node.specs.declared.shape.NodeShape.{NodeShape}
use Rattle.tree_node.specs.Leaf.{leaf_entries, leaf_room, IsLeaf}
use Rattle.tree_node.specs.Fill.{least_entries}
use Rattle.tree_node.specs.Order.{Ascends}
use Rattle.tree_node.specs.declared.separator.Separator.{Separator}
use Rattle.pages.specs.Each.{Each}
use Rattle.pages.specs.PageMap.{PageMap}
use Rattle.pages.specs.Owners.{AreApart, ChangesPages}
use Rattle.pages.specs.Answer.{IsAnswer}
use Rattle.tree_search.specs.Tree.{TreeOf, entries_of, pages_of}
use Rattle.bplus_tree.specs.declared.tree.Tree.{Tree}
use Rattle.bplus_tree.specs.Standing.{TreeStands}
use Rattle.tree_building.specs.declared.builder.TreeBuilder.{TreeBuilder}
use Rattle.tree_building.specs.Level.{IsLevel}
use Rattle.tree_building.specs.Filled.{AllBut, AreFilled, entry_counts}
use Rattle.tree_building.specs.Fresh.{KeepsInUse}

-- these entries stand in these pages, in leaves that nodes head
pub record AreInLeaves (shape : NodeShape) (pages : PageMap) (nodes : List Separator) (entries : List (List ℕ))
    (own : List ℕ) : Type 0 where
  pub leaves : List (TreeOf 0)
  pub level : IsLevel shape pages 0 nodes leaves
  pub own_are : flat_map (pages_of 0) leaves ≡ own
  pub apart : AreApart own
  pub has : flat_map (entries_of 0) leaves ≡ entries

-- so they stand in leaves that are full, each in a page
pub record AreInFullLeaves (shape : NodeShape) (pages : PageMap) (nodes : List Separator)
    (entries : List (List ℕ)) (own : List ℕ) : Type 0 where
  pub in_leaves : AreInLeaves shape pages nodes entries own
  pub full : Each (λ n. n ≡ leaf_room shape) (entry_counts in_leaves.leaves)
  pub many : length own ≡ length nodes

-- these are the entries of the builder, in order: those that are written in these pages, and then
-- those of the two leaves that are not
pub record IsBuilding (builder : TreeBuilder) (pages : PageMap) (entries : List (List ℕ))
    (own : List ℕ) : Type 0 where
  pub front : List (List ℕ)
  pub written : AreInFullLeaves builder.shape pages builder.leaves.items front own
  pub has : front ++ (leaf_entries builder.shape builder.lower ++ leaf_entries builder.shape builder.upper)
      ≡ entries
  pub count : builder.count ≡ length entries

-- it has these entries now, and pages more that were not in use
pub record BuildsOn (before after : PageMap) (new : TreeBuilder) (own : List ℕ)
    (entries : List (List ℕ)) : Type 0 where
  pub own_now : List ℕ
  pub building : IsBuilding new after entries own_now
  pub changes : ChangesPages before after own own_now

-- the entries stay, and more of them may be written
pub record MakesLeafRoom (old new : TreeBuilder) (result : Result Unit Fault) (before after : PageMap)
    (is_sound : Type 0) : Type 0 where
  pub made : (entries : List (List ℕ)) (own : List ℕ) → IsBuilding old before entries own
      → IsAnswer result (λ done. BuildsOn before after new own entries)
  pub kept : KeepsInUse before after
  pub sound : is_sound

-- one entry more comes behind them
pub record Pushes (old new : TreeBuilder) (entry : List ℕ) (result : Result Unit Fault)
    (before after : PageMap) (is_sound : Type 0) : Type 0 where
  pub pushed : (entries : List (List ℕ)) (own : List ℕ) → IsBuilding old before entries own
      → IsAnswer result (λ done. BuildsOn before after new own (entries ++ entry ∷ []))
  pub kept : KeepsInUse before after
  pub sound : is_sound

-- the tree stands, and all nodes of a level but the last two are full
pub record StandsFilled (tree : Tree) (pages : PageMap) (entries : List (List ℕ)) (own : List ℕ)
    : Type 0 where
  pub stands : TreeStands tree pages entries own
  pub filled : AreFilled tree.shape tree.levels (stands.value ∷ [])

-- it has these entries, in pages of which those new to it were free; no other page was taken
pub record HasBuilt (left left_now : ℕ) (before after : PageMap) (tree : Tree) (own : List ℕ)
    (entries : List (List ℕ)) : Type 0 where
  pub own_now : List ℕ
  pub standing : StandsFilled tree after entries own_now
  pub changes : ChangesPages before after own own_now
  pub taken : length own_now + left_now ≡ length own + left

-- a tree stands for them, where their keys rise
pub record FinishesTree (old : TreeBuilder) (result : Result Tree Fault) (left left_now : ℕ)
    (before after : PageMap) (is_sound : Type 0) : Type 0 where
  pub finished : (entries : List (List ℕ)) (own : List ℕ) → IsBuilding old before entries own
      → Ascends old.shape.width entries
      → IsAnswer result (λ tree. HasBuilt left left_now before after tree own entries)
  pub kept : KeepsInUse before after
  pub sound : is_sound

-- of its nodes
abbrev pub builder_shape : TreeBuilder → NodeShape
builder_shape builder = builder.shape

-- how many of its leaves are written
abbrev pub leaves_written : TreeBuilder → ℕ
leaves_written builder = length builder.leaves.items

-- how many entries it has
abbrev pub entry_count : TreeBuilder → ℕ
entry_count builder = builder.count

-- these entries are written, in these pages and in those that were not in use, in leaves that have so
-- many each
pub record HasWritten (shape : NodeShape) (before after : PageMap) (nodes : List Separator)
    (entries : List (List ℕ)) (own counts : List ℕ) : Type 0 where
  pub own_now : List ℕ
  pub written : AreInLeaves shape after nodes entries own_now
  pub counts_are : entry_counts written.leaves ≡ counts
  pub changes : ChangesPages before after own own_now

-- these entries more are written, behind those before, in leaves that have so many each
pub record WritesMore (shape : NodeShape) (old new : List Separator) (more : List (List ℕ))
    (counts : List ℕ) (result : Result Unit Fault) (before after : PageMap) (is_sound : Type 0)
    : Type 0 where
  pub writes : (entries : List (List ℕ)) (own : List ℕ)
      (had : AreInLeaves shape before old entries own)
      → IsAnswer result (λ done. HasWritten shape before after new (entries ++ more) own
      (entry_counts had.leaves ++ counts))
  pub kept : KeepsInUse before after
  pub sound : is_sound

-- A tree stands over the leaves, and over leaves behind them that have so many entries each, for so
-- many entries whose keys rise. All leaves but the last two are full.
pub record StandsOver (shape : NodeShape) (nodes : List Separator) (more : List (List ℕ))
    (counts : List ℕ) (count : ℕ) (result : Result Tree Fault) (left left_now : ℕ)
    (before after : PageMap) (is_sound : Type 0) : Type 0 where
  pub stands : (entries : List (List ℕ)) (own : List ℕ)
      (had : AreInLeaves shape before nodes entries own)
      → Ascends shape.width (entries ++ more) → count ≡ length (entries ++ more)
      → AllBut 2 (leaf_room shape) (entry_counts had.leaves ++ counts)
      → IsAnswer result (λ tree. HasBuilt left left_now before after tree own (entries ++ more))
  pub kept : KeepsInUse before after
  pub sound : is_sound

-- a leaf with as many entries as one must have that is no root
pub record IsLargeLeaf (shape : NodeShape) (page : List ℕ) : Type 0 where
  pub leaf : IsLeaf shape page
  pub large : least_entries shape 0 ≤ length (leaf_entries shape page)

-- one leaf more is written
abbrev pub WritesLeaf : NodeShape → (old new : List Separator) → (leaf : List ℕ) → Result Unit Fault
    → PageMap → PageMap → Type 0 → Type 0
WritesLeaf shape old new leaf result =
    WritesMore shape old new (leaf_entries shape leaf) (length (leaf_entries shape leaf) ∷ []) result

-- what two leaves have, and two leaves that share it
pub record TwoLeaves : Type 0 where
  pub lower : List ℕ
  pub upper : List ℕ
  pub lower_now : List ℕ
  pub upper_now : List ℕ

abbrev pub two_leaves : (lower upper lower_now upper_now : List ℕ) → TwoLeaves
two_leaves lower upper lower_now upper_now =
    record { lower = lower; upper = upper; lower_now = lower_now; upper_now = upper_now }

-- the entries of both, and how many the leaves have that share them
abbrev pub shared_entries : NodeShape → TwoLeaves → List (List ℕ)
shared_entries shape leaves = leaf_entries shape leaves.lower ++ leaf_entries shape leaves.upper

abbrev pub shared_counts : NodeShape → TwoLeaves → List ℕ
shared_counts shape leaves =
    length (leaf_entries shape leaves.lower_now) ∷ length (leaf_entries shape leaves.upper_now) ∷ []

-- two leaves more are written, which share what they had
abbrev pub WritesTwo : NodeShape → (old new : Vec Separator) → TwoLeaves → Result Unit Fault
    → PageMap → PageMap → Type 0 → Type 0
WritesTwo shape old new two result =
    WritesMore shape old.items new.items (shared_entries shape two) (shared_counts shape two) result

-- a tree stands over the leaves and one more
abbrev pub StandsOverLeaf : NodeShape → List Separator → (leaf : List ℕ) → (count : ℕ) → Result Tree Fault
    → (left left_now : ℕ) → PageMap → PageMap → Type 0 → Type 0
StandsOverLeaf shape nodes leaf count result =
    StandsOver shape nodes (leaf_entries shape leaf) (length (leaf_entries shape leaf) ∷ []) count result

-- a tree stands over the leaves and two more, which share what they had
abbrev pub StandsOverTwo : NodeShape → Vec Separator → TwoLeaves → (count : ℕ) → Result Tree Fault
    → (left left_now : ℕ) → PageMap → PageMap → Type 0 → Type 0
StandsOverTwo shape nodes two count result =
    StandsOver shape nodes.items (shared_entries shape two) (shared_counts shape two) count result
