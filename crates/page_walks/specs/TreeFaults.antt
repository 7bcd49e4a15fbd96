-- What is wrong with a tree, and where.
use Rattle.std.specs.Prelude.{◌≡◌, ◌≢◌, ◌⊎◌, ℕ, zero, suc, ◌-◌, ◌≤◌, ◌<◌, Bool, List, [], ◌∷◌, length, min}
use Rattle.std.specs.Prelude.{slice_index_or, Some, None, ⊤}
use Rattle.std.specs.Option.{option_copied}
use Rattle.pages.specs.declared.fault_place.FaultPlace.{FaultPlace}
use Rattle.pages.specs.declared.fault_place.FaultPlace.TheVariants.{Page, Entry}
use Rattle.pages.specs.declared.damage.Damage.{Damage}
use Rattle.pages.specs.declared.damage.Damage.TheVariants.{Shared, Node, Order, Heap, Index, Lost}
use Rattle.pages.specs.declared.walk_fault.WalkFault.{WalkFault}
use Rattle.pages.specs.Marks.{IsUnmarked}
use Rattle.pages.specs.PageList.{pages_in}
use Rattle.pages.specs.Told.{TellsOfFault}
use Rattle.tree_node.specs.declared.shape.NodeShape.{NodeShape}
use Rattle.tree_node.specs.Leaf.{IsLeaf, leaf_entries}
use Rattle.tree_node.specs.Inner.{IsInner, separators, children}
use Rattle.tree_node.specs.Fill.{least_entries}
use Rattle.tree_search.specs.Tree.{TreeOf, entries_of, Bound, NotBelow, Above}
use Rattle.tree_search.specs.Calls.{IsWhole}
use Rattle.bplus_tree.specs.declared.tree.Tree.{Tree}
use Rattle.bplus_tree.specs.Fields.{tree_shape, tree_root, tree_levels, tree_count}
use Rattle.page_walks.specs.declared.tree_walk.Limits.{Limits}
use Rattle.page_walks.specs.Order.{IsAstray}
use Rattle.page_walks.specs.TreeWalk.{bound_at}

-- A place in a tree: the page that is to be a node there, and how many levels are below it; the page
-- that leads there; how many entries or separators the node must have, and between which keys.
pub record NodePlace : Type 0 where
  pub levels : ℕ
  pub page : ℕ
  pub parent : ℕ
  pub least : ℕ
  pub low : Bound
  pub high : Bound

abbrev pub node_place : (levels page : ℕ) → Limits → NodePlace
node_place levels page limits = record {
  levels = levels;
  page = page;
  parent = limits.parent;
  least = limits.least;
  low = option_copied limits.low;
  high = option_copied limits.high;
}

abbrev pub root_place : Tree → NodePlace
root_place tree = record {
  levels = tree_levels tree;
  page = tree_root tree;
  parent = 0;
  least = min (tree_levels tree) 1;
  low = None;
  high = None;
}

-- the bound to the right of member i of a row
abbrev pub bound_behind : List (List ℕ) → ℕ → Bound → Bound
bound_behind [] i high = high
bound_behind (s ∷ ss) zero high = Some s
bound_behind (s ∷ ss) (suc i) high = bound_behind ss i high

-- the bytes of the page there
abbrev pub bytes_there : List (List ℕ) → NodePlace → List ℕ
bytes_there list at = slice_index_or list at.page []

-- the place of child i
abbrev pub child_place : NodeShape → List (List ℕ) → NodePlace → ℕ → NodePlace
child_place shape list at i = record {
  levels = at.levels - 1;
  page = slice_index_or (children shape (bytes_there list at)) i 0;
  parent = at.page;
  least = least_entries shape (at.levels - 1);
  low = bound_at at.low (separators shape (bytes_there list at)) i;
  high = bound_behind (separators shape (bytes_there list at)) i at.high;
}

-- an inner node is there, and has a child i
pub record HasChild (shape : NodeShape) (list : List (List ℕ)) (at : NodePlace) (i : ℕ) : Type 0 where
  pub above : 1 ≤ at.levels
  pub there : at.page < length list
  pub inner : IsInner shape (bytes_there list at)
  pub within : i ≤ length (separators shape (bytes_there list at))

-- the place to which these children lead, each the child of the one before it
abbrev pub place_below : NodeShape → List (List ℕ) → NodePlace → List ℕ → NodePlace
place_below shape list at [] = at
place_below shape list at (i ∷ is) = place_below shape list (child_place shape list at i) is

abbrev pub AreChildren : NodeShape → List (List ℕ) → NodePlace → List ℕ → Type 0
AreChildren shape list at [] = ⊤
AreChildren shape list at (i ∷ is) =
    HasChild shape list at i × AreChildren shape list (child_place shape list at i) is

-- they lead to page n
pub record LeadsDown (shape : NodeShape) (list : List (List ℕ)) (at : NodePlace) (is : List ℕ)
    (n : ℕ) : Type 0 where
  pub children : AreChildren shape list at is
  pub page : (place_below shape list at is).page ≡ n

-- each page that was marked now is one to which children lead
abbrev pub MarksBelow : NodeShape → List (List ℕ) → NodePlace → (before after : List Bool) → Type 0
MarksBelow shape list at before after = (n : ℕ) → IsUnmarked before n
    → IsUnmarked after n ⊎ ((is : List ℕ) × LeadsDown shape list at is n)

-- these children begin before child i of the node
abbrev pub IsEarlier : (i : ℕ) → List ℕ → Type 0
IsEarlier i [] = ⊤
IsEarlier i (j ∷ js) = j < i

abbrev pub LeadsEarlier : NodeShape → List (List ℕ) → NodePlace → (i n : ℕ) → Type 0
LeadsEarlier shape list at i n = (is : List ℕ) × IsEarlier i is × LeadsDown shape list at is n

-- each page that was marked now is one to which children before child i lead
abbrev pub MarksFront : NodeShape → List (List ℕ) → NodePlace → ℕ → (before after : List Bool) → Type 0
MarksFront shape list at i before after = (n : ℕ) → IsUnmarked before n
    → IsUnmarked after n ⊎ LeadsEarlier shape list at i n

-- the bytes are a leaf or an inner node, with so many entries or separators at least
abbrev pub IsNodeOf : NodeShape → List ℕ → (levels least : ℕ) → Type 0
IsNodeOf shape bytes zero least = IsLeaf shape bytes × (least ≤ length (leaf_entries shape bytes))
IsNodeOf shape bytes (suc k) least = IsInner shape bytes × (least ≤ length (separators shape bytes))

-- key i of the node is not where it should be
abbrev pub IsKeyAstray : NodeShape → List ℕ → (levels : ℕ) → (low high : Bound) → ℕ → Type 0
IsKeyAstray shape bytes zero low high i = IsAstray NotBelow shape.width low high (leaf_entries shape bytes) i
IsKeyAstray shape bytes (suc k) low high i = IsAstray Above shape.width low high (separators shape bytes) i

-- This is wrong with the bytes at a place: they are no such node, or one of its keys is not where it
-- should be.
abbrev pub IsNodeFault : NodeShape → List ℕ → NodePlace → Damage → FaultPlace → Type 0
IsNodeFault shape bytes at Node place =
    (place ≡ Page at.page) × (IsNodeOf shape bytes at.levels at.least → ⊥)
IsNodeFault shape bytes at Order place = IsNodeOf shape bytes at.levels at.least
    × ((i : ℕ) × (place ≡ Entry at.page i) × IsKeyAstray shape bytes at.levels at.low at.high i)
IsNodeFault shape bytes at Shared place = ⊥
IsNodeFault shape bytes at Heap place = ⊥
IsNodeFault shape bytes at Index place = ⊥
IsNodeFault shape bytes at Lost place = ⊥

-- other children lead to page n, too
abbrev pub LeadsThereToo : NodeShape → List (List ℕ) → NodePlace → List ℕ → ℕ → Type 0
LeadsThereToo shape list at is n = (others : List ℕ) × (others ≢ is) × LeadsDown shape list at others n

-- This is wrong where these children lead: the page is none of the list, or has another fault; or it
-- had its mark before, or other children lead there, too.
abbrev pub IsFaultBelow : NodeShape → List (List ℕ) → NodePlace → List Bool → List ℕ → Damage → FaultPlace → Type 0
IsFaultBelow shape list at marks is Shared place =
    let n = (place_below shape list at is).page in
    (place ≡ Page n) × (n < length list) × (IsUnmarked marks n → LeadsThereToo shape list at is n)
IsFaultBelow shape list at marks is Node place =
    let there = place_below shape list at is in
    ((place ≡ Page there.parent) × (length list ≤ there.page))
    ⊎ ((there.page < length list) × IsNodeFault shape (bytes_there list there) there Node place)
IsFaultBelow shape list at marks is Order place =
    let there = place_below shape list at is in
    (there.page < length list) × IsNodeFault shape (bytes_there list there) there Order place
IsFaultBelow shape list at marks is Heap place = ⊥
IsFaultBelow shape list at marks is Index place = ⊥
IsFaultBelow shape list at marks is Lost place = ⊥

-- so it is somewhere below a place
abbrev pub IsSomewhereBelow : NodeShape → List (List ℕ) → NodePlace → List Bool → Damage → FaultPlace → Type 0
IsSomewhereBelow shape list at marks fault place = (is : List ℕ) × AreChildren shape list at is
    × IsFaultBelow shape list at marks is fault place

-- that memory ran out, or what is wrong there, and where
abbrev pub TellsFaultBelow : NodeShape → List (List ℕ) → NodePlace → List Bool → WalkFault → Type 0
TellsFaultBelow shape list at marks = TellsOfFault (IsSomewhereBelow shape list at marks)

-- the tree stands, but for the number of its entries
pub record HasOtherCount (tree : Tree) (list : List (List ℕ)) : Type 0 where
  pub value : TreeOf (tree_levels tree)
  pub whole : IsWhole (tree_shape tree) (pages_in list) (tree_levels tree) (tree_root tree) None None value
  pub other : length (entries_of (tree_levels tree) value) ≢ tree_count tree

-- this is wrong with a tree, some pages of the list having their marks before
abbrev pub IsTreeFault : Tree → List (List ℕ) → List Bool → Damage → FaultPlace → Type 0
IsTreeFault tree list marks Shared place =
    IsSomewhereBelow (tree_shape tree) list (root_place tree) marks Shared place
IsTreeFault tree list marks Node place =
    IsSomewhereBelow (tree_shape tree) list (root_place tree) marks Node place
IsTreeFault tree list marks Order place =
    IsSomewhereBelow (tree_shape tree) list (root_place tree) marks Order place
IsTreeFault tree list marks Heap place = ⊥
IsTreeFault tree list marks Lost place = ⊥
IsTreeFault tree list marks Index place = (place ≡ Page (tree_root tree)) × HasOtherCount tree list
