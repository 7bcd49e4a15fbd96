-- One entry more in a leaf, one separator more in an inner node, one level more above a root.
use Rattle.std.specs.Prelude.{◌≡◌, ◌≢◌, ℕ, ◌+◌, ◌≤◌, List, ◌∷◌, ◌++◌, [], length, take, insert}
use Rattle.std.specs.Prelude.{slice_index_or, Some, None, Option, Result}
use Rattle.io_state.specs.declared.fault.Fault.{Fault}
use Rattle.tree_node.specs.declared.shape.NodeShape.{NodeShape}
use Rattle.tree_node.specs.Inner.{IsInner, separators, children}
use Rattle.pages.specs.PageMap.{PageMap}
use Rattle.pages.specs.ShownPages.{ShownPages}
use Rattle.bplus_tree.specs.Changes.{CanWrite}
use Rattle.tree_node.specs.declared.separator.Separator.{Separator}
use Rattle.tree_node.specs.Fill.{least_entries}
use Rattle.tree_search.specs.Stored.{IsLeafAt, IsInnerAt}
use Rattle.pages.specs.Answer.{IsAnswer}

-- pages may be changed, and the separator has a whole key
pub record CanLead {S : Type 0} (shown : ShownPages S) (shape : NodeShape) (separator : Separator)
    (pages_now : S) : Type 0 where
  pub width : length separator.key.items ≡ shape.width
  pub pages : CanWrite shown pages_now

-- the page is a leaf of these entries now, and every other page is as it was
pub record HasLeaf (shape : NodeShape) (before after : PageMap) (page : ℕ)
    (entries : List (List ℕ)) : Type 0 where
  pub leaf : IsLeafAt shape after page entries
  pub others : (n : ℕ) → n ≢ page → after n ≡ before n

-- the page and one that was free are leaves of these entries now, both at least half full, and the
-- separator has the first key of the second
pub record HasLeaves (shape : NodeShape) (before after : PageMap) (page : ℕ) (entries : List (List ℕ))
    (separator : Separator) : Type 0 where
  pub lower : List (List ℕ)
  pub upper : List (List ℕ)
  pub has : lower ++ upper ≡ entries
  pub first : IsLeafAt shape after page lower
  pub second : IsLeafAt shape after separator.child upper
  pub full : (least_entries shape 0 ≤ length lower) × (least_entries shape 0 ≤ length upper)
  pub key : separator.key.items ≡ take shape.width (slice_index_or upper 0 [])
  pub free : before separator.child ≡ None
  pub others : (n : ℕ) → n ≢ page → n ≢ separator.child → after n ≡ before n

-- one leaf has these entries, or two where there is a separator
abbrev pub HasAddedToLeaf : NodeShape → PageMap → PageMap → ℕ → List (List ℕ) → Option Separator → Type 0
HasAddedToLeaf shape before after page entries None = HasLeaf shape before after page entries
HasAddedToLeaf shape before after page entries (Some separator) =
    HasLeaves shape before after page entries separator

-- an entry is put before entry `place` of a leaf
abbrev pub AddsToLeaf : NodeShape → ℕ → ℕ → List ℕ → Result (Option Separator) Fault → PageMap → PageMap
    → Type 0 → Type 0
AddsToLeaf shape page place e result before after is_sound =
    (entries : List (List ℕ)) → IsLeafAt shape before page entries → place ≤ length entries
    → IsAnswer result (λ separator. HasAddedToLeaf shape before after page
    (insert entries place e) separator × is_sound)

-- the page is an inner node of these separators and children now, and every other page is as it was
pub record HasInner (shape : NodeShape) (before after : PageMap) (page : ℕ) (seps : List (List ℕ))
    (below : List ℕ) : Type 0 where
  pub inner : IsInnerAt shape after page seps below
  pub others : (n : ℕ) → n ≢ page → after n ≡ before n

-- the page and one that was free are inner nodes of these now, both at least half full, but for the
-- separator between them, which goes up
pub record HasInners (shape : NodeShape) (before after : PageMap) (page : ℕ) (seps : List (List ℕ))
    (below : List ℕ) (separator : Separator) : Type 0 where
  pub lower : List (List ℕ)
  pub upper : List (List ℕ)
  pub lower_children : List ℕ
  pub upper_children : List ℕ
  pub has : lower ++ separator.key.items ∷ upper ≡ seps
  pub leads : lower_children ++ upper_children ≡ below
  pub first : IsInnerAt shape after page lower lower_children
  pub second : IsInnerAt shape after separator.child upper upper_children
  pub full : (least_entries shape 1 ≤ length lower) × (least_entries shape 1 ≤ length upper)
  pub free : before separator.child ≡ None
  pub others : (n : ℕ) → n ≢ page → n ≢ separator.child → after n ≡ before n

-- one node has these separators and children, or two where there is a separator
abbrev pub HasAddedToInner : NodeShape → PageMap → PageMap → ℕ → List (List ℕ) → List ℕ → Option Separator
    → Type 0
HasAddedToInner shape before after page seps below None = HasInner shape before after page seps below
HasAddedToInner shape before after page seps below (Some separator) =
    HasInners shape before after page seps below separator

-- a separator is put before separator `place` of an inner node, with the child to its right
abbrev pub AddsToInner : NodeShape → ℕ → ℕ → Separator → Result (Option Separator) Fault → PageMap → PageMap
    → Type 0 → Type 0
AddsToInner shape page place new result before after is_sound =
    (seps : List (List ℕ)) (below : List ℕ) → IsInnerAt shape before page seps below → place ≤ length seps
    → IsAnswer result (λ separator. HasAddedToInner shape before after page
    (insert seps place new.key.items) (insert below (place + 1) new.child) separator × is_sound)

-- an inner node of one separator, between this child and that to which the separator leads
pub record IsRootOver (shape : NodeShape) (page : List ℕ) (left : ℕ) (separator : Separator) : Type 0 where
  pub inner : IsInner shape page
  pub has : separators shape page ≡ separator.key.items ∷ []
  pub leads : children shape page ≡ left ∷ separator.child ∷ []

-- a page that was free is such a node now, and every other page is as it was
pub record HasRoot (shape : NodeShape) (before after : PageMap) (left : ℕ) (separator : Separator)
    (root : ℕ) : Type 0 where
  pub free : before root ≡ None
  pub inner : IsInnerAt shape after root (separator.key.items ∷ []) (left ∷ separator.child ∷ [])
  pub others : (n : ℕ) → n ≢ root → after n ≡ before n

-- an inner node is written above two nodes
abbrev pub AddsRoot : NodeShape → ℕ → Separator → Result ℕ Fault → PageMap → PageMap → Type 0 → Type 0
AddsRoot shape left separator result before after is_sound =
    IsAnswer result (λ root. HasRoot shape before after left separator root × is_sound)
