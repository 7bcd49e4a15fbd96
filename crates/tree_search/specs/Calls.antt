-- What look-ups ensure.
use Rattle.std.specs.Prelude.{◌≡◌, ℕ, not, List, [], ◌∷◌, Some, None, take, find, bytes_eq, Option, zero, suc}
use Rattle.std.specs.Prelude.{◌≤◌, length, ⊤}
use Rattle.tree_node.specs.declared.shape.NodeShape.{NodeShape}
use Rattle.tree_node.specs.Order.{less}
use Rattle.pages.specs.PageMap.{PageMap}
use Rattle.tree_search.specs.Tree.{TreeOf, page_of, pages_of, Bound, IsOrdered}
use Rattle.tree_search.specs.Stored.{Holds}
use Rattle.pages.specs.Owners.{AreApart}
use Rattle.pages.specs.Each.{Each}
use Rattle.tree_node.specs.Fill.{least_entries}

-- how many entries the root has, or separators
abbrev pub size_of : (h : ℕ) → TreeOf h → ℕ
size_of zero t = length t.1
size_of (suc h) t = length t.1

-- every node below the root is at least half full
abbrev pub IsHalfFull : NodeShape → (h : ℕ) → TreeOf h → Type 0
IsHalfFull shape zero t = ⊤
IsHalfFull shape (suc h) t = Each (λ c. (least_entries shape h ≤ size_of h c) × IsHalfFull shape h c) t.2

-- and an inner root has a separator
abbrev pub IsRooted : (h : ℕ) → TreeOf h → Type 0
IsRooted zero t = ⊤
IsRooted (suc h) t = 1 ≤ length t.1

-- the entry of this key, where there is one
abbrev pub entry_of : ℕ → List ℕ → List (List ℕ) → Option (List ℕ)
entry_of width key = find (λ e. bytes_eq (take width e) key)

-- the first entry whose key is not below this one
abbrev pub first_from : ℕ → List ℕ → List (List ℕ) → Option (List ℕ)
first_from width key = find (λ e. not (less (take width e) key))

-- the first entry whose key is above this one
abbrev pub first_after : ℕ → List ℕ → List (List ℕ) → Option (List ℕ)
first_after width key = find (λ e. less key (take width e))

-- the last of these, if there is any
abbrev pub last_of : {X : Type 0} → List X → Option X
last_of [] = None
last_of (x ∷ []) = Some x
last_of (x ∷ (y ∷ ys)) = last_of (y ∷ ys)

-- a tree with h levels above its leaves stands below this page, within these bounds
pub record IsTree (shape : NodeShape) (pages : PageMap) (h page : ℕ) (low high : Bound)
    (t : TreeOf h) : Type 0 where
  pub holds : Holds shape pages h t
  pub root : page_of h t ≡ page
  pub ordered : IsOrdered shape.width h low high t

-- no page stands twice in it, and its nodes are filled
pub record IsWhole (shape : NodeShape) (pages : PageMap) (h page : ℕ) (low high : Bound)
    (t : TreeOf h) : Type 0 where
  pub stands : IsTree shape pages h page low high t
  pub apart : AreApart (pages_of h t)
  pub filled : IsHalfFull shape h t
  pub rooted : IsRooted h t
