-- The page of a new tree.
use Rattle.std.specs.Prelude.{◌≡◌, ◌≢◌, ℕ, [], Result, IsTrue, IsSome}
use Rattle.io_state.specs.declared.fault.Fault.{Fault}
use Rattle.tree_node.specs.declared.shape.NodeShape.{NodeShape}
use Rattle.pages.specs.PageMap.{PageMap}
use Rattle.tree_search.specs.Stored.{IsLeafAt}
use Rattle.pages.specs.Answer.{IsAnswer}
use Rattle.pages.specs.ShownPages.{ShownPages}
use Rattle.bplus_tree.specs.Changes.{KeepsSound, EditsPages}

-- a leaf without entries stands there now, and every other page is as it was
pub record HasStarted (shape : NodeShape) (before after : PageMap) (page : ℕ) : Type 0 where
  pub leaf : IsLeafAt shape after page []
  pub others : (n : ℕ) → n ≢ page → after n ≡ before n

abbrev pub Starts : NodeShape → PageMap → PageMap → ℕ → Result Unit Fault → Type 0
Starts shape before after page result = IsSome (before page)
    → IsAnswer result (λ done. HasStarted shape before after page)

-- a call that writes such a leaf, and what it keeps, at a fault too
pub record StartsInPages {S : Type 0} (shown : ShownPages S) (shape : NodeShape) (page : ℕ) (old new : S)
    (result : Result Unit Fault) : Type 0 where
  pub started : IsTrue (shown.state new).is_honest
      → Starts shape (shown.state old).live (shown.state new).live page result
  pub sound : KeepsSound shown page old new
  pub writes : EditsPages shown 1 old new result
