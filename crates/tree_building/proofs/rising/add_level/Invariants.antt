use Rattle.std.proofs.Common.{◌≡◌, ◌+◌, ◌-◌, ◌≤◌, ℕ, List, length, take, flat_map, IsTrue}
use Rattle.tree_node.specs.Inner.{inner_room}
use Rattle.pages.specs.Owners.{AreApart}
use Rattle.tree_search.specs.Tree.{TreeOf, pages_of}
use Rattle.tree_building.specs.Fresh.{KeepsInUse}
use Rattle.tree_building.specs.Level.{HaveWidth, IsLevel}
use Rattle.tree_building.proofs.RisingLemmas.{RisesSoFar}
use Rattle.tree_building.proofs.CountLemmas.{AreShared}
use Rattle.tree_building.proofs.rising.add_level.Given as goal

-- the children that are left
abbrev pub decreases-loop-at : goal.decreases-loop-at
decreases-loop-at g l = length l.nodes - l.at

-- nodes stand over the first `at`
abbrev pub invariant-loop-at : goal.invariant-loop-at
invariant-loop-at g l = record {
  goes : g.P.Pages.shown.Writes l.fn.pages l.pages;
  few : (g.P.Pages.shown.state l.pages).available ≤ (g.P.Pages.shown.state l.fn.pages).available;
  shared : AreShared (length l.fn.nodes) (inner_room l.fn.shape + 1) l.at (length l.above.items);
  width : HaveWidth l.fn.shape l.above.items;
  taken : (g.P.Pages.shown.state l.pages).available + length l.above.items ≡ (g.P.Pages.shown.state l.fn.pages).available;
  made : IsTrue (g.P.Pages.shown.state l.pages).is_honest → IsTrue (g.P.Pages.shown.state l.fn.pages).is_sound
      → KeepsInUse (g.P.Pages.shown.state l.fn.pages).live (g.P.Pages.shown.state l.pages).live
      × IsTrue (g.P.Pages.shown.state l.pages).is_sound
      × ((h : ℕ) (trees : List (TreeOf h)) → IsLevel l.fn.shape (g.P.Pages.shown.state l.fn.pages).live h l.fn.nodes trees
      → AreApart (flat_map (pages_of h) trees)
      → RisesSoFar l.fn.shape (g.P.Pages.shown.state l.fn.pages).live (g.P.Pages.shown.state l.pages).live h (length l.fn.nodes) l.at (take l.at trees) l.above.items);
}
