use Rattle.std.proofs.Common.{◌≡◌, ◌≤◌, ◌-◌, drop, List, ℕ, [], slice_index_or}
use Rattle.std.specs.Option.{option_copied}
use Rattle.tree_node.specs.Inner.{separators, children}
use Rattle.pages.specs.PageList.{pages_in}
use Rattle.pages.specs.Each.{Each}
use Rattle.page_walks.specs.Spots.{IsLeafThere, spots_in}
use Rattle.page_walks.specs.TreeAhead.{RowAhead, TreeAhead}
use Rattle.page_walks.specs.TreeWalk.{WalkedFront, bound_at, reach_of}
use Rattle.page_walks.specs.TreeFaults.{MarksFront, node_place}
use Rattle.page_walks.proofs.tree_walk.+walk_below.Given as goal

abbrev pub invariant-children : goal.invariant-children
invariant-children g l = record {
  within : l.i ≤ l.count;
  before : (list : List (List ℕ)) → g.P.PageSource.has l.pages list → g.P.PageSource.has l.initial.pages list;
  low : (list : List (List ℕ)) → g.P.PageSource.has l.pages list
      → option_copied l.low ≡ bound_at (option_copied l.fn.limits.low) (separators l.shape (slice_index_or list l.page [])) l.i;
  front : (list : List (List ℕ)) → g.P.PageSource.has l.pages list
      → WalkedFront l.shape (pages_in list) (l.levels - 1) (option_copied l.fn.limits.low) (separators l.shape (slice_index_or list l.page [])) (children l.shape (slice_index_or list l.page [])) l.i
      (reach_of l.shape list l.initial.reached (spots_in l.initial.leaves.items)) (reach_of l.shape list l.reached (spots_in l.leaves.items));
  marks : (list : List (List ℕ)) → g.P.PageSource.has l.pages list
      → MarksFront l.shape list (node_place l.fn.levels l.fn.page l.fn.limits) l.i l.fn.reached l.reached;
  there : (list : List (List ℕ)) → g.P.PageSource.has l.pages list
      → Each (IsLeafThere l.shape list) l.initial.leaves.items → Each (IsLeafThere l.shape list) l.leaves.items;
  ahead : (list : List (List ℕ)) → g.P.PageSource.has l.pages list
      → TreeAhead l.shape (pages_in list) l.levels l.page l.fn.limits.least (option_copied l.fn.limits.low) (option_copied l.fn.limits.high) l.fn.reached
      → RowAhead l.shape (pages_in list) (l.levels - 1) (bound_at (option_copied l.fn.limits.low) (separators l.shape (slice_index_or list l.page [])) l.i)
      (drop l.i (separators l.shape (slice_index_or list l.page []))) (drop l.i (children l.shape (slice_index_or list l.page []))) (option_copied l.fn.limits.high) l.reached;
}

abbrev pub decreases-children : goal.decreases-children
decreases-children g l = l.count - l.i

abbrev pub decreases-walk_below : goal.decreases-walk_below
decreases-walk_below g l = l.levels
