use Rattle.std.proofs.Common.{◌≡◌, ◌+◌, length, take}
use Rattle.page_walks.specs.Spots.{spots_in}
use Rattle.page_walks.proofs.leaf.have_entries.Given as goal

abbrev pub invariant-loop-leaf : goal.invariant-loop-leaf
invariant-loop-leaf l = length (spots_in (take l.leaf-index l.leaves)) + l.left ≡ l.fn.count
