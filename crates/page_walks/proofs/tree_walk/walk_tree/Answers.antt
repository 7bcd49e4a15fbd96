use Rattle.std.proofs.Common.{◌≡◌, ℕ, ap, List, length, min, [], None, refl, sym, ◌∙◌, subst, arith}
use Rattle.bplus_tree.specs.Fields.{tree_count, tree_levels, tree_root, tree_shape}
use Rattle.page_walks.specs.declared.leaf.Leaf.{Leaf}
use Rattle.page_walks.specs.Spots.{spots_in}
use Rattle.page_walks.proofs.WalkLemmas.{whole_tree}
use Rattle.std.proofs.lemmas.Bool.{false≢true}
use Rattle.pages.specs.PageList.{pages_in}
use Rattle.pages.proofs.RefusedLemmas.{handed_on, refused}
use Rattle.page_walks.specs.TreeAhead.{TreeAhead, TreeUnmarked}
use Rattle.page_walks.specs.TreeWalk.{reach_of}
use Rattle.page_walks.proofs.TreeAheadLemmas.{whole_ahead, whole_count}
use Rattle.pages.specs.declared.fault_place.FaultPlace.TheVariants.{Page}
use Rattle.pages.specs.declared.damage.Damage.TheVariants.{Index}
use Rattle.page_walks.specs.TreeFaults.{IsSomewhereBelow, IsTreeFault, root_place}
use Rattle.pages.proofs.ToldLemmas.{tells_on, told}
use Rattle.page_walks.proofs.TreeFaultLemmas.{in_tree, other_count}
use Rattle.page_walks.proofs.tree_walk.walk_tree.Goals as goal

pub returns-clause-walked : goal.returns-clause-walked
returns-clause-walked g c = λ list has.
    let tree = c.args.tree.now in
    let leaves = c.walk_below.new.leaves.items in
    let many : length (spots_in leaves) ≡ tree_count tree =
    subst (λ (ls : List Leaf). length (spots_in ls) ≡ tree_count tree) c.deref.ensures.value (c.if-not-have_entries.ensures.0 refl ∙ c.count.ensures) in
    whole_tree tree list c.least_in_root.result c.args.reached.now c.walk_below.new.reached (spots_in leaves)
    (λ some. (let is : c.least_in_root.result ≡ min c.levels.result 1 = c.least_in_root.ensures in let e : c.levels.result ≡ tree_levels tree = c.levels.ensures in omega arith))
    (rw (c.new-leaves.ensures.items, c.shape.ensures, c.levels-2.ensures, c.root.ensures) at (c.in_ok-walk_below.ensures.walked list has)) many

pub returns-clause-there : goal.returns-clause-there
returns-clause-there g c = λ list has. (rw (c.new-leaves.ensures.items, c.shape.ensures) at (c.in_ok-walk_below.ensures.there list has)) tt

pub returns-in_err-walk_below-clause-refused : goal.returns-in_err-walk_below-clause-refused
returns-in_err-walk_below-clause-refused g c = λ list has.
    let tree = c.args.tree.now in
    handed_on (TreeAhead (tree_shape tree) (pages_in list) (tree_levels tree) (tree_root tree) c.least_in_root.result None None c.args.reached.now) (TreeUnmarked tree list c.args.reached.now)
    c.from_residual.result _ c.from_residual.ensures.1
    (whole_ahead tree list c.least_in_root.result c.args.reached.now (let is : c.least_in_root.result ≡ min c.levels.result 1 = c.least_in_root.ensures in let e : c.levels.result ≡ tree_levels tree = c.levels.ensures in omega arith))
    (rw (c.shape.ensures, c.levels-2.ensures, c.root.ensures) at (c.in_err-walk_below.ensures.refused list has))

pub returns-then-not-have_entries-clause-refused : goal.returns-then-not-have_entries-clause-refused
returns-then-not-have_entries-clause-refused g c = λ list has.
    let tree = c.args.tree.now in
    let leaves = c.walk_below.new.leaves.items in
    refused (TreeUnmarked tree list c.args.reached.now) c.of_page.result _ _ c.of_page.ensures
    (λ a. false≢true (c.if-not-have_entries.ensures.1 (subst (λ (ls : List Leaf). length (spots_in ls) ≡ c.count.result) (sym c.deref.ensures.value)
    (whole_count tree list c.least_in_root.result c.args.reached.now (reach_of (tree_shape tree) list c.args.reached.now []) (reach_of (tree_shape tree) list c.walk_below.new.reached (spots_in leaves))
    (spots_in leaves) refl refl (rw (c.new-leaves.ensures.items, c.shape.ensures, c.levels-2.ensures, c.root.ensures) at (c.in_ok-walk_below.ensures.walked list has)) a ∙ sym c.count.ensures))))

pub returns-clause-marks : goal.returns-clause-marks
returns-clause-marks g c = λ list has.
    let tree = c.args.tree.now in
    let least : c.least_in_root.result ≡ min (tree_levels tree) 1 = c.least_in_root.ensures ∙ ap (λ (n : ℕ). min n 1) c.levels.ensures in
    rw (c.shape.ensures, c.levels-2.ensures, c.root.ensures, least) at (c.in_ok-walk_below.ensures.marks list has)

pub returns-in_err-walk_below-clause-told : goal.returns-in_err-walk_below-clause-told
returns-in_err-walk_below-clause-told g c = λ list has.
    let tree = c.args.tree.now in
    let least : c.least_in_root.result ≡ min (tree_levels tree) 1 = c.least_in_root.ensures ∙ ap (λ (n : ℕ). min n 1) c.levels.ensures in
    tells_on (IsSomewhereBelow (tree_shape tree) list (root_place tree) c.args.reached.now) (IsTreeFault tree list c.args.reached.now) c.from_residual.result _ c.from_residual.ensures.1
    (in_tree tree list c.args.reached.now) (rw (c.shape.ensures, c.levels-2.ensures, c.root.ensures, least) at (c.in_err-walk_below.ensures.told list has))

pub returns-then-not-have_entries-clause-told : goal.returns-then-not-have_entries-clause-told
returns-then-not-have_entries-clause-told g c = λ list has.
    let tree = c.args.tree.now in
    let leaves = c.walk_below.new.leaves.items in
    told (IsTreeFault tree list c.args.reached.now) c.of_page.result Index (Page c.root-then-not-have_entries.result) c.of_page.ensures (
      ap Page c.root-then-not-have_entries.ensures,
      other_count tree list c.least_in_root.result c.args.reached.now c.walk_below.new.reached (spots_in leaves)
          (λ some. (let is : c.least_in_root.result ≡ min c.levels.result 1 = c.least_in_root.ensures in let e : c.levels.result ≡ tree_levels tree = c.levels.ensures in omega arith))
          (rw (c.new-leaves.ensures.items, c.shape.ensures, c.levels-2.ensures, c.root.ensures) at (c.in_ok-walk_below.ensures.walked list has))
          (λ same. false≢true (c.if-not-have_entries.ensures.1 (subst (λ (ls : List Leaf). length (spots_in ls) ≡ c.count.result) (sym c.deref.ensures.value) (same ∙ sym c.count.ensures)))),
    )
