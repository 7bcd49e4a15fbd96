use Rattle.std.proofs.Common.{◌∷◌, [], ◌++◌, ◌∙◌, ap, List}
use Rattle.pages.proofs.RefusedLemmas.{handed_on}
use Rattle.page_walks.specs.declared.level.Level.{Level}
use Rattle.page_walks.specs.Levels.{HasTreeBelow}
use Rattle.page_walks.specs.Rows.{AreNodes, levels_in}
use Rattle.page_walks.proofs.TreeLemmas.{tree_rows, tree_few, counts_are}
use Rattle.page_walks.proofs.levels.count_tree.Goals as goal

pub returns-in_err-leaves-clause-refused : goal.returns-in_err-leaves-clause-refused
returns-in_err-leaves-clause-refused g c = λ list has.
    handed_on (AreNodes c.args.shape list c.args.height (c.args.root ∷ [])) (HasTreeBelow c.args.shape list c.args.height c.args.root) c.from_residual.result _ c.from_residual.ensures.1
    (λ tree. (tree_rows c.args.shape list c.args.height c.args.root tree.0 tree.1).nodes)
    (c.in_err-leaves.ensures.added list has).refused

pub returns-clause-counted : goal.returns-clause-counted
returns-clause-counted g c = λ list has tree is.
    let added = c.in_ok-leaves.ensures.added list has in
    counts_are c.args.shape list c.args.height c.args.root tree (record { levels = c.add_tree.new.levels; leaves = c.in_ok-leaves.leaves }) is
    (added.levels (tree_few c.args.shape list c.args.height c.args.root tree is)
    ∙ ap (λ (front : List Level). front ++ levels_in c.args.shape list c.args.height (c.args.root ∷ [])) c.new-levels.ensures.items)
    added.leaves
