use Rattle.std.proofs.Common.{◌∷◌, [], ◌++◌, length, map, sym, ap, ◌∙◌, arith}
use Rattle.open_file.specs.FirstPageReading.{tree_in}
use Rattle.open_file.proofs.KeyRowLemmas.{row_none, read_more}
use Rattle.open_file.proofs.key_rows.trees_in.Goals as goal

pub loop-k-init : goal.loop-k-init
loop-k-init c = (c.new-trees.ensures ∙ ap (map tree_in) (sym (row_none c.args.page.now)), ap length c.new-trees.ensures)

pub loop-k-preserved : goal.loop-k-preserved
loop-k-preserved c =
    let more = read_more tree_in c.args.page.now c.loop-k.k in
    (c.push.ensures.items ∙ (λ i. (c.loop-k.invariant.0 i) ++ (c.tree_in.ensures i) ∷ []) ∙ sym more, omega (arith, c.push.ensures.len, c.loop-k.invariant.1))
