use Rattle.std.proofs.Common.{◌≤◌, ◌<◌, length, List, ℕ, arith, sym, ap, ◌∙◌, bytes_eq}
use Rattle.tree_node.specs.Leaf.{leaf_entries}
use Rattle.tree_search.proofs.FindLemmas.{found_past, found_at, missed_at}
use Rattle.tree_search.proofs.descent.has_key.Goals as goal

pub returns-then-place-count-clause-key : goal.returns-then-place-count-clause-key
returns-then-place-count-clause-key c rises rank =
    let es = leaf_entries c.args.shape c.args.page.now in
    let past : length es ≤ c.args.place = omega arith in
    record { present = λ h. cc h; absent = λ h. found_past c.args.shape.width c.args.key.now es c.args.place rank past }

pub returns-clause-key : goal.returns-clause-key
returns-clause-key c rises rank =
    let es = leaf_entries c.args.shape c.args.page.now in
    let inside : c.args.place < length es = omega arith in
    let is = c.eq.ensures ∙ ap (λ (k : List ℕ). bytes_eq k c.args.key.now) c.key.ensures.value in
    record {
      present = λ yes. found_at c.args.shape.width c.args.key.now es c.args.place rank inside (sym is ∙ yes);
      absent = λ no. missed_at c.args.shape.width c.args.key.now es c.args.place rank rises inside (sym is ∙ no);
    }
