use Rattle.std.proofs.Common.{rules, ◌≡◌, ℕ, List, [], sym, ap, ◌∙◌}
use Rattle.record_loading.specs.Passing.{behind_lines}
use Rattle.record_loading.proofs.PassingLemmas.{no_line, empty_is}
use Rattle.record_loading.proofs.passing.behind_lines.Goals as goal

-- no line is left
pub returns-else-not-is_empty : goal.returns-else-not-is_empty
returns-else-not-is_empty c =
    let none : c.more.rest.now ≡ [] = empty_is c.more.rest.now (search rules) in
    none ∙ sym (c.more.invariant ∙ ap (λ (l : List ℕ). behind_lines c.more.left l) none ∙ no_line c.more.left)
