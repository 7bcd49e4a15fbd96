use Rattle.std.proofs.Common.{ap, sym, ◌∙◌, Some}
use Rattle.tree_search.proofs.descent.find_in.Goals as goal

pub returns-then-not-has_key : goal.returns-then-not-has_key
returns-then-not-has_key c rises =
    let place = c.rank-place.ensures.rank rises in
    record { rank = place; found = sym ((c.has_key.ensures.key rises place).absent c.if-not-has_key.true) }

pub returns : goal.returns
returns c rises =
    let place = c.rank-place.ensures.rank rises in
    record { rank = place; found = ap Some (c.entry_with.ensures ∙ c.entry.ensures.value) ∙ sym ((c.has_key.ensures.key rises place).present c.if-not-has_key.false) }
