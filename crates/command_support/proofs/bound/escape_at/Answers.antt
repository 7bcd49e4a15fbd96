use Rattle.std.proofs.Common.{rules, ◌≡◌, slice_index_or, sym, ◌∙◌}
use Rattle.command_support.proofs.BoundLemmas.{escape_in_front}
use Rattle.command_support.proofs.bound.escape_at.Goals as goal

pub returns-in-Some-clause-some : goal.returns-in-Some-clause-some
returns-in-Some-clause-some c =
    let first : slice_index_or c.args.text.now 0 0 ≡ 92 = search rules in
    escape_in_front c.args.text.now c.in-Some.byte c.in-len3-up.len_at_least first (sym c.byte_of.ensures ∙ c.in-Some.is)
