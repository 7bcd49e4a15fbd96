use Rattle.std.proofs.Common.{◌∙◌, sym, ap, ◌++◌}
use Rattle.deck_runner.proofs.LineLemmas.{shown_plain}
use Rattle.deck_runner.proofs.line.append_bytes.Goals as goal

pub returns-then-are_plain-clause-text : goal.returns-then-are_plain-clause-text
returns-then-are_plain-clause-text c =
    c.append.ensures ∙ ap (λ bytes. c.args.line.now.items ++ bytes) (sym (shown_plain c.args.bytes.now (sym c.are_plain.ensures ∙ c.if-are_plain.true)))
