use Rattle.std.proofs.Common.{◌∙◌}
use Rattle.explanations.proofs.TableLemmas.{same_text}
use Rattle.explanations.proofs.lookup.text_in.Goals as goal

pub returns : goal.returns
returns c = c.text_of.ensures ∙ same_text c.args.rows.now c.args.number.now
