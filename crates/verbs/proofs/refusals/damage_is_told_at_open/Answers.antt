use Rattle.verbs.proofs.MarredLemmas.{told_damage}
use Rattle.verbs.proofs.refusals.damage_is_told_at_open.Goals as goal

pub returns : goal.returns
returns c statement n s outcome step damaged = told_damage statement n s outcome step damaged
