use Rattle.std.proofs.Common.{Some, ap}
use Rattle.key_index.proofs.FirstLemmas.{first_told, fault_told}
use Rattle.key_index.proofs.alt_index.AltIndex.fill_first.Goals as goal

pub returns-clause-told : goal.returns-clause-told
returns-clause-told c e fits same = first_told _ e c.args.followed _ (c.decode_into.ensures.told (Some e) fits (ap Some same))

pub returns-clause-damage : goal.returns-clause-damage
returns-clause-damage c = fault_told _ _ c.decode_into.ensures.damage
