use Rattle.record_text.proofs.PaddedLemmas.{by_move}
use Rattle.record_text.proofs.padded_value.padded_by_move.Goals as goal

pub returns : goal.returns
returns c = by_move
