use Rattle.record_text.proofs.ItemLemmas.{elementary}
use Rattle.record_text.proofs.items.elementary_items.Goals as goal

pub returns : goal.returns
returns c = elementary
