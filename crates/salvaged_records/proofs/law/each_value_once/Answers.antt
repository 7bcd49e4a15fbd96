use Rattle.salvaged_records.proofs.OnceLemmas.{each_once}
use Rattle.salvaged_records.proofs.law.each_value_once.Goals as goal

pub returns : goal.returns
returns c = each_once
