use Rattle.std.proofs.Common.{◌∙◌}
use Rattle.std.proofs.lemmas.List.{length-map}
use Rattle.key_index.specs.Stored.{alt_bytes}
use Rattle.key_index.proofs.alt_index.AltIndex.count.Goals as goal

pub returns : goal.returns
returns c pages entries own stands = c.count.ensures ∙ stands.tree.count ∙ length-map entries alt_bytes
