use Rattle.std.proofs.Common.{◌∙◌, sym}
use Rattle.deck_reader.proofs.PlaceLemmas.{added}
use Rattle.deck_reader.proofs.names.add_place.Goals as goal

pub returns : goal.returns
returns c = added c.args.name.now c.args.place c.args.places.now c.insert.new.self c.in_ok-insert.ensures.updates (sym c.contains_key.ensures ∙ c.if-contains_key.false)
