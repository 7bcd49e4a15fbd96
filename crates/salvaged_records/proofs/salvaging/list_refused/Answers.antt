use Rattle.std.proofs.Common.{inr, refl}
use Rattle.salvaged_records.proofs.salvaging.list_refused.Goals as goal

pub list_refused_by-requires-in-Some-deck-clause-schema : goal.list_refused_by-requires-in-Some-deck-clause-schema
list_refused_by-requires-in-Some-deck-clause-schema g c = inr (c.in-None.ensures.none refl c.args.bytes.now c.pages_in-pages.ensures, c.in-Some-deck.is)

pub returns-in-None-deck-clause-ends : goal.returns-in-None-deck-clause-ends
returns-in-None-deck-clause-ends g c = (c.requires.refused, c.in-None.ensures.none refl c.args.bytes.now c.pages_in-pages.ensures, c.in-None-deck.is, refl, refl)
