use Rattle.deck_listing.proofs.PlaceLemmas.{stands}
use Rattle.deck_listing.proofs.place.place_of.Goals as goal

pub returns-clause-place : goal.returns-clause-place
returns-clause-place c = stands _ _ _ c.parted.ensures.whole c.parted-2.ensures.whole c.line_feeds.ensures
