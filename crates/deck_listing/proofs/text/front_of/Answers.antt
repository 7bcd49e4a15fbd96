use Rattle.deck_listing.proofs.TextLemmas.{front}
use Rattle.deck_listing.proofs.text.front_of.Goals as goal

pub returns-in-Some-split_at_checked-clause-front : goal.returns-in-Some-split_at_checked-clause-front
returns-in-Some-split_at_checked-clause-front c =
    front _ c.in-Some-rposition.end (rw c.in-Some-split_at_checked.front-is at c.in-Some-split_at_checked.ensures.front)
