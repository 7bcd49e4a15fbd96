-- A deck that is parted twice has a place between the two cuts.
use Rattle.std.proofs.Common.{◌≡◌, ◌+◌, ℕ, List, ◌++◌, refl}
use Rattle.deck_listing.specs.Place.{line_feeds, IsTextAtLine}

pub stands : (before text rest : List ℕ) {deck behind : List ℕ} {feeds : ℕ} → before ++ behind ≡ deck → text ++ rest ≡ behind
    → feeds ≡ line_feeds before → IsTextAtLine deck (feeds + 1) text
stands before text rest whole tail counted = (before, rest, rw (tail, whole) refl, rw (counted) refl)
