use Rattle.std.proofs.Common.{◌≡◌, ◌+◌, ◌++◌, length, map, string_bytes}
use Rattle.record_layout.specs.Layout.{item_of}
use Rattle.deck_listing.specs.Listing.{key_lines}
use Rattle.deck_listing.proofs.listing.add_keys.Given as goal

-- what is written, with the lines of the keys that are left
abbrev pub invariant-more : goal.invariant-more
invariant-more l =
    (string_bytes l.text ++ key_lines (map item_of l.fn.items) l.k l.rest ≡ string_bytes l.fn.text ++ key_lines (map item_of l.fn.items) 0 l.fn.keys)
    × (l.k + length l.rest ≡ length l.fn.keys)

abbrev pub decreases-more : goal.decreases-more
decreases-more l = length l.rest
