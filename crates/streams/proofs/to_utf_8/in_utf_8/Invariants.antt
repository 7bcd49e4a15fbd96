use Rattle.std.proofs.Common.{◌≡◌, ◌++◌, length}
use Rattle.streams.specs.InUtf8.{in_utf_8}
use Rattle.streams.proofs.to_utf_8.in_utf_8.Given as goal

-- what is left in UTF-8 stands behind what was added
abbrev pub invariant-more : goal.invariant-more
invariant-more l = l.encoded.items ++ in_utf_8 l.backslashes l.rest ≡ in_utf_8 l.backslashes l.fn.text

abbrev pub decreases-more : goal.decreases-more
decreases-more l = length l.rest
