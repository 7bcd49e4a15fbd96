-- The words of operands that are neither names nor literals: signs, and numbers.
use Rattle.std.specs.Prelude.{ℕ, List, length, nat_le, if◌then◌else◌, Some, None}
use Rattle.deck_parser.specs.Class.{signs, numbers}
use Rattle.deck_parser.specs.Rule.{Rule, one, where_it_gives, where_it_gives_or}

-- this sign
unfoldable pub sign : List ℕ → Rule (Unit {0})
sign text = where_it_gives (λ _. Some tt) (one (signs text))

-- ours: a number has at most 18 digits; code 6 for more
unfoldable pub digits : Rule (List ℕ)
digits = where_it_gives_or (λ _. 6) (λ text. if nat_le (length text) 18 then Some text else None) (one numbers)
