-- Signs and numbers are read as they are spelled.
use Rattle.std.proofs.Common.{ℕ, List}
use Rattle.deck_parser.specs.Class.{signs, numbers}
use Rattle.deck_parser.specs.Operand.{sign, digits}
use Rattle.deck_parser.proofs.RuleLemmas.{Lawful, lawful_one, lawful_as}

pub lawful_sign : (text : List ℕ) → Lawful (sign text)
unfolding sign
lawful_sign text = lawful_as _ _ _ (lawful_one (signs text))

pub lawful_digits : Lawful digits
unfolding digits
lawful_digits = lawful_as _ _ _ (lawful_one numbers)
