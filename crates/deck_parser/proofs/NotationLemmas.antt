-- The steps that read one word are read as they are spelled.
use Rattle.std.proofs.Common.{◌≡◌, ℕ, Bool, true, false, refl, List}
use Rattle.deck_parser.specs.Class.{this, names, literals, periods}
use Rattle.deck_parser.specs.Notation.{the, name, literal, period, is_word_there, eaten}
use Rattle.deck_parser.proofs.RuleLemmas.{Lawful, lawful_one, lawful_turn, lawful_optional, lawful_either, lawful_as, lawful_unless}
use Rattle.deck_parser.proofs.RepeatLemmas.{lawful_onto, lawful_some}

pub lawful_the : (text : List ℕ) → Lawful (the text)
unfolding the
lawful_the text = lawful_as _ _ _ (lawful_one (this text))

pub lawful_name : Lawful name
unfolding name
lawful_name = lawful_one names

pub lawful_literal : Lawful literal
unfolding literal
lawful_literal = lawful_one literals

pub lawful_period : Lawful period
unfolding period
lawful_period = lawful_as _ _ _ (lawful_one periods)

pub ruleset steps = (lawful_the, lawful_name, lawful_literal, lawful_period, lawful_one, lawful_turn, lawful_optional, lawful_either, lawful_unless, lawful_onto, lawful_some, lawful_as)

pub there_eaten : (b : Bool) → is_word_there (eaten b) ≡ b
there_eaten true = refl
there_eaten false = refl
