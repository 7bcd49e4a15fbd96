-- The line in which the words of a rule begin.
use Rattle.std.specs.Prelude.{◌≡◌, ℕ, option_map}
use Rattle.deck_parser.specs.Rule.{Rule}
use Rattle.deck_parser.specs.Word.{first_line}

-- a rule's value, behind the line of the first of its words
abbrev pub with_line : {A : Type 0} → Rule A → Rule (ℕ × A)
with_line p = record {
  Spells = λ x words rest. (x.0 ≡ first_line words) × p.Spells x.1 words rest;
  reads = λ words. option_map (λ a. ((first_line words, a.0), a.1)) (p.reads words);
  stops = p.stops;
  starts = p.starts;
  goes_on = p.goes_on;
  may_be_empty = p.may_be_empty;
  is_fit = p.is_fit;
}
