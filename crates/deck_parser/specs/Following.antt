-- Rules that depend on the value of the rule before them.
use Rattle.std.specs.Prelude.{Bool, ◌&&◌, if◌then◌else◌, List, ◌++◌, Some, None, option_and_then}
use Rattle.deck_parser.specs.Class.{all_apart}
use Rattle.deck_parser.specs.Rule.{Rule, where_it_gives, stop_behind}
use Rattle.deck_parser.specs.Word.{Word}

-- the first rule, and then the one that its value gives, whose value counts; that one looks ahead
-- as the sample's does
abbrev pub followed : {A B : Type 0} → A → Rule A → (A → Rule B) → Rule B
followed sample p q = record {
  Spells = λ y words rest. (x : _) × (middle : List Word) × p.Spells x words middle
      × (q x).Spells y middle rest;
  reads = λ words. option_and_then (λ a. (q a.0).reads a.1) (p.reads words);
  stops = λ words. stop_behind (p.reads words) (p.stops words) (λ a. (q a.0).stops a.1);
  starts = if p.may_be_empty then p.starts ++ (q sample).starts else p.starts;
  goes_on = if (q sample).may_be_empty then (q sample).goes_on ++ p.goes_on else (q sample).goes_on;
  may_be_empty = p.may_be_empty && (q sample).may_be_empty;
  is_fit = p.is_fit && ((q sample).is_fit && all_apart (q sample).starts p.goes_on);
}

-- a rule where it is allowed; code 5 where it is not
abbrev pub where_allowed : {A : Type 0} → Bool → Rule A → Rule A
where_allowed allowed p = where_it_gives (λ x. if allowed then Some x else None) p
