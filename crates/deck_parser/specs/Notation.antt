-- How rules are written: as in the grammar's own notation.
use Rattle.std.specs.Prelude.{ℕ, Bool, true, false, not, ◌&&◌, ◌⊎◌, if◌then◌else◌, List, ◌++◌, Option, Some}
use Rattle.std.specs.Prelude.{None, is_some}
use Rattle.deck_parser.specs.Class.{this, names, literals, periods, begins, all_apart}
use Rattle.deck_parser.specs.Rule.{Rule, one, in_turn, optional, where_it_gives}

-- this word
unfoldable pub the : List ℕ → Rule (Unit {0})
the text = where_it_gives (λ _. Some tt) (one (this text))

unfoldable pub name : Rule (List ℕ)
name = one names

unfoldable pub literal : Rule (List ℕ)
literal = one literals

unfoldable pub period : Rule (Unit {0})
period = where_it_gives (λ _. Some tt) (one periods)

-- the first rule, and then the second, whose value counts
infixr 6 ◌▸◌
abbrev pub ◌▸◌ : {A B : Type 0} → Rule A → Rule B → Rule B
p ▸ q = in_turn (λ _ y. y) p q

-- the first rule, whose value counts, and then the second
infixr 6 ◌◂◌
abbrev pub ◌◂◌ : {A B : Type 0} → Rule A → Rule B → Rule A
p ◂ q = in_turn (λ x _. x) p q

-- the first rule and then the second, and both values
infixr 6 ◌⊗◌
abbrev pub ◌⊗◌ : {A B : Type 0} → Rule A → Rule B → Rule (A × B)
p ⊗ q = in_turn (λ x y. (x, y)) p q

-- one of the two
infixr 5 ◌∣◌
abbrev pub ◌∣◌ : {A : Type 0} → Rule A → Rule A → Rule A
p ∣ q = record {
  Spells = λ x words rest. p.Spells x words rest ⊎ q.Spells x words rest;
  reads = λ words. if begins p.starts words then p.reads words else q.reads words;
  stops = λ words. if begins p.starts words then p.stops words else q.stops words;
  starts = p.starts ++ q.starts;
  goes_on = p.goes_on ++ q.goes_on;
  may_be_empty = q.may_be_empty;
  is_fit = p.is_fit && (q.is_fit && (not p.may_be_empty
      && (not q.may_be_empty && all_apart q.starts p.starts)));
}

-- what a function makes of a rule's value
infixr 4 ◌<$>◌
abbrev pub ◌<$>◌ : {A B : Type 0} → (A → B) → Rule A → Rule B
f <$> p = where_it_gives (λ x. Some (f x)) p

-- whether it is there
abbrev pub is_word_there : Option (Unit {0}) → Bool
is_word_there there = is_some there

-- what was read of a word that may be left out
abbrev pub eaten : Bool → Option (Unit {0})
eaten true = Some tt
eaten false = None

-- a word that may be left out
abbrev pub may : List ℕ → Rule (Option (Unit {0}))
may text = optional (the text)
