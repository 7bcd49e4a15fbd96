-- Rules of a grammar: which words spell a value, and how the words are read. `Spells` is the
-- grammar; `reads` looks one word ahead, and `is_fit` says that this is enough. Where nothing is
-- read, `stops` says at which word the reading stops, and with which code.
use Rattle.std.specs.Prelude.{◌≡◌, ℕ, zero, suc, Bool, true, false, not, ◌&&◌, if◌then◌else◌, List, []}
use Rattle.std.specs.Prelude.{◌∷◌, ◌++◌, length, Option, Some, None, option_and_then, option_map, IsTrue}
use Rattle.std.specs.Prelude.{MatchOption}
use Rattle.deck_parser.specs.Class.{Class, is_in, begins, all_apart}
use Rattle.deck_parser.specs.Word.{Word}

-- where the reading of words stops: at the first of these words, and with this code
pub record Stop : Type 0 where
  pub words : List Word
  pub code : ℕ

abbrev pub stop_at : List Word → ℕ → Stop
stop_at words code = record { words = words; code = code }

-- the first stop where nothing is read, and else the one that follows what is read
abbrev pub stop_behind : {A : Type 0} → Option A → Stop → (A → Stop) → Stop
stop_behind None first later = first
stop_behind (Some read) first later = later read

-- a rule of the grammar, whose words spell a value
pub record Rule (A : Type 0) : Type 1 where
  -- the words, up to the rest, spell the value
  pub Spells : A → List Word → List Word → Type 0
  -- the value that is read, and the rest
  pub reads : List Word → Option (A × List Word)
  -- where the reading stops of words of which nothing is read
  pub stops : List Word → Stop
  -- the words that it may begin with
  pub starts : List Class
  -- the words that could go on where it may end
  pub goes_on : List Class
  pub may_be_empty : Bool
  -- one word of look-ahead is enough
  pub is_fit : Bool

-- ---- one word

abbrev pub reads_one : Class → List Word → Option (List ℕ × List Word)
reads_one class [] = None
reads_one class (word ∷ rest) = if is_in class word then Some (word.text, rest) else None

-- a word of a class, which says its text; code 2 at another word
abbrev pub one : Class → Rule (List ℕ)
one class = record {
  Spells = λ text words rest. (word : Word) × (words ≡ word ∷ rest) × IsTrue (is_in class word)
      × (text ≡ word.text);
  reads = reads_one class;
  stops = λ words. stop_at words 2;
  starts = class ∷ [];
  goes_on = [];
  may_be_empty = false;
  is_fit = true;
}

-- ---- one rule after another

abbrev pub in_turn : {A B C : Type 0} → (A → B → C) → Rule A → Rule B → Rule C
in_turn f p q = record {
  Spells = λ z words rest. (x : _) × (y : _) × (middle : List Word) × (z ≡ f x y)
      × p.Spells x words middle × q.Spells y middle rest;
  reads = λ words. option_and_then (λ a. option_map (λ b. (f a.0 b.0, b.1)) (q.reads a.1)) (p.reads words);
  stops = λ words. stop_behind (p.reads words) (p.stops words) (λ a. q.stops a.1);
  starts = if p.may_be_empty then p.starts ++ q.starts else p.starts;
  goes_on = if q.may_be_empty then q.goes_on ++ p.goes_on else q.goes_on;
  may_be_empty = p.may_be_empty && q.may_be_empty;
  is_fit = p.is_fit && (q.is_fit && all_apart q.starts p.goes_on);
}

-- ---- a rule that may be left out

abbrev pub optional : {A : Type 0} → Rule A → Rule (Option A)
optional p = record {
  Spells = λ x words rest. MatchOption x (words ≡ rest) (λ value. p.Spells value words rest);
  reads = λ words. if begins p.starts words
      then option_map (λ a. (Some a.0, a.1)) (p.reads words) else Some (None, words);
  stops = p.stops;
  starts = p.starts;
  goes_on = p.starts ++ p.goes_on;
  may_be_empty = true;
  is_fit = p.is_fit && not p.may_be_empty;
}

-- ---- a rule whose value passes a test, and another value for it

-- the value that a function gives for that of a rule, where it gives one; where it gives none, the
-- reading stops at the first word of the rule, with the code that the value has
abbrev pub where_it_gives_or : {A B : Type 0} → (A → ℕ) → (A → Option B) → Rule A → Rule B
where_it_gives_or code f p = record {
  Spells = λ y words rest. (x : _) × (f x ≡ Some y) × p.Spells x words rest;
  reads = λ words. option_and_then (λ a. option_map (λ y. (y, a.1)) (f a.0)) (p.reads words);
  stops = λ words. stop_behind (p.reads words) (p.stops words) (λ a. stop_at words (code a.0));
  starts = p.starts;
  goes_on = p.goes_on;
  may_be_empty = p.may_be_empty;
  is_fit = p.is_fit;
}

-- the same, with code 5: what is not allowed there
abbrev pub where_it_gives : {A B : Type 0} → (A → Option B) → Rule A → Rule B
where_it_gives f p = where_it_gives_or (λ _. 5) f p

-- ---- a rule that may be barred

-- a rule, unless it is barred: then the reading stops at the first of its words, with this code
abbrev pub unless_barred : {A : Type 0} → Bool → ℕ → Rule A → Rule A
unless_barred barred code p = record {
  Spells = λ x words rest. (barred ≡ false) × p.Spells x words rest;
  reads = λ words. if barred then None else p.reads words;
  stops = λ words. if barred then stop_at words code else p.stops words;
  starts = p.starts;
  goes_on = p.goes_on;
  may_be_empty = p.may_be_empty;
  is_fit = p.is_fit;
}

-- ---- where rules stop that are read one after another

-- each rule chosen by the value of the one before: the first of so many in which nothing is read
abbrev pub stops_further_from : {S : Type 0} → (S → Rule S) → ℕ → S → List Word → Stop
stops_further_from next zero s words = stop_at words 2
stops_further_from next (suc turns) s words = stop_behind ((next s).reads words) ((next s).stops words)
    (λ a. stops_further_from next turns a.0 a.1)

-- the same of one rule that is read again and again
abbrev pub stops_again_from : {A : Type 0} → Rule A → ℕ → List Word → Stop
stops_again_from p zero words = stop_at words 2
stops_again_from p (suc turns) words =
    stop_behind (p.reads words) (p.stops words) (λ a. stops_again_from p turns a.1)

abbrev pub stops_again : {A : Type 0} → Rule A → List Word → Stop
stops_again p words = stops_again_from p (suc (length words)) words

-- ---- one rule after another, each chosen by the value of the one before

-- the values that the rules spell in turn, from a first one on up to a last one
abbrev pub SpellsTurns : {S : Type 0} → (S → Rule S) → S → List S → S → List Word → List Word → Type 0
SpellsTurns next s [] t words rest = (s ≡ t) × (words ≡ rest)
SpellsTurns next s (u ∷ us) t words rest = (middle : List Word) × (next s).Spells u words middle
    × SpellsTurns next u us t middle rest

abbrev pub reads_further_from : {S : Type 0} → (S → Rule S) → ℕ → S → List Word → Option (S × List Word)
reads_further_from next zero s words = Some (s, words)
reads_further_from next (suc turns) s words = if begins (next s).starts words then option_and_then
    (λ a. reads_further_from next turns a.0 a.1) ((next s).reads words) else Some (s, words)

-- once or more: the value of the last rule
abbrev pub each_behind : {S : Type 0} → (S → Rule S) → S → Rule S
each_behind next s = record {
  Spells = λ t words rest. (u : _) × (us : _) × SpellsTurns next s (u ∷ us) t words rest;
  reads = λ words. option_and_then (λ a. reads_further_from next (length a.1) a.0 a.1)
      ((next s).reads words);
  stops = λ words. stops_further_from next (suc (length words)) s words;
  starts = (next s).starts;
  goes_on = (next s).starts ++ (next s).goes_on;
  may_be_empty = false;
  is_fit = (next s).is_fit && (not (next s).may_be_empty && all_apart (next s).starts (next s).goes_on);
}

-- any number of times: the value of the last rule, or the first one where there is none
abbrev pub any_behind : {S : Type 0} → (S → Rule S) → S → Rule S
any_behind next s = record {
  Spells = λ t words rest. (us : _) × SpellsTurns next s us t words rest;
  reads = λ words. reads_further_from next (length words) s words;
  stops = λ words. stops_further_from next (suc (length words)) s words;
  starts = (next s).starts;
  goes_on = (next s).starts ++ (next s).goes_on;
  may_be_empty = true;
  is_fit = (next s).is_fit && (not (next s).may_be_empty && all_apart (next s).starts (next s).goes_on);
}

-- ---- any number of times, each value added to what there is

abbrev pub reads_onto_from : {A S : Type 0} → (S → A → Option S) → Rule A → ℕ → S → List Word
    → Option (S × List Word)
reads_onto_from add p zero s words = Some (s, words)
reads_onto_from add p (suc turns) s words = if begins p.starts words then option_and_then
    (λ a. option_and_then (λ t. reads_onto_from add p turns t a.1) (add s a.0)) (p.reads words) else Some
    (s, words)

abbrev pub onto : {A S : Type 0} → (S → A → Option S) → S → Rule A → Rule S
onto add s p = record {
  Spells = λ t words rest. (us : _) × SpellsTurns (λ u. where_it_gives (add u) p) s us t words rest;
  reads = λ words. reads_onto_from add p (length words) s words;
  stops = stops_again p;
  starts = p.starts;
  goes_on = p.starts ++ p.goes_on;
  may_be_empty = true;
  is_fit = p.is_fit && (not p.may_be_empty && all_apart p.starts p.goes_on);
}

-- ---- once or more, each value added to what there is

abbrev pub some_onto : {A S : Type 0} → (S → A → Option S) → S → Rule A → Rule S
some_onto add s p = record {
  Spells = (each_behind (λ u. where_it_gives (add u) p) s).Spells;
  reads = λ words. option_and_then (λ a.
      option_and_then (λ t. reads_onto_from add p (length a.1) t a.1) (add s a.0)) (p.reads words);
  stops = stops_again p;
  starts = p.starts;
  goes_on = p.starts ++ p.goes_on;
  may_be_empty = false;
  is_fit = p.is_fit && (not p.may_be_empty && all_apart p.starts p.goes_on);
}

-- ---- any number of times

abbrev pub SpellsMany : {A : Type 0} → Rule A → List A → List Word → List Word → Type 0
SpellsMany p [] words rest = words ≡ rest
SpellsMany p (x ∷ xs) words rest = (middle : List Word) × p.Spells x words middle
    × SpellsMany p xs middle rest

abbrev pub reads_many_from : {A : Type 0} → Rule A → ℕ → List Word → Option (List A × List Word)
reads_many_from p zero words = Some ([], words)
reads_many_from p (suc turns) words = if begins p.starts words then option_and_then
    (λ a. option_map (λ b. (a.0 ∷ b.0, b.1)) (reads_many_from p turns a.1)) (p.reads words) else Some (
      [],
      words,
    )

abbrev pub many : {A : Type 0} → Rule A → Rule (List A)
many p = record {
  Spells = SpellsMany p;
  reads = λ words. reads_many_from p (length words) words;
  stops = stops_again p;
  starts = p.starts;
  goes_on = p.starts ++ p.goes_on;
  may_be_empty = true;
  is_fit = p.is_fit && (not p.may_be_empty && all_apart p.starts p.goes_on);
}
