-- Statements that are read behind others: a repeated rule goes on from those that there are.
use Rattle.std.proofs.Common.{◌≡◌, ℕ, ◌<◌, zero, suc, Bool, true, false, cond, List, length, Option, Some, None, refl, sym, ap, ◌∙◌, subst}
use Rattle.std.specs.Prelude.{option_and_then}
use Rattle.std.specs.Option.{option_map}
use Rattle.std.proofs.lemmas.Option.{some_pair_parts}
use Rattle.deck_parser.specs.Word.{Word}
use Rattle.deck_parser.specs.Class.{begins}
use Rattle.deck_parser.specs.Rule.{Rule, many, onto, some_onto, reads_onto_from, Stop, stop_at, stops_again}
use Rattle.deck_parser.specs.Notation.{◌▸◌}
use Rattle.deck_parser.specs.Reading.{Refuses, TellsStop}
use Rattle.deck_parser.specs.Unfit.{IsFirstLine}
use Rattle.deck_parser.specs.Fault.{cause_code}
use Rattle.deck_parser.specs.declared.fault.FaultCause.{FaultCause}
use Rattle.deck_parser.specs.declared.place.WordPlace.{WordPlace}
use Rattle.deck_parser.specs.declared.fault.ParseRefusal.{ParseRefusal}
use Rattle.deck_parser.specs.declared.fault.ParseRefusal.TheVariants.{Memory, Fault}
use Rattle.deck_parser.proofs.RuleLemmas.{Lawful}
use Rattle.deck_parser.proofs.RepeatLemmas.{first_turn, next_turn, turn_takes_a_word, refused_turn, no_turn, next_stop, stops_here}
use Rattle.deck_parser.proofs.TestLemmas.{bind_some}
use Rattle.deck_reader.specs.declared.placed.PlacedStatements.{PlacedStatements}
use Rattle.deck_parser.specs.Following.{followed}
use Rattle.deck_reader.specs.Placed.{nothing_placed, placed_behind}
use Rattle.deck_reader.specs.StatementRules.{joined_statements, some_of}
use Rattle.deck_reader.specs.Reading.{behind_statements}
use Rattle.deck_reader.proofs.PlacedLemmas.{nothing_behind, behind_nothing, behind_assoc}

-- what is read, behind these statements
abbrev put_behind : PlacedStatements → Option (PlacedStatements × List Word) → Option (PlacedStatements × List Word)
put_behind before read = option_map {U = PlacedStatements × List Word} (λ r. (placed_behind before r.0, r.1)) read

put_behind_twice : (a b : PlacedStatements) (read : Option (PlacedStatements × List Word)) → put_behind (placed_behind a b) read ≡ put_behind a (put_behind b read)
put_behind_twice a b None = refl
put_behind_twice a b (Some r) = ap (λ (t : PlacedStatements). Some (t, r.1)) (behind_assoc a b r.0)

module _ (p : Rule PlacedStatements) where
  onto_behind_by : (turns : ℕ) → ((before : PlacedStatements) (words : List Word) → reads_onto_from joined_statements p turns before words ≡ put_behind before (reads_onto_from joined_statements p turns nothing_placed words)) → (before : PlacedStatements) (words : List Word) (b : Bool) (r : Option (PlacedStatements × List Word)) → cond b (option_and_then {U = PlacedStatements × List Word} (λ a. reads_onto_from joined_statements p turns (placed_behind before a.0) a.1) r) (Some (before, words)) ≡ put_behind before (cond b (option_and_then {U = PlacedStatements × List Word} (λ a. reads_onto_from joined_statements p turns (placed_behind nothing_placed a.0) a.1) r) (Some (nothing_placed, words)))
  onto_behind_by turns again before words true None = refl
  onto_behind_by turns again before words true (Some x) =
      again (placed_behind before x.0) x.1 ∙ (put_behind_twice before x.0 (reads_onto_from joined_statements p turns nothing_placed x.1) ∙ ap (put_behind before) (sym (again x.0 x.1) ∙ ap (λ (t : PlacedStatements). reads_onto_from joined_statements p turns t x.1) (sym (nothing_behind x.0))))
  onto_behind_by turns again before words false r = ap (λ (t : PlacedStatements). Some (t, words)) (sym (behind_nothing before))

  onto_behind : (turns : ℕ) (before : PlacedStatements) (words : List Word) → reads_onto_from joined_statements p turns before words ≡ put_behind before (reads_onto_from joined_statements p turns nothing_placed words)
  onto_behind zero before words = ap (λ (t : PlacedStatements). Some (t, words)) (sym (behind_nothing before))
  onto_behind (suc turns) before words = onto_behind_by turns (onto_behind turns) before words (begins p.starts words) (p.reads words)

  then_put : (before : PlacedStatements) (read : Option (PlacedStatements × List Word)) → option_and_then {U = PlacedStatements × List Word} (λ a. Some (placed_behind before a.0, a.1)) read ≡ put_behind before read
  then_put before None = refl
  then_put before (Some x) = refl

  some_behind_by : (before : PlacedStatements) (r : Option (PlacedStatements × List Word)) → option_and_then {U = PlacedStatements × List Word} (λ a. Some (placed_behind before a.0, a.1)) (option_and_then {U = PlacedStatements × List Word} (λ a. reads_onto_from joined_statements p (length a.1) (placed_behind nothing_placed a.0) a.1) r) ≡ option_and_then {U = PlacedStatements × List Word} (λ a. reads_onto_from joined_statements p (length a.1) (placed_behind before a.0) a.1) r
  some_behind_by before None = refl
  some_behind_by before (Some x) =
      then_put before (reads_onto_from joined_statements p (length x.1) (placed_behind nothing_placed x.0) x.1)
      ∙ (ap (put_behind before) (ap (λ (t : PlacedStatements). reads_onto_from joined_statements p (length x.1) t x.1) (nothing_behind x.0) ∙ onto_behind (length x.1) x.0 x.1)
      ∙ (sym (put_behind_twice before x.0 (reads_onto_from joined_statements p (length x.1) nothing_placed x.1)) ∙ sym (onto_behind (length x.1) (placed_behind before x.0) x.1)))

  -- a rule once or more behind some statements is one that goes on from them
  pub some_behind : (before : PlacedStatements) (words : List Word) → (behind_statements before (some_of p)).reads words ≡ (some_onto joined_statements before p).reads words
  some_behind before words = some_behind_by before (p.reads words)

-- what is not there is refused
pub refused : {A : Type 0} (read : Option A) (refusal : ParseRefusal) → read ≡ None → Refuses read refusal
refused read Memory e = tt
refused read (Fault line place cause) e = e

-- a fault of the word at the front of these is told there
pub told_there : (words : List Word) (place : WordPlace) (cause : FaultCause) (refusal : ParseRefusal) → refusal ≡ Fault place.line place cause → IsFirstLine words place.line → TellsStop (stop_at words (cause_code cause)) refusal
told_there words place cause refusal e at = subst (TellsStop (stop_at words (cause_code cause))) (sym e) (at, refl)

-- ---- a rule behind a first one

behind_of_pair : (before : PlacedStatements) (read : Option (PlacedStatements × List Word)) → option_and_then {U = PlacedStatements × List Word} (λ a. Some (placed_behind before a.0, a.1)) (option_map {U = PlacedStatements × List Word} (λ b. (b.0, b.1)) read) ≡ option_and_then {U = PlacedStatements × List Word} (λ a. Some (placed_behind before a.0, a.1)) read
behind_of_pair before None = refl
behind_of_pair before (Some x) = refl

pub second_behind : {A : Type 0} (before : PlacedStatements) (p : Rule A) (q : Rule PlacedStatements) (x : A) (words middle : List Word) → p.reads words ≡ Some (x, middle) → (behind_statements before (p ▸ q)).reads words ≡ (behind_statements before q).reads middle
second_behind before p q x words middle e = rw e (behind_of_pair before (q.reads middle))

pub follower_behind : {A : Type 0} (before : PlacedStatements) (sample : A) (p : Rule A) (q : A → Rule PlacedStatements) (x : A) (words middle : List Word) → p.reads words ≡ Some (x, middle) → (behind_statements before (followed sample p q)).reads words ≡ (behind_statements before (q x)).reads middle
follower_behind before sample p q x words middle e = rw e

-- ---- how a loop over such a rule goes on

-- what is read, and where the reading stops, is what is read onto these statements of these words
abbrev pub GoesOn : Rule PlacedStatements → Option (PlacedStatements × List Word) → Stop → PlacedStatements → List Word → Type 0
GoesOn p read stop before words = (read ≡ (onto joined_statements before p).reads words) × (stop ≡ stops_again p words)

-- the same of a rule once or more, behind some statements
abbrev pub SomeGoesOn : Rule PlacedStatements → PlacedStatements → List Word → PlacedStatements → List Word → Type 0
SomeGoesOn p first words before rest = GoesOn p ((behind_statements first (some_of p)).reads words) (stops_again p words) before rest

nothing_behind_read : (before : PlacedStatements) (read : Option (PlacedStatements × List Word)) → option_and_then {U = PlacedStatements × List Word} (λ a. Some (placed_behind before a.0, a.1)) read ≡ None → read ≡ None
nothing_behind_read before None e = refl
nothing_behind_read before (Some x) e = absurd (cc)

module _ (p : Rule PlacedStatements) (lawful : Lawful p) (fit : (many p).is_fit ≡ true) where
  stops_on : (before after : PlacedStatements) (words rest : List Word) → (behind_statements before p).reads words ≡ Some (after, rest) → stops_again p words ≡ stops_again p rest
  stops_on before after words rest e =
      let a = bind_some {B = PlacedStatements × List Word} (λ (a : PlacedStatements × List Word). Some (placed_behind before a.0, a.1)) (p.reads words) (after, rest) e in
      next_stop p lawful fit a.0.0 words a.0.1 a.1 ∙ ap (λ (ws : List Word). stops_again p ws) (some_pair_parts {A = PlacedStatements} (placed_behind before a.0.0) after a.0.1 rest a.2).1

  pub begun : (before after : PlacedStatements) (words rest : List Word) → (behind_statements before p).reads words ≡ Some (after, rest) → SomeGoesOn p before words after rest
  begun before after words rest e =
      (some_behind p before words ∙ first_turn joined_statements p lawful before after words rest e, stops_on before after words rest e)

  pub further : (read : Option (PlacedStatements × List Word)) (stop : Stop) (before after : PlacedStatements) (words rest : List Word) → GoesOn p read stop before words → begins p.starts words ≡ true → (behind_statements before p).reads words ≡ Some (after, rest) → GoesOn p read stop after rest
  further read stop before after words rest so_far i e =
      (so_far.0 ∙ next_turn joined_statements p lawful fit before words rest after i e, so_far.1 ∙ stops_on before after words rest e)

  pub shorter : (before after : PlacedStatements) (words rest : List Word) → (behind_statements before p).reads words ≡ Some (after, rest) → length rest < length words
  shorter before after words rest e = turn_takes_a_word joined_statements p lawful fit before after words rest e

  pub not_further : (read : Option (PlacedStatements × List Word)) (stop : Stop) (before : PlacedStatements) (words : List Word) (refusal : ParseRefusal) → GoesOn p read stop before words → begins p.starts words ≡ true → Refuses ((behind_statements before p).reads words) refusal × TellsStop (p.stops words) refusal → Refuses read refusal × TellsStop stop refusal
  not_further read stop before words Memory so_far i r = (tt, tt)
  not_further read stop before words (Fault line place cause) so_far i r =
      let none = nothing_behind_read before (p.reads words) r.0 in (
        so_far.0 ∙ refused_turn joined_statements p lawful before words i r.0,
        subst (λ (s : Stop). TellsStop s (Fault line place cause)) (sym (so_far.1 ∙ stops_here p lawful words none)) r.1,
      )

  pub finished : (read : Option (PlacedStatements × List Word)) (stop : Stop) (before : PlacedStatements) (words : List Word) → GoesOn p read stop before words → begins p.starts words ≡ false → read ≡ Some (before, words)
  finished read stop before words so_far i = so_far.0 ∙ no_turn joined_statements p lawful before words i
