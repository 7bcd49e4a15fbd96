-- What rules read in turn, each chosen by the value before, is what they spell.
use Rattle.std.proofs.Common.{◌≡◌, ℕ, zero, suc, ◌<◌, ◌≤◌, Bool, true, false, ◌⊎◌, cond, List, [], ◌∷◌, ◌++◌, length, Option, Some, None, refl, sym, ap, ◌∙◌, inl, inr, subst, arith}
use Rattle.std.specs.Prelude.{option_and_then}
use Rattle.std.proofs.lemmas.Option.{some_pair_parts}
use Rattle.std.proofs.lemmas.Bool.{false≢true}
use Rattle.deck_parser.specs.Word.{Word}
use Rattle.deck_parser.specs.Class.{Class, begins, all_apart}
use Rattle.deck_parser.specs.Rule.{Rule, SpellsTurns, reads_further_from, each_behind, any_behind, Stop, stop_behind, stops_further_from}
use Rattle.deck_parser.proofs.TestLemmas.{bind_some, bind_is}
use Rattle.deck_parser.proofs.ClassLemmas.{begins_apart, neither_begins}
use Rattle.deck_parser.specs.Reading.{Refuses, TellsStop}
use Rattle.deck_parser.specs.declared.fault.ParseRefusal.{ParseRefusal}
use Rattle.deck_parser.specs.declared.fault.ParseRefusal.TheVariants.{Memory, Fault}
use Rattle.deck_parser.proofs.RuleLemmas.{Lawful}

-- the words spell values up to a last one, in any number of turns
abbrev pub SpellsFurther : {S : Type 0} → (S → Rule S) → S → S → List Word → List Word → Type 0
SpellsFurther next s t words rest = (us : _) × SpellsTurns next s us t words rest

abbrev pub reads_further : {S : Type 0} → (S → Rule S) → S → List Word → Option (S × List Word)
reads_further next s words = reads_further_from next (length words) s words

-- the same of a turn and any number of others
abbrev pub SpellsInTurn : {S : Type 0} → (S → Rule S) → S → S → List Word → List Word → Type 0
SpellsInTurn next s = (each_behind next s).Spells

abbrev pub reads_in_turn : {S : Type 0} → (S → Rule S) → S → List Word → Option (S × List Word)
reads_in_turn next s = (each_behind next s).reads

-- where the reading of the turns stops
abbrev pub stops_further : {S : Type 0} → (S → Rule S) → S → List Word → Stop
stops_further next s words = stops_further_from next (suc (length words)) s words

-- what is read, and where the reading stops, is what is read from this value on of these words
abbrev pub GoesOn : {S : Type 0} → (S → Rule S) → Option (S × List Word) → Stop → S → List Word → Type 0
GoesOn next read stop s words = (read ≡ reads_further next s words) × (stop ≡ stops_further next s words)

-- what is asked of the rules: each is lawful, fit and not empty, and all begin and go on with the same words
pub record AreAlike {S : Type 0} (next : S → Rule S) (starts goes_on : List Class) : Type 0 where
  pub lawful : (s : S) → Lawful (next s)
  pub fit : (s : S) → (next s).is_fit ≡ true
  pub some : (s : S) → (next s).may_be_empty ≡ false
  pub starts_are : (s : S) → (next s).starts ≡ starts
  pub goes_on_is : (s : S) → (next s).goes_on ≡ goes_on
  pub apart : all_apart starts goes_on ≡ true

module _ {S : Type 0} (next : S → Rule S) (starts goes_on : List Class) (alike : AreAlike next starts goes_on) where
  -- a rule takes a word at least
  pub takes_some : (s u : S) (words middle : List Word) → (next s).Spells u words middle → (begins starts words ≡ true) × (length middle < length words)
  takes_some s u words middle h =
      elim ((alike.lawful s).first (alike.fit s) u words middle h) [
        | inl k ↦ (subst (λ cs. begins cs words ≡ true) (alike.starts_are s) k.0, k.1)
        | inr k ↦ absurd (false≢true (sym (alike.some s) ∙ k.0))
      ]

  pub turn_takes_some : (s u : S) (words middle : List Word) → (next s).reads words ≡ Some (u, middle) → length middle < length words
  turn_takes_some s u words middle e = (takes_some s u words middle ((alike.lawful s).sound u words middle e)).1

  -- ---- sound

  further_sound_by : (b : Bool) (turns : ℕ) → ((s t : S) (words rest : List Word) → reads_further_from next turns s words ≡ Some (t, rest) → SpellsFurther next s t words rest) → (s t : S) (words rest : List Word) → cond b (option_and_then (λ (a : S × List Word). reads_further_from next turns a.0 a.1) ((next s).reads words)) (Some (s, words)) ≡ Some (t, rest) → SpellsFurther next s t words rest
  further_sound_by true turns again s t words rest e =
      let a = bind_some (λ (a : S × List Word). reads_further_from next turns a.0 a.1) ((next s).reads words) (t, rest) e in
      let more = again a.0.0 t a.0.1 rest a.2 in
      (a.0.0 ∷ more.0, (a.0.1, (alike.lawful s).sound a.0.0 words a.0.1 a.1, more.1))
  further_sound_by false turns again s t words rest e = let k = some_pair_parts {A = S} s t words rest e in ([], k)

  further_sound : (turns : ℕ) (s t : S) (words rest : List Word) → reads_further_from next turns s words ≡ Some (t, rest) → SpellsFurther next s t words rest
  further_sound zero s t words rest e = let k = some_pair_parts {A = S} s t words rest e in ([], k)
  further_sound (suc turns) s t words rest e = further_sound_by (begins (next s).starts words) turns (further_sound turns) s t words rest e

  in_turn_sound : (s t : S) (words rest : List Word) → reads_in_turn next s words ≡ Some (t, rest) → SpellsInTurn next s t words rest
  in_turn_sound s t words rest e =
      let a = bind_some (λ (a : S × List Word). reads_further next a.0 a.1) ((next s).reads words) (t, rest) e in
      let more = further_sound (length a.0.1) a.0.0 t a.0.1 rest a.2 in
      (a.0.0, more.0, (a.0.1, (alike.lawful s).sound a.0.0 words a.0.1 a.1, more.1))

  -- ---- complete

  turns_first : (s t : S) (us : List S) (words rest : List Word) → SpellsTurns next s us t words rest → ((begins starts words ≡ true) × (length rest < length words)) ⊎ (words ≡ rest)
  turns_first s t [] words rest h = inr h.1
  turns_first s t (u ∷ us) words rest h =
      let k = takes_some s u words h.0 h.1 in
      inl (k.0, elim (turns_first u t us h.0 rest h.2) [ inl m ↦ omega (arith, m.1, k.1) | inr m ↦ subst (λ ws. length ws < length words) m k.1 ])

  -- where the words behind some turns do not go on, those of the rule before do not either
  stops : (s t : S) (us : List S) (words rest : List Word) → SpellsTurns next s us t words rest → begins (starts ++ goes_on) rest ≡ false → begins goes_on words ≡ false
  stops s t us words rest h no_more =
      elim (turns_first s t us words rest h) [
        | inl k ↦ begins_apart starts goes_on words alike.apart k.0
        | inr k ↦ subst (λ ws. begins goes_on ws ≡ false) (sym k) (neither_begins starts goes_on rest no_more).1
      ]

  turn_complete : (s u t : S) (us : List S) (words middle rest : List Word) → (next s).Spells u words middle → SpellsTurns next u us t middle rest → begins (starts ++ goes_on) rest ≡ false → (next s).reads words ≡ Some (u, middle)
  turn_complete s u t us words middle rest h more no_more =
      (alike.lawful s).complete (alike.fit s) u words middle h (subst (λ cs. begins cs middle ≡ false) (sym (alike.goes_on_is s)) (stops u t us middle rest more no_more))

  ended : (s t : S) (words rest : List Word) → s ≡ t → words ≡ rest → ◌≡◌ {A = Option (S × List Word)} (Some (s, words)) (Some (t, rest))
  ended s t words rest e f = rw (e, f)

  further_complete : (turns : ℕ) (s t : S) (us : List S) (words rest : List Word) → length words ≤ turns → SpellsTurns next s us t words rest → begins (starts ++ goes_on) rest ≡ false → reads_further_from next turns s words ≡ Some (t, rest)
  further_complete zero s t [] words rest enough h no_more = ended s t words rest h.0 h.1
  further_complete zero s t (u ∷ us) words rest enough h no_more = absurd (omega (arith, (takes_some s u words h.0 h.1).1, enough))
  further_complete (suc turns) s t [] words rest enough h no_more =
      let none : begins (next s).starts words ≡ false = subst (λ cs. begins cs words ≡ false) (sym (alike.starts_are s)) (subst (λ ws. begins starts ws ≡ false) (sym h.1) (neither_begins starts goes_on rest no_more).0) in
      ap (λ b. cond b (option_and_then (λ (a : S × List Word). reads_further_from next turns a.0 a.1) ((next s).reads words)) (Some (s, words))) none ∙ ended s t words rest h.0 h.1
  further_complete (suc turns) s t (u ∷ us) words rest enough h no_more =
      let k = takes_some s u words h.0 h.1 in
      let some : begins (next s).starts words ≡ true = subst (λ cs. begins cs words ≡ true) (sym (alike.starts_are s)) k.0 in
      ap (λ b. cond b (option_and_then (λ (a : S × List Word). reads_further_from next turns a.0 a.1) ((next s).reads words)) (Some (s, words))) some
      ∙ bind_is (λ (a : S × List Word). reads_further_from next turns a.0 a.1) ((next s).reads words) (u, h.0) (Some (t, rest)) (turn_complete s u t us words h.0 rest h.1 h.2 no_more)
      (further_complete turns u t us h.0 rest (omega (arith, k.1, enough)) h.2 no_more)

  in_turn_complete : (s t : S) (words rest : List Word) → SpellsInTurn next s t words rest → begins (starts ++ goes_on) rest ≡ false → reads_in_turn next s words ≡ Some (t, rest)
  in_turn_complete s t words rest h no_more =
      let more = h.2 in
      bind_is (λ (a : S × List Word). reads_further next a.0 a.1) ((next s).reads words) (h.0, more.0) (Some (t, rest)) (turn_complete s h.0 t h.1 words more.0 rest more.1 more.2 no_more)
      (further_complete (length more.0) h.0 t h.1 more.0 rest (omega arith) more.2 no_more)

  in_turn_first : (s t : S) (words rest : List Word) → SpellsInTurn next s t words rest → ((begins (next s).starts words ≡ true) × (length rest < length words)) ⊎ ((false ≡ true) × (words ≡ rest))
  in_turn_first s t words rest h =
      let more = h.2 in
      let k = takes_some s h.0 words more.0 more.1 in
      inl (subst (λ cs. begins cs words ≡ true) (sym (alike.starts_are s)) k.0, elim (turns_first h.0 t h.1 more.0 rest more.2) [ inl m ↦ omega (arith, m.1, k.1) | inr m ↦ subst (λ ws. length ws < length words) m k.1 ])

  pub lawful_each : (s : S) → Lawful (each_behind next s)
  lawful_each s = record {
    sound = in_turn_sound s;
    complete = λ _ t words rest h no. in_turn_complete s t words rest h (subst (λ cs. begins (cs ++ goes_on) rest ≡ false) (alike.starts_are s) (subst (λ cs. begins ((next s).starts ++ cs) rest ≡ false) (alike.goes_on_is s) no));
    first = λ _. in_turn_first s;
  }

  any_complete : (s t : S) (words rest : List Word) → SpellsFurther next s t words rest → begins (starts ++ goes_on) rest ≡ false → reads_further next s words ≡ Some (t, rest)
  any_complete s t words rest h no_more = further_complete (length words) s t h.0 words rest (omega arith) h.1 no_more

  any_first : (s t : S) (words rest : List Word) → SpellsFurther next s t words rest → ((begins (next s).starts words ≡ true) × (length rest < length words)) ⊎ ((true ≡ true) × (words ≡ rest))
  any_first s t words rest h =
      elim (turns_first s t h.0 words rest h.1) [
        | inl k ↦ inl (subst (λ cs. begins cs words ≡ true) (sym (alike.starts_are s)) k.0, k.1)
        | inr k ↦ inr (refl, k)
      ]

  pub lawful_any : (s : S) → Lawful (any_behind next s)
  lawful_any s = record {
    sound = λ t words rest e. further_sound (length words) s t words rest e;
    complete = λ _ t words rest h no. any_complete s t words rest h (subst (λ cs. begins (cs ++ goes_on) rest ≡ false) (alike.starts_are s) (subst (λ cs. begins ((next s).starts ++ cs) rest ≡ false) (alike.goes_on_is s) no));
    first = λ _. any_first s;
  }

  -- ---- how the reading goes on

  -- more turns than there are words change nothing
  more_turns : (m n : ℕ) (s : S) (words : List Word) → length words ≤ m → length words ≤ n → reads_further_from next m s words ≡ reads_further_from next n s words
  more_turns zero zero s words a b = refl
  more_turns zero (suc n) s [] a b = refl
  more_turns zero (suc n) s (w ∷ words) a b = absurd (omega (arith, a))
  more_turns (suc m) zero s [] a b = refl
  more_turns (suc m) zero s (w ∷ words) a b = absurd (omega (arith, b))
  more_turns (suc m) (suc n) s words a b =
      let again : (r : Option (S × List Word)) → (next s).reads words ≡ r → option_and_then (λ (a : S × List Word). reads_further_from next m a.0 a.1) r ≡ option_and_then (λ (a : S × List Word). reads_further_from next n a.0 a.1) r = λ r. elim r as (λ r. (next s).reads words ≡ r → option_and_then (λ (a : S × List Word). reads_further_from next m a.0 a.1) r ≡ option_and_then (λ (a : S × List Word). reads_further_from next n a.0 a.1) r) [
        | None ↦ λ _. refl
        | Some x ↦ λ e. let less = turn_takes_some s x.0 words x.1 e in
            more_turns m n x.0 x.1 (omega (arith, less, a)) (omega (arith, less, b))
      ] in
      ap (λ v. cond (begins (next s).starts words) v (Some (s, words))) (again ((next s).reads words) refl)

  pub next_further : (s u : S) (words middle : List Word) → begins (next s).starts words ≡ true → (next s).reads words ≡ Some (u, middle) → reads_further next s words ≡ reads_further next u middle
  next_further s u [] middle i e = absurd (false≢true i)
  next_further s u (w ∷ words) middle i e =
      let less = turn_takes_some s u (w ∷ words) middle e in
      ap (λ b. cond b (option_and_then (λ (a : S × List Word). reads_further_from next (length words) a.0 a.1) ((next s).reads (w ∷ words))) (Some (s, w ∷ words))) i
      ∙ (bind_is (λ (a : S × List Word). reads_further_from next (length words) a.0 a.1) ((next s).reads (w ∷ words)) (u, middle) (reads_further_from next (length words) u middle) e refl
      ∙ more_turns (length words) (length middle) u middle (omega (arith, less)) (omega arith))

  pub first_in_turn : (s u : S) (words middle : List Word) → (next s).reads words ≡ Some (u, middle) → reads_in_turn next s words ≡ reads_further next u middle
  first_in_turn s u words middle e =
      bind_is (λ (a : S × List Word). reads_further next a.0 a.1) ((next s).reads words) (u, middle) (reads_further next u middle) e refl

  pub no_first_in_turn : (s : S) (words : List Word) → (next s).reads words ≡ None → reads_in_turn next s words ≡ None
  no_first_in_turn s words e = ap (λ (o : Option (S × List Word)). option_and_then (λ (a : S × List Word). reads_further next a.0 a.1) o) e

  -- ---- where the reading stops

  more_stops : (m n : ℕ) (s : S) (words : List Word) → length words < m → length words < n → stops_further_from next m s words ≡ stops_further_from next n s words
  more_stops zero n s words a b = absurd (omega (arith, a))
  more_stops (suc m) zero s words a b = absurd (omega (arith, b))
  more_stops (suc m) (suc n) s words a b =
      let again : (r : Option (S × List Word)) → (next s).reads words ≡ r → stop_behind r ((next s).stops words) (λ (x : S × List Word). stops_further_from next m x.0 x.1) ≡ stop_behind r ((next s).stops words) (λ (x : S × List Word). stops_further_from next n x.0 x.1) = λ r. elim r as (λ r. (next s).reads words ≡ r → stop_behind r ((next s).stops words) (λ (x : S × List Word). stops_further_from next m x.0 x.1) ≡ stop_behind r ((next s).stops words) (λ (x : S × List Word). stops_further_from next n x.0 x.1)) [
        | None ↦ λ _. refl
        | Some x ↦ λ e. let less = turn_takes_some s x.0 words x.1 e in
            more_stops m n x.0 x.1 (omega (arith, less, a)) (omega (arith, less, b))
      ] in
      again ((next s).reads words) refl

  -- it stops where it stops behind what is read first
  next_stop : (s u : S) (words middle : List Word) → (next s).reads words ≡ Some (u, middle) → stops_further next s words ≡ stops_further next u middle
  next_stop s u words middle e =
      let less = turn_takes_some s u words middle e in
      ap (λ (r : Option (S × List Word)). stop_behind r ((next s).stops words) (λ (x : S × List Word). stops_further_from next (length words) x.0 x.1)) e
      ∙ more_stops (length words) (suc (length middle)) u middle (omega (arith, less)) (omega arith)

  -- where nothing is read, it stops as one turn does
  stops_here : (s : S) (words : List Word) → (next s).reads words ≡ None → stops_further next s words ≡ (next s).stops words
  stops_here s words e = ap (λ (r : Option (S × List Word)). stop_behind r ((next s).stops words) (λ (x : S × List Word). stops_further_from next (length words) x.0 x.1)) e

  -- ---- how a loop over the turns goes on

  no_further : (s : S) (words : List Word) → begins (next s).starts words ≡ true → (next s).reads words ≡ None → reads_further next s words ≡ None
  no_further s [] i e = absurd (false≢true i)
  no_further s (w ∷ words) i e = rw (i, e) refl

  ended_further : (s : S) (words : List Word) → begins (next s).starts words ≡ false → reads_further next s words ≡ Some (s, words)
  ended_further s [] i = refl
  ended_further s (w ∷ words) i = rw i refl

  pub begun : (s u : S) (words middle : List Word) → (next s).reads words ≡ Some (u, middle) → GoesOn next (reads_in_turn next s words) (stops_further next s words) u middle
  begun s u words middle e = (first_in_turn s u words middle e, next_stop s u words middle e)

  pub further : (read : Option (S × List Word)) (stop : Stop) (s u : S) (words middle : List Word) → GoesOn next read stop s words → begins (next s).starts words ≡ true → (next s).reads words ≡ Some (u, middle) → GoesOn next read stop u middle
  further read stop s u words middle so_far i e =
      (so_far.0 ∙ next_further s u words middle i e, so_far.1 ∙ next_stop s u words middle e)

  pub not_further : (read : Option (S × List Word)) (stop : Stop) (s : S) (words : List Word) (refusal : ParseRefusal) → GoesOn next read stop s words → begins (next s).starts words ≡ true → Refuses ((next s).reads words) refusal × TellsStop ((next s).stops words) refusal → Refuses read refusal × TellsStop stop refusal
  not_further read stop s words Memory so_far i r = (tt, tt)
  not_further read stop s words (Fault line place cause) so_far i r = (
    so_far.0 ∙ no_further s words i r.0,
    subst (λ (s : Stop). TellsStop s (Fault line place cause)) (sym (so_far.1 ∙ stops_here s words r.0)) r.1,
  )

  pub finished : (read : Option (S × List Word)) (stop : Stop) (s : S) (words : List Word) → GoesOn next read stop s words → begins (next s).starts words ≡ false → read ≡ Some (s, words)
  finished read stop s words so_far i = so_far.0 ∙ ended_further s words i

-- ---- what each turn keeps

-- what is true at first, and stays so at each turn, is true at last
pub kept_by_turns : {S : Type 0} (P : S → Type 0) (next : S → Rule S) → ((s u : S) (words middle : List Word) → P s → (next s).Spells u words middle → P u) → (s : S) (us : List S) (t : S) (words rest : List Word) → P s → SpellsTurns next s us t words rest → P t
kept_by_turns P next keeps s [] t words rest p h = subst P h.0 p
kept_by_turns P next keeps s (u ∷ us) t words rest p h = kept_by_turns P next keeps u us t h.0 rest (keeps s u words h.0 p h.1) h.2
