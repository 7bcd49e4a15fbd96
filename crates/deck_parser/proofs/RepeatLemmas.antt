-- What a repeated rule reads is what it spells.
use Rattle.std.proofs.Common.{◌≡◌, ℕ, zero, suc, ◌<◌, ◌≤◌, Bool, true, false, not, ◌&&◌, ◌⊎◌, cond, List, [], ◌∷◌, ◌++◌, length, Option, Some, None, refl, sym, ap, ◌∙◌, inl, inr, subst, arith}
use Rattle.std.specs.Prelude.{option_and_then}
use Rattle.std.proofs.lemmas.Option.{some_pair_parts, same_Some}
use Rattle.std.specs.Option.{option_map}
use Rattle.std.proofs.lemmas.Bool.{false≢true}
use Rattle.deck_parser.specs.Word.{Word}
use Rattle.deck_parser.specs.Class.{begins, all_apart}
use Rattle.deck_parser.specs.Rule.{Rule, where_it_gives, SpellsTurns, onto, some_onto, reads_onto_from, many, reads_many_from, SpellsMany, stop_behind, stops_again_from, stops_again}
use Rattle.deck_parser.proofs.TestLemmas.{both_true, not_is, bind_some, bind_is, bind_same, map_some, none_mapped}
use Rattle.deck_parser.proofs.ClassLemmas.{begins_apart, neither_begins}
use Rattle.deck_parser.proofs.RuleLemmas.{Lawful}

-- ---- any number of times

module _ {A : Type 0} (p : Rule A) (lawful_p : Lawful p) where
  many_sound_by : (b : Bool) (turns : ℕ) → ((xs : List A) (words rest : List Word) → reads_many_from p turns words ≡ Some (xs, rest) → SpellsMany p xs words rest) → (xs : List A) (words rest : List Word) → cond b (option_and_then {U = List A × List Word} (λ a. option_map (λ b. (a.0 ∷ b.0, b.1)) (reads_many_from p turns a.1)) (p.reads words)) (Some ([], words)) ≡ Some (xs, rest) → SpellsMany p xs words rest
  many_sound_by true turns again xs words rest e =
      let a = bind_some (λ a. option_map (λ b. (a.0 ∷ b.0, b.1)) (reads_many_from p turns a.1)) (p.reads words) (xs, rest) e in
      let b = map_some (λ b. (a.0.0 ∷ b.0, b.1)) (reads_many_from p turns a.0.1) (xs, rest) a.2 in
      subst (λ ys. SpellsMany p ys words rest) (ap (λ r. r.0) b.2) (a.0.1, lawful_p.sound a.0.0 words a.0.1 a.1, again b.0.0 a.0.1 rest (b.1 ∙ ap (λ (r : List Word). Some (b.0.0, r)) (ap (λ r. r.1) b.2)))
  many_sound_by false turns again [] words rest e = (some_pair_parts {A = List A} [] [] words rest e).1
  many_sound_by false turns again (x ∷ xs) words rest e = let k = (some_pair_parts {A = List A} [] (x ∷ xs) words rest e).0 in absurd (cc)

  many_sound : (turns : ℕ) (xs : List A) (words rest : List Word) → reads_many_from p turns words ≡ Some (xs, rest) → SpellsMany p xs words rest
  many_sound zero [] words rest e = (some_pair_parts {A = List A} [] [] words rest e).1
  many_sound zero (x ∷ xs) words rest e = let k = (some_pair_parts {A = List A} [] (x ∷ xs) words rest e).0 in absurd (cc)
  many_sound (suc turns) xs words rest e = many_sound_by (begins p.starts words) turns (many_sound turns) xs words rest e

  many_fit : (many p).is_fit ≡ true → (p.is_fit ≡ true) × (p.may_be_empty ≡ false) × (all_apart p.starts p.goes_on ≡ true)
  many_fit fit =
      let a = both_true p.is_fit (not p.may_be_empty && all_apart p.starts p.goes_on) fit in
      let b = both_true (not p.may_be_empty) (all_apart p.starts p.goes_on) a.1 in
      (a.0, not_is p.may_be_empty b.0, b.1)

  many_first : (many p).is_fit ≡ true → (xs : List A) (words rest : List Word) → SpellsMany p xs words rest → ((begins p.starts words ≡ true) × (length rest < length words)) ⊎ ((true ≡ true) × (words ≡ rest))
  many_first fit [] words rest s = inr (refl, s)
  many_first fit (x ∷ xs) words rest s =
      elim (lawful_p.first (many_fit fit).0 x words s.0 s.1) [
        | inl h ↦ inl (h.0, elim (many_first fit xs s.0 rest s.2) [ inl k ↦ omega (arith, h.1, k.1) | inr k ↦ subst (λ ws. length ws < length words) k.1 h.1 ])
        | inr h ↦ absurd (false≢true (sym (many_fit fit).1 ∙ h.0))
      ]

  many_complete : (many p).is_fit ≡ true → (turns : ℕ) (xs : List A) (words rest : List Word) → length words ≤ turns → SpellsMany p xs words rest → begins (p.starts ++ p.goes_on) rest ≡ false → reads_many_from p turns words ≡ Some (xs, rest)
  many_complete fit zero [] words rest enough s no_more = ap (λ (r : List Word). Some ([], r)) s
  many_complete fit zero (x ∷ xs) words rest enough s no_more =
      elim (lawful_p.first (many_fit fit).0 x words s.0 s.1) [
        | inl h ↦ absurd (omega (arith, h.1, enough))
        | inr h ↦ absurd (false≢true (sym (many_fit fit).1 ∙ h.0))
      ]
  many_complete fit (suc turns) [] words rest enough s no_more = rw (s, (neither_begins p.starts p.goes_on rest no_more).0)
  many_complete fit (suc turns) (x ∷ xs) words rest enough s no_more =
      let fits = many_fit fit in
      let stops : begins p.goes_on s.0 ≡ false =
      elim (many_first fit xs s.0 rest s.2) [
        | inl h ↦ begins_apart p.starts p.goes_on s.0 fits.2 h.0
        | inr h ↦ subst (λ ws. begins p.goes_on ws ≡ false) (sym h.1) (neither_begins p.starts p.goes_on rest no_more).1
      ] in
      elim (lawful_p.first fits.0 x words s.0 s.1) [
        | inl h ↦ rw (h.0, lawful_p.complete fits.0 x words s.0 s.1 stops, many_complete fit turns xs s.0 rest (omega (arith, h.1, enough)) s.2 no_more)
        | inr h ↦ absurd (false≢true (sym fits.1 ∙ h.0))
      ]

  pub lawful_many : Lawful (many p)
  lawful_many = record { sound = λ xs words rest e. many_sound (length words) xs words rest e; complete = λ fit xs words rest s no. many_complete fit (length words) xs words rest (omega arith) s no; first = many_first }

  -- what is read takes a word at least
  pub takes_a_word : (many p).is_fit ≡ true → (x : A) (words rest : List Word) → p.reads words ≡ Some (x, rest) → length rest < length words
  takes_a_word fit x words rest e =
      elim (lawful_p.first (many_fit fit).0 x words rest (lawful_p.sound x words rest e)) [
        | inl h ↦ h.1
        | inr h ↦ absurd (false≢true (sym (many_fit fit).1 ∙ h.0))
      ]

  -- ---- where the reading stops

  more_stops : (many p).is_fit ≡ true → (m n : ℕ) (words : List Word) → length words < m → length words < n → stops_again_from p m words ≡ stops_again_from p n words
  more_stops fit zero n words a b = absurd (omega (arith, a))
  more_stops fit (suc m) zero words a b = absurd (omega (arith, b))
  more_stops fit (suc m) (suc n) words a b =
      let again : (r : Option (A × List Word)) → p.reads words ≡ r → stop_behind r (p.stops words) (λ (x : A × List Word). stops_again_from p m x.1) ≡ stop_behind r (p.stops words) (λ (x : A × List Word). stops_again_from p n x.1) = λ r. elim r as (λ r. p.reads words ≡ r → stop_behind r (p.stops words) (λ (x : A × List Word). stops_again_from p m x.1) ≡ stop_behind r (p.stops words) (λ (x : A × List Word). stops_again_from p n x.1)) [
        | None ↦ λ _. refl
        | Some x ↦ λ e. let less = takes_a_word fit x.0 words x.1 e in more_stops fit m n x.1 (omega (arith, less, a)) (omega (arith, less, b))
      ] in
      again (p.reads words) refl

  -- it stops where it stops behind what is read first
  pub next_stop : (many p).is_fit ≡ true → (x : A) (words rest : List Word) → p.reads words ≡ Some (x, rest) → stops_again p words ≡ stops_again p rest
  next_stop fit x words rest e =
      let less = takes_a_word fit x words rest e in
      ap (λ (r : Option (A × List Word)). stop_behind r (p.stops words) (λ (x : A × List Word). stops_again_from p (length words) x.1)) e
      ∙ more_stops fit (length words) (suc (length rest)) rest (omega (arith, less)) (omega arith)

  -- where nothing is read, it stops as one reading does
  pub stops_here : (words : List Word) → p.reads words ≡ None → stops_again p words ≡ p.stops words
  stops_here words e = ap (λ (r : Option (A × List Word)). stop_behind r (p.stops words) (λ (x : A × List Word). stops_again_from p (length words) x.1)) e

-- ---- any number of times, each value added to what there is

-- what there is after these values, where each can be added
abbrev added_in_turn : {A S : Type 0} → (S → A → Option S) → S → List A → Option S
added_in_turn add s [] = Some s
added_in_turn add s (x ∷ xs) = option_and_then (λ t. added_in_turn add t xs) (add s x)

-- the words spell values that are added in turn
abbrev AddsOnto : {A S : Type 0} → (S → A → Option S) → Rule A → S → S → List Word → List Word → Type 0
AddsOnto add p s t words rest = (xs : _) × (added_in_turn add s xs ≡ Some t) × SpellsMany p xs words rest

abbrev AddsSome : {A S : Type 0} → (S → A → Option S) → Rule A → S → S → List Word → List Word → Type 0
AddsSome add p s t words rest = (x : _) × (xs : _) × (added_in_turn add s (x ∷ xs) ≡ Some t) × SpellsMany p (x ∷ xs) words rest

module _ {A S : Type 0} (add : S → A → Option S) (p : Rule A) where
  adds_turns : (s t : S) (xs : List A) (words rest : List Word) → added_in_turn add s xs ≡ Some t → SpellsMany p xs words rest → (onto add s p).Spells t words rest
  adds_turns s t [] words rest e m = ([], (same_Some s t e, m))
  adds_turns s t (x ∷ xs) words rest e m =
      let b = bind_some (λ u. added_in_turn add u xs) (add s x) t e in
      let more = adds_turns b.0 t xs m.0 rest b.2 m.2 in
      (b.0 ∷ more.0, (m.0, (x, b.1, m.1), more.1))

  turns_add : (s t : S) (us : List S) (words rest : List Word) → SpellsTurns (λ u. where_it_gives (add u) p) s us t words rest → AddsOnto add p s t words rest
  turns_add s t [] words rest h = ([], ap (λ (v : S). Some v) h.0, h.1)
  turns_add s t (u ∷ us) words rest h =
      let more = turns_add u t us h.0 rest h.2 in
      (h.1.0 ∷ more.0, bind_is (λ v. added_in_turn add v more.0) (add s h.1.0) u (Some t) h.1.1 more.1, (h.0, h.1.2, more.2))

  adds_some : (s t : S) (words rest : List Word) → AddsSome add p s t words rest → (some_onto add s p).Spells t words rest
  adds_some s t words rest m =
      let b = bind_some (λ u. added_in_turn add u m.1) (add s m.0) t m.2 in
      let more = adds_turns b.0 t m.1 m.3.0 rest b.2 m.3.2 in
      (b.0, more.0, (m.3.0, (m.0, b.1, m.3.1), more.1))

  some_adds : (s t : S) (words rest : List Word) → (some_onto add s p).Spells t words rest → AddsSome add p s t words rest
  some_adds s t words rest k =
      let h = k.2 in
      let more = turns_add k.0 t k.1 h.0 rest h.2 in
      (h.1.0, more.0, bind_is (λ v. added_in_turn add v more.0) (add s h.1.0) k.0 (Some t) h.1.1 more.1, (h.0, h.1.2, more.2))

module _ {A S : Type 0} (add : S → A → Option S) (p : Rule A) (lawful_p : Lawful p) where
  onto_sound_by : (b : Bool) (turns : ℕ) → ((s t : S) (words rest : List Word) → reads_onto_from add p turns s words ≡ Some (t, rest) → AddsOnto add p s t words rest) → (s t : S) (words rest : List Word) → cond b (option_and_then {U = S × List Word} (λ a. option_and_then (λ u. reads_onto_from add p turns u a.1) (add s a.0)) (p.reads words)) (Some (s, words)) ≡ Some (t, rest) → AddsOnto add p s t words rest
  onto_sound_by true turns again s t words rest e =
      let a = bind_some (λ a. option_and_then (λ u. reads_onto_from add p turns u a.1) (add s a.0)) (p.reads words) (t, rest) e in
      let b = bind_some (λ u. reads_onto_from add p turns u a.0.1) (add s a.0.0) (t, rest) a.2 in
      let more = again b.0 t a.0.1 rest b.2 in
      (a.0.0 ∷ more.0, bind_is (λ u. added_in_turn add u more.0) (add s a.0.0) b.0 (Some t) b.1 more.1, (a.0.1, lawful_p.sound a.0.0 words a.0.1 a.1, more.2))
  onto_sound_by false turns again s t words rest e = let k = some_pair_parts {A = S} s t words rest e in ([], ap (λ (v : S). Some v) k.0, k.1)

  onto_sound : (turns : ℕ) (s t : S) (words rest : List Word) → reads_onto_from add p turns s words ≡ Some (t, rest) → AddsOnto add p s t words rest
  onto_sound zero s t words rest e = let k = some_pair_parts {A = S} s t words rest e in ([], ap (λ (v : S). Some v) k.0, k.1)
  onto_sound (suc turns) s t words rest e = onto_sound_by (begins p.starts words) turns (onto_sound turns) s t words rest e

  onto_complete : (many p).is_fit ≡ true → (turns : ℕ) (s t : S) (xs : List A) (words rest : List Word) → length words ≤ turns → added_in_turn add s xs ≡ Some t → SpellsMany p xs words rest → begins (p.starts ++ p.goes_on) rest ≡ false → reads_onto_from add p turns s words ≡ Some (t, rest)
  onto_complete fit zero s t [] words rest enough e m no_more = rw m (ap (λ (v : S). Some (v, rest)) (same_Some s t e))
  onto_complete fit zero s t (x ∷ xs) words rest enough e m no_more =
      elim (lawful_p.first (many_fit p lawful_p fit).0 x words m.0 m.1) [
        | inl h ↦ absurd (omega (arith, h.1, enough))
        | inr h ↦ absurd (false≢true (sym (many_fit p lawful_p fit).1 ∙ h.0))
      ]
  onto_complete fit (suc turns) s t [] words rest enough e m no_more = rw (m, (neither_begins p.starts p.goes_on rest no_more).0) (ap (λ (v : S). Some (v, rest)) (same_Some s t e))
  onto_complete fit (suc turns) s t (x ∷ xs) words rest enough e m no_more =
      let fits = many_fit p lawful_p fit in
      let stops : begins p.goes_on m.0 ≡ false =
      elim (many_first p lawful_p fit xs m.0 rest m.2) [
        | inl h ↦ begins_apart p.starts p.goes_on m.0 fits.2 h.0
        | inr h ↦ subst (λ ws. begins p.goes_on ws ≡ false) (sym h.1) (neither_begins p.starts p.goes_on rest no_more).1
      ] in
      let b = bind_some (λ u. added_in_turn add u xs) (add s x) t e in
      elim (lawful_p.first fits.0 x words m.0 m.1) [
        | inl h ↦ rw (h.0, lawful_p.complete fits.0 x words m.0 m.1 stops, b.1, onto_complete fit turns b.0 t xs m.0 rest (omega (arith, h.1, enough)) b.2 m.2 no_more)
        | inr h ↦ absurd (false≢true (sym fits.1 ∙ h.0))
      ]

  pub lawful_onto : (s : S) → Lawful (onto add s p)
  lawful_onto s = record {
    sound = λ t words rest e. let m = onto_sound (length words) s t words rest e in adds_turns add p s t m.0 words rest m.1 m.2;
    complete = λ fit t words rest k no. let m = turns_add add p s t k.0 words rest k.1 in onto_complete fit (length words) s t m.0 words rest (omega arith) m.1 m.2 no;
    first = λ fit t words rest k. let m = turns_add add p s t k.0 words rest k.1 in many_first p lawful_p fit m.0 words rest m.2;
  }

  some_sound : (s t : S) (words rest : List Word) → (some_onto add s p).reads words ≡ Some (t, rest) → AddsSome add p s t words rest
  some_sound s t words rest e =
      let a = bind_some (λ a. option_and_then (λ u. reads_onto_from add p (length a.1) u a.1) (add s a.0)) (p.reads words) (t, rest) e in
      let b = bind_some (λ u. reads_onto_from add p (length a.0.1) u a.0.1) (add s a.0.0) (t, rest) a.2 in
      let more = onto_sound (length a.0.1) b.0 t a.0.1 rest b.2 in
      (a.0.0, more.0, bind_is (λ u. added_in_turn add u more.0) (add s a.0.0) b.0 (Some t) b.1 more.1, (a.0.1, lawful_p.sound a.0.0 words a.0.1 a.1, more.2))

  some_complete : (many p).is_fit ≡ true → (s t : S) (words rest : List Word) → AddsSome add p s t words rest → begins (p.starts ++ p.goes_on) rest ≡ false → (some_onto add s p).reads words ≡ Some (t, rest)
  some_complete fit s t words rest m no_more =
      let fits = many_fit p lawful_p fit in
      let spelled = m.3 in
      let stops : begins p.goes_on spelled.0 ≡ false =
      elim (many_first p lawful_p fit m.1 spelled.0 rest spelled.2) [
        | inl h ↦ begins_apart p.starts p.goes_on spelled.0 fits.2 h.0
        | inr h ↦ subst (λ ws. begins p.goes_on ws ≡ false) (sym h.1) (neither_begins p.starts p.goes_on rest no_more).1
      ] in
      let b = bind_some (λ u. added_in_turn add u m.1) (add s m.0) t m.2 in
      rw (lawful_p.complete fits.0 m.0 words spelled.0 spelled.1 stops, b.1, onto_complete fit (length spelled.0) b.0 t m.1 spelled.0 rest (omega arith) b.2 spelled.2 no_more)

  some_first : (many p).is_fit ≡ true → (s t : S) (words rest : List Word) → AddsSome add p s t words rest → ((begins p.starts words ≡ true) × (length rest < length words)) ⊎ ((false ≡ true) × (words ≡ rest))
  some_first fit s t words rest m =
      elim (lawful_p.first (many_fit p lawful_p fit).0 m.0 words m.3.0 m.3.1) [
        | inl h ↦ inl (h.0, elim (many_first p lawful_p fit m.1 m.3.0 rest m.3.2) [ inl k ↦ omega (arith, h.1, k.1) | inr k ↦ subst (λ ws. length ws < length words) k.1 h.1 ])
        | inr h ↦ absurd (false≢true (sym (many_fit p lawful_p fit).1 ∙ h.0))
      ]

  pub lawful_some : (s : S) → Lawful (some_onto add s p)
  lawful_some s = record {
    sound = λ t words rest e. adds_some add p s t words rest (some_sound s t words rest e);
    complete = λ fit t words rest m no. some_complete fit s t words rest (some_adds add p s t words rest m) no;
    first = λ fit t words rest m. some_first fit s t words rest (some_adds add p s t words rest m);
  }

  -- more turns than there are words change nothing
  more_turns : (many p).is_fit ≡ true → (m n : ℕ) (s : S) (words : List Word) → length words ≤ m → length words ≤ n → reads_onto_from add p m s words ≡ reads_onto_from add p n s words
  more_turns fit zero zero s words a b = refl
  more_turns fit zero (suc n) s [] a b = refl
  more_turns fit zero (suc n) s (w ∷ words) a b = absurd (omega (arith, a))
  more_turns fit (suc m) zero s [] a b = refl
  more_turns fit (suc m) zero s (w ∷ words) a b = absurd (omega (arith, b))
  more_turns fit (suc m) (suc n) s words a b =
      let again : (r : Option (A × List Word)) → p.reads words ≡ r → option_and_then (λ a. option_and_then (λ u. reads_onto_from add p m u a.1) (add s a.0)) r ≡ option_and_then (λ a. option_and_then (λ u. reads_onto_from add p n u a.1) (add s a.0)) r = λ r. elim r as (λ r. p.reads words ≡ r → option_and_then (λ a. option_and_then (λ u. reads_onto_from add p m u a.1) (add s a.0)) r ≡ option_and_then (λ a. option_and_then (λ u. reads_onto_from add p n u a.1) (add s a.0)) r) [
        | None ↦ λ _. refl
        | Some x ↦ λ e. let less = takes_a_word p lawful_p fit x.0 words x.1 e in
            bind_same (λ u. reads_onto_from add p m u x.1) (λ u. reads_onto_from add p n u x.1) (add s x.0) (λ u. more_turns fit m n u x.1 (omega (arith, less, a)) (omega (arith, less, b)))
      ] in
      ap (λ v. cond (begins p.starts words) v (Some (s, words))) (again (p.reads words) refl)

  -- how the reading goes on at the next word
  next_turn_by : (many p).is_fit ≡ true → (s : S) (words : List Word) (x : A) (rest : List Word) (t : S) → begins p.starts words ≡ true → p.reads words ≡ Some (x, rest) → add s x ≡ Some t → (onto add s p).reads words ≡ (onto add t p).reads rest
  next_turn_by fit s [] x rest t i e q = absurd (false≢true i)
  next_turn_by fit s (w ∷ words) x rest t i e q =
      let less = takes_a_word p lawful_p fit x (w ∷ words) rest e in
      rw (i, e, q) (more_turns fit (length words) (length rest) t rest (omega (arith, less)) (omega arith))

  pub next_turn : (many p).is_fit ≡ true → (s : S) (words rest : List Word) (t : S) → begins p.starts words ≡ true → (where_it_gives (add s) p).reads words ≡ Some (t, rest) → (onto add s p).reads words ≡ (onto add t p).reads rest
  next_turn fit s words rest t i e =
      let a = bind_some (λ a. option_map (λ y. (y, a.1)) (add s a.0)) (p.reads words) (t, rest) e in
      let b = map_some (λ y. (y, a.0.1)) (add s a.0.0) (t, rest) a.2 in
      next_turn_by fit s words a.0.0 a.0.1 b.0 i a.1 b.1 ∙ ap (λ (r : S × List Word). (onto add r.0 p).reads r.1) b.2

  -- what is added takes a word at least
  pub turn_takes_a_word : (many p).is_fit ≡ true → (s t : S) (words rest : List Word) → (where_it_gives (add s) p).reads words ≡ Some (t, rest) → length rest < length words
  turn_takes_a_word fit s t words rest e =
      let a = bind_some (λ a. option_map (λ y. (y, a.1)) (add s a.0)) (p.reads words) (t, rest) e in
      let b = map_some (λ y. (y, a.0.1)) (add s a.0.0) (t, rest) a.2 in
      subst (λ r. length r < length words) (ap (λ (r : S × List Word). r.1) b.2) (takes_a_word p lawful_p fit a.0.0 words a.0.1 a.1)

  pub no_turn : (s : S) (words : List Word) → begins p.starts words ≡ false → (onto add s p).reads words ≡ Some (s, words)
  no_turn s [] i = refl
  no_turn s (w ∷ words) i = rw i

  refused_turn_by : (s : S) (words : List Word) (r : Option (A × List Word)) → begins p.starts words ≡ true → p.reads words ≡ r → option_and_then {U = S × List Word} (λ (a : A × List Word). option_map {U = S × List Word} (λ y. (y, a.1)) (add s a.0)) r ≡ None → (onto add s p).reads words ≡ None
  refused_turn_by s [] r i e q = absurd (false≢true i)
  refused_turn_by s (w ∷ words) None i e q = rw (i, e)
  refused_turn_by s (w ∷ words) (Some x) i e q = rw (i, e, none_mapped {B = S × List Word} (λ y. (y, x.1)) (add s x.0) q)

  pub refused_turn : (s : S) (words : List Word) → begins p.starts words ≡ true → (where_it_gives (add s) p).reads words ≡ None → (onto add s p).reads words ≡ None
  refused_turn s words i e = refused_turn_by s words (p.reads words) i refl e

  -- the first turn is read as one onto the beginning
  pub first_turn : (s t : S) (words rest : List Word) → (where_it_gives (add s) p).reads words ≡ Some (t, rest) → (some_onto add s p).reads words ≡ (onto add t p).reads rest
  first_turn s t words rest e =
      let a = bind_some (λ a. option_map (λ y. (y, a.1)) (add s a.0)) (p.reads words) (t, rest) e in
      let b = map_some (λ y. (y, a.0.1)) (add s a.0.0) (t, rest) a.2 in
      rw (a.1, b.1) (ap (λ (r : S × List Word). (onto add r.0 p).reads r.1) b.2)

  no_first_turn_by : (s : S) (words : List Word) (r : Option (A × List Word)) → p.reads words ≡ r → option_and_then {U = S × List Word} (λ (a : A × List Word). option_map {U = S × List Word} (λ y. (y, a.1)) (add s a.0)) r ≡ None → (some_onto add s p).reads words ≡ None
  no_first_turn_by s words None e q = rw e
  no_first_turn_by s words (Some x) e q = rw (e, none_mapped {B = S × List Word} (λ y. (y, x.1)) (add s x.0) q)

  pub no_first_turn : (s : S) (words : List Word) → (where_it_gives (add s) p).reads words ≡ None → (some_onto add s p).reads words ≡ None
  no_first_turn s words e = no_first_turn_by s words (p.reads words) refl e

never_added_by : {A B S : Type 0} (add : B → Option S) (f : A → B) (r : Option (A × List Word)) → ((x : A) → add (f x) ≡ None) → option_and_then (λ (b : B × List Word). option_map {U = S × List Word} (λ y. (y, b.1)) (add b.0)) (option_and_then (λ (a : A × List Word). option_map {U = B × List Word} (λ y. (y, a.1)) (Some (f a.0))) r) ≡ None
never_added_by add f None no_value = refl
never_added_by {A} {B} {S} add f (Some x) no_value = ap (λ (o : Option S). option_map {U = S × List Word} (λ y. (y, x.1)) o) (no_value x.0)

-- where a rule's values are never added, nothing is read
pub never_added : {A B S : Type 0} (add : B → Option S) (f : A → B) (p : Rule A) (words : List Word) → ((x : A) → add (f x) ≡ None) → (where_it_gives add (where_it_gives (λ x. Some (f x)) p)).reads words ≡ None
never_added add f p words no_value = never_added_by add f (p.reads words) no_value
