-- What a rule reads is what it spells, where one word of look-ahead is enough.
use Rattle.std.proofs.Common.{◌≡◌, ℕ, ◌<◌, Bool, true, false, not, ◌&&◌, ◌||◌, ◌⊎◌, cond, List, [], ◌∷◌, ◌++◌, length, Option, Some, None, refl, sym, ap, ◌∙◌, inl, inr, subst, arith}
use Rattle.std.proofs.lemmas.Option.{cond_some, some_pair_parts}
use Rattle.std.specs.Option.{option_map}
use Rattle.std.proofs.lemmas.Bool.{false≢true}
use Rattle.deck_parser.specs.Word.{Word}
use Rattle.deck_parser.specs.Class.{Class, is_in, begins, all_apart}
use Rattle.deck_parser.specs.Rule.{Rule, one, in_turn, optional, unless_barred, where_it_gives_or}
use Rattle.deck_parser.specs.Notation.{◌∣◌}
use Rattle.deck_parser.proofs.TestLemmas.{both_true, not_is, or_true, bind_some, map_some}
use Rattle.deck_parser.proofs.ClassLemmas.{begins_apart, begins-append, neither_begins, nothing_begins}

-- ---- what holds of each rule

pub record Lawful {A : Type 0} (r : Rule A) : Type 0 where
  pub sound : (x : A) (words rest : List Word) → r.reads words ≡ Some (x, rest) → r.Spells x words rest
  pub complete : r.is_fit ≡ true → (x : A) (words rest : List Word) → r.Spells x words rest → begins r.goes_on rest ≡ false → r.reads words ≡ Some (x, rest)
  pub first : r.is_fit ≡ true → (x : A) (words rest : List Word) → r.Spells x words rest → ((begins r.starts words ≡ true) × (length rest < length words)) ⊎ ((r.may_be_empty ≡ true) × (words ≡ rest))

one_sound : (class : Class) (x : List ℕ) (words rest : List Word) → (one class).reads words ≡ Some (x, rest) → (one class).Spells x words rest
one_sound class x [] rest e = absurd (cc)
one_sound class x (w ∷ words) rest e =
    let p = cond_some {A = List ℕ × List Word} (is_in class w) (w.text, words) (x, rest) e in
    (w, ap (λ q. w ∷ q.1) p.1, p.0, sym (ap (λ q. q.0) p.1))

pub lawful_one : (class : Class) → Lawful (one class)
lawful_one class = record {
  sound = one_sound class;
  complete = λ _ x words rest s _. rw (s.1, s.2, s.3);
  first = λ _ x words rest s. inl (rw (s.1, s.2) (refl, omega arith));
}

-- ---- one rule after another

cond_append : (b : Bool) (later earlier : List Class) (words : List Word) → begins (cond b (later ++ earlier) later) words ≡ false → (begins later words ≡ false) × (b ≡ true → begins earlier words ≡ false)
cond_append true later earlier words e = let p = neither_begins later earlier words e in (p.0, λ _. p.1)
cond_append false later earlier words e = (e, λ q. absurd (false≢true q))

starts_first : (b : Bool) (a c : List Class) (words : List Word) → begins a words ≡ true → begins (cond b (a ++ c) a) words ≡ true
starts_first true a c words e = begins-append a c words ∙ ap (λ v. v || begins c words) e
starts_first false a c words e = e

module _ {A B C : Type 0} (f : A → B → C) (p : Rule A) (q : Rule B) (lawful_p : Lawful p) (lawful_q : Lawful q) where
  turn_sound : (z : C) (words rest : List Word) → (in_turn f p q).reads words ≡ Some (z, rest) → (in_turn f p q).Spells z words rest
  turn_sound z words rest e =
      let a = bind_some (λ a. option_map (λ b. (f a.0 b.0, b.1)) (q.reads a.1)) (p.reads words) (z, rest) e in
      let b = map_some (λ b. (f a.0.0 b.0, b.1)) (q.reads a.0.1) (z, rest) a.2 in
      (a.0.0, b.0.0, a.0.1, sym (ap (λ r. r.0) b.2), lawful_p.sound a.0.0 words a.0.1 a.1, lawful_q.sound b.0.0 a.0.1 rest (b.1 ∙ ap (λ (r : List Word). Some (b.0.0, r)) (ap (λ r. r.1) b.2)))

  turn_complete : (in_turn f p q).is_fit ≡ true → (z : C) (words rest : List Word) → (in_turn f p q).Spells z words rest → begins (in_turn f p q).goes_on rest ≡ false → (in_turn f p q).reads words ≡ Some (z, rest)
  turn_complete fit z words rest s no_more =
      let fit_p = both_true p.is_fit (q.is_fit && all_apart q.starts p.goes_on) fit in
      let fit_q = both_true q.is_fit (all_apart q.starts p.goes_on) fit_p.1 in
      let middle = s.2 in
      let no = cond_append q.may_be_empty q.goes_on p.goes_on rest no_more in
      let stops : begins p.goes_on middle ≡ false =
      elim (lawful_q.first fit_q.0 s.1 middle rest s.5) [
        | inl h ↦ begins_apart q.starts p.goes_on middle fit_q.1 h.0
        | inr h ↦ subst (λ ws. begins p.goes_on ws ≡ false) (sym h.1) (no.1 h.0)
      ] in
      let front = lawful_p.complete fit_p.0 s.0 words middle s.4 stops in
      let back = lawful_q.complete fit_q.0 s.1 middle rest s.5 no.0 in
      rw (front, back, s.3)

  turn_first : (in_turn f p q).is_fit ≡ true → (z : C) (words rest : List Word) → (in_turn f p q).Spells z words rest → ((begins (in_turn f p q).starts words ≡ true) × (length rest < length words)) ⊎ (((in_turn f p q).may_be_empty ≡ true) × (words ≡ rest))
  turn_first fit z words rest s =
      let fit_p = both_true p.is_fit (q.is_fit && all_apart q.starts p.goes_on) fit in
      let fit_q = both_true q.is_fit (all_apart q.starts p.goes_on) fit_p.1 in
      let back = lawful_q.first fit_q.0 s.1 s.2 rest s.5 in
      elim (lawful_p.first fit_p.0 s.0 words s.2 s.4) [
        | inl h ↦ inl (starts_first p.may_be_empty p.starts q.starts words h.0, elim back [ inl k ↦ omega (arith, h.1, k.1) | inr k ↦ subst (λ ws. length ws < length words) k.1 h.1 ])
        | inr h ↦ elim back [
          | inl k ↦ inl (
            rw (h.0) (begins-append p.starts q.starts words ∙ ap (λ v. begins p.starts words || v) (ap (begins q.starts) h.1 ∙ k.0) ∙ or_true (begins p.starts words)),
            subst (λ ws. length rest < length ws) (sym h.1) k.1,
          )
          | inr k ↦ inr (rw (h.0, k.0), h.1 ∙ k.1)
        ]
      ]

  pub lawful_turn : Lawful (in_turn f p q)
  lawful_turn = record { sound = turn_sound; complete = turn_complete; first = turn_first }

-- ---- a rule that may be left out

module _ {A : Type 0} (p : Rule A) (lawful_p : Lawful p) where
  optional_sound_by : (b : Bool) (x : Option A) (words rest : List Word) → cond b (option_map {U = Option A × List Word} (λ a. (Some a.0, a.1)) (p.reads words)) (Some (None, words)) ≡ Some (x, rest) → (optional p).Spells x words rest
  optional_sound_by true x words rest e =
      let a = map_some (λ a. (Some a.0, a.1)) (p.reads words) (x, rest) e in
      subst (λ y. (optional p).Spells y words rest) (ap (λ r. r.0) a.2) (lawful_p.sound a.0.0 words rest (a.1 ∙ ap (λ (r : List Word). Some (a.0.0, r)) (ap (λ r. r.1) a.2)))
  optional_sound_by false None words rest e = (some_pair_parts {A = Option A} None None words rest e).1
  optional_sound_by false (Some x) words rest e = let k = (some_pair_parts {A = Option A} None (Some x) words rest e).0 in absurd (cc)

  optional_complete : (optional p).is_fit ≡ true → (x : Option A) (words rest : List Word) → (optional p).Spells x words rest → begins (optional p).goes_on rest ≡ false → (optional p).reads words ≡ Some (x, rest)
  optional_complete fit None words rest s no_more = rw (s, (neither_begins p.starts p.goes_on rest no_more).0)
  optional_complete fit (Some x) words rest s no_more =
      let fit_p = both_true p.is_fit (not p.may_be_empty) fit in
      elim (lawful_p.first fit_p.0 x words rest s) [
        | inl h ↦ rw (h.0, lawful_p.complete fit_p.0 x words rest s (neither_begins p.starts p.goes_on rest no_more).1)
        | inr h ↦ absurd (false≢true (sym (not_is p.may_be_empty fit_p.1) ∙ h.0))
      ]

  optional_first : (optional p).is_fit ≡ true → (x : Option A) (words rest : List Word) → (optional p).Spells x words rest → ((begins p.starts words ≡ true) × (length rest < length words)) ⊎ ((true ≡ true) × (words ≡ rest))
  optional_first fit None words rest s = inr (refl, s)
  optional_first fit (Some x) words rest s =
      elim (lawful_p.first (both_true p.is_fit (not p.may_be_empty) fit).0 x words rest s) [ inl h ↦ inl h | inr h ↦ inr (refl, h.1) ]

  pub lawful_optional : Lawful (optional p)
  lawful_optional = record { sound = λ x words rest e. optional_sound_by (begins p.starts words) x words rest e; complete = optional_complete; first = optional_first }

-- ---- one of two rules

module _ {A : Type 0} (p q : Rule A) (lawful_p : Lawful p) (lawful_q : Lawful q) where
  either_sound_by : (b : Bool) (x : A) (words rest : List Word) → cond b (p.reads words) (q.reads words) ≡ Some (x, rest) → (p ∣ q).Spells x words rest
  either_sound_by true x words rest e = inl (lawful_p.sound x words rest e)
  either_sound_by false x words rest e = inr (lawful_q.sound x words rest e)

  either_fit : (p ∣ q).is_fit ≡ true → (p.is_fit ≡ true) × (q.is_fit ≡ true) × (p.may_be_empty ≡ false) × (q.may_be_empty ≡ false) × (all_apart q.starts p.starts ≡ true)
  either_fit fit =
      let a = both_true p.is_fit (q.is_fit && (not p.may_be_empty && (not q.may_be_empty && all_apart q.starts p.starts))) fit in
      let b = both_true q.is_fit (not p.may_be_empty && (not q.may_be_empty && all_apart q.starts p.starts)) a.1 in
      let c = both_true (not p.may_be_empty) (not q.may_be_empty && all_apart q.starts p.starts) b.1 in
      let d = both_true (not q.may_be_empty) (all_apart q.starts p.starts) c.1 in
      (a.0, b.0, not_is p.may_be_empty c.0, not_is q.may_be_empty d.0, d.1)

  either_complete : (p ∣ q).is_fit ≡ true → (x : A) (words rest : List Word) → (p ∣ q).Spells x words rest → begins (p.goes_on ++ q.goes_on) rest ≡ false → (p ∣ q).reads words ≡ Some (x, rest)
  either_complete fit x words rest s no_more =
      let fits = either_fit fit in
      let no = neither_begins p.goes_on q.goes_on rest no_more in
      elim s [
        | inl s ↦ elim (lawful_p.first fits.0 x words rest s) [
          | inl h ↦ rw (h.0, lawful_p.complete fits.0 x words rest s no.0)
          | inr h ↦ absurd (false≢true (sym fits.2 ∙ h.0))
        ]
        | inr s ↦ elim (lawful_q.first fits.1 x words rest s) [
          | inl h ↦ rw (begins_apart q.starts p.starts words fits.4 h.0, lawful_q.complete fits.1 x words rest s no.1)
          | inr h ↦ absurd (false≢true (sym fits.3 ∙ h.0))
        ]
      ]

  either_first : (p ∣ q).is_fit ≡ true → (x : A) (words rest : List Word) → (p ∣ q).Spells x words rest → ((begins (p.starts ++ q.starts) words ≡ true) × (length rest < length words)) ⊎ ((q.may_be_empty ≡ true) × (words ≡ rest))
  either_first fit x words rest s =
      let fits = either_fit fit in
      elim s [
        | inl s ↦ elim (lawful_p.first fits.0 x words rest s) [
          | inl h ↦ inl (rw (begins-append p.starts q.starts words, h.0) refl, h.1)
          | inr h ↦ absurd (false≢true (sym fits.2 ∙ h.0))
        ]
        | inr s ↦ elim (lawful_q.first fits.1 x words rest s) [
          | inl h ↦ inl (rw (begins-append p.starts q.starts words, h.0) (or_true (begins p.starts words)), h.1)
          | inr h ↦ absurd (false≢true (sym fits.3 ∙ h.0))
        ]
      ]

  pub lawful_either : Lawful (p ∣ q)
  lawful_either = record { sound = λ x words rest e. either_sound_by (begins p.starts words) x words rest e; complete = either_complete; first = either_first }

-- ---- the value that a function gives for a rule's

module _ {A B : Type 0} (code : A → ℕ) (f : A → Option B) (p : Rule A) (lawful_p : Lawful p) where
  as_sound : (y : B) (words rest : List Word) → (where_it_gives_or code f p).reads words ≡ Some (y, rest) → (where_it_gives_or code f p).Spells y words rest
  as_sound y words rest e =
      let a = bind_some (λ a. option_map (λ y. (y, a.1)) (f a.0)) (p.reads words) (y, rest) e in
      let b = map_some (λ y. (y, a.0.1)) (f a.0.0) (y, rest) a.2 in
      (a.0.0, b.1 ∙ ap (λ (v : B). Some v) (ap (λ r. r.0) b.2), lawful_p.sound a.0.0 words rest (a.1 ∙ ap (λ (r : List Word). Some (a.0.0, r)) (ap (λ r. r.1) b.2)))

  pub lawful_as : Lawful (where_it_gives_or code f p)
  lawful_as = record {
    sound = as_sound;
    complete = λ fit y words rest s no. rw (lawful_p.complete fit s.0 words rest s.2 no, s.1);
    first = λ fit y words rest s. lawful_p.first fit s.0 words rest s.2;
  }

-- ---- a rule that may be barred

module _ {A : Type 0} (code : ℕ) (p : Rule A) (lawful_p : Lawful p) where
  unless_sound : (barred : Bool) (x : A) (words rest : List Word) → (unless_barred barred code p).reads words ≡ Some (x, rest) → (unless_barred barred code p).Spells x words rest
  unless_sound true x words rest e = absurd (cc)
  unless_sound false x words rest e = (refl, lawful_p.sound x words rest e)

  pub lawful_unless : (barred : Bool) → Lawful (unless_barred barred code p)
  lawful_unless barred = record {
    sound = unless_sound barred;
    complete = λ fit x words rest s no. rw (s.0) (lawful_p.complete fit x words rest s.1 no);
    first = λ fit x words rest s. lawful_p.first fit x words rest s.1;
  }

-- no words spell two values
pub only_one : {A : Type 0} (r : Rule A) → Lawful r → r.is_fit ≡ true → (x y : A) (words : List Word) → r.Spells x words [] → r.Spells y words [] → x ≡ y
only_one {A} r lawful fit x y words a b =
    (some_pair_parts x y [] [] (sym (lawful.complete fit x words [] a (nothing_begins r.goes_on)) ∙ lawful.complete fit y words [] b (nothing_begins r.goes_on))).0

-- where nothing is read, or not all, nothing is spelled
pub nothing_spelled : {A : Type 0} (r : Rule A) → Lawful r → r.is_fit ≡ true → (words : List Word) → r.reads words ≡ None → (y : A) → r.Spells y words [] → ⊥
nothing_spelled {A} r lawful fit words e y s =
    let k : ◌≡◌ {A = Option (A × List Word)} None (Some (y, [])) = sym e ∙ lawful.complete fit y words [] s (nothing_begins r.goes_on) in cc

pub not_all_spelled : {A : Type 0} (r : Rule A) → Lawful r → r.is_fit ≡ true → (x : A) (words rest : List Word) → r.reads words ≡ Some (x, rest) → (rest ≡ [] → ⊥) → (y : A) → r.Spells y words [] → ⊥
not_all_spelled {A} r lawful fit x words rest e more y s =
    more (some_pair_parts x y rest [] (sym e ∙ lawful.complete fit y words [] s (nothing_begins r.goes_on))).1
