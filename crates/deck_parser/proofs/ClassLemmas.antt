-- No word is of two classes that are apart.
use Rattle.std.proofs.Common.{◌≡◌, ℕ, Bool, true, false, not, ◌&&◌, ◌||◌, inl, inr, List, [], ◌∷◌, ◌++◌, map, Option, Some, None, refl, sym, ap, ◌∙◌, subst, arith}
use Rattle.std.specs.Prelude.{length, nat_le, codes}
use Rattle.std.specs.List.{list_all, list_any}
use Rattle.std.specs.Str.{bytes_eq}
use Rattle.std.specs.Char.{is_ascii_digit}
use Rattle.std.proofs.lemmas.Slice.Eq.{bytes_eq-Decides}
use Rattle.std.proofs.lemmas.List.Folds.{list_any-append}
use Rattle.std.proofs.lemmas.Option.{same_Some}
use Rattle.std.proofs.lemmas.Bool.{false≢true}
use Rattle.std.proofs.lemmas.Bool.Decides.{nat_tests}
use Rattle.io_state.specs.FileName.{is_capital}
use Rattle.deck_parser.specs.Name.{is_name, is_number}
use Rattle.deck_parser.specs.Class.{Class, this, names, numbers, levels, pictures, literals, signs, periods, is_in, begins, kind_of, has_text, only_text, has_capitals, lacks_text, differ, are_texts_apart, are_classes_apart, all_apart}
use Rattle.deck_parser.specs.Word.{Word, WordKind, is_same_kind}
use Rattle.deck_parser.specs.Word as kind
use Rattle.deck_parser.proofs.TestLemmas.{both_true, either_true, neither_true, not_is}

-- a test of mapped values is a test of the values
pub any_of_map : {A B : Type 0} (p : B → Bool) (f : A → B) (xs : List A) → list_any p (map f xs) ≡ list_any (λ x. p (f x)) xs
any_of_map p f [] = refl
any_of_map p f (x ∷ xs) = ap (λ v. p (f x) || v) (any_of_map p f xs)

-- ---- texts

only_of : (class : Class) (only text : List ℕ) → only_text class ≡ Some only → has_text class text ≡ true → text ≡ only
only_of (this t) only text e i = sym ((bytes_eq-Decides t text).0 i) ∙ same_Some t only e
only_of names only text e i = absurd (cc)
only_of numbers only text e i = absurd (cc)
only_of levels only text e i = absurd (cc)
only_of pictures only text e i = absurd (cc)
only_of literals only text e i = absurd (cc)
only_of (signs t) only text e i = sym ((bytes_eq-Decides t text).0 i) ∙ same_Some t only e
only_of periods only text e i = absurd (cc)

lacked : (class : Class) (only : Option (List ℕ)) (text : List ℕ) → lacks_text class only ≡ true → ((t : List ℕ) → only ≡ Some t → text ≡ t) → has_text class text ≡ false
lacked class None text e same = absurd (false≢true e)
lacked class (Some t) text e same = subst (λ u. has_text class u ≡ false) (sym (same t refl)) (not_is (has_text class t) e)

digit_no_capital : (b : ℕ) → is_ascii_digit b ≡ true → is_capital b ≡ false
digit_no_capital b e = grind (arith, nat_tests)

digits_no_capital : (text : List ℕ) → list_all is_ascii_digit text ≡ true → list_any is_capital text ≡ false
digits_no_capital [] e = refl
digits_no_capital (b ∷ text) e =
    let p = both_true _ (list_all is_ascii_digit text) e in rw (digit_no_capital b p.0) (digits_no_capital text p.1)

number_no_capital : (text : List ℕ) → is_number text ≡ true → list_any is_capital text ≡ false
number_no_capital text e = digits_no_capital text (both_true _ (list_all is_ascii_digit text) e).1

name_has_capital : (any all first last unreserved : Bool) → (any && all && first && last && unreserved) ≡ true → any ≡ true
name_has_capital true all first last unreserved e = refl
name_has_capital false all first last unreserved e = e

capitals_are : (class : Class) (text : List ℕ) (v : Bool) → has_capitals class ≡ Some v → has_text class text ≡ true → list_any is_capital text ≡ v
capitals_are (this t) text v e i = absurd (cc)
capitals_are names text v e i = name_has_capital (list_any is_capital text) _ _ _ _ i ∙ same_Some true v e
capitals_are numbers text v e i = number_no_capital text i ∙ same_Some false v e
capitals_are levels text v e i = number_no_capital text (both_true (is_number text) _ i).0 ∙ same_Some false v e
capitals_are pictures text v e i = absurd (cc)
capitals_are literals text v e i = absurd (cc)
capitals_are (signs t) text v e i = absurd (cc)
capitals_are periods text v e i = absurd (cc)

no_difference : (some other : Option Bool) (v : Bool) → ((w : Bool) → some ≡ Some w → v ≡ w) → ((w : Bool) → other ≡ Some w → v ≡ w) → differ some other ≡ true → ⊥
no_difference None other v p q e = false≢true e
no_difference (Some true) None v p q e = false≢true e
no_difference (Some false) None v p q e = false≢true e
no_difference (Some true) (Some w) v p q e = false≢true (sym (not_is w e) ∙ (sym (q w refl) ∙ p true refl))
no_difference (Some false) (Some w) v p q e = false≢true (sym (p false refl) ∙ (q w refl ∙ e))

-- a test that cannot be true is false
refuted : (v : Bool) → (v ≡ true → ⊥) → v ≡ false
refuted true no_truth = absurd (no_truth refl)
refuted false no_truth = refl

texts_apart : (some others : Class) (text : List ℕ) → are_texts_apart some others ≡ true → has_text some text ≡ true → has_text others text ≡ false
texts_apart some others text e i =
    elim (either_true (lacks_text others (only_text some)) (lacks_text some (only_text others) || differ (has_capitals some) (has_capitals others)) e) [
      | inl p ↦ lacked others (only_text some) text p (λ t q. only_of some t text q i)
      | inr r ↦ refuted (has_text others text) (λ j. elim (either_true (lacks_text some (only_text others)) (differ (has_capitals some) (has_capitals others)) r) [
        | inl p ↦ false≢true (sym (lacked some (only_text others) text p (λ t q. only_of others t text q j)) ∙ i)
        | inr p ↦ no_difference (has_capitals some) (has_capitals others) (list_any is_capital text) (λ w q. capitals_are some text w q i) (λ w q. capitals_are others text w q j) p
      ])
    ]

-- ---- words

same_kind : (k l : WordKind) → is_same_kind k l ≡ true → k ≡ l
same_kind kind.Plain kind.Plain e = refl
same_kind kind.Plain kind.Literal e = absurd (false≢true e)
same_kind kind.Plain kind.Sign e = absurd (false≢true e)
same_kind kind.Plain kind.Period e = absurd (false≢true e)
same_kind kind.Literal kind.Plain e = absurd (false≢true e)
same_kind kind.Literal kind.Literal e = refl
same_kind kind.Literal kind.Sign e = absurd (false≢true e)
same_kind kind.Literal kind.Period e = absurd (false≢true e)
same_kind kind.Sign kind.Plain e = absurd (false≢true e)
same_kind kind.Sign kind.Literal e = absurd (false≢true e)
same_kind kind.Sign kind.Sign e = refl
same_kind kind.Sign kind.Period e = absurd (false≢true e)
same_kind kind.Period kind.Plain e = absurd (false≢true e)
same_kind kind.Period kind.Literal e = absurd (false≢true e)
same_kind kind.Period kind.Sign e = absurd (false≢true e)
same_kind kind.Period kind.Period e = refl

parts_in : (class : Class) (word : Word) → is_in class word ≡ true → (is_same_kind (kind_of class) word.kind ≡ true) × (has_text class word.text ≡ true)
parts_in (this text) word i = both_true _ (bytes_eq text word.text) i
parts_in names word i = both_true _ (is_name word.text) i
parts_in numbers word i = both_true _ (is_number word.text) i
parts_in levels word i = both_true _ (is_number word.text && nat_le (length word.text) 2) i
parts_in pictures word i = both_true _ (not (bytes_eq (codes "IS") word.text)) i
parts_in literals word i = (i, refl)
parts_in (signs text) word i = both_true _ (bytes_eq text word.text) i
parts_in periods word i = (i, refl)

one_kind : (k l m : WordKind) → is_same_kind k m ≡ true → is_same_kind l m ≡ true → is_same_kind k l ≡ true
one_kind k l m e i = subst (λ n. is_same_kind k n ≡ true) (sym (same_kind l m i)) e

apart_in : (class other : Class) (word : Word) → are_classes_apart class other ≡ true → is_in class word ≡ true → is_in other word ≡ false
apart_in class other word e i =
    refuted (is_in other word) (λ j.
    let p = parts_in class word i in
    let q = parts_in other word j in
    elim (either_true (not (is_same_kind (kind_of class) (kind_of other))) (are_texts_apart class other) e) [
      | inl k ↦ false≢true (sym (not_is _ k) ∙ one_kind (kind_of class) (kind_of other) word.kind p.0 q.0)
      | inr k ↦ false≢true (sym (texts_apart class other word.text k p.1) ∙ q.1)
    ])

one_apart : (class : Class) (others : List Class) (word : Word) → list_all (are_classes_apart class) others ≡ true → is_in class word ≡ true → list_any (λ other. is_in other word) others ≡ false
one_apart class [] word e i = refl
one_apart class (other ∷ others) word e i =
    let p = both_true (are_classes_apart class other) (list_all (are_classes_apart class) others) e in
    rw (apart_in class other word p.0 i) (one_apart class others word p.1 i)

any_apart : (some others : List Class) (word : Word) → all_apart some others ≡ true → list_any (λ class. is_in class word) some ≡ true → list_any (λ class. is_in class word) others ≡ false
any_apart [] others word e i = absurd (false≢true i)
any_apart (class ∷ some) others word e i =
    let p = both_true (list_all (are_classes_apart class) others) (all_apart some others) e in
    elim (either_true (is_in class word) (list_any (λ class. is_in class word) some) i) [
      | inl q ↦ one_apart class others word p.0 q
      | inr q ↦ any_apart some others word p.1 q
    ]

-- ---- the next word

pub begins_apart : (some others : List Class) (words : List Word) → all_apart some others ≡ true → begins some words ≡ true → begins others words ≡ false
begins_apart some others [] e i = absurd (false≢true i)
begins_apart some others (word ∷ words) e i = any_apart some others word e i

pub begins-append : (some others : List Class) (words : List Word) → begins (some ++ others) words ≡ (begins some words || begins others words)
begins-append some others [] = refl
begins-append some others (word ∷ words) = list_any-append (λ class. is_in class word) some others

pub neither_begins : (some others : List Class) (words : List Word) → begins (some ++ others) words ≡ false → (begins some words ≡ false) × (begins others words ≡ false)
neither_begins some others words e = neither_true _ _ (sym (begins-append some others words) ∙ e)

pub nothing_begins : (classes : List Class) → begins classes [] ≡ false
nothing_begins classes = refl
