-- What a source of MOVE is: the digits of a number, and of a literal of digits alone, are digits.
use Rattle.std.proofs.Common.{◌≡◌, ℕ, cond, Bool, true, false, List, length, Some, None, refl, sym, subst}
use Rattle.std.specs.Prelude.{nat_le, IsTrue}
use Rattle.std.specs.List.{list_all}
use Rattle.std.specs.Char.{is_ascii_digit}
use Rattle.std.proofs.lemmas.Bool.{false≢true}
use Rattle.std.proofs.lemmas.Option.{same_Some}
use Rattle.deck_parser.specs.Class.{numbers}
use Rattle.deck_parser.specs.Name.{is_number as is_number_text}
use Rattle.deck_parser.specs.Notation.{literal, ◌∣◌, ◌<$>◌}
use Rattle.deck_parser.specs.Operand.{digits}
use Rattle.deck_parser.specs.Rule.{one}
use Rattle.deck_parser.specs.Word.{Word, is_same_kind}
use Rattle.deck_parser.specs.Word as kind
use Rattle.deck_parser.proofs.TestLemmas.{both_true, then_some}
use Rattle.record_layout.specs.Area.{is_taken_by}
use Rattle.record_layout.specs.declared.area.Source.{Source}
use Rattle.record_layout.specs.declared.area.Source.TheVariants.{Text, Digits, Fill}
use Rattle.deck_reader.specs.Allowed.{is_numeric}
use Rattle.deck_reader.specs.StatementRules.{figure, source}
use Rattle.deck_reader.proofs.GivesLemmas.{Gives, gives_either, gives_as}

-- digits alone
abbrev pub IsNumeral : List ℕ → Type 0
IsNumeral text = IsTrue (list_all is_ascii_digit text)

-- the digits of a source are digits
abbrev pub HasDigits : Source (List ℕ) → Type 0
HasDigits (Text _) = Unit {0}
HasDigits (Digits text) = IsNumeral text
HasDigits (Fill _) = Unit {0}

digits_of_number : (text : List ℕ) (words rest : List Word) → (one numbers).Spells text words rest → IsNumeral text
digits_of_number text words rest s =
    let number = (both_true (is_same_kind kind.Plain s.0.kind) (is_number_text s.0.text) s.2).1 in
    subst IsNumeral (sym s.3) (both_true _ (list_all is_ascii_digit s.0.text) number).1

gives_digits : Gives IsNumeral digits
unfolding digits
gives_digits =
    gives_as IsNumeral IsNumeral (λ text. cond (nat_le (length text) 18) (Some text) None) (one numbers) digits_of_number
    (λ text number h e. subst IsNumeral (same_Some text number (then_some (nat_le (length text) 18) (Some text) number e).1) h)

-- a literal of digits alone is moved as a number is
abbrev sent_by_literal : List ℕ → Source (List ℕ)
sent_by_literal text = cond (list_all is_ascii_digit text) (Digits text) (Text text)

literal_digits : (text : List ℕ) (b : Bool) → list_all is_ascii_digit text ≡ b → HasDigits (cond b (Digits text) (Text text))
literal_digits text true e = e
literal_digits text false e = tt

gives_literal : Gives HasDigits (sent_by_literal <$> literal)
gives_literal =
    gives_as (λ _. Unit {0}) HasDigits (λ text. Some (sent_by_literal text)) literal (λ _ _ _ _. tt)
    (λ text sent _ e. subst HasDigits (same_Some (sent_by_literal text) sent e) (literal_digits text (list_all is_ascii_digit text) refl))

gives_number : Gives HasDigits (Digits <$> digits)
gives_number =
    gives_as IsNumeral HasDigits (λ text. Some (Digits text)) digits gives_digits
    (λ text sent h e. subst HasDigits (same_Some (Digits text) sent e) h)

gives_figure : Gives HasDigits (Fill <$> figure)
gives_figure =
    gives_as (λ _. Unit {0}) HasDigits (λ constant. Some (Fill constant)) figure (λ _ _ _ _. tt)
    (λ constant sent _ e. subst HasDigits (same_Some (Fill constant) sent e) tt)

pub gives_source : Gives HasDigits source
unfolding source
gives_source =
    gives_either HasDigits (sent_by_literal <$> literal) ((Digits <$> digits) ∣ (Fill <$> figure)) gives_literal
    (gives_either HasDigits (Digits <$> digits) (Fill <$> figure) gives_number gives_figure)

-- what a numeric item takes is a number
pub taken_is_number : (sent : Source (List ℕ)) → HasDigits sent → is_taken_by true sent ≡ true → is_numeric sent ≡ true
taken_is_number (Text _) h e = absurd (false≢true e)
taken_is_number (Digits _) h e = h
taken_is_number (Fill _) h e = e
