-- What stands before a value and behind it.
use Rattle.std.proofs.Common.{◌≡◌, ◌≤◌, ℕ, ◌+◌, Bool, true, false, List, ◌∷◌, ◌++◌, length, sym, ap, ◌∙◌}
use Rattle.std.proofs.lemmas.List.{append_cancel_left}
use Rattle.record_text.specs.declared.quoted.Quoting.{Quoting}
use Rattle.record_text.specs.declared.quoted.Quoting.TheVariants.{Doubled, Escaped}
use Rattle.record_text.specs.ReadLine.{AreBytes}
use Rattle.record_text.specs.Quoted.{inside, BeginsWithNoByte, behind_comma, behind_label, value_front, value_text}
use Rattle.record_text.specs.Part.{ReadsPart, HasNoPart, inside_text, EndsValue}

pub comma_apart : (is_first : Bool) (x y : List ℕ) → behind_comma is_first x ≡ behind_comma is_first y → x ≡ y
comma_apart true x y e = e
comma_apart false x y e = cc

pub label_apart : (quoting : Quoting) (name x y : List ℕ) → behind_label quoting name x ≡ behind_label quoting name y → x ≡ y
label_apart Doubled name x y e = e
label_apart Escaped name x y e =
    let both : inside Escaped name ++ (34 ∷ 58 ∷ x) ≡ inside Escaped name ++ (34 ∷ 58 ∷ y) = cc in
    let last : ◌≡◌ {A = List ℕ} (34 ∷ 58 ∷ x) (34 ∷ 58 ∷ y) = append_cancel_left (inside Escaped name) (34 ∷ 58 ∷ x) (34 ∷ 58 ∷ y) both in
    cc

pub front_apart : (quoting : Quoting) (is_first : Bool) (name x y : List ℕ) → value_front quoting is_first name x ≡ value_front quoting is_first name y → x ≡ y
front_apart quoting is_first name x y e =
    let value : 34 ∷ x ≡ 34 ∷ y = label_apart quoting name (34 ∷ x) (34 ∷ y) (comma_apart is_first (behind_label quoting name (34 ∷ x)) (behind_label quoting name (34 ∷ y)) e) in
    cc

-- the value is that of the bytes between the quotes
module _ (quoting : Quoting) (is_first : Bool) (name text opened : List ℕ) (front : text ≡ value_front quoting is_first name opened) (area : List ℕ) (from to : ℕ) (area_now : List ℕ) (at : ℕ) (rest : List ℕ)
    (cell : ReadsPart (inside_text quoting) (BeginsWithNoByte quoting) opened area from to area_now at rest) where
  -- bytes that give the text are those between the quotes, and a quote is behind them
  pub between : (others behind : List ℕ) → AreBytes others → from + length others ≤ to → EndsValue quoting behind → text ≡ value_text quoting is_first name others behind
      → (others ≡ cell.bytes) × (34 ∷ behind ≡ rest)
  between others behind are room ends is =
      let inner : opened ≡ inside quoting others ++ (34 ∷ behind) = front_apart quoting is_first name opened (inside quoting others ++ (34 ∷ behind)) (sym front ∙ is) in
      cell.only others (34 ∷ behind) are room ends inner

  pub value_part : (behind : List ℕ) → rest ≡ 34 ∷ behind → ReadsPart (value_text quoting is_first name) (EndsValue quoting) text area from to area_now at behind
  value_part behind closed = record {
    bytes = cell.bytes;
    are_bytes = cell.are_bytes;
    front = cell.front;
    at_is = cell.at_is;
    within = cell.within;
    same = cell.same;
    rest = cell.rest;
    text_is = front ∙ ap (value_front quoting is_first name) (cell.text_is ∙ ap (λ (l : List ℕ). inside quoting cell.bytes ++ l) closed);
    only = λ others other_behind are room ends is.
        let known = between others other_behind are room ends is in
        let both : 34 ∷ other_behind ≡ 34 ∷ behind = known.1 ∙ closed in
        (known.0, cc);
  }

  pub no_value : ((behind : List ℕ) → EndsValue quoting behind → rest ≡ 34 ∷ behind → ⊥) → HasNoPart (value_text quoting is_first name) (EndsValue quoting) text from to
  no_value none bytes behind are room ends is = none behind ends (sym (between bytes behind are room ends is).1)
