-- What is wrong with a value, and with the columns of a line.
use Rattle.std.proofs.Common.{◌≡◌, ◌<◌, ◌≤◌, ℕ, ◌+◌, ◌-◌, Bool, true, false, List, [], ◌∷◌, ◌++◌, length, refl, sym, ap, ◌∙◌, subst, arith, append_assoc, append-nil, length-append}
use Rattle.std.proofs.lemmas.List.Concat.{flat_map-append}
use Rattle.std.proofs.lemmas.Bool.{ltb-true, ltb-false}
use Rattle.std.specs.Prelude.{nat_lt}
use Rattle.deck_runner.specs.Line.{is_plain, shown_byte}
use Rattle.record_text.specs.declared.quoted.Quoting.{Quoting}
use Rattle.record_text.specs.declared.quoted.Quoting.TheVariants.{Doubled, Escaped}
use Rattle.record_text.specs.declared.mistake.ValueMistake.{ValueMistake}
use Rattle.record_text.specs.declared.mistake.ValueMistake.TheVariants as of_value
use Rattle.record_text.specs.ReadLine.{AreBytes}
use Rattle.record_text.specs.Quoted.{inside, quoted_byte, BeginsWithNoByte, value_front}
use Rattle.record_text.specs.Part.{ReadsPart, inside_text, EndsValue}
use Rattle.record_text.specs.Mistake.{AreCounted, IsEndMistake, IsValueMistake}
use Rattle.record_text.proofs.CellLemmas.{both_bytes}
use Rattle.record_text.proofs.QuotedLemmas.{Look, Quote, Plain, Coded, IsLook, look_of, escaped_is, quote_is, doubled_other, shown_plain, shown_coded, coded_no_quote}

-- ---- bytes are counted

pub shown_some : (byte : ℕ) → 0 < length (shown_byte byte)
shown_some byte = by_plain (is_plain byte) refl
  where
    by_plain : (plain : Bool) → is_plain byte ≡ plain → 0 < length (shown_byte byte)
    by_plain true p = let long = ap (λ (l : List ℕ). length l) (shown_plain byte p) in omega (arith, long)
    by_plain false p = let long = ap (λ (l : List ℕ). length l) (shown_coded byte p) in omega (arith, long)

some_doubled : (byte : ℕ) (look : Look) → IsLook look byte → 0 < length (quoted_byte Doubled byte)
some_doubled byte Quote p = let long = ap (λ (l : List ℕ). length l) (quote_is Doubled byte p) in omega (arith, long)
some_doubled byte Plain p = let long = ap (λ (l : List ℕ). length l) (doubled_other byte p.0) in let some = shown_some byte in omega (arith, long, some)
some_doubled byte Coded p =
    let long = ap (λ (l : List ℕ). length l) (doubled_other byte (coded_no_quote byte p)) in let some = shown_some byte in omega (arith, long, some)

some_escaped : (byte : ℕ) (look : Look) → IsLook look byte → 0 < length (quoted_byte Escaped byte)
some_escaped byte Quote p = let long = ap (λ (l : List ℕ). length l) (escaped_is Quote byte p) in omega (arith, long)
some_escaped byte Plain p = let long = ap (λ (l : List ℕ). length l) (escaped_is Plain byte p) in omega (arith, long)
some_escaped byte Coded p = let long = ap (λ (l : List ℕ). length l) (escaped_is Coded byte p) in omega (arith, long)

-- a byte in quotes is some characters
pub quoted_some : (quoting : Quoting) (byte : ℕ) → 0 < length (quoted_byte quoting byte)
quoted_some Doubled byte = some_doubled byte (look_of byte).0 (look_of byte).1
quoted_some Escaped byte = some_escaped byte (look_of byte).0 (look_of byte).1

-- so many bytes were counted, and this text is left
pub record IsCountedUpTo (quoting : Quoting) (text : List ℕ) (before count : ℕ) (rest : List ℕ) : Type 0 where
  pub bytes : List ℕ
  pub are_bytes : AreBytes bytes
  pub count_is : count ≡ before + length bytes
  pub text_is : text ≡ inside quoting bytes ++ rest
  pub fits : count + length rest ≤ before + length text

pub none_counted : (quoting : Quoting) (text : List ℕ) (before : ℕ) → IsCountedUpTo quoting text before before text
none_counted quoting text before = record { bytes = []; are_bytes = tt; count_is = omega arith; text_is = refl; fits = omega arith }

pub fewer : (quoting : Quoting) (rest : List ℕ) (byte : ℕ) (more : List ℕ) → rest ≡ quoted_byte quoting byte ++ more → length more + 1 ≤ length rest
fewer quoting rest byte more at =
    let long = ap (λ (l : List ℕ). length l) at ∙ length-append (quoted_byte quoting byte) more in
    let some = quoted_some quoting byte in
    omega (arith, long, some)

pub one_counted : (quoting : Quoting) (text : List ℕ) (before count : ℕ) (rest : List ℕ) → IsCountedUpTo quoting text before count rest
    → (byte : ℕ) (more : List ℕ) → byte < 256 → rest ≡ quoted_byte quoting byte ++ more → IsCountedUpTo quoting text before (count + 1) more
one_counted quoting text before count rest so_far byte more is_byte at = record {
  bytes = so_far.bytes ++ byte ∷ [];
  are_bytes = both_bytes so_far.bytes (byte ∷ []) so_far.are_bytes (is_byte, tt);
  count_is = (let long = length-append so_far.bytes (byte ∷ []) in let known = so_far.count_is in omega (arith, long, known));
  text_is = so_far.text_is ∙ ap (λ (l : List ℕ). inside quoting so_far.bytes ++ l) at
      ∙ sym (append_assoc (inside quoting so_far.bytes) (quoted_byte quoting byte) more)
      ∙ ap (λ (l : List ℕ). l ++ more) (sym (flat_map-append (quoted_byte quoting) so_far.bytes (byte ∷ []) ∙ ap (λ (l : List ℕ). inside quoting so_far.bytes ++ l) (append-nil (quoted_byte quoting byte))));
  fits = (let known = so_far.fits in let less = fewer quoting rest byte more at in omega (arith, known, less));
}

-- no byte stands behind them
pub all_counted : (quoting : Quoting) (text : List ℕ) (before count : ℕ) (rest : List ℕ) (so_far : IsCountedUpTo quoting text before count rest) → BeginsWithNoByte quoting rest
    → AreCounted quoting text (length so_far.bytes) rest
all_counted quoting text before count rest so_far none = record { bytes = so_far.bytes; are_bytes = so_far.are_bytes; count_is = refl; text_is = so_far.text_is; none = none }

-- where no byte stands, none are counted
pub counts_none : (quoting : Quoting) (text : List ℕ) (count : ℕ) (rest : List ℕ) → AreCounted quoting text count rest → BeginsWithNoByte quoting text → (count ≡ 0) × (text ≡ rest)
counts_none quoting text count rest counted none = by_bytes counted.bytes counted.are_bytes counted.count_is counted.text_is
  where
    by_bytes : (bytes : List ℕ) → AreBytes bytes → count ≡ length bytes → text ≡ inside quoting bytes ++ rest → (count ≡ 0) × (text ≡ rest)
    by_bytes [] are count_is text_is = (count_is, text_is)
    by_bytes (byte ∷ bytes) are count_is text_is =
        absurd (none byte (inside quoting bytes ++ rest) are.0 (text_is ∙ append_assoc (quoted_byte quoting byte) (inside quoting bytes) rest))

-- none are counted where their number is 0
pub none_there : (quoting : Quoting) (text : List ℕ) (count : ℕ) (rest : List ℕ) → AreCounted quoting text count rest → count ≡ 0 → text ≡ rest
none_there quoting text count rest counted zero_is = by_bytes counted.bytes counted.count_is counted.text_is
  where
    by_bytes : (bytes : List ℕ) → count ≡ length bytes → text ≡ inside quoting bytes ++ rest → text ≡ rest
    by_bytes [] count_is text_is = text_is
    by_bytes (byte ∷ bytes) count_is text_is = absurd (omega (arith, count_is, zero_is))

-- bytes that were read, and those behind them
pub joined : (quoting : Quoting) (text : List ℕ) (bytes rest : List ℕ) → AreBytes bytes → text ≡ inside quoting bytes ++ rest → (more : ℕ) (behind : List ℕ) → AreCounted quoting rest more behind
    → AreCounted quoting text (length bytes + more) behind
joined quoting text bytes rest are text_is more behind counted = record {
  bytes = bytes ++ counted.bytes;
  are_bytes = both_bytes bytes counted.bytes are counted.are_bytes;
  count_is = ap (λ (n : ℕ). length bytes + n) counted.count_is ∙ sym (length-append bytes counted.bytes);
  text_is = text_is ∙ ap (λ (l : List ℕ). inside quoting bytes ++ l) counted.text_is
      ∙ sym (append_assoc (inside quoting bytes) (inside quoting counted.bytes) behind)
      ∙ ap (λ (l : List ℕ). l ++ behind) (sym (flat_map-append (quoted_byte quoting) bytes counted.bytes));
  none = counted.none;
}

-- the characters are no fewer than the bytes
pub inside_long : (quoting : Quoting) (bytes : List ℕ) → length bytes ≤ length (inside quoting bytes)
inside_long quoting [] = omega arith
inside_long quoting (byte ∷ bytes) =
    let some = quoted_some quoting byte in
    let more = inside_long quoting bytes in
    let long = length-append (quoted_byte quoting byte) (inside quoting bytes) in
    omega (arith, some, more, long)

-- ---- what is behind a value

module _ (quoting : Quoting) (text : List ℕ) (more : ℕ) (rest : List ℕ) (counted : AreCounted quoting text more rest) where
  -- a value that ends at the front of the text
  pub no_end : ((behind : List ℕ) → rest ≡ 34 ∷ behind → ⊥) → (behind : List ℕ) → EndsValue quoting behind → text ≡ 34 ∷ behind → ⊥
  no_end none behind ends is =
      let known = counts_none quoting text more rest counted (subst (BeginsWithNoByte quoting) (sym is) ends) in
      none behind (sym known.1 ∙ is)

  pub no_more : 0 < more → (behind : List ℕ) → EndsValue quoting behind → text ≡ 34 ∷ behind → ⊥
  no_more some behind ends is =
      let known = counts_none quoting text more rest counted (subst (BeginsWithNoByte quoting) (sym is) ends) in
      let zero_is = known.0 in
      omega (arith, some, zero_is)

-- ---- a value

module _ (quoting : Quoting) (is_first : Bool) (name text opened : List ℕ) (front : text ≡ value_front quoting is_first name opened) (area : List ℕ) (from to : ℕ) (area_now : List ℕ) (at : ℕ) (rest : List ℕ)
    (cell : ReadsPart (inside_text quoting) (BeginsWithNoByte quoting) opened area from to area_now at rest) where
  read_is : at - from ≡ length cell.bytes
  read_is = let place = cell.at_is in omega (arith, place)

  pub few : at - from + length rest ≤ length opened
  few =
      let read = read_is in
      let long = ap (λ (l : List ℕ). length l) cell.text_is ∙ length-append (inside quoting cell.bytes) rest in
      let most = inside_long quoting cell.bytes in
      omega (arith, read, long, most)

  counted_with : (more : ℕ) (behind : List ℕ) → AreCounted quoting rest more behind → AreCounted quoting opened (at - from + more) behind
  counted_with more behind counted =
      subst (λ (n : ℕ). AreCounted quoting opened (n + more) behind) (sym read_is) (joined quoting opened cell.bytes rest cell.are_bytes cell.text_is more behind counted)

  -- more bytes than there is room for
  too_many : (more : ℕ) (behind : List ℕ) → AreCounted quoting rest more behind → 0 < more → to - from < at - from + more
  too_many more behind counted some = by_room (nat_lt to (at + more)) refl
    where
      known : at + more ≤ to → ⊥
      known room =
          let place = cell.at_is in
          let both = joined quoting opened cell.bytes rest cell.are_bytes cell.text_is more behind counted in
          let long = both.count_is in
          let same = (cell.only both.bytes behind both.are_bytes (omega (arith, place, room, long)) both.none both.text_is).0 in
          let equal = ap (λ (l : List ℕ). length l) same in
          omega (arith, long, equal, some)

      by_room : (over : Bool) → nat_lt to (at + more) ≡ over → to - from < at - from + more
      by_room true over = let less = ltb-true to (at + more) over in let place = cell.at_is in let within = cell.within in omega (arith, less, place, within)
      by_room false over = absurd (known (let less = ltb-false to (at + more) over in omega (arith, less)))

  pub value_mistake : (mistake : ValueMistake) → IsEndMistake quoting rest (at - from) mistake → IsValueMistake quoting is_first name text (to - from) mistake
  value_mistake of_value.Comma is = absurd is
  value_mistake of_value.Name is = absurd is
  value_mistake of_value.Quote is = absurd is
  value_mistake (of_value.Byte bytes stray) (more, behind, bytes_is, counted, no_quote, stray_is) = record {
    opened = opened;
    behind = behind;
    front = front;
    value = subst (λ (n : ℕ). AreCounted quoting opened n behind) (sym bytes_is) (counted_with more behind counted);
    no_quote = no_quote;
    stray_is = stray_is;
  }
  value_mistake (of_value.Long bytes) (more, behind, bytes_is, counted, some) = record {
    opened = opened;
    behind = behind;
    front = front;
    value = subst (λ (n : ℕ). AreCounted quoting opened n (34 ∷ behind)) (sym bytes_is) (counted_with more (34 ∷ behind) counted);
    more = subst (λ (n : ℕ). to - from < n) (sym bytes_is) (too_many more (34 ∷ behind) counted some);
  }
  value_mistake (of_value.Short bytes) is = absurd is
