-- Values that are filled up, one after another.
use Rattle.std.proofs.Common.{◌≡◌, ◌<◌, ◌≤◌, ℕ, zero, suc, ◌+◌, ◌-◌, Bool, true, false, List, [], ◌∷◌, ◌++◌, length, take, drop, map, flat_map, replicate, rules, refl, sym, ap, ◌∙◌, subst, arith, append_assoc, append-nil, length-append}
use Rattle.std.proofs.lemmas.List.{places, same_lists, take_all, length-drop, length-take-le, length-replicate}
use Rattle.std.proofs.lemmas.List.Concat.{flat_map-append}
use Rattle.std.proofs.Math.Seq.{take-append_seam}
use Rattle.pages.specs.Each.{Each}
use Rattle.record_text.specs.declared.column.Column.{Column}
use Rattle.record_text.specs.Parts.{part_of_column}
use Rattle.record_text.specs.declared.quoted.Quoting.{Quoting}
use Rattle.record_text.specs.declared.mistake.ColumnMistake.{ColumnMistake}
use Rattle.record_text.specs.ReadLine.{AreBytes}
use Rattle.record_text.specs.Whole.{AreTiled}
use Rattle.record_text.specs.Quoted.{inside, behind_label, value_text}
use Rattle.record_text.specs.Part.{EndsValue}
use Rattle.record_text.specs.Mistake.{is_empty}
use Rattle.record_text.specs.Padded.{padded, IsPaddedByMove, TakesValue, ColumnValue, columns_of, AreValuesOf, padded_value}
use Rattle.record_text.specs.PaddedPart.{padded_text, with_bytes_at, ReadsPaddedValue, HasNoPaddedValue, ReadsPaddedValues, HasNoPaddedValues, IsPaddedValueMistake, IsWrongPadded}
use Rattle.record_text.proofs.CellLemmas.{both_bytes}
use Rattle.record_text.proofs.ValuesLemmas.{ends_comma, tiled_order}

-- ---- a value

pub padded_long : (numeric : Bool) (n : ℕ) (value : List ℕ) → length value ≤ n → length (padded numeric n value) ≡ n
padded_long false n value few =
    let both = length-append value (replicate (n - length value) 32) in
    let more = length-replicate {A = ℕ} (n - length value) 32 in
    omega (arith, both, more, few)
padded_long true n value few =
    let both = length-append (replicate (n - length value) 48) value in
    let more = length-replicate {A = ℕ} (n - length value) 48 in
    omega (arith, both, more, few)

many_bytes : (n byte : ℕ) → byte < 256 → AreBytes (replicate n byte)
many_bytes zero byte is = tt
many_bytes (suc n) byte is = (is, many_bytes n byte is)

pub padded_bytes : (numeric : Bool) (n : ℕ) (value : List ℕ) → AreBytes value → AreBytes (padded numeric n value)
padded_bytes false n value are = both_bytes value (replicate (n - length value) 32) are (many_bytes (n - length value) 32 (omega arith))
padded_bytes true n value are = both_bytes (replicate (n - length value) 48) value (many_bytes (n - length value) 48 (omega arith)) are

-- one that has all its bytes stays as it is
pub padded_full : (numeric : Bool) (n : ℕ) (value : List ℕ) → length value ≡ n → padded numeric n value ≡ value
padded_full numeric n value full = by_class numeric (let none : n - length value ≡ 0 = omega (arith, full) in none)
  where
    by_class : (class : Bool) → n - length value ≡ 0 → padded class n value ≡ value
    by_class false none = ap (λ (m : ℕ). value ++ replicate m 32) none ∙ append-nil value
    by_class true none = ap (λ (m : ℕ). replicate m 48 ++ value) none

letters_moved : (n : ℕ) (value : List ℕ) → length value ≤ n → value ++ replicate (n - length value) 32 ≡ take n (value ++ replicate n 32)
letters_moved n value few = same_lists _ _ (search (rules, places)) (λ k d h. grind (arith, places))

digits_moved : (n : ℕ) (value : List ℕ) → length value ≤ n → replicate (n - length value) 48 ++ value ≡ drop (length value) (replicate n 48 ++ value)
digits_moved n value few = same_lists _ _ (search (rules, places)) (λ k d h. grind (arith, places))

pub by_move : IsPaddedByMove
by_move n value few = (letters_moved n value few, digits_moved n value few)

-- ---- values in quotes

ends_values : (quoting : Quoting) (values : List ColumnValue) (behind : List ℕ) → EndsValue quoting behind → EndsValue quoting (padded_text quoting false values behind)
ends_values quoting [] behind ends = ends
ends_values quoting (of ∷ values) behind ends = ends_comma quoting (behind_label quoting of.column.name.bytes (34 ∷ (inside quoting of.value ++ (34 ∷ padded_text quoting false values behind))))

-- a value follows those of others
follows_more : (quoting : Quoting) (before : List ColumnValue) (of : ColumnValue) (behind : List ℕ)
    → padded_text quoting false before (value_text quoting false of.column.name.bytes of.value behind) ≡ padded_text quoting false (before ++ of ∷ []) behind
follows_more quoting [] of behind = refl
follows_more quoting (one ∷ before) of behind = ap (value_text quoting false one.column.name.bytes one.value) (follows_more quoting before of behind)

follows : (quoting : Quoting) (before : List ColumnValue) (of : ColumnValue) (behind : List ℕ)
    → padded_text quoting true before (value_text quoting (is_empty (columns_of before)) of.column.name.bytes of.value behind) ≡ padded_text quoting true (before ++ of ∷ []) behind
follows quoting [] of behind = refl
follows quoting (one ∷ before) of behind = ap (value_text quoting true one.column.name.bytes one.value) (follows_more quoting before of behind)

not_first : (before : List ColumnValue) (of : ColumnValue) → is_empty (columns_of (before ++ of ∷ [])) ≡ false
not_first [] of = refl
not_first (one ∷ before) of = refl

more_columns : (before : List ColumnValue) (of : ColumnValue) (after : List Column) → columns_of before ++ of.column ∷ after ≡ columns_of (before ++ of ∷ []) ++ after
more_columns [] of after = refl
more_columns (one ∷ before) of after = ap (λ (l : List Column). one.column ∷ l) (more_columns before of after)

both_taken : (before more : List ColumnValue) → Each (λ of. TakesValue of.column of.value) before → Each (λ of. TakesValue of.column of.value) more → Each (λ of. TakesValue of.column of.value) (before ++ more)
both_taken [] more are others = others
both_taken (one ∷ before) more are others = (are.0, both_taken before more are.1 others)

-- ---- bytes in their place

module _ (at : ℕ) (bytes area : List ℕ) (room : at + length bytes ≤ length area) where
  front_long : length (take at area ++ bytes) ≡ at + length bytes
  front_long =
      let both = length-append (take at area) bytes in
      let front = length-take-le at area (omega (arith, room)) in
      omega (arith, both, front)

  put_is : with_bytes_at at bytes area ≡ (take at area ++ bytes) ++ drop (at + length bytes) area
  put_is = sym (append_assoc (take at area) bytes (drop (at + length bytes) area))

  put_front : take (at + length bytes) (with_bytes_at at bytes area) ≡ take at area ++ bytes
  put_front =
      ap (take (at + length bytes)) put_is
      ∙ ap (λ (n : ℕ). take n ((take at area ++ bytes) ++ drop (at + length bytes) area)) (sym front_long)
      ∙ take-append_seam (take at area ++ bytes) (drop (at + length bytes) area)

  put_long : length (with_bytes_at at bytes area) ≡ length area
  put_long =
      let is = ap (λ (l : List ℕ). length l) put_is in
      let both = length-append (take at area ++ bytes) (drop (at + length bytes) area) in
      let front = front_long in
      let back = length-drop (at + length bytes) area in
      omega (arith, is, both, front, back, room)

-- ---- the columns so far

-- values of the columns that are left, where this text is left
pub record AreLeft (quoting : Quoting) (is_first : Bool) (left : List Column) (rest behind : List ℕ) : Type 0 where
  pub values : List ColumnValue
  pub are_values : AreValuesOf left values
  pub text_is : rest ≡ padded_text quoting is_first values behind

-- values of the first columns were read and filled up; other values that give the text leave the same text
pub record ArePaddedUpTo (quoting : Quoting) (columns : List Column) (text area : List ℕ) (is_first : Bool) (left : List Column) (area_now rest : List ℕ) : Type 0 where
  pub done : List ColumnValue
  pub columns_are : columns ≡ columns_of done ++ left
  pub first_is : is_first ≡ is_empty (columns_of done)
  pub are_taken : Each (λ of. TakesValue of.column of.value) done
  pub at : ℕ
  pub tiled : AreTiled at (map part_of_column left) (length area)
  pub same : length area_now ≡ length area
  pub front : take at area_now ≡ flat_map padded_value done
  pub text_is : text ≡ padded_text quoting true done rest
  pub each : (others : List ColumnValue) (behind : List ℕ) → AreValuesOf columns others → EndsValue quoting behind → text ≡ padded_text quoting true others behind
      → AreLeft quoting is_first left rest behind

pub none_padded : (quoting : Quoting) (columns : List Column) (text area : List ℕ) → AreTiled 0 (map part_of_column columns) (length area) → ArePaddedUpTo quoting columns text area true columns area text
none_padded quoting columns text area whole = record {
  done = [];
  columns_are = refl;
  first_is = refl;
  are_taken = tt;
  at = 0;
  tiled = whole;
  same = refl;
  front = refl;
  text_is = refl;
  each = λ others behind are ends is. record { values = others; are_values = are; text_is = is };
}

-- values of a column and of those behind it
pub record IsFirstLeft (quoting : Quoting) (is_first : Bool) (column : Column) (after : List Column) (rest behind : List ℕ) : Type 0 where
  pub value : List ℕ
  pub is_taken : TakesValue column value
  pub values : List ColumnValue
  pub are_values : AreValuesOf after values
  pub text_is : rest ≡ value_text quoting is_first column.name.bytes value (padded_text quoting false values behind)

first_left : (quoting : Quoting) (is_first : Bool) (column : Column) (after : List Column) (rest behind : List ℕ) (values : List ColumnValue)
    → AreValuesOf (column ∷ after) values → rest ≡ padded_text quoting is_first values behind → IsFirstLeft quoting is_first column after rest behind
first_left quoting is_first column after rest behind [] are is = let bad : ◌≡◌ {A = List Column} [] (column ∷ after) = are.columns_are in absurd (cc)
first_left quoting is_first column after rest behind (of ∷ values) are is =
    let both : of.column ∷ columns_of values ≡ column ∷ after = are.columns_are in
    let one : of.column ≡ column = cc in
    let others : columns_of values ≡ after = cc in
    record {
      value = of.value;
      is_taken = subst (λ (c : Column). TakesValue c of.value) one are.are_taken.0;
      values = values;
      are_values = record { columns_are = others; are_taken = are.are_taken.1 };
      text_is = subst (λ (c : Column). rest ≡ value_text quoting is_first c.name.bytes of.value (padded_text quoting false values behind)) one is;
    }

module _ (quoting : Quoting) (columns : List Column) (text area : List ℕ) (is_first : Bool) (area_now rest : List ℕ) where
  module _ (column : Column) (after : List Column) (read : ArePaddedUpTo quoting columns text area is_first (column ∷ after) area_now rest) where
    offset_is : column.offset ≡ read.at
    offset_is = read.tiled.0

    pub place : column.offset + column.length ≤ length area_now
    place =
        let end = tiled_order (read.at + column.length) (map part_of_column after) (length area) read.tiled.1 in
        let here = offset_is in
        let same = read.same in
        omega (arith, end, here, same)

    -- no column is read where no value that it takes gives the text
    pub no_values : HasNoPaddedValue quoting is_first column rest → HasNoPaddedValues quoting columns text
    no_values none others behind are ends is =
        let left = read.each others behind are ends is in
        let one = first_left quoting is_first column after rest behind left.values left.are_values left.text_is in
        none one.value (padded_text quoting false one.values behind) one.is_taken (ends_values quoting one.values behind ends) one.text_is

    -- the mistake in its value
    pub wrong_value : (told : ColumnMistake) → told.number ≡ length columns - length after → told.name ≡ column.name → told.wanted ≡ column.length
        → IsPaddedValueMistake quoting is_first column rest told.mistake → IsWrongPadded quoting columns text told
    wrong_value told number name wanted wrong = record {
      before = read.done;
      column = column;
      after = after;
      rest = rest;
      columns_are = read.columns_are;
      are_taken = read.are_taken;
      text_is = read.text_is;
      is_told = record { number = count; name = name; wanted = wanted };
      wrong = subst (λ (b : Bool). IsPaddedValueMistake quoting b column rest told.mistake) read.first_is wrong;
    }
      where
        count : told.number ≡ length (columns_of read.done) + 1
        count =
            let long = ap (λ (l : List Column). length l) read.columns_are ∙ length-append (columns_of read.done) (column ∷ after) in
            omega (arith, long, number)

    -- one value more is read
    module _ (area_next behind_value : List ℕ) (one : ReadsPaddedValue quoting is_first column rest area_now area_next behind_value) where
      abbrev bytes : List ℕ
      bytes = padded column.numeric column.length one.value

      long : length bytes ≡ column.length
      long = padded_long column.numeric column.length one.value one.is_taken.room

      room : column.offset + length bytes ≤ length area_now
      room = let fits = place in let is = long in omega (arith, fits, is)

      abbrev of : ColumnValue
      of = record { column = column; value = one.value }

      go_on : (others : List ColumnValue) (behind : List ℕ) → AreValuesOf columns others → EndsValue quoting behind → text ≡ padded_text quoting true others behind → AreLeft quoting false after behind_value behind
      go_on others behind are ends is =
          let left = read.each others behind are ends is in
          let next = first_left quoting is_first column after rest behind left.values left.are_values left.text_is in
          record {
            values = next.values;
            are_values = next.are_values;
            text_is = sym (one.only next.value (padded_text quoting false next.values behind) next.is_taken.are_bytes next.is_taken.room (ends_values quoting next.values behind ends) next.text_is).1;
          }

      pub one_padded : ArePaddedUpTo quoting columns text area false after area_next behind_value
      one_padded = record {
        done = read.done ++ of ∷ [];
        columns_are = read.columns_are ∙ more_columns read.done of after;
        first_is = sym (not_first read.done of);
        are_taken = both_taken read.done (of ∷ []) read.are_taken (one.is_taken, tt);
        at = read.at + column.length;
        tiled = read.tiled.1;
        same = ap (λ (l : List ℕ). length l) one.area_is ∙ put_long column.offset bytes area_now room ∙ read.same;
        front = next_front;
        text_is = read.text_is
            ∙ ap (padded_text quoting true read.done) (one.text_is ∙ ap (λ (b : Bool). value_text quoting b column.name.bytes one.value behind_value) read.first_is)
            ∙ follows quoting read.done of behind_value;
        each = go_on;
      }
        where
          next_front : take (read.at + column.length) area_next ≡ flat_map padded_value (read.done ++ of ∷ [])
          next_front =
              let end : read.at + column.length ≡ column.offset + length bytes = (let is = long in let here = offset_is in omega (arith, is, here)) in
              ap (λ (n : ℕ). take n area_next) end
              ∙ ap (take (column.offset + length bytes)) one.area_is
              ∙ put_front column.offset bytes area_now room
              ∙ ap (λ (n : ℕ). take n area_now ++ bytes) offset_is
              ∙ ap (λ (l : List ℕ). l ++ bytes) read.front
              ∙ ap (λ (l : List ℕ). flat_map padded_value read.done ++ l) (sym (append-nil bytes))
              ∙ sym (flat_map-append padded_value read.done (of ∷ []))

  -- all columns were read
  pub all_padded : ArePaddedUpTo quoting columns text area is_first [] area_now rest → ReadsPaddedValues quoting columns text area_now rest
  all_padded read = record {
    values = read.done;
    are_values = record { columns_are = sym (read.columns_are ∙ append-nil (columns_of read.done)); are_taken = read.are_taken };
    text_is = read.text_is;
    area_is = sym whole ∙ read.front;
    only = λ others behind are ends is. nothing_left behind (read.each others behind are ends is);
  }
    where
      whole : take read.at area_now ≡ area_now
      whole = let end : read.at ≡ length area = read.tiled in let same = read.same in take_all read.at area_now (omega (arith, end, same))

      nothing_left : (behind : List ℕ) → AreLeft quoting is_first [] rest behind → behind ≡ rest
      nothing_left behind left = by_values left.values left.are_values.columns_are left.text_is
        where
          by_values : (values : List ColumnValue) → columns_of values ≡ [] → rest ≡ padded_text quoting is_first values behind → behind ≡ rest
          by_values [] none is = sym is
          by_values (of ∷ values) none is = let bad : ◌≡◌ {A = List Column} (of.column ∷ columns_of values) [] = none in absurd (cc)

-- the record of values is bytes
pub record_bytes : (values : List ColumnValue) → Each (λ of. TakesValue of.column of.value) values → AreBytes (flat_map padded_value values)
record_bytes [] are = tt
record_bytes (of ∷ values) are =
    both_bytes (padded_value of) (flat_map padded_value values) (padded_bytes of.column.numeric of.column.length of.value are.0.are_bytes) (record_bytes values are.1)
