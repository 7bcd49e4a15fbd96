-- The value of a column, in its place.
use Rattle.std.proofs.Common.{◌≡◌, ◌<◌, ◌≤◌, ℕ, ◌+◌, ◌-◌, Bool, true, false, List, ◌++◌, length, take, drop, sym, ap, ◌∙◌, subst, arith, drop-drop, true≢false}
use Rattle.std.proofs.lemmas.List.{drop-take, take-take, length-drop, length-take, length-take-le}
use Rattle.std.proofs.Math.Seq.{take-append_seam, drop-append_seam}
use Rattle.record_text.specs.declared.column.Column.{Column}
use Rattle.record_text.specs.declared.quoted.Quoting.{Quoting}
use Rattle.record_text.specs.declared.mistake.ValueMistake.TheVariants.{Short}
use Rattle.record_text.specs.Quoted.{value_text}
use Rattle.record_text.specs.Part.{ReadsPart, EndsValue}
use Rattle.record_text.specs.Padded.{padded, may_be_padded}
use Rattle.record_text.specs.PaddedPart.{ReadsPaddedValue, HasNoPaddedValue, IsNotPadded}
use Rattle.record_text.proofs.PaddedLemmas.{padded_long}

module _ (quoting : Quoting) (is_first : Bool) (column : Column) (text area : List ℕ) (from width at : ℕ) (area_now behind : List ℕ) (from_is : from ≡ column.offset) (width_is : width ≡ column.length)
    (place : column.offset + column.length ≤ length area) (part : ReadsPart (value_text quoting is_first column.name.bytes) (EndsValue quoting) text area from (from + width) area_now at behind) where
  size : at - from ≡ length part.bytes
  size = let is = part.at_is in omega (arith, is)

  few : length part.bytes ≤ column.length
  few = let is = part.at_is in let within = part.within in omega (arith, is, within, width_is)

  front_long : length (take from area) ≡ from
  front_long = length-take-le from area (omega (arith, from_is, place))

  -- the bytes that were read
  value_is : take (at - from) (drop from area_now) ≡ part.bytes
  value_is =
      let end : from + (at - from) ≡ at = (let is = part.at_is in omega (arith, is)) in
      sym (drop-take from (at - from) area_now)
      ∙ ap (λ (n : ℕ). drop from (take n area_now)) end
      ∙ ap (drop from) part.front
      ∙ ap (λ (n : ℕ). drop n (take from area ++ part.bytes)) (sym front_long)
      ∙ drop-append_seam (take from area) part.bytes

  front_same : take from area_now ≡ take from area
  front_same =
      sym (take-take from at area_now (let is = part.at_is in omega (arith, is)))
      ∙ ap (take from) part.front
      ∙ ap (λ (n : ℕ). take n (take from area ++ part.bytes)) (sym front_long)
      ∙ take-append_seam (take from area) part.bytes

  back_same : drop (from + width) area_now ≡ drop (from + width) area
  back_same =
      let end : from + width ≡ at + (from + width - at) = (let within = part.within in omega (arith, within)) in
      ap (λ (n : ℕ). drop n area_now) end
      ∙ sym (drop-drop (from + width - at) at area_now)
      ∙ ap (drop (from + width - at)) part.rest
      ∙ drop-drop (from + width - at) at area
      ∙ ap (λ (n : ℕ). drop n area) (sym end)

  -- it is one that the column does not take
  module _ (value : List ℕ) (is : value ≡ take (at - from) (drop from area_now)) (short : length value < column.length) (refused : may_be_padded column.numeric value ≡ false) where
    same : value ≡ part.bytes
    same = is ∙ value_is

    pub not_padded : IsNotPadded quoting is_first column text (Short (at - from))
    not_padded = record {
      value = part.bytes;
      behind = behind;
      are_bytes = part.are_bytes;
      text_is = part.text_is;
      short = subst (λ (l : List ℕ). length l < column.length) same short;
      not_padded = subst (λ (l : List ℕ). may_be_padded column.numeric l ≡ false) same refused;
      mistake_is = ap Short size;
    }

    pub none_padded : HasNoPaddedValue quoting is_first column text
    none_padded other other_behind taken ends other_is =
        let room = taken.room in
        let one : other ≡ value = (part.only other other_behind taken.are_bytes (omega (arith, room, width_is)) ends other_is).0 ∙ sym same in
        let less : length other < column.length = subst (λ (l : List ℕ). length l < column.length) (sym one) short in
        true≢false (sym (taken.short less) ∙ ap (may_be_padded column.numeric) one ∙ refused)

  -- it is one that the column takes, and is filled up
  module _ (value : List ℕ) (is : value ≡ take (at - from) (drop from area_now)) (taken : length value < column.length → may_be_padded column.numeric value ≡ true)
      (item item_after area_after : List ℕ) (item_is : item ≡ take (from + width - from) (drop from area_now)) (item_padded : item_after ≡ padded column.numeric (length item) (take (at - from) item))
      (after_is : area_after ≡ take from area_now ++ (item_after ++ drop (from + width - from) (drop from area_now))) where
    same_value : value ≡ part.bytes
    same_value = is ∙ value_is

    item_long : length item ≡ column.length
    item_long =
        let long = ap (λ (l : List ℕ). length l) item_is in
        let front = length-take (from + width - from) (drop from area_now) in
        let back = length-drop from area_now in
        let whole = part.same in
        omega (arith, long, front, back, whole, place, from_is, width_is)

    item_value : take (at - from) item ≡ part.bytes
    item_value =
        ap (take (at - from)) item_is
        ∙ take-take (at - from) (from + width - from) (drop from area_now) (let within = part.within in omega (arith, within))
        ∙ value_is

    bytes_are : item_after ≡ padded column.numeric column.length part.bytes
    bytes_are = item_padded ∙ ap (λ (n : ℕ). padded column.numeric n (take (at - from) item)) item_long ∙ ap (padded column.numeric column.length) item_value

    long : length (padded column.numeric column.length part.bytes) ≡ column.length
    long = padded_long column.numeric column.length part.bytes few

    behind_is : drop (from + width - from) (drop from area_now) ≡ drop (column.offset + length (padded column.numeric column.length part.bytes)) area
    behind_is =
        let bytes_long = long in
        drop-drop (from + width - from) from area_now
        ∙ ap (λ (n : ℕ). drop n area_now) (let end : from + (from + width - from) ≡ from + width = omega arith in end)
        ∙ back_same
        ∙ ap (λ (n : ℕ). drop n area) (let end : from + width ≡ column.offset + length (padded column.numeric column.length part.bytes) = omega (arith, from_is, width_is, bytes_long) in end)

    pub value_padded : ReadsPaddedValue quoting is_first column text area area_after behind
    value_padded = record {
      value = part.bytes;
      is_taken = record {
        are_bytes = part.are_bytes;
        room = few;
        short = λ less. subst (λ (l : List ℕ). may_be_padded column.numeric l ≡ true) same_value (taken (subst (λ (l : List ℕ). length l < column.length) (sym same_value) less));
      };
      text_is = part.text_is;
      area_is = after_is
          ∙ ap (λ (l : List ℕ). l ++ (item_after ++ drop (from + width - from) (drop from area_now))) (front_same ∙ ap (λ (n : ℕ). take n area) from_is)
          ∙ ap (λ (l : List ℕ). take column.offset area ++ (l ++ drop (from + width - from) (drop from area_now))) bytes_are
          ∙ ap (λ (l : List ℕ). take column.offset area ++ (padded column.numeric column.length part.bytes ++ l)) behind_is;
      only = λ other other_behind are room ends other_is. part.only other other_behind are (omega (arith, room, width_is)) ends other_is;
    }
