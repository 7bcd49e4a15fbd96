-- The columns whose values were read, and the one that is told of.
use Rattle.std.proofs.Common.{◌≡◌, ◌⊎◌, ◌<◌, ◌≤◌, ℕ, ◌+◌, ◌-◌, Bool, true, false, List, [], ◌∷◌, ◌++◌, length, take, drop, map, inl, inr, refl, sym, ap, ◌∙◌, subst, arith, append_assoc, append-nil, length-append}
use Rattle.std.specs.Prelude.{nat_le}
use Rattle.std.proofs.lemmas.Bool.{leb-true, leb-false}
use Rattle.std.proofs.lemmas.List.{take_all, take-append-le, drop-append-le, length-drop, length-take, append_cancel_right}
use Rattle.std.proofs.Math.Seq.{take-append_seam}
use Rattle.record_text.specs.declared.column.Column.{Column}
use Rattle.record_text.specs.Parts.{part_of_column}
use Rattle.record_text.specs.declared.quoted.Quoting.{Quoting}
use Rattle.record_text.specs.declared.mistake.ValueMistake.{ValueMistake}
use Rattle.record_text.specs.declared.mistake.ValueMistake.TheVariants as of_value
use Rattle.record_text.specs.declared.mistake.ColumnMistake.{ColumnMistake}
use Rattle.record_text.specs.Whole.{AreTiled}
use Rattle.record_text.specs.Quoted.{value_front, value_text, values_text, column_end}
use Rattle.record_text.specs.Part.{ReadsPart, EndsValue}
use Rattle.record_text.specs.Mistake.{IsValueMistake, IsLongValue, IsToldOf, IsColumnMistake, IsNext, TellsMistake, StandBefore, EndsInColumn, EndsWithin, is_empty}
use Rattle.record_text.proofs.ValuesLemmas.{AreReadUpTo, tiled_order, short_cell, no_cell, at_end}

-- ---- columns that stand one behind the other

-- how many bytes columns have
abbrev pub extent : List Column → ℕ
extent [] = 0
extent (column ∷ columns) = column.length + extent columns

pub offset_of : (from : ℕ) (before : List Column) (column : Column) (after : List Column) (end : ℕ) → AreTiled from (map part_of_column (before ++ column ∷ after)) end → column.offset ≡ from + extent before
offset_of from [] column after end tiled = let is = tiled.0 in omega (arith, is)
offset_of from (first ∷ before) column after end tiled =
    let later = offset_of (from + first.length) before column after end tiled.1 in omega (arith, later)

pub tiled_before : (from : ℕ) (before left : List Column) (end : ℕ) → AreTiled from (map part_of_column (before ++ left)) end → AreTiled from (map part_of_column before) (from + extent before)
tiled_before from [] left end tiled = omega arith
tiled_before from (first ∷ before) left end tiled =
    (tiled.0, subst (λ (n : ℕ). AreTiled (from + first.length) (map part_of_column before) n) (omega arith) (tiled_before (from + first.length) before left end tiled.1))

-- ---- the values of the first columns

abbrev pub at_first : Bool → List Column → Bool
at_first first [] = first
at_first first (column ∷ columns) = false

first_is_empty : (before : List Column) → at_first true before ≡ is_empty before
first_is_empty [] = refl
first_is_empty (column ∷ before) = refl

later_is_not : (first : Bool) (before : List Column) (column : Column) → at_first first (before ++ column ∷ []) ≡ false
later_is_not first [] column = refl
later_is_not first (one ∷ before) column = refl

-- the value of a column follows those of others
snoc : (quoting : Quoting) (first : Bool) (before : List Column) (column : Column) (bytes cell behind : List ℕ) → length bytes ≤ extent before → length cell ≤ column.length → (length bytes < extent before → cell ≡ [])
    → values_text quoting first before bytes (value_text quoting (at_first first before) column.name.bytes cell behind) ≡ values_text quoting first (before ++ column ∷ []) (bytes ++ cell) behind
snoc quoting first [] column [] cell behind few short none = ap (λ (l : List ℕ). value_text quoting first column.name.bytes l behind) (sym (take_all column.length cell short))
snoc quoting first [] column (byte ∷ bytes) cell behind few short none = absurd (omega (arith, few))
snoc quoting first (one ∷ before) column bytes cell behind few short none =
    let long = length-drop one.length bytes in
    by_room (snoc quoting false before column (drop one.length bytes) cell behind (omega (arith, few, long)) short (λ less. none (omega (arith, less, long)))) (nat_le one.length (length bytes)) refl
  where
    same_first : (b : List Column) → at_first false b ≡ false
    same_first [] = refl
    same_first (x ∷ b) = refl

    by_parts : values_text quoting false before (drop one.length bytes) (value_text quoting (at_first false before) column.name.bytes cell behind) ≡ values_text quoting false (before ++ column ∷ []) (drop one.length bytes ++ cell) behind
        → take one.length (bytes ++ cell) ≡ take one.length bytes → drop one.length (bytes ++ cell) ≡ drop one.length bytes ++ cell
        → values_text quoting first (one ∷ before) bytes (value_text quoting false column.name.bytes cell behind) ≡ values_text quoting first (one ∷ before ++ column ∷ []) (bytes ++ cell) behind
    by_parts later front back =
        ap (λ (l : List ℕ). value_text quoting first one.name.bytes (take one.length bytes) l)
        (ap (λ (b : Bool). values_text quoting false before (drop one.length bytes) (value_text quoting b column.name.bytes cell behind)) (sym (same_first before)) ∙ later)
        ∙ ap (λ (l : List ℕ). value_text quoting first one.name.bytes l (values_text quoting false (before ++ column ∷ []) (drop one.length bytes ++ cell) behind)) (sym front)
        ∙ ap (λ (l : List ℕ). value_text quoting first one.name.bytes (take one.length (bytes ++ cell)) (values_text quoting false (before ++ column ∷ []) l behind)) (sym back)

    by_room : values_text quoting false before (drop one.length bytes) (value_text quoting (at_first false before) column.name.bytes cell behind) ≡ values_text quoting false (before ++ column ∷ []) (drop one.length bytes ++ cell) behind
        → (full : Bool) → nat_le one.length (length bytes) ≡ full
        → values_text quoting first (one ∷ before) bytes (value_text quoting false column.name.bytes cell behind) ≡ values_text quoting first (one ∷ before ++ column ∷ []) (bytes ++ cell) behind
    by_room later true full =
        let enough = leb-true one.length (length bytes) full in
        by_parts later (take-append-le one.length bytes cell enough) (drop-append-le one.length bytes cell enough)
    by_room later false full =
        let less = leb-false one.length (length bytes) full in
        let nothing : cell ≡ [] = none (omega (arith, less)) in
        let all : bytes ++ cell ≡ bytes = ap (λ (l : List ℕ). bytes ++ l) nothing ∙ append-nil bytes in
        by_parts later (ap (take one.length) all) (ap (drop one.length) all ∙ sym (append-nil (drop one.length bytes)) ∙ ap (λ (l : List ℕ). drop one.length bytes ++ l) (sym nothing))

-- the bytes of the first columns stand at the front of a text; those on the left come behind them
pub record IsBehind (quoting : Quoting) (columns : List Column) (text : List ℕ) (is_first : Bool) (left : List Column) (bytes rest : List ℕ) : Type 0 where
  pub before : List Column
  pub stand : StandBefore quoting columns text before left bytes rest
  pub first_is : is_first ≡ at_first true before

pub behind_none : (quoting : Quoting) (columns : List Column) (text : List ℕ) → IsBehind quoting columns text true columns [] text
behind_none quoting columns text = record { before = []; stand = record { columns_are = refl; text_is = refl }; first_is = refl }

module _ (quoting : Quoting) (columns : List Column) (text area : List ℕ) (whole : AreTiled 0 (map part_of_column columns) (length area)) (is_first : Bool) (area_now : List ℕ) (at : ℕ) (rest : List ℕ)
    (column : Column) (after : List Column) (read : AreReadUpTo quoting columns text area is_first (column ∷ after) area_now at rest)
    (behind : IsBehind quoting columns text is_first (column ∷ after) (take at area_now) rest) where
  tiled : AreTiled 0 (map part_of_column (behind.before ++ column ∷ after)) (length area)
  tiled = subst (λ (l : List Column). AreTiled 0 (map part_of_column l) (length area)) behind.stand.columns_are whole

  offset_is : column.offset ≡ extent behind.before
  offset_is = let is = offset_of 0 behind.before column after (length area) tiled in omega (arith, is)

  start_is : column.offset ≡ read.start
  start_is = read.tiled.0

  read_is : length (take at area_now) ≡ at
  read_is =
      let end = tiled_order (read.start + column.length) (map part_of_column after) (length area) read.tiled.1 in
      let before = read.before in
      let same = read.same in
      let long = length-take at area_now in
      omega (arith, end, before, same, long)

  -- one value more stands there
  pub behind_one : (area_next : List ℕ) (next : ℕ) (behind_value : List ℕ) → ReadsPart (value_text quoting is_first column.name.bytes) (EndsValue quoting) rest area_now at (column_end column at) area_next next behind_value
      → IsBehind quoting columns text false after (take next area_next) behind_value
  behind_one area_next next behind_value part = record {
    before = behind.before ++ column ∷ [];
    stand = record {
      columns_are = behind.stand.columns_are ∙ sym (append_assoc behind.before (column ∷ []) after);
      text_is = behind.stand.text_is
          ∙ ap (values_text quoting true behind.before (take at area_now)) (part.text_is ∙ ap (λ (b : Bool). value_text quoting b column.name.bytes part.bytes behind_value) behind.first_is)
          ∙ snoc quoting true behind.before column (take at area_now) part.bytes behind_value few (short_cell quoting columns text area is_first area_now at rest column after read area_next next behind_value part) nothing
          ∙ ap (λ (l : List ℕ). values_text quoting true (behind.before ++ column ∷ []) l behind_value) (sym part.front);
    };
    first_is = sym (later_is_not true behind.before column);
  }
    where
      few : length (take at area_now) ≤ extent behind.before
      few = let long = read_is in let before = read.before in let here = offset_is in let start = start_is in omega (arith, long, before, here, start)

      nothing : length (take at area_now) < extent behind.before → part.bytes ≡ []
      nothing less =
          let long = read_is in
          let here = offset_is in
          let start = start_is in
          no_cell quoting columns text area is_first area_now at rest column after read area_next next behind_value part (omega (arith, less, long, here, start))

  -- the mistake in the value of the column
  module _ (mistake : ValueMistake) (wrong : IsValueMistake quoting is_first column.name.bytes rest (column_end column at - at) mistake) (told : ColumnMistake) (tells : TellsMistake columns column after at mistake told) where
    same_before : tells.before ≡ behind.before
    same_before = append_cancel_right tells.before behind.before (column ∷ after) (sym tells.columns_are ∙ behind.stand.columns_are)

    first_here : is_first ≡ is_empty behind.before
    first_here = behind.first_is ∙ first_is_empty behind.before

    -- the room of the column is all of it, where the record did not end before
    for_column : (m : ValueMistake) → ((bytes : ℕ) → m ≡ of_value.Long bytes → column.offset ≤ at) → IsValueMistake quoting is_first column.name.bytes rest (column_end column at - at) m
        → IsValueMistake quoting is_first column.name.bytes rest column.length m
    for_column of_value.Comma here is = is
    for_column of_value.Name here is = is
    for_column of_value.Quote here is = is
    for_column (of_value.Byte bytes stray) here is = is
    for_column (of_value.Short bytes) here is = is
    for_column (of_value.Long bytes) here is = record {
      opened = is.opened;
      behind = is.behind;
      front = is.front;
      value = is.value;
      more = (let most = is.more in
          let before = read.before in
          let start = start_is in
          let reached = here bytes refl in
          let end = at_end quoting columns text area is_first area_now at rest column after read (omega (arith, before, start, reached)) in
          omega (arith, most, end));
    }

    by_wrong : IsToldOf tells.before column told → told.mistake ≡ mistake → ((bytes : ℕ) → mistake ≡ of_value.Long bytes → column.offset ≤ at) → IsColumnMistake quoting columns text told
    by_wrong is_told same here = inl (record {
      before = behind.before;
      column = column;
      after = after;
      bytes = take at area_now;
      rest = rest;
      stand = behind.stand;
      is_told = subst (λ (l : List Column). IsToldOf l column told) same_before is_told;
      wrong = subst (λ (b : Bool). IsValueMistake quoting b column.name.bytes rest column.length told.mistake) first_here
          (subst (IsValueMistake quoting is_first column.name.bytes rest column.length) (sym same) (for_column mistake here wrong));
    })

    long_value : (bytes : ℕ) → mistake ≡ of_value.Long bytes → IsLongValue quoting (value_front quoting is_first column.name.bytes) rest (column_end column at - at) bytes
    long_value bytes is = subst (IsValueMistake quoting is_first column.name.bytes rest (column_end column at - at)) is wrong

    not_first : at < column.offset → (before : List Column) → column.offset ≡ extent before → at_first true before ≡ false
    not_first less [] here = absurd (omega (arith, less, here))
    not_first less (one ∷ before) here = refl

    by_short : (bytes : ℕ) → mistake ≡ of_value.Long bytes → at < column.offset → EndsInColumn tells.before at told → IsColumnMistake quoting columns text told
    by_short bytes is less ends =
        let long = long_value bytes is in
        let later = behind.first_is ∙ not_first less behind.before offset_is in
        inr (record {
          before = behind.before;
          column = column;
          after = after;
          bytes = take at area_now;
          rest = rest;
          stand = behind.stand;
          ends = subst (λ (n : ℕ). EndsInColumn behind.before n told) (sym read_is) (subst (λ (l : List Column). EndsInColumn l at told) same_before ends);
          more = bytes;
          follows = record {
            opened = long.opened;
            behind = long.behind;
            front = long.front ∙ ap (λ (b : Bool). value_front quoting b column.name.bytes long.opened) later;
            value = long.value;
            more = (let most = long.more in omega (arith, most));
          };
        })

    pub column_mistake : IsColumnMistake quoting columns text told
    column_mistake = by_case tells.is
      where
        by_case : (IsToldOf tells.before column told × (told.mistake ≡ mistake) × ((bytes : ℕ) → mistake ≡ of_value.Long bytes → column.offset ≤ at))
            ⊎ ((bytes : ℕ) × (mistake ≡ of_value.Long bytes) × (at < column.offset) × EndsInColumn tells.before at told) → IsColumnMistake quoting columns text told
        by_case (inl (is_told, same, here)) = by_wrong is_told same here
        by_case (inr (bytes, is, less, ends)) = by_short bytes is less ends

-- ---- the column in which a record ends

-- the columns before one have room for all that was read before it
pub ends_before : (columns : List Column) (column : Column) (after : List Column) → IsNext columns column after → (at : ℕ) → at < column.offset → EndsWithin (take (length columns - length after - 1) columns) at
ends_before columns column after next at less =
    subst (λ (l : List Column). EndsWithin l at) (sym taken) (record {
      end = 0 + extent next.before;
      tiled = tiled_before 0 next.before (column ∷ after) next.end whole;
      within = (let is = offset_of 0 next.before column after next.end whole in omega (arith, is, less));
    })
  where
    whole : AreTiled 0 (map part_of_column (next.before ++ column ∷ after)) next.end
    whole = subst (λ (l : List Column). AreTiled 0 (map part_of_column l) next.end) next.columns_are next.tiled

    count : length columns - length after - 1 ≡ length next.before
    count =
        let long = ap (λ (l : List Column). length l) next.columns_are ∙ length-append next.before (column ∷ after) in
        omega (arith, long)

    taken : take (length columns - length after - 1) columns ≡ next.before
    taken = ap (λ (n : ℕ). take n columns) count ∙ ap (take (length next.before)) next.columns_are ∙ take-append_seam next.before (column ∷ after)

-- those before these are read over, and the record goes on behind them
pub record IsSearched (columns : List Column) (size : ℕ) (left : List Column) : Type 0 where
  pub before : List Column
  pub columns_are : columns ≡ before ++ left
  pub from : ℕ
  pub end : ℕ
  pub tiled : AreTiled from (map part_of_column left) end
  pub reached : from ≤ size
  pub within : size < end

pub search_all : (columns : List Column) (size : ℕ) → EndsWithin columns size → IsSearched columns size columns
search_all columns size ends = record { before = []; columns_are = refl; from = 0; end = ends.end; tiled = ends.tiled; reached = omega arith; within = ends.within }

module _ (columns : List Column) (size : ℕ) (column : Column) (after : List Column) (searched : IsSearched columns size (column ∷ after)) where
  pub column_reached : column.offset ≤ size
  column_reached = let is = searched.tiled.0 in let reached = searched.reached in omega (arith, is, reached)

  pub columns_long : length columns ≡ length searched.before + (1 + length after)
  columns_long =
      let long = ap (λ (l : List Column). length l) searched.columns_are ∙ length-append searched.before (column ∷ after) in
      omega (arith, long)

  pub search_on : column.offset + column.length ≤ size → IsSearched columns size after
  search_on full = record {
    before = searched.before ++ column ∷ [];
    columns_are = searched.columns_are ∙ sym (append_assoc searched.before (column ∷ []) after);
    from = searched.from + column.length;
    end = searched.end;
    tiled = searched.tiled.1;
    reached = (let is = searched.tiled.0 in omega (arith, is, full));
    within = searched.within;
  }

  pub found : (told : ColumnMistake) → told.number ≡ length columns - length after → told.name ≡ column.name → told.wanted ≡ column.length → told.mistake ≡ of_value.Short (size - column.offset)
      → size < column.offset + column.length → EndsInColumn columns size told
  found told number name wanted mistake less = record {
    before = searched.before;
    column = column;
    after = after;
    columns_are = searched.columns_are;
    is_told = record { number = (let long = columns_long in omega (arith, number, long)); name = name; wanted = wanted };
    bytes = size - column.offset;
    mistake = mistake;
    length_is = (let reached = column_reached in omega (arith, reached));
    fewer = (let reached = column_reached in omega (arith, reached, less));
  }

pub none_left : (columns : List Column) (size : ℕ) (left : List Column) → IsSearched columns size left → length left ≡ 0 → ⊥
none_left columns size [] searched none = let is = searched.tiled in let reached = searched.reached in let within = searched.within in omega (arith, is, reached, within)
none_left columns size (column ∷ left) searched none = omega (arith, none)
