-- The values of columns are read, one after another.
use Rattle.std.proofs.Common.{◌≡◌, ◌≢◌, ◌<◌, ◌≤◌, ℕ, zero, suc, ◌+◌, ◌==◌, Bool, true, false, List, [], ◌∷◌, ◌++◌, length, take, drop, map, refl, sym, ap, ◌∙◌, subst, arith, append_assoc, append-nil, length-append, drop-drop}
use Rattle.std.specs.Prelude.{if◌then◌else◌, min}
use Rattle.std.proofs.lemmas.Bool.{eqb-true, eq-eqb, ne_eqb}
use Rattle.std.proofs.lemmas.List.{take-append-drop, length-take, drop_all, take_all}
use Rattle.std.proofs.Math.Seq.{take-append_seam, drop-append_seam, take-nil, drop-nil}
use Rattle.record_text.specs.declared.column.Column.{Column}
use Rattle.record_text.specs.Parts.{Part, part_of_column}
use Rattle.record_text.specs.declared.quoted.Quoting.{Quoting}
use Rattle.record_text.specs.declared.quoted.Quoting.TheVariants.{Doubled, Escaped}
use Rattle.record_text.specs.ReadLine.{AreBytes}
use Rattle.record_text.specs.Whole.{AreTiled}
use Rattle.record_text.specs.Quoted.{inside, behind_label, value_text, values_text, column_end}
use Rattle.record_text.specs.Part.{ReadsPart, HasNoPart, EndsValue}
use Rattle.record_text.proofs.CellLemmas.{both_bytes}
use Rattle.record_text.proofs.QuotedLemmas.{no_byte_in_csv, no_byte_in_json}

pub no_columns : (columns : List Column) → length columns ≡ 0 → columns ≡ []
no_columns [] none = refl
no_columns (column ∷ columns) none = absurd (cc)

-- ---- bytes

take_bytes : (n : ℕ) (xs : List ℕ) → AreBytes xs → AreBytes (take n xs)
take_bytes zero xs are = tt
take_bytes (suc n) [] are = tt
take_bytes (suc n) (x ∷ xs) are = (are.0, take_bytes n xs are.1)

drop_bytes : (n : ℕ) (xs : List ℕ) → AreBytes xs → AreBytes (drop n xs)
drop_bytes zero xs are = are
drop_bytes (suc n) [] are = tt
drop_bytes (suc n) (x ∷ xs) are = drop_bytes n xs are.1

-- ---- columns that stand one behind the other

pub tiled_order : (from : ℕ) (parts : List Part) (end : ℕ) → AreTiled from parts end → from ≤ end
tiled_order from [] end is = omega (arith, is)
tiled_order from (part ∷ parts) end is = let later = tiled_order (from + part.length) parts end is.1 in omega (arith, later)

-- what is read of a column, and what of those behind it
splits : (n : ℕ) (cell more : List ℕ) → length cell ≤ n → (length cell < n → more ≡ []) → (take n (cell ++ more) ≡ cell) × (drop n (cell ++ more) ≡ more)
splits n cell more few short = by_more more refl
  where
    full : n ≡ length cell → (take n (cell ++ more) ≡ cell) × (drop n (cell ++ more) ≡ more)
    full is = (ap (λ (m : ℕ). take m (cell ++ more)) is ∙ take-append_seam cell more, ap (λ (m : ℕ). drop m (cell ++ more)) is ∙ drop-append_seam cell more)

    alone : more ≡ [] → (take n (cell ++ more) ≡ cell) × (drop n (cell ++ more) ≡ more)
    alone none =
        let all : cell ++ more ≡ cell = ap (λ (l : List ℕ). cell ++ l) none ∙ append-nil cell in
        (ap (take n) all ∙ take_all n cell few, ap (drop n) all ∙ drop_all n cell few ∙ sym none)

    by_more : (m : List ℕ) → more ≡ m → (take n (cell ++ more) ≡ cell) × (drop n (cell ++ more) ≡ more)
    by_more [] is = alone is
    by_more (x ∷ xs) is = full (let some : length cell < n → ⊥ = λ less. (let none : x ∷ xs ≡ [] = sym is ∙ short less in absurd (cc)) in omega (arith, few, some))

-- ---- what is behind a value

pub ends_comma : (quoting : Quoting) (rest : List ℕ) → EndsValue quoting (44 ∷ rest)
ends_comma Doubled rest = no_byte_in_csv 44 rest (λ is. omega (arith, is))
ends_comma Escaped rest = no_byte_in_json (44 ∷ rest)

pub ends_more : (quoting : Quoting) (columns : List Column) (bytes behind : List ℕ) → EndsValue quoting behind → EndsValue quoting (values_text quoting false columns bytes behind)
ends_more quoting [] bytes behind ends = ends
ends_more quoting (column ∷ columns) bytes behind ends =
    ends_comma quoting (behind_label quoting column.name.bytes (34 ∷ (inside quoting (take column.length bytes) ++ (34 ∷ values_text quoting false columns (drop column.length bytes) behind))))

-- ---- the columns so far

-- what is left of the bytes of a record, of which these were read, where this text is left
pub record IsRest (quoting : Quoting) (is_first : Bool) (left : List Column) (start at : ℕ) (bytes done rest behind : List ℕ) : Type 0 where
  pub bytes_left : List ℕ
  pub bytes_are : bytes ≡ done ++ bytes_left
  pub are_bytes : AreBytes bytes_left
  pub short : at < start → bytes_left ≡ []
  pub text : rest ≡ values_text quoting is_first left bytes_left behind

-- the values of the first columns were read; those on the left begin at `start`, and have no bytes where fewer were read
pub record AreReadUpTo (quoting : Quoting) (columns : List Column) (text area : List ℕ) (is_first : Bool) (left : List Column) (area_now : List ℕ) (at : ℕ) (rest : List ℕ) : Type 0 where
  pub start : ℕ
  pub tiled : AreTiled start (map part_of_column left) (length area)
  pub before : at ≤ start
  pub are_bytes : AreBytes (take at area_now)
  pub same : length area_now ≡ length area
  pub tail : drop at area_now ≡ drop at area
  pub to : (bytes behind : List ℕ) → (at < start → bytes ≡ []) → rest ≡ values_text quoting is_first left bytes behind
      → text ≡ values_text quoting true columns (take at area_now ++ bytes) behind
  pub from : (bytes behind : List ℕ) → AreBytes bytes → length bytes ≤ length area → EndsValue quoting behind → text ≡ values_text quoting true columns bytes behind
      → IsRest quoting is_first left start at bytes (take at area_now) rest behind

module _ (quoting : Quoting) (columns : List Column) (text area : List ℕ) (is_first : Bool) (area_now : List ℕ) (at : ℕ) (rest : List ℕ) where
  -- all columns were read
  pub all_read : AreReadUpTo quoting columns text area is_first [] area_now at rest → ReadsPart (values_text quoting true columns) (EndsValue quoting) text area 0 (length area) area_now at rest
  all_read read =
      let end : read.start ≡ length area = read.tiled in
      let before = read.before in
      let same = read.same in
      let within : at ≤ length area = omega (arith, end, before) in
      let long : length (take at area_now) ≡ min at (length area_now) = length-take at area_now in
      record {
        bytes = take at area_now;
        are_bytes = read.are_bytes;
        front = refl;
        at_is = omega (arith, long, same, within);
        within = within;
        same = read.same;
        rest = read.tail;
        text_is = read.to [] rest (λ less. refl) refl ∙ ap (λ (l : List ℕ). values_text quoting true columns l rest) (append-nil (take at area_now));
        only = λ others behind are few ends is.
            let known = read.from others behind are (omega (arith, few)) ends is in
            let whole = nothing_left known.bytes_left (take at area_now) others known.bytes_are known.short (few_left others known.bytes_left few known.bytes_are) in
            (known.bytes_are ∙ ap (λ (l : List ℕ). take at area_now ++ l) whole ∙ append-nil (take at area_now), sym known.text);
      }
    where
      few_left : (others left : List ℕ) → 0 + length others ≤ length area → others ≡ take at area_now ++ left → length left + at ≤ length area
      few_left others left few are =
          let long = ap (λ (l : List ℕ). length l) are ∙ length-append (take at area_now) left in
          let front = length-take at area_now in
          let same = read.same in
          let before = read.before in
          let end : read.start ≡ length area = read.tiled in
          omega (arith, long, front, same, few, before, end)

      nothing_left : (left done others : List ℕ) → others ≡ done ++ left → (at < read.start → left ≡ []) → length left + at ≤ length area → left ≡ []
      nothing_left [] done others are short few = refl
      nothing_left (byte ∷ left) done others are short few =
          let end : read.start ≡ length area = read.tiled in
          let less : at < read.start = omega (arith, few, end) in
          short less

  module _ (column : Column) (after : List Column) (read : AreReadUpTo quoting columns text area is_first (column ∷ after) area_now at rest) where
    offset_is : column.offset ≡ read.start
    offset_is = read.tiled.0

    -- up to where the bytes of the column may reach
    pub at_end : (at ≡ read.start) → column_end column at ≡ at + column.length
    at_end here = ap (λ (b : Bool). if b then at + column.length else at) (eq-eqb at column.offset (here ∙ sym offset_is))

    pub at_none : (at < read.start) → column_end column at ≡ at
    at_none less =
        let offset = offset_is in
        ap (λ (b : Bool). if b then at + column.length else at) (ne_eqb at column.offset (λ same. omega (arith, same, less, offset)))

    pub order : at ≤ column_end column at
    order = by_test (at == column.offset)
      where
        by_test : (b : Bool) → at ≤ (if b then at + column.length else at)
        by_test true = omega arith
        by_test false = omega arith

    pub room : column_end column at ≤ length area_now
    room =
        let end = tiled_order (read.start + column.length) (map part_of_column after) (length area) read.tiled.1 in
        let before = read.before in
        let same = read.same in
        let most = by_test (at == column.offset) in
        omega (arith, end, before, same, most)
      where
        by_test : (b : Bool) → (if b then at + column.length else at) ≤ at + column.length
        by_test true = omega arith
        by_test false = omega arith

    -- no column is read where no bytes that have room give its value
    room_for : (bytes : List ℕ) → (at < read.start → bytes ≡ []) → at + length (take column.length bytes) ≤ column_end column at
    room_for bytes short = by_place (at == column.offset) refl
      where
        by_place : (b : Bool) → (at == column.offset) ≡ b → at + length (take column.length bytes) ≤ (if b then at + column.length else at)
        by_place true here = let long = length-take column.length bytes in omega (arith, long)
        by_place false there =
            let before = read.before in
            let offset = offset_is in
            let other : at ≢ column.offset = λ same. (let bad : ◌≡◌ {A = Bool} true false = sym (eq-eqb at column.offset same) ∙ there in absurd (cc)) in
            let none : bytes ≡ [] = short (omega (arith, before, offset, other)) in
            let long : length (take column.length bytes) ≡ 0 = ap (λ (l : List ℕ). length (take column.length l)) none ∙ ap (λ (l : List ℕ). length l) (take-nil column.length) in
            omega (arith, long)

    pub no_values : HasNoPart (value_text quoting is_first column.name.bytes) (EndsValue quoting) rest at (column_end column at)
        → HasNoPart (values_text quoting true columns) (EndsValue quoting) text 0 (length area)
    no_values none bytes behind are few ends is =
        let known = read.from bytes behind are (omega (arith, few)) ends is in
        let left = known.bytes_left in
        none (take column.length left) (values_text quoting false after (drop column.length left) behind) (take_bytes column.length left known.are_bytes)
        (room_for left known.short) (ends_more quoting after (drop column.length left) behind ends) known.text

    -- one column more is read
    module _ (area_next : List ℕ) (next : ℕ) (behind_value : List ℕ)
        (part : ReadsPart (value_text quoting is_first column.name.bytes) (EndsValue quoting) rest area_now at (column_end column at) area_next next behind_value) where
      pub short_cell : length part.bytes ≤ column.length
      short_cell =
          let place = part.at_is in
          let within = part.within in
          let most = by_test (at == column.offset) in
          omega (arith, place, within, most)
        where
          by_test : (b : Bool) → (if b then at + column.length else at) ≤ at + column.length
          by_test true = omega arith
          by_test false = omega arith

      pub no_cell : at < read.start → part.bytes ≡ []
      no_cell less = empty part.bytes (let place = part.at_is in let within = part.within in let end = at_none less in omega (arith, place, within, end))
        where
          empty : (l : List ℕ) → length l ≤ 0 → l ≡ []
          empty [] few = refl
          empty (x ∷ l) few = absurd (omega (arith, few))

      go_to : (bytes behind : List ℕ) → (next < read.start + column.length → bytes ≡ []) → behind_value ≡ values_text quoting false after bytes behind
          → text ≡ values_text quoting true columns (take next area_next ++ bytes) behind
      go_to bytes behind short is =
          let place = part.at_is in
          let before = read.before in
          let both = splits column.length part.bytes bytes short_cell (λ less. short (omega (arith, place, before, less))) in
          let here : rest ≡ values_text quoting is_first (column ∷ after) (part.bytes ++ bytes) behind =
          part.text_is ∙ ap (value_text quoting is_first column.name.bytes part.bytes) is
          ∙ ap (λ (l : List ℕ). value_text quoting is_first column.name.bytes l (values_text quoting false after bytes behind)) (sym both.0)
          ∙ ap (λ (l : List ℕ). value_text quoting is_first column.name.bytes (take column.length (part.bytes ++ bytes)) (values_text quoting false after l behind)) (sym both.1) in
          read.to (part.bytes ++ bytes) behind (no_more bytes short) here
          ∙ ap (λ (l : List ℕ). values_text quoting true columns l behind) (sym (append_assoc (take at area_now) part.bytes bytes) ∙ ap (λ (l : List ℕ). l ++ bytes) (sym part.front))
        where
          no_more : (bytes : List ℕ) → (next < read.start + column.length → bytes ≡ []) → at < read.start → part.bytes ++ bytes ≡ []
          no_more bytes short less =
              let none = no_cell less in
              let place = part.at_is in
              let long = ap (λ (l : List ℕ). length l) none in
              let later : next < read.start + column.length = omega (arith, place, long, less) in
              ap (λ (l : List ℕ). l ++ bytes) none ∙ short later

      go_from : (bytes behind : List ℕ) → AreBytes bytes → length bytes ≤ length area → EndsValue quoting behind → text ≡ values_text quoting true columns bytes behind
          → IsRest quoting false after (read.start + column.length) next bytes (take next area_next) behind_value behind
      go_from bytes behind are few ends is =
          let known = read.from bytes behind are few ends is in
          let left = known.bytes_left in
          let same = part.only (take column.length left) (values_text quoting false after (drop column.length left) behind) (take_bytes column.length left known.are_bytes)
          (room_for left known.short) (ends_more quoting after (drop column.length left) behind ends) known.text in
          record {
            bytes_left = drop column.length left;
            bytes_are = known.bytes_are ∙ ap (λ (l : List ℕ). take at area_now ++ l) (sym (take-append-drop column.length left) ∙ ap (λ (l : List ℕ). l ++ drop column.length left) same.0)
                ∙ sym (append_assoc (take at area_now) part.bytes (drop column.length left)) ∙ ap (λ (l : List ℕ). l ++ drop column.length left) (sym part.front);
            are_bytes = drop_bytes column.length left known.are_bytes;
            short = no_more left known.short same.0;
            text = sym same.1;
          }
        where
          no_more : (left : List ℕ) → (at < read.start → left ≡ []) → take column.length left ≡ part.bytes → next < read.start + column.length → drop column.length left ≡ []
          no_more left short is less = by_place (at == column.offset) refl
            where
              by_place : (b : Bool) → (at == column.offset) ≡ b → drop column.length left ≡ []
              by_place true here =
                  let place = part.at_is in
                  let at_start : at ≡ read.start = eqb-true at column.offset here ∙ offset_is in
                  let long = length-take column.length left in
                  let cell = ap (λ (l : List ℕ). length l) is in
                  drop_all column.length left (omega (arith, place, at_start, long, cell, less))
              by_place false there =
                  let before = read.before in
                  let offset = offset_is in
                  let other : at ≢ column.offset = λ same. (let bad : ◌≡◌ {A = Bool} true false = sym (eq-eqb at column.offset same) ∙ there in absurd (cc)) in
                  ap (drop column.length) (short (omega (arith, before, offset, other))) ∙ drop-nil column.length

      pub column_read : AreReadUpTo quoting columns text area false after area_next next behind_value
      column_read =
          let place = part.at_is in
          let before = read.before in
          let few = short_cell in
          record {
            start = read.start + column.length;
            tiled = read.tiled.1;
            before = omega (arith, place, before, few);
            are_bytes = subst AreBytes (sym part.front) (both_bytes (take at area_now) part.bytes read.are_bytes part.are_bytes);
            same = part.same ∙ read.same;
            tail = part.rest ∙ ap (λ (n : ℕ). drop n area_now) place ∙ sym (drop-drop (length part.bytes) at area_now) ∙ ap (drop (length part.bytes)) read.tail
                ∙ drop-drop (length part.bytes) at area ∙ ap (λ (n : ℕ). drop n area) (sym place);
            to = go_to;
            from = go_from;
          }
