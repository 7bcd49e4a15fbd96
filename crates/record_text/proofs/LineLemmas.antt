-- The lines of CSV and JSON, as the values of columns that stand one behind the other.
use Rattle.std.proofs.Common.{◌≡◌, ◌<◌, ◌≤◌, ℕ, ◌+◌, true, false, List, [], ◌∷◌, ◌++◌, length, take, drop, map, flat_map, refl, sym, ap, ◌∙◌, subst, arith, append_assoc, drop-drop}
use Rattle.std.proofs.lemmas.List.Concat.{flat_map-append}
use Rattle.deck_runner.specs.Line.{shown_byte}
use Rattle.record_text.specs.declared.column.Column.{Column}
use Rattle.record_text.specs.declared.form.Form.{Form}
use Rattle.record_text.specs.Columns.{text_of, cell_of, column_value, column_name}
use Rattle.record_text.specs.Csv.{doubled_quote, field, fields, csv_line}
use Rattle.record_text.specs.Json.{escaped, member, members, json_line}
use Rattle.record_text.specs.Lines.{line_in, member_of}
use Rattle.record_text.specs.Parts.{part_of_column}
use Rattle.record_text.specs.declared.quoted.Quoting.TheVariants.{Doubled, Escaped}
use Rattle.record_text.specs.ReadLine.{AreBytes, ReadsRecord, BeginsWithNoRecord}
use Rattle.record_text.specs.Whole.{AreTiled}
use Rattle.record_text.specs.Quoted.{inside, values_text}
use Rattle.record_text.specs.Part.{ReadsPart, HasNoPart, EndsValue, Anything, line_text}
use Rattle.record_text.proofs.QuotedLemmas.{no_byte_in_csv, no_byte_in_json}

-- each byte as it is shown, and then changed
fused : (f : ℕ → List ℕ) (bytes : List ℕ) → flat_map f (text_of bytes) ≡ flat_map (λ byte. flat_map f (shown_byte byte)) bytes
fused f [] = refl
fused f (byte ∷ bytes) = flat_map-append f (shown_byte byte) (text_of bytes) ∙ ap (λ (l : List ℕ). flat_map f (shown_byte byte) ++ l) (fused f bytes)

pub in_csv : (bytes : List ℕ) → flat_map doubled_quote (text_of bytes) ≡ inside Doubled bytes
in_csv bytes = fused doubled_quote bytes

pub in_json : (bytes : List ℕ) → flat_map escaped (text_of bytes) ≡ inside Escaped bytes
in_json bytes = fused escaped bytes

-- the bytes of a column
cell_at : (column : Column) (bytes : List ℕ) (from : ℕ) → column.offset ≡ from → cell_of column bytes ≡ take column.length (drop from bytes)
cell_at column bytes from is = ap (λ (n : ℕ). take column.length (drop n bytes)) is

-- ---- CSV

field_then : (column : Column) (bytes : List ℕ) (from : ℕ) (rest behind : List ℕ) → column.offset ≡ from
    → (field (column_value bytes column) ++ rest) ++ behind ≡ 34 ∷ (inside Doubled (take column.length (drop from bytes)) ++ (34 ∷ (rest ++ behind)))
field_then column bytes from rest behind is =
    let d = flat_map doubled_quote (column_value bytes column) in
    ap (λ (l : List ℕ). 34 ∷ l) (append_assoc (d ++ 34 ∷ []) rest behind ∙ append_assoc d (34 ∷ []) (rest ++ behind)
    ∙ ap (λ (l : List ℕ). l ++ (34 ∷ (rest ++ behind))) (in_csv (cell_of column bytes) ∙ ap (inside Doubled) (cell_at column bytes from is)))

more_fields : (bytes : List ℕ) (columns : List Column) (from end : ℕ) → AreTiled from (map part_of_column columns) end → (behind : List ℕ)
    → flat_map (λ (more : List ℕ). 44 ∷ field more) (map (column_value bytes) columns) ++ behind ≡ values_text Doubled false columns (drop from bytes) behind
more_fields bytes [] from end is behind = refl
more_fields bytes (column ∷ columns) from end is behind =
    let rest = flat_map (λ (more : List ℕ). 44 ∷ field more) (map (column_value bytes) columns) in
    ap (λ (l : List ℕ). 44 ∷ l) (field_then column bytes from rest behind is.0
    ∙ ap (λ (l : List ℕ). 34 ∷ (inside Doubled (take column.length (drop from bytes)) ++ (34 ∷ l)))
    (more_fields bytes columns (from + column.length) end is.1 behind ∙ ap (λ (l : List ℕ). values_text Doubled false columns l behind) (sym (drop-drop column.length from bytes))))

all_fields : (bytes : List ℕ) (columns : List Column) (end : ℕ) → AreTiled 0 (map part_of_column columns) end → (behind : List ℕ)
    → fields (map (column_value bytes) columns) ++ behind ≡ values_text Doubled true columns bytes behind
all_fields bytes [] end is behind = refl
all_fields bytes (column ∷ columns) end is behind =
    let rest = flat_map (λ (more : List ℕ). 44 ∷ field more) (map (column_value bytes) columns) in
    field_then column bytes 0 rest behind is.0
    ∙ ap (λ (l : List ℕ). 34 ∷ (inside Doubled (take column.length bytes) ++ (34 ∷ l)))
    (more_fields bytes columns (0 + column.length) end is.1 behind ∙ ap (λ (n : ℕ). values_text Doubled false columns (drop n bytes) behind) (let e : 0 + column.length ≡ column.length = omega arith in e))

pub csv_is : (bytes : List ℕ) (columns : List Column) (end : ℕ) → AreTiled 0 (map part_of_column columns) end → (behind : List ℕ)
    → csv_line (map (column_value bytes) columns) ++ behind ≡ values_text Doubled true columns bytes (13 ∷ 10 ∷ behind)
csv_is bytes columns end is behind = append_assoc (fields (map (column_value bytes) columns)) (13 ∷ 10 ∷ []) behind ∙ all_fields bytes columns end is (13 ∷ 10 ∷ behind)

-- ---- JSON

member_then : (column : Column) (bytes : List ℕ) (from : ℕ) (rest behind : List ℕ) → column.offset ≡ from
    → (member (member_of bytes column) ++ rest) ++ behind
    ≡ 34 ∷ (inside Escaped column.name.bytes ++ (34 ∷ 58 ∷ 34 ∷ (inside Escaped (take column.length (drop from bytes)) ++ (34 ∷ (rest ++ behind)))))
member_then column bytes from rest behind is =
    let n = flat_map escaped (column_name column) in
    let v = flat_map escaped (column_value bytes column) in
    let tail = 34 ∷ (v ++ 34 ∷ []) in
    ap (λ (l : List ℕ). 34 ∷ l) (append_assoc ((n ++ 34 ∷ []) ++ (58 ∷ tail)) rest behind ∙ append_assoc (n ++ 34 ∷ []) (58 ∷ tail) (rest ++ behind) ∙ append_assoc n (34 ∷ []) (58 ∷ (tail ++ (rest ++ behind)))
    ∙ ap (λ (l : List ℕ). n ++ (34 ∷ 58 ∷ 34 ∷ l)) (append_assoc v (34 ∷ []) (rest ++ behind)
    ∙ ap (λ (l : List ℕ). l ++ (34 ∷ (rest ++ behind))) (in_json (cell_of column bytes) ∙ ap (inside Escaped) (cell_at column bytes from is)))
    ∙ ap (λ (l : List ℕ). l ++ (34 ∷ 58 ∷ 34 ∷ (inside Escaped (take column.length (drop from bytes)) ++ (34 ∷ (rest ++ behind))))) (in_json column.name.bytes))

abbrev member_text : Column → (cell behind : List ℕ) → List ℕ
member_text column cell behind = 34 ∷ (inside Escaped column.name.bytes ++ (34 ∷ 58 ∷ 34 ∷ (inside Escaped cell ++ (34 ∷ behind))))

more_members : (bytes : List ℕ) (columns : List Column) (from end : ℕ) → AreTiled from (map part_of_column columns) end → (behind : List ℕ)
    → flat_map (λ more. 44 ∷ member more) (map (member_of bytes) columns) ++ behind ≡ values_text Escaped false columns (drop from bytes) behind
more_members bytes [] from end is behind = refl
more_members bytes (column ∷ columns) from end is behind =
    let rest = flat_map (λ more. 44 ∷ member more) (map (member_of bytes) columns) in
    ap (λ (l : List ℕ). 44 ∷ l) (member_then column bytes from rest behind is.0
    ∙ ap (member_text column (take column.length (drop from bytes)))
    (more_members bytes columns (from + column.length) end is.1 behind ∙ ap (λ (l : List ℕ). values_text Escaped false columns l behind) (sym (drop-drop column.length from bytes))))

all_members : (bytes : List ℕ) (columns : List Column) (end : ℕ) → AreTiled 0 (map part_of_column columns) end → (behind : List ℕ)
    → members (map (member_of bytes) columns) ++ behind ≡ values_text Escaped true columns bytes behind
all_members bytes [] end is behind = refl
all_members bytes (column ∷ columns) end is behind =
    let rest = flat_map (λ more. 44 ∷ member more) (map (member_of bytes) columns) in
    member_then column bytes 0 rest behind is.0
    ∙ ap (member_text column (take column.length bytes))
    (more_members bytes columns (0 + column.length) end is.1 behind ∙ ap (λ (n : ℕ). values_text Escaped false columns (drop n bytes) behind) (let e : 0 + column.length ≡ column.length = omega arith in e))

pub json_is : (bytes : List ℕ) (columns : List Column) (end : ℕ) → AreTiled 0 (map part_of_column columns) end → (behind : List ℕ)
    → json_line (map (member_of bytes) columns) ++ behind ≡ 123 ∷ values_text Escaped true columns bytes (125 ∷ 10 ∷ behind)
json_is bytes columns end is behind =
    ap (λ (l : List ℕ). 123 ∷ l) (append_assoc (members (map (member_of bytes) columns)) (125 ∷ 10 ∷ []) behind ∙ all_members bytes columns end is (125 ∷ 10 ∷ behind))

-- ---- a line that was read

pub ends_csv : (behind : List ℕ) → EndsValue Doubled (13 ∷ 10 ∷ behind)
ends_csv behind = no_byte_in_csv 13 (10 ∷ behind) (λ is. omega (arith, is))

pub ends_json : (behind : List ℕ) → EndsValue Escaped (125 ∷ 10 ∷ behind)
ends_json behind = no_byte_in_json (125 ∷ 10 ∷ behind)

-- the values are a part, and the line is one
module _ (columns : List Column) (text area : List ℕ) (whole : AreTiled 0 (map part_of_column columns) (length area)) where
  abbrev pub csv_text : List ℕ → List ℕ → List ℕ
  csv_text bytes behind = csv_line (map (column_value bytes) columns) ++ behind

  abbrev pub json_text : List ℕ → List ℕ → List ℕ
  json_text bytes behind = json_line (map (member_of bytes) columns) ++ behind

  csv_values : (bytes behind : List ℕ) → text ≡ csv_text bytes behind → text ≡ values_text Doubled true columns bytes (13 ∷ 10 ∷ behind)
  csv_values bytes behind is = is ∙ csv_is bytes columns (length area) whole behind

  pub no_csv : HasNoPart (values_text Doubled true columns) (EndsValue Doubled) text 0 (length area) → HasNoPart csv_text Anything text 0 (length area)
  no_csv none bytes behind are few follows is = none bytes (13 ∷ 10 ∷ behind) are few (ends_csv behind) (csv_values bytes behind is)

  module _ (area_now : List ℕ) (at : ℕ) (rest : List ℕ) (part : ReadsPart (values_text Doubled true columns) (EndsValue Doubled) text area 0 (length area) area_now at rest) where
    pub no_csv_end : ((behind : List ℕ) → rest ≡ 13 ∷ 10 ∷ behind → ⊥) → HasNoPart csv_text Anything text 0 (length area)
    no_csv_end none bytes behind are few follows is = none behind (sym (part.only bytes (13 ∷ 10 ∷ behind) are few (ends_csv behind) (csv_values bytes behind is)).1)

    pub csv_part : (behind : List ℕ) → rest ≡ 13 ∷ 10 ∷ behind → ReadsPart csv_text Anything text area 0 (length area) area_now at behind
    csv_part behind ended = record {
      bytes = part.bytes;
      are_bytes = part.are_bytes;
      front = part.front;
      at_is = part.at_is;
      within = part.within;
      same = part.same;
      rest = part.rest;
      text_is = part.text_is ∙ ap (values_text Doubled true columns part.bytes) ended ∙ sym (csv_is part.bytes columns (length area) whole behind);
      only = λ others other_behind are few follows is.
          let known = part.only others (13 ∷ 10 ∷ other_behind) are few (ends_csv other_behind) (csv_values others other_behind is) in
          let both : 13 ∷ 10 ∷ other_behind ≡ 13 ∷ 10 ∷ behind = known.1 ∙ ended in
          (known.0, cc);
    }

  -- the text behind the brace
  module _ (opened : List ℕ) (open_is : text ≡ 123 ∷ opened) where
    json_values : (bytes behind : List ℕ) → text ≡ json_text bytes behind → opened ≡ values_text Escaped true columns bytes (125 ∷ 10 ∷ behind)
    json_values bytes behind is =
        let both : 123 ∷ opened ≡ 123 ∷ values_text Escaped true columns bytes (125 ∷ 10 ∷ behind) = sym open_is ∙ is ∙ json_is bytes columns (length area) whole behind in
        cc

    pub no_json : HasNoPart (values_text Escaped true columns) (EndsValue Escaped) opened 0 (length area) → HasNoPart json_text Anything text 0 (length area)
    no_json none bytes behind are few follows is = none bytes (125 ∷ 10 ∷ behind) are few (ends_json behind) (json_values bytes behind is)

    module _ (area_now : List ℕ) (at : ℕ) (rest : List ℕ) (part : ReadsPart (values_text Escaped true columns) (EndsValue Escaped) opened area 0 (length area) area_now at rest) where
      pub no_json_end : ((behind : List ℕ) → rest ≡ 125 ∷ 10 ∷ behind → ⊥) → HasNoPart json_text Anything text 0 (length area)
      no_json_end none bytes behind are few follows is = none behind (sym (part.only bytes (125 ∷ 10 ∷ behind) are few (ends_json behind) (json_values bytes behind is)).1)

      pub json_part : (behind : List ℕ) → rest ≡ 125 ∷ 10 ∷ behind → ReadsPart json_text Anything text area 0 (length area) area_now at behind
      json_part behind ended = record {
        bytes = part.bytes;
        are_bytes = part.are_bytes;
        front = part.front;
        at_is = part.at_is;
        within = part.within;
        same = part.same;
        rest = part.rest;
        text_is = open_is ∙ ap (λ (l : List ℕ). 123 ∷ l) (part.text_is ∙ ap (values_text Escaped true columns part.bytes) ended) ∙ sym (json_is part.bytes columns (length area) whole behind);
        only = λ others other_behind are few follows is.
            let known = part.only others (125 ∷ 10 ∷ other_behind) are few (ends_json other_behind) (json_values others other_behind is) in
            let both : 125 ∷ 10 ∷ other_behind ≡ 125 ∷ 10 ∷ behind = known.1 ∙ ended in
            (known.0, cc);
      }

  -- a text that does not begin with a brace
  pub no_brace : ((behind : List ℕ) → text ≡ 123 ∷ behind → ⊥) → HasNoPart json_text Anything text 0 (length area)
  no_brace none bytes behind are few follows is = none (values_text Escaped true columns bytes (125 ∷ 10 ∷ behind)) (is ∙ json_is bytes columns (length area) whole behind)

-- ---- a record that was read

pub line_read : (form : Form) (text area area_now : List ℕ) (n : ℕ) (behind : List ℕ) (least : ℕ) → ReadsPart (line_text form) Anything text area 0 (length area) area_now n behind → least ≤ n
    → ReadsRecord form text least area area_now n behind
line_read form text area area_now n behind least part long = record {
  long = long;
  line = record {
    within = part.within;
    bytes = subst AreBytes (sym part.front) part.are_bytes;
    line = part.text_is ∙ ap (λ (l : List ℕ). line_in form l ++ behind) (sym part.front);
    rest = part.rest;
  };
}

pub none_long : (form : Form) (text area area_now : List ℕ) (n : ℕ) (behind : List ℕ) (least : ℕ) → ReadsPart (line_text form) Anything text area 0 (length area) area_now n behind → n < least
    → BeginsWithNoRecord form text least (length area)
none_long form text area area_now n behind least part short bytes other are long few is =
    let same = part.only bytes other are (omega (arith, few)) tt is in
    let place = part.at_is in
    let lengths = ap (λ (l : List ℕ). length l) same.0 in
    omega (arith, place, lengths, short, long)

pub none_read : (form : Form) (text area : List ℕ) (least : ℕ) → HasNoPart (line_text form) Anything text 0 (length area) → BeginsWithNoRecord form text least (length area)
none_read form text area least none bytes other are long few is = none bytes other are (omega (arith, few)) tt is
