-- The lines of values that are filled up.
use Rattle.std.proofs.Common.{◌≡◌, ℕ, true, false, List, [], ◌∷◌, ◌++◌, length, take, map, flat_map, inl, inr, refl, sym, ap, ◌∙◌, subst, arith, append_assoc}
use Rattle.std.proofs.lemmas.List.{length-take-le}
use Rattle.record_text.specs.declared.column.Column.{Column}
use Rattle.record_text.specs.declared.form.Form.TheVariants.{Text}
use Rattle.record_text.specs.Columns.{text_of, column_name}
use Rattle.record_text.specs.Csv.{doubled_quote, field, fields}
use Rattle.record_text.specs.Json.{escaped, member, members}
use Rattle.record_text.specs.declared.quoted.Quoting.{Quoting}
use Rattle.record_text.specs.declared.quoted.Quoting.TheVariants.{Doubled, Escaped}
use Rattle.record_text.specs.ReadLine.{AreBytes, ReadsLine, BeginsWithNoLine}
use Rattle.record_text.specs.Quoted.{inside, LacksFront}
use Rattle.record_text.specs.Padded.{padded, ColumnValue, csv_of, json_of, member_of_value, SaysValues, SaysText, ReadsSaid, SaysNone}
use Rattle.record_text.specs.PaddedPart.{padded_text, ReadsPaddedValues, HasNoPaddedValues, LacksOneOf, LacksPaddedEnding}
use Rattle.record_text.proofs.LineLemmas.{in_csv, in_json, ends_csv, ends_json}
use Rattle.record_text.proofs.PaddedLemmas.{padded_long, padded_bytes, record_bytes}

-- ---- CSV

field_then : (value rest behind : List ℕ) → (field (text_of value) ++ rest) ++ behind ≡ 34 ∷ (inside Doubled value ++ (34 ∷ (rest ++ behind)))
field_then value rest behind =
    let d = flat_map doubled_quote (text_of value) in
    ap (λ (l : List ℕ). 34 ∷ l) (append_assoc (d ++ 34 ∷ []) rest behind ∙ append_assoc d (34 ∷ []) (rest ++ behind)
    ∙ ap (λ (l : List ℕ). l ++ (34 ∷ (rest ++ behind))) (in_csv value))

abbrev shown : ColumnValue → List ℕ
shown of = text_of of.value

abbrev more_shown : List ColumnValue → List ℕ
more_shown values = flat_map (λ (more : List ℕ). 44 ∷ field more) (map shown values)

more_fields : (values : List ColumnValue) (behind : List ℕ) → more_shown values ++ behind ≡ padded_text Doubled false values behind
more_fields [] behind = refl
more_fields (of ∷ values) behind =
    ap (λ (l : List ℕ). 44 ∷ l) (field_then of.value (more_shown values) behind
    ∙ ap (λ (l : List ℕ). 34 ∷ (inside Doubled of.value ++ (34 ∷ l))) (more_fields values behind))

all_fields : (values : List ColumnValue) (behind : List ℕ) → fields (map shown values) ++ behind ≡ padded_text Doubled true values behind
all_fields [] behind = refl
all_fields (of ∷ values) behind =
    field_then of.value (more_shown values) behind ∙ ap (λ (l : List ℕ). 34 ∷ (inside Doubled of.value ++ (34 ∷ l))) (more_fields values behind)

csv_is : (values : List ColumnValue) (behind : List ℕ) → csv_of values ++ behind ≡ padded_text Doubled true values (13 ∷ 10 ∷ behind)
csv_is values behind = append_assoc (fields (map shown values)) (13 ∷ 10 ∷ []) behind ∙ all_fields values (13 ∷ 10 ∷ behind)

-- ---- JSON

member_then : (of : ColumnValue) (rest behind : List ℕ)
    → (member (member_of_value of) ++ rest) ++ behind
    ≡ 34 ∷ (inside Escaped of.column.name.bytes ++ (34 ∷ 58 ∷ 34 ∷ (inside Escaped of.value ++ (34 ∷ (rest ++ behind)))))
member_then of rest behind =
    let n = flat_map escaped (column_name of.column) in
    let v = flat_map escaped (text_of of.value) in
    let tail = 34 ∷ (v ++ 34 ∷ []) in
    ap (λ (l : List ℕ). 34 ∷ l) (append_assoc ((n ++ 34 ∷ []) ++ (58 ∷ tail)) rest behind ∙ append_assoc (n ++ 34 ∷ []) (58 ∷ tail) (rest ++ behind) ∙ append_assoc n (34 ∷ []) (58 ∷ (tail ++ (rest ++ behind)))
    ∙ ap (λ (l : List ℕ). n ++ (34 ∷ 58 ∷ 34 ∷ l)) (append_assoc v (34 ∷ []) (rest ++ behind)
    ∙ ap (λ (l : List ℕ). l ++ (34 ∷ (rest ++ behind))) (in_json of.value))
    ∙ ap (λ (l : List ℕ). l ++ (34 ∷ 58 ∷ 34 ∷ (inside Escaped of.value ++ (34 ∷ (rest ++ behind))))) (in_json of.column.name.bytes))

abbrev more_told : List ColumnValue → List ℕ
more_told values = flat_map (λ more. 44 ∷ member more) (map member_of_value values)

abbrev member_text : ColumnValue → (behind : List ℕ) → List ℕ
member_text of behind = 34 ∷ (inside Escaped of.column.name.bytes ++ (34 ∷ 58 ∷ 34 ∷ (inside Escaped of.value ++ (34 ∷ behind))))

more_members : (values : List ColumnValue) (behind : List ℕ) → more_told values ++ behind ≡ padded_text Escaped false values behind
more_members [] behind = refl
more_members (of ∷ values) behind =
    ap (λ (l : List ℕ). 44 ∷ l) (member_then of (more_told values) behind ∙ ap (member_text of) (more_members values behind))

all_members : (values : List ColumnValue) (behind : List ℕ) → members (map member_of_value values) ++ behind ≡ padded_text Escaped true values behind
all_members [] behind = refl
all_members (of ∷ values) behind = member_then of (more_told values) behind ∙ ap (member_text of) (more_members values behind)

json_is : (values : List ColumnValue) (behind : List ℕ) → json_of values ++ behind ≡ 123 ∷ padded_text Escaped true values (125 ∷ 10 ∷ behind)
json_is values behind =
    ap (λ (l : List ℕ). 123 ∷ l) (append_assoc (members (map member_of_value values)) (125 ∷ 10 ∷ []) behind ∙ all_members values (125 ∷ 10 ∷ behind))

-- ---- a line that was read

module _ (quoting : Quoting) (columns : List Column) (text : List ℕ) (first second : ℕ) where
  -- behind the values stands no ending
  pub lacks_ending : (area rest : List ℕ) → ReadsPaddedValues quoting columns text area rest → (char : ℕ) → LacksOneOf first second rest char → LacksPaddedEnding quoting columns text (first ∷ second ∷ []) char
  lacks_ending area rest read char (inl (is, lacks)) = record {
    values = read.values;
    are_values = read.are_values;
    passed = [];
    left = second ∷ [];
    rest = rest;
    ending_is = ap (λ (c : ℕ). first ∷ second ∷ []) is ∙ ap (λ (c : ℕ). c ∷ second ∷ []) (sym is);
    text_is = read.text_is;
    lacks = subst (λ (c : ℕ). LacksFront (λ behind. c ∷ behind) rest) (sym is) lacks;
  }
  lacks_ending area rest read char (inr (is, behind)) = record {
    values = read.values;
    are_values = read.are_values;
    passed = first ∷ [];
    left = [];
    rest = behind.0;
    ending_is = ap (λ (c : ℕ). first ∷ c ∷ []) (sym is);
    text_is = read.text_is ∙ ap (padded_text quoting true read.values) behind.1;
    lacks = subst (λ (c : ℕ). LacksFront (λ more. c ∷ more) behind.0) (sym is) behind.2;
  }

-- a text that lacks one of two characters does not begin with both
no_both : (first second : ℕ) (rest : List ℕ) (char : ℕ) → LacksOneOf first second rest char → (behind : List ℕ) → first ∷ second ∷ behind ≡ rest → ⊥
no_both first second rest char (inl (is, lacks)) behind both = lacks (second ∷ behind) (sym both)
no_both first second rest char (inr (is, left)) behind both =
    let all : first ∷ second ∷ behind ≡ first ∷ left.0 = both ∙ left.1 in
    left.2 behind (let one : left.0 ≡ second ∷ behind = cc in one)

module _ (columns : List Column) (text : List ℕ) where
  csv_values : (line bytes behind : List ℕ) (says : SaysValues csv_of columns line bytes) → text ≡ line ++ behind → text ≡ padded_text Doubled true says.values (13 ∷ 10 ∷ behind)
  csv_values line bytes behind says is = is ∙ ap (λ (l : List ℕ). l ++ behind) says.line_is ∙ csv_is says.values behind

  pub no_csv : HasNoPaddedValues Doubled columns text → SaysNone (SaysValues csv_of columns) text
  no_csv none line bytes behind says is = none says.values (13 ∷ 10 ∷ behind) says.are_values (ends_csv behind) (csv_values line bytes behind says is)

  module _ (area rest : List ℕ) (read : ReadsPaddedValues Doubled columns text area rest) where
    pub no_csv_end : (char : ℕ) → LacksOneOf 13 10 rest char → SaysNone (SaysValues csv_of columns) text
    no_csv_end char lacks line bytes behind says is =
        no_both 13 10 rest char lacks behind (read.only says.values (13 ∷ 10 ∷ behind) says.are_values (ends_csv behind) (csv_values line bytes behind says is))

    pub csv_said : (behind : List ℕ) → rest ≡ 13 ∷ 10 ∷ behind → ReadsSaid (SaysValues csv_of columns) text area behind
    csv_said behind ended = record {
      line = csv_of read.values;
      text_is = read.text_is ∙ ap (padded_text Doubled true read.values) ended ∙ sym (csv_is read.values behind);
      says = record { values = read.values; are_values = read.are_values; line_is = refl; bytes_are = read.area_is };
      are_bytes = subst AreBytes (sym read.area_is) (record_bytes read.values read.are_values.are_taken);
    }

  pub no_brace : LacksFront (λ behind. 123 ∷ behind) text → SaysNone (SaysValues json_of columns) text
  no_brace lacks line bytes behind says is =
      lacks (padded_text Escaped true says.values (125 ∷ 10 ∷ behind)) (is ∙ ap (λ (l : List ℕ). l ++ behind) says.line_is ∙ json_is says.values behind)

  -- the text behind the brace
  module _ (opened : List ℕ) (open_is : text ≡ 123 ∷ opened) where
    json_values : (line bytes behind : List ℕ) (says : SaysValues json_of columns line bytes) → text ≡ line ++ behind → opened ≡ padded_text Escaped true says.values (125 ∷ 10 ∷ behind)
    json_values line bytes behind says is =
        let both : 123 ∷ opened ≡ 123 ∷ padded_text Escaped true says.values (125 ∷ 10 ∷ behind) =
        sym open_is ∙ is ∙ ap (λ (l : List ℕ). l ++ behind) says.line_is ∙ json_is says.values behind in
        cc

    pub no_json : HasNoPaddedValues Escaped columns opened → SaysNone (SaysValues json_of columns) text
    no_json none line bytes behind says is = none says.values (125 ∷ 10 ∷ behind) says.are_values (ends_json behind) (json_values line bytes behind says is)

    module _ (area rest : List ℕ) (read : ReadsPaddedValues Escaped columns opened area rest) where
      pub no_json_end : (char : ℕ) → LacksOneOf 125 10 rest char → SaysNone (SaysValues json_of columns) text
      no_json_end char lacks line bytes behind says is =
          no_both 125 10 rest char lacks behind (read.only says.values (125 ∷ 10 ∷ behind) says.are_values (ends_json behind) (json_values line bytes behind says is))

      pub json_said : (behind : List ℕ) → rest ≡ 125 ∷ 10 ∷ behind → ReadsSaid (SaysValues json_of columns) text area behind
      json_said behind ended = record {
        line = json_of read.values;
        text_is = open_is ∙ ap (λ (l : List ℕ). 123 ∷ l) (read.text_is ∙ ap (padded_text Escaped true read.values) ended) ∙ sym (json_is read.values behind);
        says = record { values = read.values; are_values = read.are_values; line_is = refl; bytes_are = read.area_is };
        are_bytes = subst AreBytes (sym read.area_is) (record_bytes read.values read.are_values.are_taken);
      }

-- ---- text

pub no_text : (text : List ℕ) (most : ℕ) → BeginsWithNoLine Text text most → SaysNone (SaysText most) text
no_text text most none line bytes behind says is =
    none says.value behind says.are_bytes says.room (is ∙ ap (λ (l : List ℕ). l ++ behind) says.line_is)

pub text_said : (text area area_now area_after : List ℕ) (n : ℕ) (behind : List ℕ) → ReadsLine Text text area area_now n behind → length area_now ≡ length area
    → area_after ≡ padded false (length area_now) (take n area_now) → ReadsSaid (SaysText (length area_after)) text area_after behind
text_said text area area_now area_after n behind read same filled = record {
  line = _;
  text_is = read.line;
  says = record {
    value = take n area_now;
    are_bytes = read.bytes;
    room = (let is = long in let within = read.within in let size = whole in omega (arith, is, within, size, same));
    line_is = refl;
    bytes_are = is_padded;
  };
  are_bytes = subst AreBytes (sym is_padded) (padded_bytes false (length area_after) (take n area_now) read.bytes);
}
  where
    long : length (take n area_now) ≡ n
    long = let within = read.within in length-take-le n area_now (omega (arith, same, within))

    whole : length area_after ≡ length area_now
    whole = ap (λ (l : List ℕ). length l) filled ∙ padded_long false (length area_now) (take n area_now) (let is = long in let within = read.within in omega (arith, is, within, same))

    is_padded : area_after ≡ padded false (length area_after) (take n area_now)
    is_padded = filled ∙ ap (λ (m : ℕ). padded false m (take n area_now)) (sym whole)
