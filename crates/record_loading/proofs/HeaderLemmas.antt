-- How long lines are, and what stands before the first one.
use Rattle.std.proofs.Common.{◌≡◌, ◌≤◌, ℕ, ◌+◌, Bool, true, false, List, [], ◌∷◌, ◌++◌, length, take, map, ap, arith, length-append}
use Rattle.record_text.specs.declared.form.Form.{Form}
use Rattle.record_text.specs.declared.form.Form.TheVariants.{Text, Csv, Json}
use Rattle.record_text.specs.Columns.{text_of, column_value, column_name}
use Rattle.record_text.specs.Csv.{fields}
use Rattle.record_text.specs.Lines.{line_in, form_header}
use Rattle.record_text.specs.Padded.{SaysPadded, ColumnValue}
use Rattle.record_text.specs.Header.{header_lines}
use Rattle.record_loading.specs.LineForm.{LineForm, BeginsWith, ReadsLineOf}

line_some : (form : Form) (bytes : List ℕ) → 1 ≤ length (line_in form bytes)
line_some Text bytes = omega arith
line_some (Csv columns) bytes = let long = length-append (fields (map (column_value bytes) columns.items)) (13 ∷ 10 ∷ []) in omega (arith, long)
line_some (Json columns) bytes = omega arith

padded_some : (form : Form) (most : ℕ) (line bytes : List ℕ) → SaysPadded form most line bytes → 1 ≤ length line
padded_some Text most line bytes says = let long = ap (λ (l : List ℕ). length l) says.line_is in omega (arith, long)
padded_some (Csv columns) most line bytes says =
    let is = ap (λ (l : List ℕ). length l) says.line_is in
    let long = length-append (fields (map (λ (of : ColumnValue). text_of of.value) says.values)) (13 ∷ 10 ∷ []) in
    omega (arith, is, long)
padded_some (Json columns) most line bytes says = let long = ap (λ (l : List ℕ). length l) says.line_is in omega (arith, long)

pub begins_some : (pad : Bool) (form : Form) (greatest : ℕ) (text bytes behind : List ℕ) → BeginsWith pad form greatest text bytes behind → 1 + length behind ≤ length text
begins_some false form greatest text bytes behind is =
    let long = ap (λ (l : List ℕ). length l) is in
    let both = length-append (line_in form bytes) behind in
    let some = line_some form bytes in
    omega (arith, long, both, some)
begins_some true form greatest text bytes behind (line, is, says) =
    let long = ap (λ (l : List ℕ). length l) is in
    let both = length-append line behind in
    let some = padded_some form greatest line bytes says in
    omega (arith, long, both, some)

-- a line has some bytes
pub shorter : (form : LineForm) (text : List ℕ) (least : ℕ) (area area_now : List ℕ) (n : ℕ) (behind : List ℕ) → ReadsLineOf form text least area area_now n behind → 1 + length behind ≤ length text
shorter form text least area area_now n behind read = begins_some form.pad form.form (length area) text (take n area_now) behind read.begins

header_long : (form : Form) → header_lines form ≤ length (form_header form)
header_long Text = omega arith
header_long (Csv columns) = let long = length-append (fields (map column_name columns.items)) (13 ∷ 10 ∷ []) in omega (arith, long)
header_long (Json columns) = omega arith

-- so many lines stand before the rest of a text
pub lines_before : (form : Form) (text rest : List ℕ) → text ≡ form_header form ++ rest → header_lines form + length rest ≤ length text
lines_before form text rest is =
    let long = ap (λ (l : List ℕ). length l) is in
    let both = length-append (form_header form) rest in
    let header = header_long form in
    omega (arith, long, both, header)
