-- No line is longer than that of as many zeros.
use Rattle.std.proofs.Common.{◌≡◌, ◌≤◌, ◌<◌, ℕ, zero, suc, ◌+◌, ◌-◌, ◌/◌, ◌%◌, ◌==◌, Bool, true, false, nat_lt, not, ◌&&◌, ◌||◌, List, [], ◌∷◌, ◌++◌, length, take, drop, replicate, flat_map, map, Vec, vec_capacity, if◌then◌else◌, refl, sym, ap, subst, ◌∙◌, arith, length-append}
use Rattle.std.proofs.lemmas.Bool.{ne_eqb, ltb-true, ltb-false}
use Rattle.std.proofs.lemmas.List.{drop-replicate}
use Rattle.deck_runner.specs.Line.{shown_byte}
use Rattle.streams.specs.Hex.{hex_digit}
use Rattle.record_text.specs.declared.column.Column.{Column}
use Rattle.record_text.specs.declared.form.Form.{Form}
use Rattle.record_text.specs.declared.form.Form.TheVariants.{Text, Csv, Json}
use Rattle.record_text.specs.Columns.{text_of, cell_of, column_value}
use Rattle.record_text.specs.Csv.{doubled_quote, field, fields}
use Rattle.record_text.specs.Json.{escaped, string, member, members}
use Rattle.record_text.specs.Lines.{line_in, member_of}
use Rattle.record_text.specs.Room.{IsLineRoom}
use Rattle.record_text.proofs.TextLemmas.{fused}

-- each byte gives no more than a zero, so no bytes give more than as many zeros
longest : (f : ℕ → List ℕ) → ((byte : ℕ) → length (f byte) ≤ length (f 0)) → (bytes : List ℕ) (n : ℕ) → length bytes ≤ n → length (flat_map f bytes) ≤ length (flat_map f (replicate n 0))
longest f each [] n few = omega arith
longest f each (byte ∷ bytes) zero few = absurd (omega (arith, few))
longest f each (byte ∷ bytes) (suc n) few =
    let rest = longest f each bytes n (omega (arith, few)) in
    let one = each byte in
    let both = length-append (f byte) (flat_map f bytes) in
    let zeros = length-append (f 0) (flat_map f (replicate n 0)) in
    omega (arith, rest, one, both, zeros)

-- a part of bytes is no longer than that of as many zeros
take_few : (l n : ℕ) (bytes : List ℕ) → length bytes ≤ n → (m : ℕ) × (take {A = ℕ} l (replicate n 0) ≡ replicate m 0) × (length (take l bytes) ≤ m)
take_few zero n bytes few = (0, refl, omega arith)
take_few (suc l) zero [] few = (0, refl, omega arith)
take_few (suc l) zero (byte ∷ bytes) few = absurd (omega (arith, few))
take_few (suc l) (suc n) [] few = let rest = take_few l n [] (omega arith) in (suc rest.0, ap (λ (t : List ℕ). 0 ∷ t) rest.1, omega arith)
take_few (suc l) (suc n) (byte ∷ bytes) few =
    let rest = take_few l n bytes (omega (arith, few)) in
    let long = rest.2 in
    (suc rest.0, ap (λ (t : List ℕ). 0 ∷ t) rest.1, omega (arith, long))

drop_few : (d n : ℕ) (bytes : List ℕ) → length bytes ≤ n → length (drop d bytes) ≤ n - d
drop_few zero n bytes few = omega (arith, few)
drop_few (suc d) n [] few = omega arith
drop_few (suc d) zero (byte ∷ bytes) few = absurd (omega (arith, few))
drop_few (suc d) (suc n) (byte ∷ bytes) few = let rest = drop_few d n bytes (omega (arith, few)) in omega (arith, rest)

-- what each byte gives
digit_no_quote : (n : ℕ) (b : Bool) → ((if b then 48 + n else 87 + n) == 34) ≡ false
digit_no_quote n true = ne_eqb (48 + n) 34 (λ same. omega (arith, same))
digit_no_quote n false = ne_eqb (87 + n) 34 (λ same. omega (arith, same))

digit_no_slash : (n : ℕ) (b : Bool) → nat_lt n 10 ≡ b → ((if b then 48 + n else 87 + n) == 92) ≡ false
digit_no_slash n true is = let small : n < 10 = ltb-true n 10 is in ne_eqb (48 + n) 92 (λ same. omega (arith, same, small))
digit_no_slash n false is = let large : 10 ≤ n = ltb-false n 10 is in ne_eqb (87 + n) 92 (λ same. omega (arith, same, large))

doubled_short : (c : ℕ) → length (doubled_quote c) ≤ 2
doubled_short c = by (c == 34)
  where
    by : (b : Bool) → length (if b then 34 ∷ 34 ∷ [] else c ∷ []) ≤ 2
    by true = omega arith
    by false = omega arith

doubled_one : (c : ℕ) → (c == 34) ≡ false → length (doubled_quote c) ≡ 1
doubled_one c differs = ap (λ (b : Bool). length (if b then 34 ∷ 34 ∷ [] else c ∷ [])) differs

escaped_short : (c : ℕ) → length (escaped c) ≤ 2
escaped_short c = by ((c == 34) || (c == 92))
  where
    by : (b : Bool) → length (if b then 92 ∷ c ∷ [] else c ∷ []) ≤ 2
    by true = omega arith
    by false = omega arith

escaped_one : (c : ℕ) → (c == 34) ≡ false → (c == 92) ≡ false → length (escaped c) ≡ 1
escaped_one c differs also = ap (λ (b : Bool). length (if b || (c == 92) then 92 ∷ c ∷ [] else c ∷ [])) differs ∙ ap (λ (b : Bool). length (if b then 92 ∷ c ∷ [] else c ∷ [])) also

-- a byte that stands as itself, or as a backslash and two digits
shown_short : (byte : ℕ) → length (shown_byte byte) ≤ 3
shown_short byte = by (nat_lt 31 byte && nat_lt byte 127 && not (byte == 92))
  where
    by : (b : Bool) → length (if b then byte ∷ [] else 92 ∷ hex_digit (byte / 16) ∷ hex_digit (byte % 16) ∷ []) ≤ 3
    by true = omega arith
    by false = omega arith

doubled_shown : (byte : ℕ) → length (flat_map doubled_quote (shown_byte byte)) ≤ 3
doubled_shown byte = by (nat_lt 31 byte && nat_lt byte 127 && not (byte == 92))
  where
    by : (b : Bool) → length (flat_map doubled_quote (if b then byte ∷ [] else 92 ∷ hex_digit (byte / 16) ∷ hex_digit (byte % 16) ∷ [])) ≤ 3
    by true = let short = doubled_short byte in let both = length-append (doubled_quote byte) [] in omega (arith, short, both)
    by false =
        let high = hex_digit (byte / 16) in
        let low = hex_digit (byte % 16) in
        let one : length (doubled_quote high) ≡ 1 = doubled_one high (digit_no_quote (byte / 16) (nat_lt (byte / 16) 10)) in
        let two : length (doubled_quote low) ≡ 1 = doubled_one low (digit_no_quote (byte % 16) (nat_lt (byte % 16) 10)) in
        let both = length-append (doubled_quote high) (doubled_quote low ++ []) in
        let last = length-append (doubled_quote low) [] in
        omega (arith, one, two, both, last)

escaped_shown : (byte : ℕ) → length (flat_map escaped (shown_byte byte)) ≤ 4
escaped_shown byte = by (nat_lt 31 byte && nat_lt byte 127 && not (byte == 92))
  where
    by : (b : Bool) → length (flat_map escaped (if b then byte ∷ [] else 92 ∷ hex_digit (byte / 16) ∷ hex_digit (byte % 16) ∷ [])) ≤ 4
    by true = let short = escaped_short byte in let both = length-append (escaped byte) [] in omega (arith, short, both)
    by false =
        let high = hex_digit (byte / 16) in
        let low = hex_digit (byte % 16) in
        let one : length (escaped high) ≡ 1 = escaped_one high (digit_no_quote (byte / 16) (nat_lt (byte / 16) 10)) (digit_no_slash (byte / 16) (nat_lt (byte / 16) 10) refl) in
        let two : length (escaped low) ≡ 1 = escaped_one low (digit_no_quote (byte % 16) (nat_lt (byte % 16) 10)) (digit_no_slash (byte % 16) (nat_lt (byte % 16) 10) refl) in
        let both = length-append (escaped high) (escaped low ++ []) in
        let last = length-append (escaped low) [] in
        omega (arith, one, two, both, last)

-- bytes as they are shown, and then changed
quoted_longest : (f : ℕ → List ℕ) → ((byte : ℕ) → length (flat_map f (shown_byte byte)) ≤ length (flat_map f (shown_byte 0))) → (bytes : List ℕ) (n : ℕ) → length bytes ≤ n
    → length (flat_map f (text_of bytes)) ≤ length (flat_map f (text_of (replicate n 0)))
quoted_longest f each bytes n few =
    let one = ap (λ (l : List ℕ). length l) (fused f bytes) in
    let two = ap (λ (l : List ℕ). length l) (fused f (replicate n 0)) in
    let long = longest (λ byte. flat_map f (shown_byte byte)) each bytes n few in
    omega (arith, one, two, long)

module _ (bytes : List ℕ) (n : ℕ) (few : length bytes ≤ n) where
  -- those of a column
  cell_longest : (f : ℕ → List ℕ) → ((byte : ℕ) → length (flat_map f (shown_byte byte)) ≤ length (flat_map f (shown_byte 0))) → (column : Column)
      → length (flat_map f (column_value bytes column)) ≤ length (flat_map f (column_value (replicate n 0) column))
  cell_longest f each column =
      let part = take_few column.length (n - column.offset) (drop column.offset bytes) (drop_few column.offset n bytes few) in
      let is : cell_of column (replicate n 0) ≡ replicate part.0 0 = ap (take column.length) (drop-replicate column.offset n 0) ∙ part.1 in
      subst (λ (cell : List ℕ). length (flat_map f (column_value bytes column)) ≤ length (flat_map f (text_of cell))) (sym is)
      (quoted_longest f each (cell_of column bytes) part.0 part.2)

  field_longest : (column : Column) → length (field (column_value bytes column)) ≤ length (field (column_value (replicate n 0) column))
  field_longest column =
      let one = length-append (flat_map doubled_quote (column_value bytes column)) (34 ∷ []) in
      let two = length-append (flat_map doubled_quote (column_value (replicate n 0) column)) (34 ∷ []) in
      let long = cell_longest doubled_quote doubled_shown column in
      omega (arith, one, two, long)

  member_longest : (column : Column) → length (member (member_of bytes column)) ≤ length (member (member_of (replicate n 0) column))
  member_longest column =
      let one = length-append (flat_map escaped (column_value bytes column)) (34 ∷ []) in
      let two = length-append (flat_map escaped (column_value (replicate n 0) column)) (34 ∷ []) in
      let long = cell_longest escaped escaped_shown column in
      let front = string (member_of bytes column).name in
      let three = length-append front (58 ∷ string (column_value bytes column)) in
      let four = length-append front (58 ∷ string (column_value (replicate n 0) column)) in
      omega (arith, one, two, long, three, four)

-- each of some things gives no more than another one
each_longest : {A B : Type 0} (f : B → List ℕ) (g h : A → B) → ((x : A) → length (f (g x)) ≤ length (f (h x))) → (things : List A)
    → length (flat_map (λ more. 44 ∷ f more) (map g things)) ≤ length (flat_map (λ more. 44 ∷ f more) (map h things))
each_longest f g h each [] = omega arith
each_longest f g h each (x ∷ xs) =
    let one = length-append (f (g x)) (flat_map (λ more. 44 ∷ f more) (map g xs)) in
    let two = length-append (f (h x)) (flat_map (λ more. 44 ∷ f more) (map h xs)) in
    let long = each x in
    let rest = each_longest f g h each xs in
    omega (arith, one, two, long, rest)

module _ (bytes : List ℕ) (n : ℕ) (few : length bytes ≤ n) where
  fields_longest : (columns : List Column) → length (fields (map (column_value bytes) columns)) ≤ length (fields (map (column_value (replicate n 0)) columns))
  fields_longest [] = omega arith
  fields_longest (column ∷ columns) =
      let one = length-append (field (column_value bytes column)) (flat_map (λ more. 44 ∷ field more) (map (column_value bytes) columns)) in
      let two = length-append (field (column_value (replicate n 0) column)) (flat_map (λ more. 44 ∷ field more) (map (column_value (replicate n 0)) columns)) in
      let long = field_longest bytes n few column in
      let rest = each_longest field (column_value bytes) (column_value (replicate n 0)) (field_longest bytes n few) columns in
      omega (arith, one, two, long, rest)

  members_longest : (columns : List Column) → length (members (map (member_of bytes) columns)) ≤ length (members (map (member_of (replicate n 0)) columns))
  members_longest [] = omega arith
  members_longest (column ∷ columns) =
      let one = length-append (member (member_of bytes column)) (flat_map (λ more. 44 ∷ member more) (map (member_of bytes) columns)) in
      let two = length-append (member (member_of (replicate n 0) column)) (flat_map (λ more. 44 ∷ member more) (map (member_of (replicate n 0)) columns)) in
      let long = member_longest bytes n few column in
      let rest = each_longest member (member_of bytes) (member_of (replicate n 0)) (member_longest bytes n few) columns in
      omega (arith, one, two, long, rest)

  pub line_longest : (form : Form) → length (line_in form bytes) ≤ length (line_in form (replicate n 0))
  line_longest Text =
      let one = length-append (text_of bytes) (93 ∷ 10 ∷ []) in
      let two = length-append (text_of (replicate n 0)) (93 ∷ 10 ∷ []) in
      let long = longest shown_byte shown_short bytes n few in
      omega (arith, one, two, long)
  line_longest (Csv columns) =
      let one = length-append (fields (map (column_value bytes) columns.items)) (13 ∷ 10 ∷ []) in
      let two = length-append (fields (map (column_value (replicate n 0)) columns.items)) (13 ∷ 10 ∷ []) in
      let long = fields_longest columns.items in
      omega (arith, one, two, long)
  line_longest (Json columns) =
      let one = length-append (members (map (member_of bytes) columns.items)) (125 ∷ 10 ∷ []) in
      let two = length-append (members (map (member_of (replicate n 0)) columns.items)) (125 ∷ 10 ∷ []) in
      let long = members_longest columns.items in
      omega (arith, one, two, long)

-- a text in which the line of so many zeros stands has room for the line of each record that has at most so many bytes
pub room_of : {Z : Type 0} (form : Form) (most : ℕ) (text : Vec ℕ Z) → text.items ≡ line_in form (replicate most 0) → IsLineRoom form most (vec_capacity text)
room_of form most text is bytes few =
    let long = line_longest bytes most few form in
    let same = ap (λ (l : List ℕ). length l) is in
    let all = text.ok.0 in
    let room = text.ok.1 in
    omega (arith, long, same, all, room)

pub zeros_are : (n m len : ℕ) (old items : List ℕ) → items ≡ take n old ++ replicate (n - len) 0 → old ≡ [] → len ≡ 0 → n ≡ m → items ≡ replicate m 0
zeros_are n m len old items is none empty same =
    is ∙ ap (λ (l : List ℕ). take n l ++ replicate (n - len) 0) none ∙ nothing n (n - len) ∙ ap (λ (k : ℕ). replicate k 0) (let e : n - len ≡ m = omega (arith, empty, same) in e)
  where
    nothing : (n k : ℕ) → take {A = ℕ} n [] ++ replicate {A = ℕ} k 0 ≡ replicate {A = ℕ} k 0
    nothing zero k = refl
    nothing (suc n) k = refl
