-- Lines on their way to the writer.
use Rattle.std.proofs.Common.{◌≡◌, ◌≤◌, ℕ, length, Vec, vec_capacity, arith, List, [], ◌∷◌, ◌++◌, Option, Result, Ok, Err, refl, sym, ap, subst, ◌∙◌, append_assoc, append-nil}
use Rattle.std.specs.Io.KnownBytes.{Appends}
use Rattle.std.proofs.KnownBytes.{Appends-nil, Appends-trans}
use Rattle.std.proofs.lemmas.Grind.{flat_map-append}
use Rattle.indexed_file.specs.File.{Row}
use Rattle.record_text.specs.declared.form.Form.{Form}
use Rattle.record_text.specs.Lines.{line_in, form_header}
use Rattle.record_text.specs.Room.{AddsInRoom, IsLineRoom}
use Rattle.record_listing.specs.Lines.{lines_of_rows, list_of}
use Rattle.streams.specs.Output.{AppendsFront, HoldsText}
use Rattle.streams.specs.declared.output.Refused.{Refused}
use Rattle.std.specs.Prelude.{OnOk, OnErr}
use Rattle.record_listing.specs.declared.rows.RowsFault.{RowsFault}
use Rattle.record_listing.specs.declared.rows.RowsFault.TheVariants.{Library as GaveUp, Output as NotTaken}
use Rattle.record_listing.specs.Reading.{HoldsLine, IsOnItsWay, IsWrittenInPart, ComesOut, IsWritten}

module _ (form : Form) where
  lines_append : (a b : List Row) → lines_of_rows form (a ++ b) ≡ lines_of_rows form a ++ lines_of_rows form b
  lines_append a b = flat_map-append (λ (row : Row). line_in form row.bytes) a b

  one_line : (rows : List Row) (row : Row) → lines_of_rows form (rows ++ row ∷ []) ≡ lines_of_rows form rows ++ line_in form row.bytes
  one_line rows row = lines_append rows (row ∷ []) ∙ ap (λ (l : List ℕ). lines_of_rows form rows ++ l) (append-nil (line_in form row.bytes))

  -- at first none is done
  pub none_done : (rows : List Row) (a : Option (List ℕ)) (held : List ℕ) → held ≡ [] → IsOnItsWay form rows rows a a held
  none_done rows a held none = record { done = []; taken = []; rows_are = refl; text = sym none; appends = Appends-nil a }

  -- one more line is held
  pub one_more : (rows rest : List Row) (row : Row) (a b c : Option (List ℕ)) (held now : List ℕ) → IsOnItsWay form rows (row ∷ rest) a b held → HoldsText b c held now (line_in form row.bytes) → IsOnItsWay form rows rest a c now
  one_more rows rest row a b c held now way holds = record {
    done = way.done ++ row ∷ [];
    taken = way.taken ++ holds.taken;
    rows_are = way.rows_are ∙ sym (append_assoc way.done (row ∷ []) rest);
    text = one_line way.done row ∙ ap (λ (l : List ℕ). l ++ line_in form row.bytes) way.text ∙ append_assoc way.taken held (line_in form row.bytes) ∙ ap (λ (l : List ℕ). way.taken ++ l) holds.text_is
        ∙ sym (append_assoc way.taken holds.taken now);
    appends = Appends-trans a b c way.taken holds.taken way.appends holds.appends;
  }

  -- the text of all rows
  whole_text : (rows rest : List Row) (a b : Option (List ℕ)) (held : List ℕ) (way : IsOnItsWay form rows rest a b held) → lines_of_rows form rows ≡ way.taken ++ held ++ lines_of_rows form rest
  whole_text rows rest a b held way = ap (lines_of_rows form) way.rows_are ∙ lines_append way.done rest ∙ ap (λ (l : List ℕ). l ++ lines_of_rows form rest) way.text

  -- the writer took a front of what is held
  pub refused : (rows rest : List Row) (a b c : Option (List ℕ)) (held : List ℕ) → IsOnItsWay form rows rest a b held → AppendsFront b c held → IsWrittenInPart (lines_of_rows form rows) a c
  refused rows rest a b c held way (front, left, is, some, appends) = record {
    front = way.taken ++ front;
    rest = left ++ lines_of_rows form rest;
    text_is = whole_text rows rest a b held way ∙ ap (λ (l : List ℕ). way.taken ++ l ++ lines_of_rows form rest) is
        ∙ ap (λ (l : List ℕ). l ++ lines_of_rows form rest) (sym (append_assoc way.taken front left)) ∙ append_assoc (way.taken ++ front) left (lines_of_rows form rest);
    appends = Appends-trans a b c way.taken front way.appends appends;
  }

  -- the writer took a front of what was held and of one more line
  pub refused_line : (rows rest : List Row) (row : Row) (a b c : Option (List ℕ)) (held : List ℕ) → IsOnItsWay form rows (row ∷ rest) a b held → AppendsFront b c (held ++ line_in form row.bytes) → IsWrittenInPart (lines_of_rows form rows) a c
  refused_line rows rest row a b c held way (front, left, is, some, appends) = record {
    front = way.taken ++ front;
    rest = left ++ lines_of_rows form rest;
    text_is = whole_text rows (row ∷ rest) a b held way ∙ sym (append_assoc (way.taken ++ held) (line_in form row.bytes) (lines_of_rows form rest))
        ∙ ap (λ (l : List ℕ). l ++ lines_of_rows form rest) (append_assoc way.taken held (line_in form row.bytes) ∙ ap (λ (l : List ℕ). way.taken ++ l) is ∙ sym (append_assoc way.taken front left))
        ∙ append_assoc (way.taken ++ front) left (lines_of_rows form rest);
    appends = Appends-trans a b c way.taken front way.appends appends;
  }

  -- the writer took all that is held
  pub in_part : (rows rest : List Row) (a b c : Option (List ℕ)) (held : List ℕ) → IsOnItsWay form rows rest a b held → Appends b c held → IsWrittenInPart (lines_of_rows form rows) a c
  in_part rows rest a b c held way appends = record {
    front = way.taken ++ held;
    rest = lines_of_rows form rest;
    text_is = whole_text rows rest a b held way;
    appends = Appends-trans a b c way.taken held way.appends appends;
  }

  pub all_out : (rows : List Row) (a b c : Option (List ℕ)) (held : List ℕ) → IsOnItsWay form rows [] a b held → Appends b c held → Appends a c (lines_of_rows form rows)
  all_out rows a b c held way appends =
      subst (Appends a c) (sym (whole_text rows [] a b held way ∙ append-nil (way.taken ++ held))) (Appends-trans a b c way.taken held way.appends appends)

  -- what was held was handed over
  pub handed : (rows : List Row) (a b c : Option (List ℕ)) (held : List ℕ) (result : Result Unit RowsFault) → (result ≡ Err NotTaken → ⊥) → ComesOut form rows a b held result → Appends b c held → IsWritten (lines_of_rows form rows) a c result
  handed rows a b c held (Ok done) other out appends = all_out rows a b c held out appends
  handed rows a b c held (Err (GaveUp fault)) other out appends = in_part rows out.0 a b c held out.1 appends
  handed rows a b c held (Err NotTaken) other out appends = absurd (other refl)

  -- the writer refused a part of what was held
  pub not_handed : (rows : List Row) (a b c : Option (List ℕ)) (held : List ℕ) (result : Result Unit RowsFault) → (result ≡ Err NotTaken → ⊥) → ComesOut form rows a b held result → AppendsFront b c held → IsWrittenInPart (lines_of_rows form rows) a c
  not_handed rows a b c held (Ok done) other out front = refused rows [] a b c held out front
  not_handed rows a b c held (Err (GaveUp fault)) other out front = refused rows out.0 a b c held out.1 front
  not_handed rows a b c held (Err NotTaken) other out front = absurd (other refl)

  -- the writer had refused one
  pub still_refused : (rows : List Row) (a b : Option (List ℕ)) (held : List ℕ) (result : Result Unit RowsFault) → result ≡ Err NotTaken → ComesOut form rows a b held result → IsWritten (lines_of_rows form rows) a b result
  still_refused rows a b held (Ok done) is out = absurd (cc)
  still_refused rows a b held (Err (GaveUp fault)) is out = absurd (cc)
  still_refused rows a b held (Err NotTaken) is out = out

  -- the lines stand behind what stands before them
  pub behind_header : (rows : List Row) (a b c : Option (List ℕ)) (result : Result Unit RowsFault) → Appends a b (form_header form) → IsWritten (lines_of_rows form rows) b c result → IsWritten (list_of form rows) a c result
  behind_header rows a b c (Ok done) header lines = Appends-trans a b c (form_header form) (lines_of_rows form rows) header lines
  behind_header rows a b c (Err stop) header lines = record {
    front = form_header form ++ lines.front;
    rest = lines.rest;
    text_is = ap (λ (l : List ℕ). form_header form ++ l) lines.text_is ∙ sym (append_assoc (form_header form) lines.front lines.rest);
    appends = Appends-trans a b c (form_header form) lines.front header lines.appends;
  }

  -- only a front of what stands before them was written
  pub in_header : (rows : List Row) (a b : Option (List ℕ)) → IsWrittenInPart (form_header form) a b → IsWrittenInPart (list_of form rows) a b
  in_header rows a b part = record {
    front = part.front;
    rest = part.rest ++ lines_of_rows form rows;
    text_is = ap (λ (l : List ℕ). l ++ lines_of_rows form rows) part.text_is ∙ append_assoc part.front part.rest (lines_of_rows form rows);
    appends = part.appends;
  }

-- nothing was written
pub unwritten : (text : List ℕ) (a : Option (List ℕ)) → IsWrittenInPart text a a
unwritten text a = record { front = []; rest = text; text_is = refl; appends = Appends-nil a }

-- a line for which a text has room stands in it
pub in_room : {Z E : Type 0} (form : Form) (bytes : List ℕ) (most : ℕ) (old new : Vec ℕ Z) (result : Result Unit E) → AddsInRoom old new (line_in form bytes) result → old.items ≡ [] → IsLineRoom form most (vec_capacity old) → length bytes ≤ most → new.items ≡ line_in form bytes
in_room form bytes most old new (Ok done) adds none room few = adds.items ∙ ap (λ (l : List ℕ). l ++ line_in form bytes) none
in_room form bytes most old new (Err fault) adds none room few =
    let fits = room bytes few in
    let empty = ap (λ (l : List ℕ). length l) none in
    let long = old.ok.0 in
    absurd (omega (arith, adds, fits, empty, long))

-- it is held, or the writer refused it
pub held_or_refused : (a b : Option (List ℕ)) (held after text line : List ℕ) (result : Result Unit Refused) → text ≡ line → OnOk result (HoldsText a b held after text) → OnErr result (AppendsFront a b (held ++ text)) → HoldsLine a b held after line result
held_or_refused a b held after text line (Ok done) is holds front = subst (HoldsText a b held after) is holds
held_or_refused a b held after text line (Err refused) is holds front = subst (λ (l : List ℕ). AppendsFront a b (held ++ l)) is front
