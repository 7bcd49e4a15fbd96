-- A line of text is read, a byte of its record after another.
use Rattle.std.proofs.Common.{◌≡◌, ◌<◌, ◌≤◌, ℕ, ◌+◌, List, [], ◌∷◌, ◌++◌, length, take, drop, slice_set, flat_map, refl, sym, ap, ◌∙◌, subst, arith, append_assoc, append-nil, length-append, length-set, suc, zero, add-one}
use Rattle.std.proofs.lemmas.List.{take_more_set, drop-set-lt, length-take-le, append_cancel_left}
use Rattle.std.proofs.lemmas.List.Concat.{flat_map-append}
use Rattle.deck_runner.specs.Line.{shown_byte}
use Rattle.std.specs.Prelude.{Result, Ok, Err, IfOk}
use Rattle.record_text.specs.declared.form.Form.{Form}
use Rattle.record_text.specs.declared.form.Form.TheVariants.{Text}
use Rattle.record_text.specs.declared.line_reading.RecordLine.{RecordLine}
use Rattle.record_text.specs.declared.mistake.LineMistake.{LineMistake}
use Rattle.record_text.specs.Lines.{text_line}
use Rattle.record_text.specs.ReadLine.{AreBytes, ReadsLine, BeginsWithNoLine}
use Rattle.record_text.specs.Part.{ReadsPart, Anything, line_text}
use Rattle.record_text.proofs.ShownLemmas.{shown_apart, no_end}

-- what is left of the bytes of a record, of which these were read, where this text is left
pub record IsLeft (bytes done rest behind : List ℕ) : Type 0 where
  pub left : List ℕ
  pub bytes_are : bytes ≡ done ++ left
  pub are_bytes : AreBytes left
  pub text : rest ≡ flat_map shown_byte left ++ (93 ∷ 10 ∷ behind)

-- the first n bytes of a record were read, and this text is left; a record whose line the text begins with begins with them
pub record IsRead (text area area_now : List ℕ) (n : ℕ) (rest : List ℕ) : Type 0 where
  pub within : n ≤ length area
  pub same : length area_now ≡ length area
  pub bytes : AreBytes (take n area_now)
  pub line : text ≡ 91 ∷ (flat_map shown_byte (take n area_now) ++ rest)
  pub tail : drop n area_now ≡ drop n area
  pub each : (record_bytes behind : List ℕ) → AreBytes record_bytes → text ≡ text_line record_bytes ++ behind → IsLeft record_bytes (take n area_now) rest behind

pub none_read : (text area rest : List ℕ) → text ≡ 91 ∷ rest → IsRead text area area 0 rest
none_read text area rest e = record {
  within = omega arith;
  same = refl;
  bytes = tt;
  line = e;
  tail = refl;
  each = λ bytes behind are is. record {
    left = bytes;
    bytes_are = refl;
    are_bytes = are;
    text = (let t : 91 ∷ rest ≡ 91 ∷ (flat_map shown_byte bytes ++ (93 ∷ 10 ∷ behind)) = sym e ∙ is ∙ ap (λ (l : List ℕ). 91 ∷ l) (append_assoc (flat_map shown_byte bytes) (93 ∷ 10 ∷ []) behind) in cc);
  };
}

each_append : (xs : List ℕ) (y : ℕ) → AreBytes xs → y < 256 → AreBytes (xs ++ y ∷ [])
each_append [] y are is = (is, tt)
each_append (x ∷ xs) y are is = (are.0, each_append xs y are.1 is)

drop_suc : (n : ℕ) (l : List ℕ) → drop (suc n) l ≡ drop 1 (drop n l)
drop_suc zero l = refl
drop_suc (suc n) [] = refl
drop_suc (suc n) (x ∷ l) = drop_suc n l

drop_next : (n : ℕ) (l : List ℕ) → drop (n + 1) l ≡ drop 1 (drop n l)
drop_next n l = ap (λ (m : ℕ). drop m l) (add-one n) ∙ drop_suc n l

module _ (text area area_now : List ℕ) (n : ℕ) (rest : List ℕ) (read : IsRead text area area_now n rest) where
  -- no record is read to its end where its end does not stand
  pub none_at : ((behind : List ℕ) → rest ≡ 93 ∷ 10 ∷ behind → ⊥) → ((byte : ℕ) (more : List ℕ) → byte < 256 → rest ≡ shown_byte byte ++ more → ⊥) → (most : ℕ) → BeginsWithNoLine Text text most
  none_at no_end_here no_byte most bytes behind are few is =
      let left = read.each bytes behind are is in none_left left.left left.are_bytes left.text
    where
      none_left : (left : List ℕ) → AreBytes left → rest ≡ flat_map shown_byte left ++ (93 ∷ 10 ∷ behind) → ⊥
      none_left [] are text = no_end_here behind text
      none_left (byte ∷ left) are text = no_byte byte (flat_map shown_byte left ++ (93 ∷ 10 ∷ behind)) are.0 (text ∙ append_assoc (shown_byte byte) (flat_map shown_byte left) (93 ∷ 10 ∷ behind))

  -- nor where the area is full
  pub none_in_full : ((behind : List ℕ) → rest ≡ 93 ∷ 10 ∷ behind → ⊥) → length area ≤ n → BeginsWithNoLine Text text (length area)
  none_in_full no_end_here full bytes behind are few is =
      let left = read.each bytes behind are is in none_left left.left left.bytes_are left.text
    where
      none_left : (left : List ℕ) → bytes ≡ take n area_now ++ left → rest ≡ flat_map shown_byte left ++ (93 ∷ 10 ∷ behind) → ⊥
      none_left [] bytes_are text = no_end_here behind text
      none_left (byte ∷ left) bytes_are text =
          let long = ap (λ (l : List ℕ). length l) bytes_are ∙ length-append (take n area_now) (byte ∷ left) in
          let front = length-take-le n area_now (omega (arith, read.same, read.within)) in
          omega (arith, long, front, few, full)

  -- the record is read to its end
  pub finished : (behind : List ℕ) → rest ≡ 93 ∷ 10 ∷ behind → ReadsLine Text text area area_now n behind
  finished behind at = record {
    within = read.within;
    bytes = read.bytes;
    line = read.line ∙ ap (λ (l : List ℕ). 91 ∷ (flat_map shown_byte (take n area_now) ++ l)) at ∙ ap (λ (l : List ℕ). 91 ∷ l) (sym (append_assoc (flat_map shown_byte (take n area_now)) (93 ∷ 10 ∷ []) behind));
    rest = read.tail;
  }

  -- one byte more is read
  pub one_more : (byte : ℕ) (more : List ℕ) → ((behind : List ℕ) → rest ≡ 93 ∷ 10 ∷ behind → ⊥) → byte < 256 → n < length area → rest ≡ shown_byte byte ++ more
      → IsRead text area (slice_set area_now n byte) (n + 1) more
  one_more byte more no_end_here is_byte room at =
      let below : n < length area_now = omega (arith, read.same, room) in
      let front : take (n + 1) (slice_set area_now n byte) ≡ take n area_now ++ byte ∷ [] = take_more_set area_now n byte below in
      record {
        within = omega (arith, room);
        same = length-set area_now n byte ∙ read.same;
        bytes = subst AreBytes (sym front) (each_append (take n area_now) byte read.bytes is_byte);
        line = read.line ∙ ap (λ (l : List ℕ). 91 ∷ (flat_map shown_byte (take n area_now) ++ l)) at
            ∙ ap (λ (l : List ℕ). 91 ∷ l) (sym (append_assoc (flat_map shown_byte (take n area_now)) (shown_byte byte) more))
            ∙ ap (λ (l : List ℕ). 91 ∷ (l ++ more)) (sym (ap (flat_map shown_byte) front ∙ flat_map-append shown_byte (take n area_now) (byte ∷ []) ∙ ap (λ (l : List ℕ). flat_map shown_byte (take n area_now) ++ l) (append-nil (shown_byte byte))));
        tail = drop-set-lt (n + 1) area_now n byte (omega arith) ∙ drop_next n area_now ∙ ap (drop 1) read.tail ∙ sym (drop_next n area);
        each = λ bytes behind are is. subst (λ (done : List ℕ). IsLeft bytes done more behind) (sym front) (next_left (read.each bytes behind are is));
      }
    where
      next_by : (bytes behind left : List ℕ) → bytes ≡ take n area_now ++ left → AreBytes left → rest ≡ flat_map shown_byte left ++ (93 ∷ 10 ∷ behind) → IsLeft bytes (take n area_now ++ byte ∷ []) more behind
      next_by bytes behind [] bytes_are are text = absurd (no_end_here behind text)
      next_by bytes behind (next ∷ left) bytes_are are text =
          let same = shown_apart byte next more (flat_map shown_byte left ++ (93 ∷ 10 ∷ behind)) (sym at ∙ text ∙ append_assoc (shown_byte next) (flat_map shown_byte left) (93 ∷ 10 ∷ behind)) in
          record {
            left = left;
            bytes_are = bytes_are ∙ ap (λ (b : ℕ). take n area_now ++ (b ∷ left)) (sym same.0) ∙ sym (append_assoc (take n area_now) (byte ∷ []) left);
            are_bytes = are.1;
            text = same.1;
          }

      next_left : {bytes behind : List ℕ} → IsLeft bytes (take n area_now) rest behind → IsLeft bytes (take n area_now ++ byte ∷ []) more behind
      next_left {bytes} {behind} left = next_by bytes behind left.left left.bytes_are left.are_bytes left.text

-- ---- which record a line is of

same_bytes : (bytes others x y : List ℕ) → flat_map shown_byte bytes ++ (93 ∷ 10 ∷ x) ≡ flat_map shown_byte others ++ (93 ∷ 10 ∷ y) → bytes ≡ others
same_bytes [] [] x y e = refl
same_bytes [] (other ∷ others) x y e = absurd (no_end other others x y e)
same_bytes (byte ∷ bytes) [] x y e = absurd (no_end byte bytes y x (sym e))
same_bytes (byte ∷ bytes) (other ∷ others) x y e =
    let same = shown_apart byte other (flat_map shown_byte bytes ++ (93 ∷ 10 ∷ x)) (flat_map shown_byte others ++ (93 ∷ 10 ∷ y))
    (sym (append_assoc (shown_byte byte) (flat_map shown_byte bytes) (93 ∷ 10 ∷ x)) ∙ e ∙ append_assoc (shown_byte other) (flat_map shown_byte others) (93 ∷ 10 ∷ y)) in
    ap (λ (b : ℕ). b ∷ bytes) same.0 ∙ ap (λ (l : List ℕ). other ∷ l) (same_bytes bytes others x y same.1)

behind_bracket : (x y : List ℕ) → ◌≡◌ {A = List ℕ} (91 ∷ x) (91 ∷ y) → x ≡ y
behind_bracket x y e = cc

-- a text begins with the line of one record at most
pub one_record : (bytes others x y : List ℕ) → text_line bytes ++ x ≡ text_line others ++ y → bytes ≡ others
one_record bytes others x y e =
    same_bytes bytes others x y
    (sym (append_assoc (flat_map shown_byte bytes) (93 ∷ 10 ∷ []) x)
    ∙ behind_bracket ((flat_map shown_byte bytes ++ (93 ∷ 10 ∷ [])) ++ x) ((flat_map shown_byte others ++ (93 ∷ 10 ∷ [])) ++ y) e
    ∙ append_assoc (flat_map shown_byte others) (93 ∷ 10 ∷ []) y)

-- a record that was read is a part of the text
pub text_part : (text area area_now : List ℕ) (n : ℕ) (behind : List ℕ) → length area_now ≡ length area → ReadsLine Text text area area_now n behind
    → ReadsPart (line_text Text) Anything text area 0 (length area) area_now n behind
text_part text area area_now n behind same read = record {
  bytes = take n area_now;
  are_bytes = read.bytes;
  front = refl;
  at_is = (let long = length-take-le n area_now (omega (arith, same, read.within)) in omega (arith, long));
  within = read.within;
  same = same;
  rest = read.rest;
  text_is = read.line;
  only = λ others other_behind are few follows is.
      let both : text_line others ++ other_behind ≡ text_line (take n area_now) ++ behind = sym is ∙ read.line in
      let one : others ≡ take n area_now = one_record others (take n area_now) other_behind behind both in
      (one, append_cancel_left (text_line (take n area_now)) other_behind behind (ap (λ (l : List ℕ). text_line l ++ other_behind) (sym one) ∙ both));
}

-- the same of what was answered
pub text_parts : (form : Form) (result : Result RecordLine LineMistake) (text area area_now : List ℕ) → form ≡ Text → length area_now ≡ length area
    → IfOk result (λ line. ReadsLine Text text area area_now line.length line.behind.now)
    → IfOk result (λ line. ReadsPart (line_text form) Anything text area 0 (length area) area_now line.length line.behind.now)
text_parts form (Err mistake) text area area_now is same read = tt
text_parts form (Ok line) text area area_now is same read =
    subst (λ (f : Form). ReadsPart (line_text f) Anything text area 0 (length area) area_now line.length line.behind.now) (sym is)
    (text_part text area area_now line.length line.behind.now same read)
