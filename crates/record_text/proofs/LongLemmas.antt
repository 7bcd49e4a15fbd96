-- A record in brackets that goes on behind the area, and one that is too short.
use Rattle.std.proofs.Common.{◌≡◌, ◌<◌, ◌≤◌, ℕ, ◌+◌, List, [], ◌∷◌, ◌++◌, length, take, flat_map, inr, refl, sym, ap, ◌∙◌, arith, append_assoc, append-nil, length-append}
use Rattle.std.proofs.lemmas.List.{length-take-le}
use Rattle.std.proofs.lemmas.List.Concat.{flat_map-append}
use Rattle.deck_runner.specs.Line.{shown_byte}
use Rattle.record_text.specs.declared.mistake.LineMistake.{LineMistake}
use Rattle.record_text.specs.declared.mistake.LineMistake.TheVariants as of_line
use Rattle.record_text.specs.declared.mistake.Stray.{Stray}
use Rattle.record_text.specs.Quoted.{LacksFront}
use Rattle.record_text.specs.Mistake.{RecordGoesOn, IsLongText, IsStrayRest, IsTextMistake}
use Rattle.record_text.proofs.CellLemmas.{both_bytes}
use Rattle.record_text.proofs.MistakeLemmas.{shown_some}
use Rattle.record_text.proofs.TextReadingLemmas.{IsRead}

-- so many bytes were counted on, and this text is left
pub record HasGoneOn (text : List ℕ) (read bytes : ℕ) (rest : List ℕ) : Type 0 where
  pub on : RecordGoesOn text read bytes rest
  pub fits : bytes + length rest ≤ read + length text

pub gone_none : (text : List ℕ) (read : ℕ) → HasGoneOn text read read text
gone_none text read = record { on = record { more = []; are_bytes = tt; count_is = omega arith; text_is = refl }; fits = omega arith }

pub shorter_by : (rest : List ℕ) (byte : ℕ) (more : List ℕ) → rest ≡ shown_byte byte ++ more → length more + 1 ≤ length rest
shorter_by rest byte more at =
    let long = ap (λ (l : List ℕ). length l) at ∙ length-append (shown_byte byte) more in
    let some = shown_some byte in
    omega (arith, long, some)

pub gone_one : (text : List ℕ) (read bytes : ℕ) (rest : List ℕ) → HasGoneOn text read bytes rest → (byte : ℕ) (more : List ℕ) → byte < 256 → rest ≡ shown_byte byte ++ more → HasGoneOn text read (bytes + 1) more
gone_one text read bytes rest gone byte more is_byte at = record {
  on = record {
    more = gone.on.more ++ byte ∷ [];
    are_bytes = both_bytes gone.on.more (byte ∷ []) gone.on.are_bytes (is_byte, tt);
    count_is = (let long = length-append gone.on.more (byte ∷ []) in let known = gone.on.count_is in omega (arith, long, known));
    text_is = gone.on.text_is ∙ ap (λ (l : List ℕ). flat_map shown_byte gone.on.more ++ l) at
        ∙ sym (append_assoc (flat_map shown_byte gone.on.more) (shown_byte byte) more)
        ∙ ap (λ (l : List ℕ). l ++ more) (sym (flat_map-append shown_byte gone.on.more (byte ∷ []) ∙ ap (λ (l : List ℕ). flat_map shown_byte gone.on.more ++ l) (append-nil (shown_byte byte))));
  };
  fits = (let known = gone.fits in let less = shorter_by rest byte more at in omega (arith, known, less));
}

module _ (text area area_now : List ℕ) (n : ℕ) (rest : List ℕ) (read : IsRead text area area_now n rest) where
  read_long : length (take n area_now) ≡ n
  read_long = let same = read.same in let within = read.within in length-take-le n area_now (omega (arith, same, within))

  -- the bytes in the area, and those behind them
  abbrev all : List ℕ → List ℕ
  all more = take n area_now ++ more

  all_text : (more behind : List ℕ) → rest ≡ flat_map shown_byte more ++ behind → text ≡ 91 ∷ (flat_map shown_byte (all more) ++ behind)
  all_text more behind is =
      read.line ∙ ap (λ (l : List ℕ). 91 ∷ (flat_map shown_byte (take n area_now) ++ l)) is
      ∙ ap (λ (l : List ℕ). 91 ∷ l) (sym (append_assoc (flat_map shown_byte (take n area_now)) (flat_map shown_byte more) behind) ∙ ap (λ (l : List ℕ). l ++ behind) (sym (flat_map-append shown_byte (take n area_now) more)))

  all_long : (more : List ℕ) (count : ℕ) → count ≡ n + length more → count ≡ length (all more)
  all_long more count is = let long = length-append (take n area_now) more in let front = read_long in omega (arith, is, long, front)

  -- what was read is followed by what is no further byte, and no end
  pub stray_here : (stray : Stray) → IsStrayRest rest stray → (least most : ℕ) → IsTextMistake text least most (of_line.Byte n stray)
  stray_here stray is least most = record {
    bytes = take n area_now;
    rest = rest;
    are_bytes = read.bytes;
    count_is = sym read_long;
    text_is = read.line;
    stray_is = is;
  }

  -- the area is full, and the record goes on
  module _ (full : length area ≤ n) (no_end : LacksFront (λ behind. 93 ∷ 10 ∷ behind) rest) (least : ℕ) where
    some_more : (more behind : List ℕ) → rest ≡ flat_map shown_byte more ++ (93 ∷ 10 ∷ behind) → 0 < length more
    some_more [] behind is = absurd (no_end behind is)
    some_more (byte ∷ more) behind is = omega arith

    pub long_mistake : (mistake : LineMistake) → IsLongText rest n least (length area) mistake → IsTextMistake text least (length area) mistake
    long_mistake of_line.Names is = absurd is
    long_mistake (of_line.Opening char) is = absurd is
    long_mistake (of_line.Column told) is = absurd is
    long_mistake (of_line.Ending char) is = absurd is
    long_mistake (of_line.Byte bytes stray) (behind, on, stray_is) = record {
      bytes = all on.more;
      rest = behind;
      are_bytes = both_bytes (take n area_now) on.more read.bytes on.are_bytes;
      count_is = all_long on.more bytes on.count_is;
      text_is = all_text on.more behind on.text_is;
      stray_is = stray_is;
    }
    long_mistake (of_line.Length bytes shortest longest) (least_is, most_is, both) = (
      least_is,
      most_is,
      record {
        bytes = all both.1.more;
        behind = both.0;
        are_bytes = both_bytes (take n area_now) both.1.more read.bytes both.1.are_bytes;
        count_is = all_long both.1.more bytes both.1.count_is;
        text_is = all_text both.1.more (93 ∷ 10 ∷ both.0) both.1.text_is ∙ ap (λ (l : List ℕ). 91 ∷ l) (sym (append_assoc (flat_map shown_byte (all both.1.more)) (93 ∷ 10 ∷ []) both.0));
        wrong = inr (let some = some_more both.1.more both.0 both.1.text_is in let count = both.1.count_is in omega (arith, full, some, count));
      },
    )
