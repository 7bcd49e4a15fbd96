-- Bytes in quotes are read into an area, one after another.
use Rattle.std.proofs.Common.{◌≡◌, ◌<◌, ◌≤◌, ℕ, ◌+◌, List, [], ◌∷◌, ◌++◌, length, take, drop, slice_set, refl, sym, ap, ◌∙◌, arith, append_assoc, append-nil, length-append, length-set, drop-drop}
use Rattle.std.proofs.lemmas.List.{take_more_set, drop-set-lt}
use Rattle.std.proofs.lemmas.List.Concat.{flat_map-append}
use Rattle.record_text.specs.declared.quoted.Quoting.{Quoting}
use Rattle.record_text.specs.ReadLine.{AreBytes}
use Rattle.record_text.specs.Quoted.{quoted_byte, inside, BeginsWithNoByte}
use Rattle.record_text.specs.Part.{ReadsPart, inside_text}
use Rattle.record_text.proofs.QuotedLemmas.{quoted_apart}

pub both_bytes : (xs ys : List ℕ) → AreBytes xs → AreBytes ys → AreBytes (xs ++ ys)
both_bytes [] ys are others = others
both_bytes (x ∷ xs) ys are others = (are.0, both_bytes xs ys are.1 others)

-- what is left of some bytes, of which these were read, where this text is left
pub record IsLeftOf (quoting : Quoting) (bytes done rest behind : List ℕ) : Type 0 where
  pub left : List ℕ
  pub bytes_are : bytes ≡ done ++ left
  pub are_bytes : AreBytes left
  pub text : rest ≡ inside quoting left ++ behind

-- bytes were read from one place on up to another one, and this text is left; other bytes that give the text begin with them
pub record IsReadUpTo (quoting : Quoting) (text area : List ℕ) (from to : ℕ) (area_now : List ℕ) (at : ℕ) (rest : List ℕ) : Type 0 where
  pub bytes : List ℕ
  pub are_bytes : AreBytes bytes
  pub front : take at area_now ≡ take from area ++ bytes
  pub at_is : at ≡ from + length bytes
  pub within : at ≤ to
  pub same : length area_now ≡ length area
  pub tail : drop at area_now ≡ drop at area
  pub text_is : text ≡ inside quoting bytes ++ rest
  pub each : (others behind : List ℕ) → AreBytes others → BeginsWithNoByte quoting behind → text ≡ inside quoting others ++ behind → IsLeftOf quoting others bytes rest behind

pub none_read : (quoting : Quoting) (text area : List ℕ) (from to : ℕ) → from ≤ to → IsReadUpTo quoting text area from to area from text
none_read quoting text area from to order = record {
  bytes = [];
  are_bytes = tt;
  front = sym (append-nil (take from area));
  at_is = omega arith;
  within = order;
  same = refl;
  tail = refl;
  text_is = refl;
  each = λ others behind are none is. record { left = others; bytes_are = refl; are_bytes = are; text = is };
}

module _ (quoting : Quoting) (text area : List ℕ) (from to : ℕ) (area_now : List ℕ) (at : ℕ) (rest : List ℕ) (read : IsReadUpTo quoting text area from to area_now at rest) where
  -- all bytes are read, where no others that have room go on
  ended : ((others behind : List ℕ) → from + length others ≤ to → BeginsWithNoByte quoting behind → IsLeftOf quoting others read.bytes rest behind → (others ≡ read.bytes) × (behind ≡ rest))
      → ReadsPart (inside_text quoting) (BeginsWithNoByte quoting) text area from to area_now at rest
  ended ends = record {
    bytes = read.bytes;
    are_bytes = read.are_bytes;
    front = read.front;
    at_is = read.at_is;
    within = read.within;
    same = read.same;
    rest = read.tail;
    text_is = read.text_is;
    only = λ others behind are room none is. ends others behind room none (read.each others behind are none is);
  }

  ended_by : (others behind left : List ℕ) → others ≡ read.bytes ++ left → rest ≡ inside quoting left ++ behind → left ≡ [] → (others ≡ read.bytes) × (behind ≡ rest)
  ended_by others behind [] others_are text is = (others_are ∙ append-nil read.bytes, sym text)
  ended_by others behind (byte ∷ left) others_are text is = absurd (cc)

  -- no byte stands there
  none_left : BeginsWithNoByte quoting rest → (left behind : List ℕ) → AreBytes left → rest ≡ inside quoting left ++ behind → left ≡ []
  none_left none [] behind are text = refl
  none_left none (byte ∷ left) behind are text = absurd (none byte (inside quoting left ++ behind) are.0 (text ∙ append_assoc (quoted_byte quoting byte) (inside quoting left) behind))

  pub ended_here : BeginsWithNoByte quoting rest → ReadsPart (inside_text quoting) (BeginsWithNoByte quoting) text area from to area_now at rest
  ended_here none =
      ended (λ others behind room ends left. ended_by others behind left.left left.bytes_are left.text (none_left none left.left behind left.are_bytes left.text))

  -- there is no room
  no_room : to ≤ at → (others left : List ℕ) → from + length others ≤ to → others ≡ read.bytes ++ left → left ≡ []
  no_room full others [] room are = refl
  no_room full others (byte ∷ left) room are =
      let long = ap (λ (l : List ℕ). length l) are ∙ length-append read.bytes (byte ∷ left) in
      let place = read.at_is in
      absurd (omega (arith, long, place, room, full))

  pub ended_full : to ≤ at → ReadsPart (inside_text quoting) (BeginsWithNoByte quoting) text area from to area_now at rest
  ended_full full =
      ended (λ others behind room ends left. ended_by others behind left.left left.bytes_are left.text (no_room full others left.left room left.bytes_are))

  -- one byte more is read
  pub one_more : (byte : ℕ) (more : List ℕ) → byte < 256 → at < to → to ≤ length area → rest ≡ quoted_byte quoting byte ++ more
      → IsReadUpTo quoting text area from to (slice_set area_now at byte) (at + 1) more
  one_more byte more is_byte room within at_rest =
      let below : at < length area_now = (let same = read.same in omega (arith, same, room, within)) in
      record {
        bytes = read.bytes ++ byte ∷ [];
        are_bytes = both_bytes read.bytes (byte ∷ []) read.are_bytes (is_byte, tt);
        front = take_more_set area_now at byte below ∙ ap (λ (l : List ℕ). l ++ byte ∷ []) read.front ∙ append_assoc (take from area) read.bytes (byte ∷ []);
        at_is = (let long = length-append read.bytes (byte ∷ []) in let place = read.at_is in omega (arith, long, place));
        within = omega (arith, room);
        same = length-set area_now at byte ∙ read.same;
        tail = drop-set-lt (at + 1) area_now at byte (omega arith) ∙ sym (drop-drop 1 at area_now) ∙ ap (drop 1) read.tail ∙ drop-drop 1 at area;
        text_is = read.text_is ∙ ap (λ (l : List ℕ). inside quoting read.bytes ++ l) at_rest
            ∙ sym (append_assoc (inside quoting read.bytes) (quoted_byte quoting byte) more)
            ∙ ap (λ (l : List ℕ). l ++ more) (sym (flat_map-append (quoted_byte quoting) read.bytes (byte ∷ []) ∙ ap (λ (l : List ℕ). inside quoting read.bytes ++ l) (append-nil (quoted_byte quoting byte))));
        each = λ others behind are none is. let left = read.each others behind are none is in next others behind left.left none left.bytes_are left.are_bytes left.text;
      }
    where
      next : (others behind left : List ℕ) → BeginsWithNoByte quoting behind → others ≡ read.bytes ++ left → AreBytes left → rest ≡ inside quoting left ++ behind → IsLeftOf quoting others (read.bytes ++ byte ∷ []) more behind
      next others behind [] none others_are are text = absurd (none byte more is_byte (sym text ∙ at_rest))
      next others behind (first ∷ left) none others_are are text =
          let same = quoted_apart quoting byte first more (inside quoting left ++ behind) (sym at_rest ∙ text ∙ append_assoc (quoted_byte quoting first) (inside quoting left) behind) in
          record {
            left = left;
            bytes_are = others_are ∙ ap (λ (b : ℕ). read.bytes ++ (b ∷ left)) (sym same.0) ∙ sym (append_assoc read.bytes (byte ∷ []) left);
            are_bytes = are.1;
            text = same.1;
          }
