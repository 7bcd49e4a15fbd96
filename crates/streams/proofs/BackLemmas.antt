-- A list in ASCII that was written in UTF-8 is read back, and nothing else is taken.
use Rattle.std.proofs.Common.{◌≡◌, ℕ, ◌+◌, ◌/◌, ◌%◌, ◌<◌, Bool, true, false, List, [], ◌∷◌, ◌++◌, refl, sym, ap, ap₂, ◌∙◌, arith}
use Rattle.std.specs.Prelude.{◌==◌, ◌&&◌}
use Rattle.std.specs.Str.{IsAscii}
use Rattle.std.proofs.lemmas.Bool.{and_parts, eqb-true}
use Rattle.std.proofs.lemmas.Str.{IsAscii-drop}
use Rattle.streams.specs.Characters.{is_latin, two_bytes}
use Rattle.streams.specs.Escapes.{is_escape, byte_of, escape_of}
use Rattle.streams.specs.Hex.{hex_digit}
use Rattle.streams.specs.InUtf8.{in_utf_8}
use Rattle.streams.specs.InAscii.{in_ascii}
use Rattle.streams.specs.Laws.{ReadsBack, EncodesEachEscape, shown_in_utf_8}
use Rattle.streams.specs.declared.backslashes.Backslashes.{Backslashes}
use Rattle.streams.specs.declared.backslashes.Backslashes.TheVariants.{One, Two}
use Rattle.streams.proofs.ByteLemmas.{if_true, if_false, escaped, escaped_small, latin_of_escape, high_digit, low_digit, latin_character, latin_back, digit_no_backslash, latin_escape, latin_byte_of, other_escape}
use Rattle.streams.proofs.FirstLemmas.{one_escape, one_other, two_escape, two_other, other_first, two_before_other, character_first, ascii_first}

-- the characters of an escape come back
digits_back : (byte b c : ℕ) (r : List ℕ) → hex_digit (byte / 16) ≡ b → hex_digit (byte % 16) ≡ c
    → 92 ∷ hex_digit (byte / 16) ∷ hex_digit (byte % 16) ∷ r ≡ 92 ∷ b ∷ c ∷ r
digits_back byte b c r high low = ap₂ (λ h l. 92 ∷ h ∷ l ∷ r) high low

one_character : (a b c : ℕ) (r : List ℕ) → c < 256 → is_escape a b c ≡ true
    → in_ascii One (two_bytes (byte_of b c) ++ r) ≡ a ∷ b ∷ c ∷ in_ascii One r
one_character a b c r small h =
    let e = escaped a b c h in
    let byte = byte_of b c in
    let fits = escaped_small a b c small e in
    let latin = latin_of_escape a b c small e in
    character_first One (192 + byte / 64) (128 + byte % 64) r (latin_character byte fits latin)
    ∙ ap (λ k. escape_of One k ++ in_ascii One r) (latin_back byte fits latin)
    ∙ digits_back byte b c (in_ascii One r) (high_digit a b c small e) (low_digit a b c small e)
    ∙ ap (λ k. k ∷ b ∷ c ∷ in_ascii One r) (sym e.backslash)

two_character : (b c d : ℕ) (r : List ℕ) → d < 256 → is_escape b c d ≡ true
    → in_ascii Two (two_bytes (byte_of c d) ++ r) ≡ 92 ∷ b ∷ c ∷ d ∷ in_ascii Two r
two_character b c d r small h =
    let e = escaped b c d h in
    let byte = byte_of c d in
    let fits = escaped_small b c d small e in
    let latin = latin_of_escape b c d small e in
    character_first Two (192 + byte / 64) (128 + byte % 64) r (latin_character byte fits latin)
    ∙ ap (λ k. escape_of Two k ++ in_ascii Two r) (latin_back byte fits latin)
    ∙ ap (λ l. 92 ∷ l) (digits_back byte c d (in_ascii Two r) (high_digit b c d small e) (low_digit b c d small e))
    ∙ ap (λ k. 92 ∷ k ∷ c ∷ d ∷ in_ascii Two r) (sym e.backslash)

-- a text of ASCII stays as it is
ascii_same : (backslashes : Backslashes) (text : List ℕ) → IsAscii text → in_ascii backslashes text ≡ text
ascii_same backslashes [] h = refl
ascii_same backslashes (a ∷ text) h =
    ascii_first backslashes a text (h 0) ∙ ap (λ l. a ∷ l) (ascii_same backslashes text (IsAscii-drop (a ∷ text) 1 h))

byte_of_ascii : (n : ℕ) → n < 128 → n < 256
byte_of_ascii n h = omega (arith, h)

one_by : (t : Bool) (a b c : ℕ) (rest : List ℕ) → is_escape a b c ≡ t → IsAscii (a ∷ b ∷ c ∷ rest)
    → in_ascii One (in_utf_8 One rest) ≡ rest → in_ascii One (in_utf_8 One (b ∷ c ∷ rest)) ≡ b ∷ c ∷ rest
    → in_ascii One (in_utf_8 One (a ∷ b ∷ c ∷ rest)) ≡ a ∷ b ∷ c ∷ rest
one_by true a b c rest t h short long =
    ap (in_ascii One) (one_escape a b c rest t)
    ∙ one_character a b c (in_utf_8 One rest) (byte_of_ascii c (h 2)) t ∙ ap (λ l. a ∷ b ∷ c ∷ l) short
one_by false a b c rest t h short long =
    ap (in_ascii One) (one_other a b c rest t)
    ∙ ascii_first One a (in_utf_8 One (b ∷ c ∷ rest)) (h 0) ∙ ap (λ l. a ∷ l) long

one_back : (text : List ℕ) → IsAscii text → in_ascii One (in_utf_8 One text) ≡ text
one_back [] h = refl
one_back (a ∷ []) h = ascii_same One (a ∷ []) h
one_back (a ∷ b ∷ []) h = ascii_same One (a ∷ b ∷ []) h
one_back (a ∷ b ∷ c ∷ rest) h =
    one_by (is_escape a b c) a b c rest refl h (one_back rest (IsAscii-drop (a ∷ b ∷ c ∷ rest) 3 h))
    (one_back (b ∷ c ∷ rest) (IsAscii-drop (a ∷ b ∷ c ∷ rest) 1 h))

two_by : (t : Bool) (a b c d : ℕ) (rest : List ℕ) → (a == 92 && is_escape b c d) ≡ t → IsAscii (a ∷ b ∷ c ∷ d ∷ rest)
    → in_ascii Two (in_utf_8 Two rest) ≡ rest → in_ascii Two (in_utf_8 Two (b ∷ c ∷ d ∷ rest)) ≡ b ∷ c ∷ d ∷ rest
    → in_ascii Two (in_utf_8 Two (a ∷ b ∷ c ∷ d ∷ rest)) ≡ a ∷ b ∷ c ∷ d ∷ rest
two_by true a b c d rest t h short long =
    let parts = and_parts (a == 92) (is_escape b c d) t in
    let first = eqb-true a 92 parts.0 in
    ap (λ k. in_ascii Two (in_utf_8 Two (k ∷ b ∷ c ∷ d ∷ rest))) first
    ∙ ap (in_ascii Two) (two_escape b c d rest parts.1)
    ∙ two_character b c d (in_utf_8 Two rest) (byte_of_ascii d (h 3)) parts.1
    ∙ ap (λ l. 92 ∷ b ∷ c ∷ d ∷ l) short ∙ ap (λ k. k ∷ b ∷ c ∷ d ∷ rest) (sym first)
two_by false a b c d rest t h short long =
    ap (in_ascii Two) (two_other a b c d rest t)
    ∙ ascii_first Two a (in_utf_8 Two (b ∷ c ∷ d ∷ rest)) (h 0) ∙ ap (λ l. a ∷ l) long

two_back : (text : List ℕ) → IsAscii text → in_ascii Two (in_utf_8 Two text) ≡ text
two_back [] h = refl
two_back (a ∷ []) h = ascii_same Two (a ∷ []) h
two_back (a ∷ b ∷ []) h = ascii_same Two (a ∷ b ∷ []) h
two_back (a ∷ b ∷ c ∷ []) h = ascii_same Two (a ∷ b ∷ c ∷ []) h
two_back (a ∷ b ∷ c ∷ d ∷ rest) h =
    two_by (a == 92 && is_escape b c d) a b c d rest refl h (two_back rest (IsAscii-drop (a ∷ b ∷ c ∷ d ∷ rest) 4 h))
    (two_back (b ∷ c ∷ d ∷ rest) (IsAscii-drop (a ∷ b ∷ c ∷ d ∷ rest) 1 h))

pub back : ReadsBack
back One text h = one_back text h
back Two text h = two_back text h

-- ---- each escape

part_small : (n : ℕ) → n < 256 → (n / 16 < 256) × (n % 16 < 256)
part_small n h = (omega (arith, h), omega (arith, h))

one_each : (t : Bool) (byte : ℕ) (behind : List ℕ) → byte < 256 → is_latin byte ≡ t
    → in_utf_8 One (escape_of One byte ++ behind) ≡ shown_in_utf_8 One byte ++ in_utf_8 One behind
one_each true byte behind h t =
    one_escape 92 (hex_digit (byte / 16)) (hex_digit (byte % 16)) behind (latin_escape byte h t)
    ∙ ap (λ k. two_bytes k ++ in_utf_8 One behind) (latin_byte_of byte h t)
    ∙ ap (λ l. l ++ in_utf_8 One behind) (sym (if_true (is_latin byte) (two_bytes byte) (escape_of One byte) t))
one_each false byte behind h t =
    let high = hex_digit (byte / 16) in
    let low = hex_digit (byte % 16) in
    let small = part_small byte h in
    one_other 92 high low behind (other_escape byte h t)
    ∙ ap (λ l. 92 ∷ l) (other_first One high (low ∷ behind) (digit_no_backslash (byte / 16) small.0))
    ∙ ap (λ l. 92 ∷ high ∷ l) (other_first One low behind (digit_no_backslash (byte % 16) small.1))
    ∙ ap (λ l. l ++ in_utf_8 One behind) (sym (if_false (is_latin byte) (two_bytes byte) (escape_of One byte) t))

two_each : (t : Bool) (byte : ℕ) (behind : List ℕ) → byte < 256 → is_latin byte ≡ t
    → in_utf_8 Two (escape_of Two byte ++ behind) ≡ shown_in_utf_8 Two byte ++ in_utf_8 Two behind
two_each true byte behind h t =
    two_escape 92 (hex_digit (byte / 16)) (hex_digit (byte % 16)) behind (latin_escape byte h t)
    ∙ ap (λ k. two_bytes k ++ in_utf_8 Two behind) (latin_byte_of byte h t)
    ∙ ap (λ l. l ++ in_utf_8 Two behind) (sym (if_true (is_latin byte) (two_bytes byte) (escape_of Two byte) t))
two_each false byte behind h t =
    let high = hex_digit (byte / 16) in
    let low = hex_digit (byte % 16) in
    let small = part_small byte h in
    two_other 92 92 high low behind (other_escape byte h t)
    ∙ ap (λ l. 92 ∷ l) (two_before_other 92 high (low ∷ behind) (digit_no_backslash (byte / 16) small.0))
    ∙ ap (λ l. 92 ∷ 92 ∷ l) (other_first Two high (low ∷ behind) (digit_no_backslash (byte / 16) small.0))
    ∙ ap (λ l. 92 ∷ 92 ∷ high ∷ l) (other_first Two low behind (digit_no_backslash (byte % 16) small.1))
    ∙ ap (λ l. l ++ in_utf_8 Two behind) (sym (if_false (is_latin byte) (two_bytes byte) (escape_of Two byte) t))

each : (backslashes : Backslashes) (byte : ℕ) (behind : List ℕ) → byte < 256
    → in_utf_8 backslashes (escape_of backslashes byte ++ behind) ≡ shown_in_utf_8 backslashes byte ++ in_utf_8 backslashes behind
each One byte behind h = one_each (is_latin byte) byte behind h refl
each Two byte behind h = two_each (is_latin byte) byte behind h refl

pub each_is : EncodesEachEscape
each_is = record { escapes = each; others = other_first }
