-- What is left of a text in UTF-8 in a list, where that is ASCII: nothing but characters that are taken.
use Rattle.std.proofs.Common.{◌≡◌, ℕ, ◌+◌, ◌/◌, ◌%◌, ◌<◌, ◌≤◌, Bool, true, false, List, [], ◌∷◌, ◌++◌, refl, sym, ap, ap₂, ◌∙◌, arith, subst}
use Rattle.std.specs.Prelude.{◌==◌, ◌&&◌, ◌||◌, nat_lt}
use Rattle.std.specs.List.{list_all}
use Rattle.std.specs.Str.{IsAscii}
use Rattle.std.proofs.lemmas.Bool.{true≢false, and_from, and_parts, or_left, or_right, eqb-true, lt-ltb, le-ltb, ltb-true}
use Rattle.std.proofs.lemmas.Str.{IsAscii-drop}
use Rattle.streams.specs.Characters.{is_latin, two_bytes, is_character, latin_byte}
use Rattle.streams.specs.Escapes.{escape_of}
use Rattle.streams.specs.InAscii.{in_ascii}
use Rattle.streams.specs.Laws.{TakesOnlyCharacters, HasOnlyCharacters, is_taken, character}
use Rattle.streams.specs.declared.backslashes.Backslashes.{Backslashes}
use Rattle.streams.specs.declared.backslashes.Backslashes.TheVariants.{One, Two}
use Rattle.streams.proofs.ByteLemmas.{if_true, if_false}
use Rattle.streams.proofs.FirstLemmas.{character_first, no_character_first}

-- the byte of a character, and its two bytes
record IsCharacterOf (lead next byte : ℕ) : Type 0 where
  above : 159 < byte
  below : byte < 256
  lead_is : 192 + byte / 64 ≡ lead
  next_is : 128 + byte % 64 ≡ next

low_page : (lead next : ℕ) → lead ≡ 194 → 159 < next → next < 192 → IsCharacterOf lead next next
low_page lead next e above below = record {
  above = above;
  below = omega (arith, below);
  lead_is = omega (arith, e, above, below);
  next_is = omega (arith, above, below);
}

high_page : (lead next : ℕ) → lead ≡ 195 → 127 < next → next < 192 → IsCharacterOf lead next (next + 64)
high_page lead next e above below = record {
  above = omega (arith, above);
  below = omega (arith, below);
  lead_is = omega (arith, e, above, below);
  next_is = omega (arith, above, below);
}

other_part : (x y : Bool) → x ≡ false → (x || y) ≡ true → y ≡ true
other_part true y e h = absurd (true≢false e)
other_part false y e h = h

not_low : (lead : ℕ) → lead ≡ 195 → (lead == 194) ≡ false
not_low lead e = ap (λ k. k == 194) e

by_page : (t : Bool) (lead next : ℕ) → (lead == 194 && nat_lt 159 next && nat_lt next 192) ≡ t → is_character lead next ≡ true
    → IsCharacterOf lead next (latin_byte lead next)
by_page true lead next t h =
    let first = and_parts (lead == 194 && nat_lt 159 next) (nat_lt next 192) t in
    let second = and_parts (lead == 194) (nat_lt 159 next) first.0 in
    subst (IsCharacterOf lead next) (sym (if_true (lead == 194) next (next + 64) second.0))
    (low_page lead next (eqb-true lead 194 second.0) (ltb-true 159 next second.1) (ltb-true next 192 first.1))
by_page false lead next t h =
    let part = other_part (lead == 194 && nat_lt 159 next && nat_lt next 192) (lead == 195 && nat_lt 127 next && nat_lt next 192) t h in
    let first = and_parts (lead == 195 && nat_lt 127 next) (nat_lt next 192) part in
    let second = and_parts (lead == 195) (nat_lt 127 next) first.0 in
    let is = eqb-true lead 195 second.0 in
    subst (IsCharacterOf lead next) (sym (if_false (lead == 194) next (next + 64) (not_low lead is)))
    (high_page lead next is (ltb-true 127 next second.1) (ltb-true next 192 first.1))

-- ---- a text

one_more : (code : ℕ) (front rest : List ℕ) → is_taken code ≡ true → front ≡ character code → HasOnlyCharacters rest
    → HasOnlyCharacters (front ++ rest)
one_more code front rest taken is more = record {
  codes = code ∷ more.codes;
  taken = and_from (is_taken code) (list_all is_taken more.codes) taken more.taken;
  is = ap₂ (λ l m. l ++ m) is more.is;
}

one_ascii : (code : ℕ) (rest : List ℕ) → code < 128 → HasOnlyCharacters rest → HasOnlyCharacters (code ∷ rest)
one_ascii code rest h more =
    let test = lt-ltb code 128 h in
    one_more code (code ∷ []) rest (or_left (nat_lt code 128) (is_latin code) test) (sym (if_true (nat_lt code 128) (code ∷ []) (two_bytes code) test)) more

one_latin : (lead next byte : ℕ) (rest : List ℕ) → IsCharacterOf lead next byte → HasOnlyCharacters rest
    → HasOnlyCharacters (lead ∷ next ∷ rest)
one_latin lead next byte rest c more =
    let above = c.above in
    let latin = and_from (nat_lt 159 byte) (nat_lt byte 256) (lt-ltb 159 byte above) (lt-ltb byte 256 c.below) in
    let pair : lead ∷ next ∷ [] ≡ two_bytes byte = ap₂ (λ l n. l ∷ n ∷ []) (sym c.lead_is) (sym c.next_is) in
    let high : 128 ≤ byte = omega (arith, above) in
    one_more byte (lead ∷ next ∷ []) rest (or_right (nat_lt byte 128) (is_latin byte) latin)
    (pair ∙ sym (if_false (nat_lt byte 128) (byte ∷ []) (two_bytes byte) (le-ltb byte 128 high))) more

-- what is behind an escape is ASCII where all is
behind_escape : (backslashes : Backslashes) (byte : ℕ) (rest : List ℕ) → IsAscii (escape_of backslashes byte ++ rest) → IsAscii rest
behind_escape One byte rest h = IsAscii-drop (escape_of One byte ++ rest) 3 h
behind_escape Two byte rest h = IsAscii-drop (escape_of Two byte ++ rest) 4 h

by_first : (t : Bool) (backslashes : Backslashes) (lead next : ℕ) (rest : List ℕ) → is_character lead next ≡ t
    → IsAscii (in_ascii backslashes (lead ∷ next ∷ rest)) → (IsAscii (in_ascii backslashes rest) → HasOnlyCharacters rest)
    → (IsAscii (in_ascii backslashes (next ∷ rest)) → HasOnlyCharacters (next ∷ rest)) → HasOnlyCharacters (lead ∷ next ∷ rest)
by_first true backslashes lead next rest t h short long =
    let all = subst IsAscii (character_first backslashes lead next rest t) h in
    one_latin lead next (latin_byte lead next) rest (by_page (lead == 194 && nat_lt 159 next && nat_lt next 192) lead next refl t)
    (short (behind_escape backslashes (latin_byte lead next) (in_ascii backslashes rest) all))
by_first false backslashes lead next rest t h short long =
    let all = subst IsAscii (no_character_first backslashes lead next rest t) h in
    one_ascii lead (next ∷ rest) (all 0) (long (IsAscii-drop (lead ∷ in_ascii backslashes (next ∷ rest)) 1 all))

pub only : TakesOnlyCharacters
only backslashes [] h = record { codes = []; taken = refl; is = refl }
only backslashes (lead ∷ []) h = one_ascii lead [] (h 0) (record { codes = []; taken = refl; is = refl })
only backslashes (lead ∷ next ∷ rest) h =
    by_first (is_character lead next) backslashes lead next rest refl h (only backslashes rest) (only backslashes (next ∷ rest))
