-- What a text begins with, and what becomes of it.
use Rattle.std.proofs.Common.{◌≡◌, ◌≢◌, ℕ, ◌<◌, true, false, List, [], ◌∷◌, ◌++◌, length, take, drop, refl, sym, ap, ◌∙◌, arith, append_assoc}
use Rattle.std.specs.Prelude.{◌==◌, ◌&&◌}
use Rattle.std.proofs.lemmas.Bool.{and_left, and_right, ne_eqb}
use Rattle.streams.specs.Characters.{two_bytes, is_character, latin_byte}
use Rattle.streams.specs.Escapes.{is_escape, byte_of, escape_of}
use Rattle.streams.specs.InUtf8.{in_utf_8}
use Rattle.streams.specs.InAscii.{in_ascii, BeginsWithNoCharacter}
use Rattle.streams.specs.declared.backslashes.Backslashes.{Backslashes}
use Rattle.streams.specs.declared.backslashes.Backslashes.TheVariants.{One, Two}
use Rattle.streams.proofs.ByteLemmas.{if_true, if_false, no_backslash, ascii_begins_none}

-- ---- where one backslash begins an escape

pub one_escape : (a b c : ℕ) (rest : List ℕ) → is_escape a b c ≡ true
    → in_utf_8 One (a ∷ b ∷ c ∷ rest) ≡ two_bytes (byte_of b c) ++ in_utf_8 One rest
one_escape a b c rest h = if_true (is_escape a b c) (two_bytes (byte_of b c) ++ in_utf_8 One rest) (a ∷ in_utf_8 One (b ∷ c ∷ rest)) h

pub one_other : (a b c : ℕ) (rest : List ℕ) → is_escape a b c ≡ false
    → in_utf_8 One (a ∷ b ∷ c ∷ rest) ≡ a ∷ in_utf_8 One (b ∷ c ∷ rest)
one_other a b c rest h = if_false (is_escape a b c) (two_bytes (byte_of b c) ++ in_utf_8 One rest) (a ∷ in_utf_8 One (b ∷ c ∷ rest)) h

-- ---- where two do

pub two_escape : (b c d : ℕ) (rest : List ℕ) → is_escape b c d ≡ true
    → in_utf_8 Two (92 ∷ b ∷ c ∷ d ∷ rest) ≡ two_bytes (byte_of c d) ++ in_utf_8 Two rest
two_escape b c d rest h =
    if_true (is_escape b c d) (two_bytes (byte_of c d) ++ in_utf_8 Two rest) (92 ∷ in_utf_8 Two (b ∷ c ∷ d ∷ rest)) h

pub two_other : (a b c d : ℕ) (rest : List ℕ) → (a == 92 && is_escape b c d) ≡ false
    → in_utf_8 Two (a ∷ b ∷ c ∷ d ∷ rest) ≡ a ∷ in_utf_8 Two (b ∷ c ∷ d ∷ rest)
two_other a b c d rest h =
    if_false (a == 92 && is_escape b c d) (two_bytes (byte_of c d) ++ in_utf_8 Two rest) (a ∷ in_utf_8 Two (b ∷ c ∷ d ∷ rest)) h

-- ---- what begins with no backslash

pub other_first : (backslashes : Backslashes) (a : ℕ) (behind : List ℕ) → a ≢ 92
    → in_utf_8 backslashes (a ∷ behind) ≡ a ∷ in_utf_8 backslashes behind
other_first One a [] h = refl
other_first One a (b ∷ []) h = refl
other_first One a (b ∷ c ∷ rest) h = one_other a b c rest (no_backslash a b c h)
other_first Two a [] h = refl
other_first Two a (b ∷ []) h = refl
other_first Two a (b ∷ c ∷ []) h = refl
other_first Two a (b ∷ c ∷ d ∷ rest) h = two_other a b c d rest (and_left (a == 92) (is_escape b c d) (ne_eqb a 92 h))

-- where a backslash stands before no escape, two of them begin none
pub two_before_other : (a b : ℕ) (behind : List ℕ) → b ≢ 92
    → in_utf_8 Two (a ∷ b ∷ behind) ≡ a ∷ in_utf_8 Two (b ∷ behind)
two_before_other a b [] h = refl
two_before_other a b (c ∷ []) h = refl
two_before_other a b (c ∷ d ∷ rest) h = two_other a b c d rest (and_right (a == 92) (is_escape b c d) (no_backslash b c d h))

-- ---- characters

pub character_first : (backslashes : Backslashes) (lead next : ℕ) (rest : List ℕ) → is_character lead next ≡ true
    → in_ascii backslashes (lead ∷ next ∷ rest) ≡ escape_of backslashes (latin_byte lead next) ++ in_ascii backslashes rest
character_first backslashes lead next rest h =
    if_true (is_character lead next) (escape_of backslashes (latin_byte lead next) ++ in_ascii backslashes rest) (lead ∷ in_ascii backslashes (next ∷ rest)) h

pub no_character_first : (backslashes : Backslashes) (lead next : ℕ) (rest : List ℕ) → is_character lead next ≡ false
    → in_ascii backslashes (lead ∷ next ∷ rest) ≡ lead ∷ in_ascii backslashes (next ∷ rest)
no_character_first backslashes lead next rest h =
    if_false (is_character lead next) (escape_of backslashes (latin_byte lead next) ++ in_ascii backslashes rest) (lead ∷ in_ascii backslashes (next ∷ rest)) h

pub ascii_first : (backslashes : Backslashes) (lead : ℕ) (rest : List ℕ) → lead < 128
    → in_ascii backslashes (lead ∷ rest) ≡ lead ∷ in_ascii backslashes rest
ascii_first backslashes lead [] h = refl
ascii_first backslashes lead (next ∷ rest) h = no_character_first backslashes lead next rest (ascii_begins_none lead next h)

-- ---- what begins with nothing that is replaced

pub kept_in_ascii : (backslashes : Backslashes) (text list : List ℕ) → 0 < length text → BeginsWithNoCharacter text
    → (list ++ take 1 text) ++ in_ascii backslashes (drop 1 text) ≡ list ++ in_ascii backslashes text
kept_in_ascii backslashes [] list h none = absurd (omega (arith, h))
kept_in_ascii backslashes (a ∷ text) list h none =
    append_assoc list (a ∷ []) (in_ascii backslashes text) ∙ ap (λ l. list ++ l) (sym (none backslashes a text refl))
