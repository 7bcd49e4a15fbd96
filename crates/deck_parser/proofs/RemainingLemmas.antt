-- The words that are still to come are those of the pieces.
use Rattle.std.proofs.Common.{◌≡◌, ℕ, zero, suc, ◌+◌, ◌-◌, ◌<◌, ◌≤◌, Bool, true, false, ◌||◌, cond, eqb, List, [], ◌∷◌, ◌++◌, length, map, take, Option, Some, None, refl, sym, ap, ◌∙◌, subst, arith, append_assoc, append-nil, length-append, length-take}
use Rattle.std.specs.Option.{option_map}
use Rattle.std.specs.Prelude.{slice_index, drop, MatchOption}
use Rattle.std.proofs.lemmas.Option.{same_Some}
use Rattle.deck_parser.specs.ByteClass.{capital}
use Rattle.deck_parser.specs.Word.{Word, word_of, Plain, Sign, Period}
use Rattle.deck_parser.specs.Words.{Piece, Space, Quoted, Run, written_piece, GivesWords, body_words, run_words, HasWords}
use Rattle.deck_parser.specs.Front.{Rest, rest_of, is_plain_text, Next, piece_at}
use Rattle.deck_parser.specs.Remaining.{with_more, words_within, words_from}
use Rattle.deck_parser.proofs.TestLemmas.{map_some}
use Rattle.deck_parser.proofs.FrontLemmas.{line_after, lines_of, piece_sound, none_at_end}
use Rattle.deck_parser.proofs.CutLemmas.{SoFar, step, done}

-- ---- what a piece takes

abbrev Few : List Word → ℕ → Type 0
Few words n = length words ≤ n

one_few : (word : Word) (words : List Word) (n : ℕ) → 0 < n → Some (word ∷ []) ≡ Some words → Few words n
one_few word words n some e = subst (λ ws. Few ws n) (same_Some {A = List Word} (word ∷ []) words e) (omega (arith, some))

one_of_two : (v w : Bool) (first second : Word) (words : List Word) (n : ℕ) → 0 < n → cond v (Some (first ∷ [])) (cond w (Some (second ∷ [])) None) ≡ Some words → Few words n
one_of_two true w first second words n some e = one_few first words n some e
one_of_two false true first second words n some e = one_few second words n some e
one_of_two false false first second words n some e = absurd (cc)

one_of_three : (u v w : Bool) (first second : Word) (words : List Word) (n : ℕ) → 0 < n → cond u (Some []) (cond v (Some (first ∷ [])) (cond w (Some (second ∷ [])) None)) ≡ Some words → Few words n
one_of_three true v w first second words n some e = subst (λ ws. Few ws n) (same_Some {A = List Word} [] words e) (omega arith)
one_of_three false v w first second words n some e = one_of_two v w first second words n some e

body_few : (line : ℕ) (body : List ℕ) (words : List Word) → body_words line body ≡ Some words → Few words (length body)
body_few line [] words e = subst (λ ws. Few ws 0) (same_Some {A = List Word} [] words e) (omega arith)
body_few line (b ∷ body) words e =
    one_of_three (eqb (length (b ∷ body)) 0) _ (is_plain_text (b ∷ body)) (word_of line Sign (b ∷ body)) (word_of line Plain (map capital (b ∷ body))) words (length (b ∷ body)) (omega arith) e

run_few_by : (v w : Bool) (line : ℕ) (run : List ℕ) (words : List Word) → 0 < length run → cond v (option_map (λ (ws : List Word). ws ++ word_of line Period (46 ∷ []) ∷ []) (body_words line (take (length run - 1) run))) (cond w (body_words line (take (length run - 1) run)) (body_words line run)) ≡ Some words → Few words (length run)
run_few_by true w line run words some e =
    let m = map_some (λ (ws : List Word). ws ++ word_of line Period (46 ∷ []) ∷ []) (body_words line (take (length run - 1) run)) words e in
    let few = body_few line (take (length run - 1) run) m.0 m.1 in
    subst (λ ws. Few ws (length run)) m.2 (grind (arith, length-append, length-take, few, some))
run_few_by false true line run words some e =
    let few = body_few line (take (length run - 1) run) words e in grind (arith, length-take, few, some)
run_few_by false false line run words some e = body_few line run words e

run_few : (line : ℕ) (run : List ℕ) (words : List Word) → 0 < length run → run_words line run ≡ Some words → Few words (length run)
run_few line run words some e =
    let last : ℕ = slice_index run (length run - 1) in
    run_few_by (eqb last 46) (eqb last 44 || eqb last 59) line run words some e

-- a piece has a byte at least, and one for each word and each line that it gives
pub record IsPaid (line : ℕ) (bytes : List ℕ) (words : List Word) (next : ℕ) : Type 0 where
  pub some : 0 < length bytes
  pub few : length words ≤ length bytes
  pub lines : next ≤ line + length bytes

line_by : (v : Bool) (line : ℕ) → cond v (line + 1) line ≤ line + 1
line_by true line = omega arith
line_by false line = omega arith

paid : (line : ℕ) (piece : Piece) (after : List ℕ) (words : List Word) → GivesWords line piece after words → IsPaid line (written_piece piece) words (line_after line piece)
paid line (Space byte) after words g = record { some = omega arith; few = rw g.1 (omega arith); lines = line_by _ line }
paid line (Quoted mark text) after words g = record { some = omega arith; few = rw g.5 (omega arith); lines = omega arith }
paid line (Run run) after words g = record { some = g.0; few = run_few line run words g.0 g.3; lines = omega arith }

pub record Takes (rest : Rest) (next : Next) : Type 0 where
  pub fewer : length next.1.bytes < length rest.bytes
  pub few : length next.0 + length next.1.bytes ≤ length rest.bytes
  pub lines : next.1.line + length next.1.bytes ≤ rest.line + length rest.bytes

pub takes : (rest : Rest) (next : Next) → piece_at rest ≡ Some next → Takes rest next
takes rest next e =
    let front = piece_sound rest next e in
    let p = paid rest.line front.piece next.1.bytes next.0 front.gives in
    let total : length rest.bytes ≡ length (written_piece front.piece) + length next.1.bytes = ap (λ (bs : List ℕ). length bs) front.there ∙ length-append (written_piece front.piece) next.1.bytes in
    record {
      fewer = omega (arith, total, p.some);
      few = omega (arith, total, p.few);
      lines = omega (arith, total, p.lines, front.line, lines_of rest.line front.piece next.1.bytes next.0 front.gives);
    }

-- ---- a piece more

none_within : (n line : ℕ) → words_within n (rest_of line []) ≡ []
none_within zero line = refl
none_within (suc n) line = ap (with_more (words_within n)) (none_at_end (rest_of line []) refl)

-- more pieces than there are bytes change nothing
more_pieces : (m n line : ℕ) (bytes : List ℕ) → length bytes ≤ m → length bytes ≤ n → words_within m (rest_of line bytes) ≡ words_within n (rest_of line bytes)
more_pieces zero zero line bytes a b = refl
more_pieces zero (suc n) line [] a b = sym (none_within (suc n) line)
more_pieces zero (suc n) line (c ∷ bytes) a b = absurd (omega (arith, a))
more_pieces (suc m) zero line [] a b = none_within (suc m) line
more_pieces (suc m) zero line (c ∷ bytes) a b = absurd (omega (arith, b))
more_pieces (suc m) (suc n) line bytes a b =
    let again : (o : Option Next) → piece_at (rest_of line bytes) ≡ o → with_more (words_within m) o ≡ with_more (words_within n) o = λ o. elim o as (λ o. piece_at (rest_of line bytes) ≡ o → with_more (words_within m) o ≡ with_more (words_within n) o) [
      | None ↦ λ _. refl
      | Some next ↦ λ e. let t = takes (rest_of line bytes) next e in
          ap (λ (ws : List Word). next.0 ++ ws) (more_pieces m n next.1.line next.1.bytes (omega (arith, t.fewer, a)) (omega (arith, t.fewer, b)))
    ] in
    again (piece_at (rest_of line bytes)) refl

from_piece : (line : ℕ) (bytes : List ℕ) (next : Next) → piece_at (rest_of line bytes) ≡ Some next → words_within (length bytes) (rest_of line bytes) ≡ next.0 ++ words_within (length next.1.bytes) next.1
from_piece line [] next e = absurd (omega (arith, (takes (rest_of line []) next e).fewer))
from_piece line (b ∷ bytes) next e =
    let t = takes (rest_of line (b ∷ bytes)) next e in
    ap (with_more (words_within (length bytes))) e ∙ ap (λ (ws : List Word). next.0 ++ ws) (more_pieces (length bytes) (length next.1.bytes) next.1.line next.1.bytes (omega (arith, t.fewer)) (omega arith))

from_none : (line : ℕ) (bytes : List ℕ) → piece_at (rest_of line bytes) ≡ None → words_within (length bytes) (rest_of line bytes) ≡ []
from_none line [] e = refl
from_none line (b ∷ bytes) e = ap (with_more (words_within (length bytes))) e

-- the words behind a piece come behind those of the piece
pub next_words : (rest : Rest) (next : Next) → piece_at rest ≡ Some next → words_from rest ≡ next.0 ++ words_from next.1
unfolding words_from
next_words rest next e = from_piece rest.line rest.bytes next e

-- where no piece stands no words are to come
pub no_words : (rest : Rest) → piece_at rest ≡ None → words_from rest ≡ []
unfolding words_from
no_words rest e = from_none rest.line rest.bytes e

-- at the end no words are to come
pub at_end : (line : ℕ) (bytes : List ℕ) → length bytes ≡ 0 → words_from (rest_of line bytes) ≡ []
at_end line [] e = no_words (rest_of line []) (none_at_end (rest_of line []) refl)
at_end line (b ∷ bytes) e = absurd (omega (arith, e))

none_of : (words : List Word) → length words ≤ 0 → words ≡ []
none_of [] e = refl
none_of (word ∷ words) e = absurd (omega (arith, e))

-- a piece without words changes nothing
pub without_words : (rest : Rest) (next : Next) → piece_at rest ≡ Some next → length next.0 ≤ 0 → words_from rest ≡ words_from next.1
without_words rest next e none = next_words rest next e ∙ ap (λ (ws : List Word). ws ++ words_from next.1) (none_of next.0 none)

-- what is left when the next word is taken
pub next_left : (taken : Option Word) (old new : List Word) → MatchOption taken ((old ≡ []) × (new ≡ [])) (λ word. old ≡ word ∷ new) → new ≡ drop 1 old
next_left None old new m = m.1 ∙ ap (λ (ws : List Word). drop 1 ws) (sym m.0)
next_left (Some word) old new m = ap (λ (ws : List Word). drop 1 ws) (sym m)

-- ---- the scanner

-- the words up to a place, so many of them, come before those that are to come there
pub record Counted (bytes : List ℕ) (rest : Rest) (count : ℕ) : Type 0 where
  pub words : List Word
  pub so : SoFar bytes words rest
  pub all : words_from (rest_of 1 bytes) ≡ words ++ words_from rest
  pub counted : length words ≡ count
  pub few : count + length rest.bytes ≤ length bytes

pub counted_step : (bytes : List ℕ) (rest : Rest) (count : ℕ) (next : Next) → Counted bytes rest count → piece_at rest ≡ Some next → Counted bytes next.1 (count + length next.0)
counted_step bytes rest count next c e =
    let t = takes rest next e in
    record {
      words = c.words ++ next.0;
      so = step bytes c.words rest next c.so e t.lines;
      all = c.all ∙ (ap (λ (ws : List Word). c.words ++ ws) (next_words rest next e) ∙ sym (append_assoc c.words next.0 (words_from next.1)));
      counted = length-append c.words next.0 ∙ ap (λ n. n + length next.0) c.counted;
      few = omega (arith, t.few, c.few);
    }

pub counted_done : (bytes : List ℕ) (line count : ℕ) (rest : List ℕ) → Counted bytes (rest_of line rest) count → length rest ≡ 0 → HasWords bytes (words_from (rest_of 1 bytes)) × (count ≡ length (words_from (rest_of 1 bytes)))
counted_done bytes line count [] c e =
    let none = no_words (rest_of line []) (none_at_end (rest_of line []) refl) in
    let all : words_from (rest_of 1 bytes) ≡ c.words = c.all ∙ (ap (λ (ws : List Word). c.words ++ ws) none ∙ append-nil c.words) in
    (subst (λ ws. HasWords bytes ws) (sym all) (done bytes c.words line [] c.so refl), sym c.counted ∙ ap (λ (ws : List Word). length ws) (sym all))
counted_done bytes line count (b ∷ rest) c e = absurd (omega (arith, e))
