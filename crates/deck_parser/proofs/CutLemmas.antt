-- How the pieces of a deck are cut off one after another, and that there is one way to do so.
use Rattle.std.proofs.Common.{◌≡◌, ◌≤◌, ◌<◌, ◌+◌, ◌⊎◌, inl, inr, ◌++◌, ◌∷◌, [], length, List, ℕ, Option, Some, None, subst, sym, ap, ◌∙◌, refl, arith, append_assoc, append-nil}
use Rattle.std.proofs.lemmas.Option.{same_Some}
use Rattle.deck_parser.specs.Word.{Word}
use Rattle.deck_parser.specs.declared.fault.FaultCause.{FaultCause}
use Rattle.deck_parser.specs.declared.fault.FaultCause.TheVariants.{BadWord, Expected, Unknown, Twice, NotAllowed, Limit, Layout}
use Rattle.deck_parser.specs.declared.fault.ParseRefusal.{ParseRefusal}
use Rattle.deck_parser.specs.declared.place.WordPlace.{WordPlace}
use Rattle.deck_parser.specs.Fault.{cause_code, told, fault_of}
use Rattle.deck_parser.specs.declared.fault.ParseRefusal.TheVariants.{Memory, Fault}
use Rattle.deck_parser.specs.Words.{Piece, written_piece, GivesWords, IsCutIntoWords, HasWordsUpTo, HasWords, IsStuck, RefusesWords}
use Rattle.deck_parser.specs.Front.{Next, piece_at, Rest, rest_of}
use Rattle.deck_parser.proofs.FrontLemmas.{feeds, piece_sound, piece_complete, none_at_end}

-- the pieces stand one after another between the two places, and give these words
abbrev CutsUpTo : Rest → List Piece → List Word → Rest → Type 0
CutsUpTo from pieces words end = IsCutIntoWords from.line from.bytes pieces words end.line end.bytes

same_rest : (a b : Rest) → a.line ≡ b.line → a.bytes ≡ b.bytes → a ≡ b
same_rest a b e f = ap (λ line. rest_of line a.bytes) e ∙ ap (λ bytes. rest_of b.line bytes) f

-- ---- one piece more

-- a piece behind others is cut off too
one_more : (from end after : Rest) (pieces : List Piece) (words new : List Word) → CutsUpTo from pieces words end → piece_at end ≡ Some (new, after) → (all : List Piece) × CutsUpTo from all (words ++ new) after
one_more from end after [] words new c e =
    let front = piece_sound end (new, after) e in
    let cut : CutsUpTo end (front.piece ∷ []) new after = (new, [], after.bytes, front.there, front.gives, sym (append-nil new), (sym front.line, refl, refl)) in
    (front.piece ∷ [], subst (λ ws. CutsUpTo from (front.piece ∷ []) (ws ++ new) after) (sym c.2) (subst (λ f. CutsUpTo f (front.piece ∷ []) new after) (sym (same_rest from end c.0 c.1)) cut))
one_more from end after (piece ∷ pieces) words new c e =
    let rest = one_more (rest_of (from.line + feeds (written_piece piece)) c.2) end after pieces c.1 new c.6 e in
    (piece ∷ rest.0, (c.0, c.1 ++ new, c.2, c.3, c.4, ap (λ (ws : List Word). ws ++ new) c.5 ∙ append_assoc c.0 c.1 new, rest.1))

-- ---- one way

-- no piece stands at the front
abbrev pub IsLast : Rest → Type 0
IsLast rest = piece_at rest ≡ None

abbrev IsSame : List Word → Rest → List Word → Rest → Type 0
IsSame words end others last = (words ≡ others) × (end ≡ last)

none_stands : (rest : Rest) (piece : Piece) (after : List ℕ) (new : List Word) → IsLast rest → rest.bytes ≡ written_piece piece ++ after → GivesWords rest.line piece after new → ⊥
none_stands rest piece after new e s g =
    let k : ◌≡◌ {A = Option Next} None (Some (new, rest_of (rest.line + feeds (written_piece piece)) after)) = sym e ∙ piece_complete rest piece after new s g in cc

-- pieces up to where none stands are the only ones
one_end : (from : Rest) (pieces : List Piece) (words : List Word) (end : Rest) → CutsUpTo from pieces words end → IsLast end → (others : List Piece) (other_words : List Word) (last : Rest) → CutsUpTo from others other_words last → IsLast last → IsSame words end other_words last
one_end from [] words end c e [] other_words last d f = (c.2 ∙ sym d.2, sym (same_rest from end c.0 c.1) ∙ same_rest from last d.0 d.1)
one_end from [] words end c e (q ∷ others) other_words last d f =
    absurd (none_stands from q d.2 d.0 (ap piece_at (same_rest from end c.0 c.1) ∙ e) d.3 d.4)
one_end from (p ∷ pieces) words end c e [] other_words last d f =
    absurd (none_stands from p c.2 c.0 (ap piece_at (same_rest from last d.0 d.1) ∙ f) c.3 c.4)
one_end from (p ∷ pieces) words end c e (q ∷ others) other_words last d f =
    let same = same_Some {A = Next} (d.0, rest_of (from.line + feeds (written_piece q)) d.2) (c.0, rest_of (from.line + feeds (written_piece p)) c.2) (sym (piece_complete from q d.2 d.0 d.3 d.4) ∙ piece_complete from p c.2 c.0 c.3 c.4) in
    let again = one_end (rest_of (from.line + feeds (written_piece p)) c.2) pieces c.1 end c.6 e others d.1 last (subst (λ f. CutsUpTo f others d.1 last) (ap (λ (n : Next). n.1) same) d.6) f in
    (c.5 ∙ (ap (λ (ws : List Word). c.0 ++ ws) again.0 ∙ ap (λ (n : Next). n.0 ++ d.1) (sym same)) ∙ sym d.5, again.1)

stuck_is_last_by : (rest : Rest) (next : Option Next) → piece_at rest ≡ next → IsStuck rest.line rest.bytes → next ≡ None
stuck_is_last_by rest None e stuck = refl
stuck_is_last_by rest (Some next) e stuck =
    let front = piece_sound rest next e in
    absurd (stuck.1 front.piece next.1.bytes next.0 front.there front.gives)

stuck_is_last : (rest : Rest) → IsStuck rest.line rest.bytes → IsLast rest
stuck_is_last rest stuck = stuck_is_last_by rest (piece_at rest) refl stuck

pub last_is_stuck : (rest : Rest) → 0 < length rest.bytes → IsLast rest → IsStuck rest.line rest.bytes
last_is_stuck rest more e = (more, λ piece after words s g. none_stands rest piece after words e s g)

pub one_end_of : (bytes : List ℕ) (words others : List Word) (end last : Rest) → HasWordsUpTo bytes words end.line end.bytes → IsLast end → HasWordsUpTo bytes others last.line last.bytes → IsLast last → IsSame words end others last
one_end_of bytes words others end last a e b f = one_end (rest_of 1 bytes) a.1 words end a.2 e b.1 others last b.2 f

up_to_end : (bytes : List ℕ) (words : List Word) (h : HasWords bytes words) → HasWordsUpTo bytes words h.2 []
up_to_end bytes words h = (h.0, h.1, h.3)

pub words_are_one : (bytes : List ℕ) (a b : List Word) → HasWords bytes a → HasWords bytes b → a ≡ b
words_are_one bytes a b h k = (one_end_of bytes a b (rest_of h.2 []) (rest_of k.2 []) (up_to_end bytes a h) (none_at_end _ refl) (up_to_end bytes b k) (none_at_end _ refl)).0

no_more : (bytes : List ℕ) → bytes ≡ [] → 0 < length bytes → ⊥
no_more [] e h = omega (arith, h)
no_more (b ∷ bytes) e h = cc

-- words and a fault exclude each other
pub words_have_no_fault : (bytes : List ℕ) (words : List Word) (refusal : ParseRefusal) → HasWords bytes words → RefusesWords bytes refusal → refusal ≡ Memory
words_have_no_fault bytes words Memory h f = refl
words_have_no_fault bytes words (Fault line place (Limit which)) h f = absurd (omega (arith, f.1, h.0))
words_have_no_fault bytes words (Fault line place BadWord) h f =
    let same = one_end_of bytes words f.0 (rest_of h.2 []) (rest_of line f.1) (up_to_end bytes words h) (none_at_end _ refl) f.2 (stuck_is_last _ f.3) in
    absurd (no_more f.1 (ap (λ (r : Rest). r.bytes) (sym same.1)) f.3.0)
words_have_no_fault bytes words (Fault line place (Expected what)) h f = absurd f
words_have_no_fault bytes words (Fault line place (Unknown what)) h f = absurd f
words_have_no_fault bytes words (Fault line place (Twice what)) h f = absurd f
words_have_no_fault bytes words (Fault line place (NotAllowed what)) h f = absurd f
words_have_no_fault bytes words (Fault line place (Layout what)) h f = absurd f

-- ---- the scanner

-- the words so far are those of the pieces so far
pub record SoFar (bytes : List ℕ) (words : List Word) (rest : Rest) : Type 0 where
  pub upto : HasWordsUpTo bytes words rest.line rest.bytes
  pub lines : rest.line + length rest.bytes ≤ 1 + length bytes

pub start : (bytes : List ℕ) → length bytes ≤ 1048576 → SoFar bytes [] (rest_of 1 bytes)
start bytes short = record { upto = (short, [], (refl, refl, refl)); lines = omega arith }

longer : (bytes : List ℕ) (words : List Word) (end : Rest) → length bytes ≤ 1048576 → (all : List Piece) × CutsUpTo (rest_of 1 bytes) all words end → HasWordsUpTo bytes words end.line end.bytes
longer bytes words end short cut = (short, cut.0, cut.1)

pub step : (bytes : List ℕ) (words : List Word) (rest : Rest) (next : Next) → SoFar bytes words rest → piece_at rest ≡ Some next → next.1.line + length next.1.bytes ≤ rest.line + length rest.bytes → SoFar bytes (words ++ next.0) next.1
step bytes words rest next so e fewer = record {
  upto = longer bytes (words ++ next.0) next.1 so.upto.0 (one_more (rest_of 1 bytes) rest next.1 so.upto.1 words next.0 so.upto.2 e);
  lines = omega (arith, fewer, so.lines);
}

pub refused : (bytes : List ℕ) (words : List Word) (rest : Rest) (place : WordPlace) → SoFar bytes words rest → 0 < length rest.bytes → piece_at rest ≡ None → RefusesWords bytes (Fault rest.line place BadWord)
refused bytes words rest place so more e = (words, rest.bytes, so.upto, last_is_stuck rest more e)

no_bytes : (rest : List ℕ) → length rest ≡ 0 → rest ≡ []
no_bytes [] e = refl
no_bytes (b ∷ rest) e = absurd (omega (arith, e))

pub done : (bytes : List ℕ) (words : List Word) (line : ℕ) (rest : List ℕ) → SoFar bytes words (rest_of line rest) → length rest ≡ 0 → HasWords bytes words
done bytes words line rest so e = (so.upto.0, so.upto.1, line, subst (λ r. IsCutIntoWords 1 bytes so.upto.1 words line r) (no_bytes rest e) so.upto.2)

-- ---- faults

-- a fault of words: the deck is too long, or bytes at a line are no word
abbrev IsTooLong : List ℕ → ℕ → FaultCause → Type 0
IsTooLong bytes line cause = (cause_code cause ≡ 6) × (line ≡ 1) × (1048576 < length bytes)

abbrev IsBad : List ℕ → ℕ → WordPlace → FaultCause → Type 0
IsBad bytes line place cause = (cause_code cause ≡ 1) × RefusesWords bytes (Fault line place BadWord)

one_or_other : (bytes : List ℕ) (line : ℕ) (place : WordPlace) (cause : FaultCause) → RefusesWords bytes (Fault line place cause) → IsTooLong bytes line cause ⊎ IsBad bytes line place cause
one_or_other bytes line place (Limit which) f = inl (refl, f.0, f.1)
one_or_other bytes line place BadWord f = inr (refl, f)
one_or_other bytes line place (Expected what) f = absurd f
one_or_other bytes line place (Unknown what) f = absurd f
one_or_other bytes line place (Twice what) f = absurd f
one_or_other bytes line place (NotAllowed what) f = absurd f
one_or_other bytes line place (Layout what) f = absurd f

bad_is_one : (bytes : List ℕ) (line other : ℕ) (place there : WordPlace) → RefusesWords bytes (Fault line place BadWord) → RefusesWords bytes (Fault other there BadWord) → line ≡ other
bad_is_one bytes line other place there f g =
    ap (λ (r : Rest). r.line) (one_end_of bytes f.0 g.0 (rest_of line f.1) (rest_of other g.1) f.2 (stuck_is_last _ f.3) g.2 (stuck_is_last _ g.3)).1

same_told : (line other : ℕ) (place there : WordPlace) (cause another : FaultCause) → line ≡ other → cause_code cause ≡ cause_code another → told (Fault line place cause) ≡ told (Fault other there another)
same_told line other place there cause another e f =
    ap (λ (l : ℕ). fault_of l (cause_code cause)) e ∙ ap (λ (c : ℕ). fault_of other c) f

-- two faults are told alike
pub faults_are_one : (bytes : List ℕ) (a b : ParseRefusal) → RefusesWords bytes a → RefusesWords bytes b → (a ≡ Memory → ⊥) → (b ≡ Memory → ⊥) → told a ≡ told b
faults_are_one bytes Memory b f g p q = absurd (p refl)
faults_are_one bytes (Fault line place cause) Memory f g p q = absurd (q refl)
faults_are_one bytes (Fault line place cause) (Fault other there another) f g p q =
    elim (one_or_other bytes line place cause f) [
      | inl f ↦ elim (one_or_other bytes other there another g) [
        | inl g ↦ same_told line other place there cause another (f.1 ∙ sym g.1) (f.0 ∙ sym g.0)
        | inr g ↦ absurd (omega (arith, f.2, g.1.2.0))
      ]
      | inr f ↦ elim (one_or_other bytes other there another g) [
        | inl g ↦ absurd (omega (arith, g.2, f.1.2.0))
        | inr g ↦ same_told line other place there cause another (bad_is_one bytes line other place there f.1 g.1) (f.0 ∙ sym g.0)
      ]
    ]
