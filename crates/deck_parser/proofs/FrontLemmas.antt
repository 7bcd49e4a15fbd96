-- The piece that is found at the front is the one that stands there.
use Rattle.std.proofs.Common.{◌≡◌, ℕ, ◌+◌, ◌<◌, ◌≤◌, Bool, true, false, not, ◌&&◌, ◌||◌, cond, eqb, ltb, leb, List, [], ◌∷◌, ◌++◌, length, take, drop, Option, Some, None, refl, sym, ap, ◌∙◌, subst, arith, append_assoc}
use Rattle.std.specs.Option.{option_map}
use Rattle.std.specs.Prelude.{count_by}
use Rattle.std.specs.List.{list_all, prefix_len}
use Rattle.std.proofs.lemmas.Option.{cond_some, same_Some}
use Rattle.std.proofs.lemmas.Bool.{false≢true, eqb-true, ltb-true, leb-true}
use Rattle.std.proofs.lemmas.Bool.Decides.{nat_tests}
use Rattle.deck_parser.specs.Word.{Word, word_of}
use Rattle.deck_parser.specs.Word.{Literal}
use Rattle.deck_parser.specs.ByteClass.{is_space, is_mark, is_of_run, is_of_literal}
use Rattle.deck_parser.specs.Words.{run_words, Piece, Space, Quoted, Run, written_piece, GivesWords}
use Rattle.deck_parser.specs.Literal.{cut_literal}
use Rattle.deck_parser.specs.Front.{ends_literal, ends_run, is_literal_cut, Next, literal_at, run_at, front_of, piece_at, Rest, rest_of}
use Rattle.deck_parser.proofs.TestLemmas.{both_true, both_are, not_is, third, then_some, map_some}
use Rattle.deck_parser.proofs.LiteralLemmas.{doubled, mark_in_literal, cut_complete, cut_sound}
use Rattle.deck_parser.proofs.RunLemmas.{take-drop, front_is_run, run_is_there, ends_run_so, run_complete}

-- ---- bytes

mark_no_space : (b : ℕ) → is_mark b ≡ true → is_space b ≡ false
mark_no_space b e = grind (arith, nat_tests)

run_no_space : (b : ℕ) → is_of_run b ≡ true → (is_space b ≡ false) × (is_mark b ≡ false)
run_no_space b e = let p = both_true (not (is_space b)) (not (is_mark b)) e in (not_is (is_space b) p.0, not_is (is_mark b) p.1)

ends_no_mark : (b : ℕ) → (is_space b || eqb b 46 || eqb b 44 || eqb b 59) ≡ true → is_mark b ≡ false
ends_no_mark b e = grind (arith, nat_tests)

positive : (n : ℕ) → 0 < n → ltb 0 n ≡ true
positive n h = grind (arith, nat_tests)

within : (n : ℕ) → n ≤ 1000 → leb n 1000 ≡ true
within n h = grind (arith, nat_tests)

-- white space, a point, a comma, a semicolon or the end comes after a literal
abbrev EndsLiteral : List ℕ → Type 0
EndsLiteral rest = list_all (λ byte. is_space byte || eqb byte 46 || eqb byte 44 || eqb byte 59) (take 1 rest) ≡ true

ends_literal_so : (rest : List ℕ) → ends_literal rest ≡ true → EndsLiteral rest
ends_literal_so [] e = refl
ends_literal_so (b ∷ rest) e = both_are _ true e refl

so_ends_literal : (rest : List ℕ) → EndsLiteral rest → ends_literal rest ≡ true
so_ends_literal [] e = refl
so_ends_literal (b ∷ rest) e = (both_true _ true e).0

-- no third mark comes after a literal
no_third : (mark : ℕ) (rest : List ℕ) → is_mark mark ≡ true → EndsLiteral rest → (b : ℕ) (more : List ℕ) → rest ≡ b ∷ more → eqb b mark ≡ false
no_third mark [] i ends b more e = absurd (cc)
no_third mark (c ∷ rest) i ends b more e =
    let same : c ≡ b = cc in
    let no_mark : is_mark b ≡ false = subst (λ x. is_mark x ≡ false) same (ends_no_mark c (both_true _ true ends).0) in
    elim (eqb b mark) as (λ v. eqb b mark ≡ v → v ≡ false) [
      | true ↦ λ q. absurd (false≢true (sym no_mark ∙ (ap is_mark (eqb-true b mark q) ∙ i)))
      | false ↦ λ _. refl
    ] refl

-- ---- lines

-- how many line feeds there are
abbrev pub feeds : List ℕ → ℕ
feeds bytes = count_by (λ byte. eqb byte 10) bytes

-- a line feed ends its line
abbrev pub line_after : ℕ → Piece → ℕ
line_after line (Space byte) = cond (eqb byte 10) (line + 1) line
line_after line (Quoted mark text) = line
line_after line (Run run) = line

none_more : (b : ℕ) (bytes : List ℕ) → eqb b 10 ≡ false → feeds bytes ≡ 0 → feeds (b ∷ bytes) ≡ 0
none_more b bytes e none = rw (e, none) refl

no_feeds : (test : ℕ → Bool) (bytes : List ℕ) → ((b : ℕ) → test b ≡ true → eqb b 10 ≡ false) → list_all test bytes ≡ true → feeds bytes ≡ 0
no_feeds test [] none all = refl
no_feeds test (b ∷ bytes) none all =
    let p = both_true (test b) (list_all test bytes) all in none_more b bytes (none b p.0) (no_feeds test bytes none p.1)

mark_no_feed : (b : ℕ) → is_mark b ≡ true → eqb b 10 ≡ false
mark_no_feed b e = grind (arith, nat_tests)

literal_no_feed : (b : ℕ) → is_of_literal b ≡ true → eqb b 10 ≡ false
literal_no_feed b e = grind (arith, nat_tests)

run_no_feed : (b : ℕ) → is_of_run b ≡ true → eqb b 10 ≡ false
run_no_feed b e = grind (arith, nat_tests)

quoted_no_feeds : (mark : ℕ) (text : List ℕ) → eqb mark 10 ≡ false → list_all is_of_literal text ≡ true → feeds (doubled mark text ++ mark ∷ []) ≡ 0
quoted_no_feeds mark [] i all = none_more mark [] i refl
quoted_no_feeds mark (b ∷ text) i all =
    let p = both_true (is_of_literal b) (list_all is_of_literal text) all in
    let again = quoted_no_feeds mark text i p.1 in
    elim (eqb b mark) as (λ v. feeds ((cond v (mark ∷ mark ∷ []) (b ∷ []) ++ doubled mark text) ++ mark ∷ []) ≡ 0) [
      | true ↦ none_more mark (mark ∷ (doubled mark text ++ mark ∷ [])) i (none_more mark (doubled mark text ++ mark ∷ []) i again)
      | false ↦ none_more b (doubled mark text ++ mark ∷ []) (literal_no_feed b p.0) again
    ]

no_lines : (line : ℕ) → line + 0 ≡ line
no_lines line = omega arith

byte_lines : (v : Bool) (line : ℕ) → line + (0 + cond v 1 0) ≡ cond v (line + 1) line
byte_lines true line = omega arith
byte_lines false line = omega arith

pub lines_of : (line : ℕ) (piece : Piece) (after : List ℕ) (words : List Word) → GivesWords line piece after words → line + feeds (written_piece piece) ≡ line_after line piece
lines_of line (Space b) after words g = byte_lines (eqb b 10) line
lines_of line (Quoted mark text) after words g =
    ap (λ n. line + n) (none_more mark (doubled mark text ++ mark ∷ []) (mark_no_feed mark g.0) (quoted_no_feeds mark text (mark_no_feed mark g.0) g.3)) ∙ no_lines line
lines_of line (Run run) after words g = ap (λ n. line + n) (no_feeds is_of_run run run_no_feed g.1) ∙ no_lines line

-- ---- what is found stands there

-- a piece stands at the front, gives the words that were found, and what is left is what is behind it
pub record IsFront (rest : Rest) (next : Next) : Type 0 where
  pub piece : Piece
  pub there : rest.bytes ≡ written_piece piece ++ next.1.bytes
  pub gives : GivesWords rest.line piece next.1.bytes next.0
  pub line : next.1.line ≡ rest.line + feeds (written_piece piece)

literal_sound : (line b : ℕ) (bytes : List ℕ) (cut : Option (List ℕ × List ℕ)) (next : Next) → is_mark b ≡ true → cut_literal b bytes ≡ cut → literal_at line cut ≡ Some next → IsFront (rest_of line (b ∷ bytes)) next
literal_sound line b bytes None next i e q = absurd (cc)
literal_sound line b bytes (Some cut) next i e q =
    let p = cond_some {A = Next} (is_literal_cut cut) (word_of line Literal cut.0 ∷ [], rest_of line cut.1) next q in
    let t = both_true (ltb 0 (length cut.0)) (leb (length cut.0) 1000 && ends_literal cut.1) p.0 in
    let u = both_true (leb (length cut.0) 1000) (ends_literal cut.1) t.1 in
    let text = cut_sound b bytes cut.0 cut.1 (mark_in_literal b i) e in
    let gives : GivesWords line (Quoted b cut.0) cut.1 (word_of line Literal cut.0 ∷ []) =
    (i, ltb-true 0 (length cut.0) t.0, leb-true (length cut.0) 1000 u.0, text.1, ends_literal_so cut.1 u.1, refl) in
    subst (λ n. IsFront (rest_of line (b ∷ bytes)) n) p.1 (record {
      piece = Quoted b cut.0;
      there = ap (λ (r : List ℕ). b ∷ r) (text.0 ∙ sym (append_assoc (doubled b cut.0) (b ∷ []) cut.1));
      gives = gives;
      line = sym (lines_of line (Quoted b cut.0) cut.1 (word_of line Literal cut.0 ∷ []) gives);
    })

run_sound : (line b : ℕ) (bytes : List ℕ) (next : Next) → is_of_run b ≡ true → run_at line (b ∷ bytes) ≡ Some next → IsFront (rest_of line (b ∷ bytes)) next
run_sound line b bytes next i e =
    let end : ℕ = prefix_len is_of_run (b ∷ bytes) in
    let p = then_some {A = Next} (ends_run (drop end (b ∷ bytes))) (option_map (λ words. (words, rest_of line (drop end (b ∷ bytes)))) (run_words line (take end (b ∷ bytes)))) next e in
    let q = map_some {B = Next} (λ words. (words, rest_of line (drop end (b ∷ bytes)))) (run_words line (take end (b ∷ bytes))) next p.1 in
    let gives : GivesWords line (Run (take end (b ∷ bytes))) (drop end (b ∷ bytes)) q.0 =
    (run_is_there b bytes i, front_is_run (b ∷ bytes), ends_run_so (drop end (b ∷ bytes)) p.0, q.1) in
    subst (λ n. IsFront (rest_of line (b ∷ bytes)) n) q.2 (record {
      piece = Run (take end (b ∷ bytes));
      there = sym (take-drop end (b ∷ bytes));
      gives = gives;
      line = sym (lines_of line (Run (take end (b ∷ bytes))) (drop end (b ∷ bytes)) q.0 gives);
    })

front_sound_by : (line b : ℕ) (bytes : List ℕ) (next : Next) (v w : Bool) → is_space b ≡ v → is_mark b ≡ w → cond v (Some ([], rest_of (cond (eqb b 10) (line + 1) line) bytes)) (cond w (literal_at line (cut_literal b bytes)) (run_at line (b ∷ bytes))) ≡ Some next → IsFront (rest_of line (b ∷ bytes)) next
front_sound_by line b bytes next true w p q e =
    subst (λ n. IsFront (rest_of line (b ∷ bytes)) n) (same_Some {A = Next} ([], rest_of (cond (eqb b 10) (line + 1) line) bytes) next e) (record { piece = Space b; there = refl; gives = (p, refl); line = sym (lines_of line (Space b) bytes [] (p, refl)) })
front_sound_by line b bytes next false true p q e = literal_sound line b bytes (cut_literal b bytes) next q refl e
front_sound_by line b bytes next false false p q e = run_sound line b bytes next (rw (p, q)) e

front_sound : (line : ℕ) (bytes : List ℕ) (next : Next) → front_of line bytes ≡ Some next → IsFront (rest_of line bytes) next
front_sound line [] next e = absurd (cc)
front_sound line (b ∷ bytes) next e = front_sound_by line b bytes next (is_space b) (is_mark b) refl refl e

pub piece_sound : (rest : Rest) (next : Next) → piece_at rest ≡ Some next → IsFront rest next
unfolding piece_at
piece_sound rest next e = front_sound rest.line rest.bytes next e

-- ---- what stands there is found

front_complete : (line : ℕ) (piece : Piece) (bytes after : List ℕ) (new : List Word) → bytes ≡ written_piece piece ++ after → GivesWords line piece after new → front_of line bytes ≡ Some (new, rest_of (line_after line piece) after)
front_complete line (Space b) bytes after new e f = rw (e, f.0, f.1)
front_complete line (Quoted mark text) bytes after new e f =
    let c = ap (cut_literal mark) (append_assoc (doubled mark text) (mark ∷ []) after) ∙ cut_complete mark text after f.3 (no_third mark after f.0 f.4) in
    rw (e, mark_no_space mark f.0, f.0, c, positive (length text) f.1, within (length text) f.2, so_ends_literal after f.4, f.5)
front_complete line (Run []) bytes after new e f = absurd (omega (arith, f.0))
front_complete line (Run (b ∷ run)) bytes after new e f =
    let classes = run_no_space b (both_true (is_of_run b) (list_all is_of_run run) f.1).0 in
    let step = third {A = Option Next} (is_space b) (is_mark b) (Some ([], rest_of (cond (eqb b 10) (line + 1) line) (run ++ after))) (literal_at line (cut_literal b (run ++ after))) (run_at line (b ∷ (run ++ after))) classes.0 classes.1 in
    ap (front_of line) e ∙ (step ∙ run_complete line (b ∷ run) after new f.1 f.2 f.3)

pub piece_complete : (rest : Rest) (piece : Piece) (after : List ℕ) (new : List Word) → rest.bytes ≡ written_piece piece ++ after → GivesWords rest.line piece after new → piece_at rest ≡ Some (new, rest_of (rest.line + feeds (written_piece piece)) after)
unfolding piece_at
piece_complete rest piece after new e f =
    front_complete rest.line piece rest.bytes after new e f ∙ ap (λ line. Some (new, rest_of line after)) (sym (lines_of rest.line piece after new f))

nothing_found : (line : ℕ) (bytes : List ℕ) → bytes ≡ [] → front_of line bytes ≡ None
nothing_found line [] e = refl
nothing_found line (b ∷ bytes) e = absurd (cc)

-- at the end no piece stands
pub none_at_end : (rest : Rest) → rest.bytes ≡ [] → piece_at rest ≡ None
unfolding piece_at
none_at_end rest e = nothing_found rest.line rest.bytes e
