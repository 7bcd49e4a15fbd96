use Rattle.std.proofs.Common.{◌≡◌, ◌∙◌, ◌<◌, Some, length, ap, sym, arith}
use Rattle.std.proofs.lemmas.Bool.Decides.{nat_tests}
use Rattle.deck_parser.specs.Front.{Next, piece_at, rest_of}
use Rattle.deck_parser.specs.Remaining.{words_from}
use Rattle.deck_parser.proofs.RemainingLemmas.{takes, next_words, no_words, at_end, without_words}
use Rattle.deck_parser.proofs.remaining.first_words.Goals as goal

pub returns-in_default : goal.returns-in_default
returns-in_default c = c.more.invariant.0 ∙ no_words (rest_of c.more.here c.more.rest.now) (sym c.front_piece.ensures ∙ c.in_default.is)

pub returns-then-count-gt0 : goal.returns-then-count-gt0
returns-then-count-gt0 c =
    let there : piece_at (rest_of c.more.here c.more.rest.now) ≡ Some c.in-Some.piece = sym c.front_piece.ensures ∙ c.in-Some.is in
    let t = takes (rest_of c.more.here c.more.rest.now) c.in-Some.piece there in
    (c.more.invariant.0 ∙ next_words (rest_of c.more.here c.more.rest.now) c.in-Some.piece there, omega arith, omega (arith, t.lines))

pub more-smaller : goal.more-smaller
more-smaller c =
    let t = takes (rest_of c.more.here c.more.rest.now) c.in-Some.piece (sym c.front_piece.ensures ∙ c.in-Some.is) in
    let same : length c.piece.inside.rest.now ≡ length c.in-Some.piece.1.bytes = ap (λ (n : Next). length n.1.bytes) c.piece.view_is in
    let less : length c.piece.inside.rest.now < length c.more.rest.now = omega (arith, t.fewer, same) in less

pub more-preserved : goal.more-preserved
more-preserved c =
    let rest = rest_of c.more.here c.more.rest.now in
    let there : piece_at rest ≡ Some c.in-Some.piece = sym c.front_piece.ensures ∙ c.in-Some.is in
    let t = takes rest c.in-Some.piece there in
    let same : length c.piece.inside.rest.now ≡ length c.in-Some.piece.1.bytes = ap (λ (n : Next). length n.1.bytes) c.piece.view_is in
    let line : c.piece.inside.line ≡ c.in-Some.piece.1.line = ap (λ (n : Next). n.1.line) c.piece.view_is in
    (c.more.invariant.0 ∙ (without_words rest c.in-Some.piece there (omega arith) ∙ ap (λ (n : Next). words_from n.1) (sym c.piece.view_is)), omega (arith, t.lines, same, line))

pub returns : goal.returns
returns c = c.more.invariant.0 ∙ at_end c.more.here c.more.rest.now (grind (arith, nat_tests))
