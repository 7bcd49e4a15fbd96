use Rattle.std.proofs.Common.{◌≡◌, ◌∙◌, ◌+◌, ◌<◌, Some, length, ap, sym, subst, arith}
use Rattle.std.proofs.lemmas.Bool.Decides.{nat_tests}
use Rattle.deck_parser.specs.Words.{HasWords}
use Rattle.deck_parser.specs.Front.{Next, piece_at, rest_of}
use Rattle.deck_parser.proofs.CutLemmas.{refused}
use Rattle.deck_parser.proofs.RemainingLemmas.{takes, Counted, counted_step, counted_done}
use Rattle.deck_parser.proofs.scanner.scan.Goals as goal

pub returns-in_default : goal.returns-in_default
returns-in_default c =
    refused c.args.bytes.now c.more.invariant.words (rest_of c.more.line c.more.rest.now) c.bad_place.result c.more.invariant.so (grind (arith, nat_tests)) (sym c.front_piece.ensures ∙ c.in_default.is)

pub more-smaller : goal.more-smaller
more-smaller c =
    let t = takes (rest_of c.more.line c.more.rest.now) c.in-Some.piece (sym c.front_piece.ensures ∙ c.in-Some.is) in
    let same : length c.piece.inside.rest.now ≡ length c.in-Some.piece.1.bytes = ap (λ (n : Next). length n.1.bytes) c.piece.view_is in
    let less : length c.piece.inside.rest.now < length c.more.rest.now = omega (arith, t.fewer, same) in less

pub more-preserved : goal.more-preserved
more-preserved c =
    let there : piece_at (rest_of c.more.line c.more.rest.now) ≡ Some c.in-Some.piece = sym c.front_piece.ensures ∙ c.in-Some.is in
    let further = counted_step c.args.bytes.now (rest_of c.more.line c.more.rest.now) c.more.count c.in-Some.piece c.more.invariant there in
    subst (λ n. Counted c.args.bytes.now (rest_of c.piece.inside.line c.piece.inside.rest.now) (c.more.count + n)) (sym c.count-new.ensures)
    (subst (λ (next : Next). Counted c.args.bytes.now next.1 (c.more.count + length c.in-Some.piece.0)) (sym c.piece.view_is) further)

pub new-requires-clause-counted : goal.new-requires-clause-counted
new-requires-clause-counted c = (counted_done c.args.bytes.now c.more.line c.more.count c.more.rest.now c.more.invariant (grind (arith, nat_tests))).1

pub returns : goal.returns
returns c = subst (λ ws. HasWords c.args.bytes.now ws) (sym c.new.ensures) (counted_done c.args.bytes.now c.more.line c.more.count c.more.rest.now c.more.invariant (grind (arith, nat_tests))).0
