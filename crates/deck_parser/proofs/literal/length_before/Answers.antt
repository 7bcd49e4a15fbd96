use Rattle.std.proofs.Common.{◌≡◌, length, ◌∷◌, ◌∙◌, sym, ap, arith}
use Rattle.deck_parser.specs.Literal.{cut_literal}
use Rattle.deck_parser.proofs.LiteralLemmas.{with_count, cut_refused, counted_plain, counted_twice}
use Rattle.deck_parser.proofs.literal.length_before.Goals as goal

pub returns-then-not-is_literal_byte : goal.returns-then-not-is_literal_byte
returns-then-not-is_literal_byte c =
    let refused = cut_refused c.args.mark c.in-Some.byte.now c.in-Some.after.now c.if-byte-mark.true (sym c.is_literal_byte.ensures ∙ c.if-not-is_literal_byte.true) in
    sym (c.more.invariant.0 ∙ ap (λ rest. with_count c.more.count (cut_literal c.args.mark rest)) c.in-Some.ensures.cases.0 ∙ ap (with_count c.more.count) refused)

pub more-preserved-then-byte-mark : goal.more-preserved-then-byte-mark
more-preserved-then-byte-mark c =
    let counted = counted_plain c.args.mark c.in-Some.byte.now c.more.count c.in-Some.after.now c.if-byte-mark.true (sym c.is_literal_byte.ensures ∙ c.if-not-is_literal_byte.false) in
    (c.more.invariant.0 ∙ ap (λ rest. with_count c.more.count (cut_literal c.args.mark rest)) c.in-Some.ensures.cases.0 ∙ counted, omega (arith, ap length c.in-Some.ensures.cases.0))

pub more-preserved : goal.more-preserved
more-preserved c =
    let front : c.more.rest.now ≡ c.args.mark ∷ c.args.mark ∷ c.in-Some-split_first.more.now = cc (c.in-Some.ensures.cases.0, c.in-Some-split_first.ensures.cases.0) in
    (c.more.invariant.0 ∙ ap (λ rest. with_count c.more.count (cut_literal c.args.mark rest)) front ∙ counted_twice c.args.mark c.more.count c.in-Some-split_first.more.now, omega (arith, ap length front))
