use Rattle.std.proofs.Common.{List, ℕ, ◌≡◌, ◌++◌, sym, ap, ◌∙◌, subst, refl}
use Rattle.record_text.specs.Quoted.{quoted_byte}
use Rattle.record_text.specs.declared.quoted.Quoting.TheVariants.{Escaped}
use Rattle.record_text.proofs.NameLemmas.{ArePassed, none_here, another_here, one_passed}
use Rattle.record_text.proofs.name.passed_bytes.Goals as goal

pub more-init : goal.more-init
more-init c = record { to = λ behind is. is; from = λ behind is. is; fits = c.type_inv.bytes }

pub returns-in_err-first-clause-none : goal.returns-in_err-first-clause-none
returns-in_err-first-clause-none c _ =
    let rest = c.more.rest.now in
    let passed = subst (λ (l : List ℕ). ArePassed c.args.text.now c.args.bytes.now rest l) c.in-Some.ensures.cases.0 c.more.invariant in
    none_here c.args.text.now c.args.bytes.now rest c.in-Some.byte.now c.in-Some.after.now passed (c.in_err-first.ensures.none refl)

pub returns-then-first-byte-clause-none : goal.returns-then-first-byte-clause-none
returns-then-first-byte-clause-none c _ =
    let rest = c.more.rest.now in
    let first = c.in_ok-first.first in
    let passed = subst (λ (l : List ℕ). ArePassed c.args.text.now c.args.bytes.now rest l) c.in-Some.ensures.cases.0 c.more.invariant in
    another_here c.args.text.now c.args.bytes.now rest c.in-Some.byte.now c.in-Some.after.now passed first.byte _ c.in_ok-first.ensures.shown.0 c.if-first-byte.true

pub more-preserved : goal.more-preserved
more-preserved c =
    let rest = c.more.rest.now in
    let first = c.in_ok-first.first in
    let passed = subst (λ (l : List ℕ). ArePassed c.args.text.now c.args.bytes.now rest l) c.in-Some.ensures.cases.0 c.more.invariant in
    let at : rest ≡ quoted_byte Escaped first.byte ++ c.split_at.result.1.now = c.in_ok-first.ensures.shown.0 ∙ ap (λ l. quoted_byte Escaped first.byte ++ l) (sym c.split_at.ensures.back) in
    one_passed c.args.text.now c.args.bytes.now rest c.in-Some.byte.now c.in-Some.after.now passed first.byte c.split_at.result.1.now at c.if-first-byte.false
