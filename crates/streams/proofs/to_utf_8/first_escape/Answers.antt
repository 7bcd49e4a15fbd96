use Rattle.std.proofs.Common.{sym, subst}
use Rattle.streams.specs.InUtf8.{BeginsWithNoEscape}
use Rattle.streams.specs.declared.backslashes.Backslashes.{Backslashes}
use Rattle.streams.proofs.to_utf_8.first_escape.Goals as goal

pub returns-in-One-clause-none : goal.returns-in-One-clause-none
returns-in-One-clause-none c none =
    subst (λ (b : Backslashes). BeginsWithNoEscape b c.args.text.now) (sym c.in-One.is) (c.first_of_one.ensures.none none)

pub returns-in-Two-clause-none : goal.returns-in-Two-clause-none
returns-in-Two-clause-none c none =
    subst (λ (b : Backslashes). BeginsWithNoEscape b c.args.text.now) (sym c.in-Two.is) (c.first_of_two.ensures.none none)
