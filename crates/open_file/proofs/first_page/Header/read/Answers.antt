use Rattle.std.proofs.Common.{IsTrue, refl, sym, subst, ◌∙◌}
use Rattle.std.proofs.lemmas.Bool.{false≢true}
use Rattle.open_file.specs.declared.first_page.Header.{Header}
use Rattle.open_file.specs.FirstPageReading.{numbers_in}
use Rattle.open_file.specs.FirstPage.{IsFirstPage}
use Rattle.open_file.proofs.PageReadLemmas.{header_in_none, no_first, first_read, accepted}
use Rattle.open_file.proofs.first_page.Header.read.Goals as goal
use Rattle.open_file.proofs.first_page.Header.read.Goals.{else-is_within-via-then-is_within+else-is_closed_in, else-is_within-via-else-is_within}

no_schema : (c : goal.After-from_residual) → IsFirstPage (numbers_in c.args.page.now) c.args.page.now → ⊥
no_schema c is = let h = c.in_err-header.ensures.schema.1 is.allowed.schema in absurd (cc)

pub returns-in_err-header-clause-header : goal.returns-in_err-header-clause-header
returns-in_err-header-clause-header c =
    c.from_residual.ensures ∙ sym (header_in_none c.args.page.now (no_schema c))

pub returns-in_err-header-clause-refused : goal.returns-in_err-header-clause-refused
returns-in_err-header-clause-refused c = λ _. no_first c.args.page.now (no_schema c)

is_first : (c : goal.Then-is_closed_in) → IsFirstPage c.in_ok-header.header c.args.page.now
is_first c =
    let seen = c.in_ok-header.ensures in
    accepted c.args.page.now c.in_ok-header.header seen.numbers (seen.schema.0 refl) seen.room (c.is_within.ensures.0 c.if-is_within.true) (c.is_closed_in.ensures.0 c.if-is_closed_in.true)

pub returns-then-is_closed_in-clause-header : goal.returns-then-is_closed_in-clause-header
returns-then-is_closed_in-clause-header c = sym (first_read c.in_ok-header.header c.args.page.now (is_first c))

pub returns-then-is_closed_in-clause-accepted : goal.returns-then-is_closed_in-clause-accepted
returns-then-is_closed_in-clause-accepted c = is_first c

other_page : (c : goal.Joined-else-is_within) → IsFirstPage (numbers_in c.args.page.now) c.args.page.now → ⊥
other_page c first =
    let is : IsFirstPage c.in_ok-header.header c.args.page.now = subst (λ (h : Header). IsFirstPage h c.args.page.now) (sym c.in_ok-header.ensures.numbers) first in
    elim c.else-is_within.branch [
      | else-is_within-via-then-is_within+else-is_closed_in w ↦
          let closed : IsTrue w.is_closed_in.result = w.is_closed_in.ensures.1 is.bytes in
          absurd (false≢true (sym w.if-is_closed_in.false ∙ closed))
      | else-is_within-via-else-is_within w ↦
          let within : IsTrue c.is_within.result = c.is_within.ensures.1 is.allowed.within in
          absurd (false≢true (sym w.if-is_within.false ∙ within))
    ]

pub returns-else-is_within-clause-header : goal.returns-else-is_within-clause-header
returns-else-is_within-clause-header c = sym (header_in_none c.args.page.now (other_page c))

pub returns-else-is_within-clause-refused : goal.returns-else-is_within-clause-refused
returns-else-is_within-clause-refused c = λ _. no_first c.args.page.now (other_page c)
