use Rattle.std.proofs.Common.{rules}
use Rattle.file_checker.proofs.prime_rows.leads_to_row.Goals as goal

pub returns-then-is_row-clause-leads : goal.returns-then-is_row-clause-leads
returns-then-is_row-clause-leads g c = λ list has yes.
    let value = c.in-Some.ensures.value list (c.stored_at.follows.holds-at-none.1 list has) in
    let stored = c.stored_at.follows.holds-at-none.0 list has in
    search rules

pub returns-then-is_row-clause-refused : goal.returns-then-is_row-clause-refused
returns-then-is_row-clause-refused g c = λ list has ahead.
    let value = c.in-Some.ensures.value list (c.stored_at.follows.holds-at-none.1 list has) in
    let stored = c.stored_at.follows.holds-at-none.0 list has in
    search rules

pub returns-else-is_row-clause-refused : goal.returns-else-is_row-clause-refused
returns-else-is_row-clause-refused g c = λ list has ahead.
    let value = c.in-Some.ensures.value list (c.stored_at.follows.holds-at-none.1 list has) in
    let stored = c.stored_at.follows.holds-at-none.0 list has in
    search rules
