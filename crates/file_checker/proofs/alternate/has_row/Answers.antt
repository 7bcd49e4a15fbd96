use Rattle.std.proofs.Common.{rules, ◌≡◌, ◌+◌, ap, sym, subst, ◌∙◌, drop, Some, None, List, ℕ}
use Rattle.file_checker.specs.Leading.{IsEntryOf}
use Rattle.file_checker.proofs.PrimeAheadLemmas.{leader_found, leader_is}
use Rattle.file_checker.proofs.StampLemmas.{rest_from}
use Rattle.file_checker.proofs.alternate.has_row.Goals as goal

pub returns-in-Some-entry_near-clause-refused : goal.returns-in-Some-entry_near-clause-refused
returns-in-Some-entry_near-clause-refused g c = λ list has lead ahead.
    let near = c.is_of_row.ensures.before list has in
    let read = c.entry_near.ensures.before list near in
    let width = c.args.index.width in
    let bytes = rw c.shape.ensures at (c.in-Some.ensures.value list read) in
    let value = rest_from (width + 8) c.deref.result.now ∙ ap (drop (width + 8)) (c.deref.ensures.0 ∙ bytes) in
    let found = leader_found c.args.file.now list c.args.primes.now c.args.index c.args.spot _ c.entry_near.result value (c.entry_near.ensures.found list near) lead ahead in
    let at = leader_is c.args.file.now list c.args.index _ c.entry_near.result c.in-Some-entry_near.leader c.in-Some-entry_near.is found in
    c.is_of_row.ensures.refused list has at.0 (subst (λ (e : List ℕ). IsEntryOf c.args.file.now list c.args.index e c.in-Some-entry_near.leader) (sym (c.deref-in-Some-entry_near.ensures.0 ∙ bytes)) at.1)

pub returns-in-None-clause-refused : goal.returns-in-None-clause-refused
returns-in-None-clause-refused g c = λ list has lead ahead.
    let near = has in
    let read = c.entry_near.ensures.before list near in
    let width = c.args.index.width in
    let bytes = rw c.shape.ensures at (c.in-Some.ensures.value list read) in
    let value = rest_from (width + 8) c.deref.result.now ∙ ap (drop (width + 8)) (c.deref.ensures.0 ∙ bytes) in
    let found = leader_found c.args.file.now list c.args.primes.now c.args.index c.args.spot _ c.entry_near.result value (c.entry_near.ensures.found list near) lead ahead in
    let bad : None ≡ Some found.0 = sym c.in-None.is ∙ found.1 in
    absurd (cc)

pub returns-in-Some-entry_near-clause-row : goal.returns-in-Some-entry_near-clause-row
returns-in-Some-entry_near-clause-row g c = λ list has yes.
    let value = c.in-Some.ensures.value list (c.entry_near.ensures.before list (c.is_of_row.ensures.before list has)) in
    let is = c.is_of_row.ensures.entry list has yes in
    search rules
