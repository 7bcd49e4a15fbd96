use Rattle.pages.proofs.CauseLemmas.{caused_since}
use Rattle.std.proofs.lemmas.Grind.{common_steps}
use Rattle.std.proofs.Common.{ap, arith}
use Rattle.open_file.specs.Fields.{alternates_of, file_schema}
use Rattle.open_file.proofs.ExitLemmas.{fails}
use Rattle.file_changes.proofs.removing.take_out.Goals as goal

pub returns-in_err-remove_from_prime-clause-out : goal.returns-in_err-remove_from_prime-clause-out
returns-in_err-remove_from_prime-clause-out g c honest sound slots primes entries p has =
    fails c.from_residual.result _ c.from_residual.ensures.1 ((rw c.forget_path.ensures at c.in_err-remove_from_prime.ensures.removed) honest sound slots primes entries p has.in_prime).no_damage _

pub returns-in_err-remove_from_alternates-clause-out : goal.returns-in_err-remove_from_alternates-clause-out
returns-in_err-remove_from_alternates-clause-out g c honest sound slots primes entries p has =
    let before = g.met.P.Pages.writes_honestly c.remove_from_prime.new.pages c.remove_from_alternates.new.pages c.remove_from_alternates.ensures.writes.step honest in
    let prime = ((rw c.forget_path.ensures at c.in_ok-remove_from_prime.ensures.removed) before sound slots primes entries p has.in_prime).answer in
    let schema = ap file_schema (rw c.forget_path.ensures at c.remove_from_prime.ensures.file.rest) in
    let alternates = ap alternates_of (rw c.forget_path.ensures at c.remove_from_prime.ensures.file.rest) in
    let failed = (rw (schema, alternates, c.as_slice.ensures.value) at c.in_err-remove_from_alternates.ensures.removed) honest prime.1 slots _ entries (rw alternates at prime.0) has.in_alternates in
    fails c.from_residual-in_err-remove_from_alternates.result _ c.from_residual-in_err-remove_from_alternates.ensures.1 failed.no_damage _

pub returns-clause-out : goal.returns-clause-out
returns-clause-out g c honest sound slots primes entries p has =
    let first = c.remove_from_prime.new.pages in
    let second = c.remove_from_alternates.new.pages in
    let last = c.free_slot.new.pages in
    let h2 = g.met.P.Pages.writes_honestly second last c.free_slot.ensures.writes.step honest in
    let h1 = g.met.P.Pages.writes_honestly first second c.remove_from_alternates.ensures.writes.step h2 in
    let prime = ((rw c.forget_path.ensures at c.in_ok-remove_from_prime.ensures.removed) h1 sound slots primes entries p has.in_prime).answer in
    let schema = ap file_schema (rw c.forget_path.ensures at c.remove_from_prime.ensures.file.rest) in
    let alternates = ap alternates_of (rw c.forget_path.ensures at c.remove_from_prime.ensures.file.rest) in
    let rest = ((rw (schema, alternates, c.as_slice.ensures.value) at c.in_ok-remove_from_alternates.ensures.removed) h2 prime.1 slots _ entries (rw alternates at prime.0) has.in_alternates).answer in
    c.free_slot.ensures.freed honest rest.1 slots _ _ rest.0 has.in_heap

pub returns-clause-writes : goal.returns-clause-writes
returns-clause-writes g c =
    let start = c.args.pages.now in
    let first = c.remove_from_prime.new.pages in
    let second = c.remove_from_alternates.new.pages in
    let last = c.free_slot.new.pages in
    let before = g.met.P.Pages.writes_on start first second c.remove_from_prime.ensures.writes.step c.remove_from_alternates.ensures.writes.step in
    record {
      cause = caused_since c.free_slot.result _ _ _ _ (λ failed. g.met.P.Pages.failed_after start second last before failed) (λ none. none) c.free_slot.ensures.writes.cause;
      asked = grind (arith, common_steps);
      step = g.met.P.Pages.writes_on start second last before c.free_slot.ensures.writes.step;
    }
