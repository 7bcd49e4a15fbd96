use Rattle.std.proofs.Common.{sym, ◌∙◌}
use Rattle.open_file.proofs.ExitLemmas.{fails}
use Rattle.open_file.proofs.SeekLemmas.{prime_sought, prime_not_sought}
use Rattle.open_file.proofs.open_file.OpenFile.seek_prime.Goals as goal

pub returns-in_err-entry-clause-found : goal.returns-in_err-entry-clause-found
returns-in_err-entry-clause-found g c honest file stands =
    fails c.from_residual.result _ c.from_residual.ensures.1 (c.in_err-entry.ensures.found honest _ _ stands.parts.prime_stands).no_damage _

pub returns-in-Some-clause-found : goal.returns-in-Some-clause-found
returns-in-Some-clause-found g c honest file stands =
    let opened = c.args.self.now in
    let found = (rw c.in-Some.is at c.in_ok-entry.ensures.found honest _ _ stands.parts.prime_stands).answer in
    record { answer = c.wanted.ensures ∙ sym (prime_sought opened.schema stands.slots stands.places file stands.sound stands.placed.rows_at c.args.relation c.args.operand.now c.in-Some.entry (sym found)); no_damage = tt }

pub returns-in-None-clause-found : goal.returns-in-None-clause-found
returns-in-None-clause-found g c honest file stands =
    let opened = c.args.self.now in
    let found = (rw c.in-None.is at c.in_ok-entry.ensures.found honest _ _ stands.parts.prime_stands).answer in
    record { answer = sym (prime_not_sought opened.schema stands.slots stands.places file stands.sound stands.placed.rows_at c.args.relation c.args.operand.now (sym found)); no_damage = tt }
