use Rattle.std.proofs.Common.{inl, inr, sym, rules}
use Rattle.open_file.specs.InOrder.{prime_entries}
use Rattle.open_file.proofs.EntryLemmas.{none_passes}
use Rattle.open_file.proofs.open_file.OpenFile.step_in_prime.Goals as goal

pub returns-in-From : goal.returns-in-From
returns-in-From g c = rw c.in-From.is (rw c.as_slice.ensures.value at c.prime_from.ensures)

pub returns-in-After : goal.returns-in-After
returns-in-After g c = rw c.in-After.is (rw c.as_slice-in-After.ensures.value at c.prime_after.ensures)

pub returns-in-Invalid : goal.returns-in-Invalid
returns-in-Invalid g c = record {
  found = λ honest file stands.
      elim c.in-Invalid.is [ inl invalid ↦ rw invalid (record { answer = sym (none_passes (prime_entries c.args.self.now.schema stands.places file.rows)); no_damage = tt }) | inr missing ↦ rw missing (record { answer = sym (none_passes (prime_entries c.args.self.now.schema stands.places file.rows)); no_damage = tt }) ];
  stands = λ honest file stands. stands;
  rest = search rules;
  reads = search rules;
}

pub returns-in-Invalid-2 : goal.returns-in-Invalid-2
returns-in-Invalid-2 g c = record {
  found = λ honest file stands.
      elim c.in-Invalid.is [ inl invalid ↦ rw invalid (record { answer = sym (none_passes (prime_entries c.args.self.now.schema stands.places file.rows)); no_damage = tt }) | inr missing ↦ rw missing (record { answer = sym (none_passes (prime_entries c.args.self.now.schema stands.places file.rows)); no_damage = tt }) ];
  stands = λ honest file stands. stands;
  rest = search rules;
  reads = search rules;
}
