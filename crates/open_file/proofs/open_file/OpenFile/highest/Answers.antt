use Rattle.std.proofs.Common.{ap, ◌∙◌, rules}
use Rattle.std.specs.Prelude.{option_map}
use Rattle.std.proofs.lemmas.Bool.{and_parts}
use Rattle.open_file.proofs.ExitLemmas.{fails}
use Rattle.open_file.proofs.HighestLemmas.{value_in, last_is_highest}
use Rattle.open_file.proofs.open_file.OpenFile.highest.Goals as goal

pub returns-in_err-entry : goal.returns-in_err-entry
returns-in_err-entry g c = record {
  found = λ honest file stands. fails c.from_residual.result _ c.from_residual.ensures.1 (c.in_err-entry.ensures.found honest _ _ stands.parts.prime_stands).no_damage _;
  reads = search rules;
}

pub returns-in-Some : goal.returns-in-Some
returns-in-Some g c = record {
  found = λ honest file stands.
      let found = (rw c.in-Some.is at c.in_ok-entry.ensures.found honest _ _ stands.parts.prime_stands).answer in
      let last = last_is_highest c.args.self.now.schema stands.slots file.next_stamp stands.places file.rows stands.placed.rows_at (and_parts _ _ stands.sound).1 in
      record { answer = ap (option_map value_in) found ∙ last; no_damage = tt };
  reads = search rules;
}

pub returns-in-None : goal.returns-in-None
returns-in-None g c = record {
  found = λ honest file stands.
      let found = (rw c.in-None.is at c.in_ok-entry.ensures.found honest _ _ stands.parts.prime_stands).answer in
      let last = last_is_highest c.args.self.now.schema stands.slots file.next_stamp stands.places file.rows stands.placed.rows_at (and_parts _ _ stands.sound).1 in
      record { answer = ap (option_map value_in) found ∙ last; no_damage = tt };
  reads = search rules;
}
