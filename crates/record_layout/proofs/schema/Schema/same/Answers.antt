use Rattle.std.proofs.Common.{◌≡◌, arith, rules}
use Rattle.std.proofs.lemmas.Grind.{common_steps}
use Rattle.std.proofs.lemmas.Bool.Decides.{Decides-at}
use Rattle.record_layout.specs.Schema.{same_schema}
use Rattle.record_layout.proofs.SchemaLemmas.{same_schema-Decides}
use Rattle.record_layout.proofs.schema.Schema.same.Goals as goal

pub returns-then-same_lengths-clause-equal : goal.returns-then-same_lengths-clause-equal
returns-then-same_lengths-clause-equal c =
    let same : c.same_keys.result ≡ same_schema c.args.self.now c.args.other.now = first_of (search rules, grind (arith, common_steps)) in
    Decides-at _ _ same (same_schema-Decides c.args.self.now c.args.other.now)
