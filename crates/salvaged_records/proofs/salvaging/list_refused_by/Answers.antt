use Rattle.std.proofs.Common.{inl}
use Rattle.salvaged_records.proofs.salvaging.list_refused_by.Goals as goal

pub returns-in-Ok-clause-ends : goal.returns-in-Ok-clause-ends
returns-in-Ok-clause-ends g c = (inl c.requires.refused.1.1, (c.args.schema.now, c.requires.schema, c.in-Ok.ensures.slots))
