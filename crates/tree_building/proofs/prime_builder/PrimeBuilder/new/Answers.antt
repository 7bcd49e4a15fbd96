use Rattle.tree_building.proofs.prime_builder.PrimeBuilder.new.Goals as goal

pub returns-clause-begun : goal.returns-clause-begun
returns-clause-begun c pages = record { tree = c.new.ensures.begun pages; each = tt }
