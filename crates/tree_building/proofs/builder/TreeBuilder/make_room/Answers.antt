use Rattle.tree_building.proofs.builder.TreeBuilder.make_room.Goals as goal

pub returns-then-is_full-clause-makes : goal.returns-then-is_full-clause-makes
returns-then-is_full-clause-makes g c honest sound =
    let makes = c.write_lower.ensures.makes honest sound in
    record {
      made = λ entries own b. makes.made entries own (record { front = b.front; written = b.written; has = b.has; count = b.count });
      kept = makes.kept;
      sound = makes.sound;
    }
