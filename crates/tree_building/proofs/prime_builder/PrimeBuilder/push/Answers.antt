use Rattle.std.proofs.Common.{refl, ◌∙◌}
use Rattle.key_index.proofs.EditLemmas.{each_byte}
use Rattle.tree_building.proofs.PushLemmas.{prime_pushed}
use Rattle.tree_building.proofs.prime_builder.PrimeBuilder.push.Goals as goal

pub returns-clause-pushes : goal.returns-clause-pushes
returns-clause-pushes g c honest sound =
    prime_pushed _ _ c.args.self.now _ _ c.as_slice.result.now _ refl
    (record {
      long = c.requires.value;
      bytes = each_byte c.args.value.now c.type_inv.value;
      page = c.bytes-entry.ensures.page;
      slot = c.bytes-entry.ensures.slot;
    })
    (c.as_slice.ensures.value ∙ c.bytes-entry.ensures.bytes) (c.push.ensures.pushes honest sound)
