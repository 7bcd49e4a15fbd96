use Rattle.std.proofs.Common.{refl, ◌∙◌}
use Rattle.key_index.specs.Stored.{entry_to}
use Rattle.key_index.proofs.EditLemmas.{each_byte}
use Rattle.tree_building.proofs.PushLemmas.{alt_pushed}
use Rattle.tree_building.proofs.alt_builder.AltBuilder.push_parts.Goals as goal

pub returns-clause-pushes : goal.returns-clause-pushes
returns-clause-pushes g c honest sound =
    alt_pushed _ _ c.args.self.now _ (entry_to c.args.value.now c.args.stamp c.args.prime.now) c.as_slice.result.now _ refl refl
    (record {
      long = c.requires.value;
      bytes = each_byte c.args.value.now c.type_inv.value;
      stamp = c.ranges.stamp.fits;
      prime_long = c.requires.prime;
    })
    (c.as_slice.ensures.value ∙ c.bytes-bytes.ensures) (c.push.ensures.pushes honest sound)
