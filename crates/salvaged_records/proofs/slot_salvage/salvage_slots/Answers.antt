use Rattle.salvaged_records.proofs.SalvageLemmas.{sorted_written}
use Rattle.std.proofs.lemmas.Result.{IfOk-weaker}
use Rattle.salvaged_records.proofs.slot_salvage.salvage_slots.Goals as goal

pub returns-in-Ok-clause-slots : goal.returns-in-Ok-clause-slots
returns-in-Ok-clause-slots g c = λ list has.
    IfOk-weaker c.write_both.result _ _
    (λ counts both. sorted_written c.args.schema.now list c.args.asked.now _ counts c.shape_of-shape.result c.prime_of-prime.result c.prime_shape-nodes.result c.in-Ok.doubts c.shape_of-shape.ensures
    c.prime_of-prime.ensures.part c.prime_shape-nodes.ensures (c.in-Ok.ensures.apart list (c.write_both.ensures.before list has)) both)
    (c.write_both.ensures.both list has)
