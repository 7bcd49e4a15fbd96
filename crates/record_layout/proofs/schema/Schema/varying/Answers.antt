use Rattle.std.proofs.Common.{map, ap, length, arith}
use Rattle.record_layout.specs.SchemaFault.{clause_of}
use Rattle.record_layout.proofs.KeysLemmas.{some_given, is_sorted_schema}
use Rattle.record_layout.proofs.schema.Schema.varying.Goals as goal

pub sort_alternates-requires : goal.sort_alternates-requires
sort_alternates-requires c =
    let some = some_given c.args.layout.now c.args.least c.args.prime.now (map clause_of c.args.alternates.now) c.in_ok-keys.keys.items c.length-greatest.ensures.record c.in_ok-keys.ensures in
    omega (arith, some, ap length c.deref_mut.ensures.value)

pub invariant_of-result : goal.invariant_of-result
invariant_of-result c =
    (is_sorted_schema c.args.layout.now c.args.least c.length-greatest.result c.args.prime.now (map clause_of c.args.alternates.now) c.in_ok-keys.keys.items c.deref_mut.result.now c.sort_alternates.new.keys c.length-greatest.ensures.record c.requires.some c.requires.within c.length-greatest.ensures.length c.in_ok-keys.ensures c.deref_mut.ensures.value (omega arith) c.sort_alternates.ensures.prime c.sort_alternates.ensures.alternates c.sort_alternates.ensures.rising).0

pub returns-clause-given : goal.returns-clause-given
returns-clause-given c =
    (is_sorted_schema c.args.layout.now c.args.least c.length-greatest.result c.args.prime.now (map clause_of c.args.alternates.now) c.in_ok-keys.keys.items c.deref_mut.result.now c.sort_alternates.new.keys c.length-greatest.ensures.record c.requires.some c.requires.within c.length-greatest.ensures.length c.in_ok-keys.ensures c.deref_mut.ensures.value (omega arith) c.sort_alternates.ensures.prime c.sort_alternates.ensures.alternates c.sort_alternates.ensures.rising).1
