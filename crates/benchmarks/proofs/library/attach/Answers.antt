use Rattle.benchmarks.proofs.AttachLemmas.{one_is_distinct, one_is_shut}
use Rattle.benchmarks.proofs.library.attach.Goals as goal

pub attach-requires : goal.attach-requires
attach-requires g c = record { distinct = one_is_distinct c.file_name.result.bytes }

pub returns : goal.returns
returns g c =
    one_is_shut c.attach.result (g.L.Library.shown.world c.args.library.now) (g.L.Library.shown.world c.attach.new.self) c.file_name.result.bytes
    c.attach.ensures.attached
