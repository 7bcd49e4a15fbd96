use Rattle.std.proofs.Common.{◌++◌, refl}
use Rattle.record_heap.proofs.FillingLemmas.{record_put}
use Rattle.record_heap.proofs.builder.HeapBuilder.put.Goals as goal

pub returns : goal.returns
returns c =
    let self = c.args.self.now in
    record {
      put = λ pages slots own places f. record_put self _ pages slots own places (c.args.stamps.now ++ c.args.record.now) f c.requires.room self.linked c.put_used.ensures refl refl refl;
      shape = refl;
    }
