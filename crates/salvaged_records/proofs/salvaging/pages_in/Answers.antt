use Rattle.std.proofs.Common.{◌/◌, length, sym, subst, arith}
use Rattle.file_checker.specs.Bytes.{AreAllPages}
use Rattle.file_checker.proofs.HeldLemmas.{all_chunks}
use Rattle.salvaged_records.proofs.salvaging.pages_in.Goals as goal

pub returns : goal.returns
returns c =
    let bytes = c.args.bytes.now in
    subst (AreAllPages bytes) (sym c.as_chunks.ensures.front) (all_chunks bytes (length bytes / 4096) (omega arith) (omega arith))
