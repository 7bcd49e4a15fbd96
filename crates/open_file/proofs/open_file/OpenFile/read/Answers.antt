use Rattle.std.proofs.Common.{refl}
use Rattle.record_heap.specs.Standing.{slot_shape}
use Rattle.open_file.specs.Stored.{stored}
use Rattle.open_file.proofs.ExitLemmas.{fails_reading}
use Rattle.open_file.proofs.ReadLemmas.{behind_stamps}
use Rattle.open_file.proofs.open_file.OpenFile.read.Goals as goal

pub returns-in_err-length-clause-found : goal.returns-in_err-length-clause-found
returns-in_err-length-clause-found g c honest row at =
    fails_reading c.from_residual.result _ c.from_residual.ensures.1 (c.in_err-length.ensures.got honest at.slots at.own (stored c.args.self.now.schema row) at.stands at.here).no_damage _ _ _ _

pub returns-clause-found : goal.returns-clause-found
returns-clause-found g c honest row at =
    let got = (c.in_ok-length.ensures.got honest at.slots at.own (stored c.args.self.now.schema row) at.stands at.here).answer in
    rw (got.long, got.front, behind_stamps c.args.self.now.schema row (slot_shape c.args.self.now.heap).stamps at.width)
    (record { answered = record { answer = refl; no_damage = tt }; area = refl })
