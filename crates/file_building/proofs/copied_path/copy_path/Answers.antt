use Rattle.std.proofs.Common.{string_bytes}
use Rattle.file_building.specs.CopiedPath.{copy_paths}
use Rattle.file_building.proofs.PathLemmas.{at_first, copied_path}
use Rattle.file_building.proofs.copied_path.copy_path.Goals as goal

pub returns-clause-copies : goal.returns-clause-copies
returns-clause-copies g c =
    let disk = g.D.Disk.unseen in
    let state = g.S.System.state in
    let asked = copy_paths (string_bytes c.args.source) (string_bytes c.args.folder) c.args.name.bytes c.args.key c.args.limit in
    let from = c.copy_named-copied.new.from in
    let to = c.copy_named-copied.new.to in
    rw c.into_system.ensures.same (rw c.into_system-2.ensures.same
    (copied_path disk asked (state from.system).calls (state to.system) _ _ _ _ _ _ _ c.new-from.ensures.shows (λ honest. honest)
    (at_first disk (string_bytes c.args.folder) (state c.args.system) (state c.new-to.result.system) c.requires.unasked c.new-to.ensures.entered)
    c.new-to.ensures.faults to.counted c.copy_named-copied.result c.copy_named-copied.ensures))
