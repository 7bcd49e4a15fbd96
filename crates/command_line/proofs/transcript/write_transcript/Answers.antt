use Rattle.std.proofs.Common.{◌≡◌, ℕ, true, string_bytes, subst, sym, ap, ◌∙◌}
use Rattle.std.proofs.lemmas.Result.{IfOk-at_ok, IfErr-at_err}
use Rattle.std.specs.NonZero.{non_zero_usize_get}
use Rattle.deck_runner.specs.RunEnd.{TellsLines, ToldInPart}
use Rattle.page_store.specs.ShelfState.{ShelfState}
use Rattle.folder_shelf.specs.Replay.{folder_state}
use Rattle.shelf_run.specs.ShelfRun.{OnShelf, Runs, BreaksOff}
use Rattle.shelf_run.specs.ExactRun.{IsExactRun}
use Rattle.command_line.specs.Folder.{folder_at_first}
use Rattle.command_line.proofs.PerformedLemmas.{run_fault}
use Rattle.command_support.specs.Told.{told_as}
use Rattle.command_support.proofs.ToldLemmas.{line_refused, no_deck}
use Rattle.command_line.proofs.FolderLemmas.{untouched, left_from_first, sound_from_first}
use Rattle.command_line.proofs.transcript.write_transcript.Goals as goal

pub returns-in-Ok-clause-exact : goal.returns-in-Ok-clause-exact
returns-in-Ok-clause-exact g c =
    let shelf = c.run_on_shelf-shelf.result.0 in
    let last = folder_state g.D.Disk.unseen (g.S.System.state shelf.system) in
    rw c.into_system-system.ensures.same
    (subst (λ (first : ShelfState). c.in-Ok.end.clean ≡ true → IsExactRun c.args.bytes.now first last (g.W.Write.contents c.args.out.now) (g.W.Write.contents c.run_on_shelf-shelf.new.out) c.in-Ok.end)
    (untouched g.D.Disk.unseen (string_bytes c.args.folder) _ _ c.new-shelf.ensures.entered c.requires.unasked)
    (IfOk-at_ok _ c.in-Ok.is c.run_on_shelf-shelf.ensures.exact))

pub returns-in-Ok-clause-run : goal.returns-in-Ok-clause-run
returns-in-Ok-clause-run g c =
    let shelf = c.run_on_shelf-shelf.result.0 in
    let at_first = folder_at_first g.D.Disk.unseen (string_bytes c.args.folder) in
    let last = folder_state g.D.Disk.unseen (g.S.System.state shelf.system) in
    let written = g.W.Write.contents c.args.out.now in
    let written_after = g.W.Write.contents c.run_on_shelf-shelf.new.out in
    let runs = IfOk-at_ok _ c.in-Ok.is c.run_on_shelf-shelf.ensures.run in
    let frames = non_zero_usize_get c.args.limits.frames in
    rw c.into_system-system.ensures.same
    (subst (λ (faults : ℕ). OnShelf c.args.bytes.now at_first last (λ deck. TellsLines written written_after c.in-Ok.end (Runs c.args.limits.pages frames at_first last 0 faults deck))) shelf.counted
    (subst (λ (faults : ℕ). OnShelf c.args.bytes.now at_first last (λ deck. TellsLines written written_after c.in-Ok.end (Runs c.args.limits.pages frames at_first last faults shelf.faults deck))) c.new-shelf.ensures.faults
    (subst (λ (first : ShelfState). OnShelf c.args.bytes.now first last (λ deck. TellsLines written written_after c.in-Ok.end (Runs c.args.limits.pages frames first last c.new-shelf.result.faults shelf.faults deck)))
    (untouched g.D.Disk.unseen (string_bytes c.args.folder) _ _ c.new-shelf.ensures.entered c.requires.unasked) runs)))

pub returns-in-Ok-clause-sound : goal.returns-in-Ok-clause-sound
returns-in-Ok-clause-sound g c =
    let shelf = c.run_on_shelf-shelf.result.0 in
    rw c.into_system-system.ensures.same
    (sound_from_first g.D.Disk.unseen (string_bytes c.args.folder) _ _ c.new-shelf.ensures.entered c.requires.unasked
    (folder_state g.D.Disk.unseen (g.S.System.state shelf.system)) c.run_on_shelf-shelf.ensures.sound)

pub returns-in-Err-clause-output : goal.returns-in-Err-clause-output
returns-in-Err-clause-output g c =
    let shelf = c.run_on_shelf-shelf.result.0 in
    let at_first = folder_at_first g.D.Disk.unseen (string_bytes c.args.folder) in
    let last = folder_state g.D.Disk.unseen (g.S.System.state shelf.system) in
    let written = g.W.Write.contents c.args.out.now in
    let written_after = g.W.Write.contents c.run_on_shelf-shelf.new.out in
    let frames = non_zero_usize_get c.args.limits.frames in
    rw c.into_system-system.ensures.same
    (λ is.
    let runs = IfErr-at_err _ c.in-Err.is c.run_on_shelf-shelf.ensures.output (line_refused c.in-Err.fault (sym c.of_run.ensures ∙ is)) in
    subst (λ (faults : ℕ). OnShelf c.args.bytes.now at_first last (λ deck. ToldInPart written written_after (BreaksOff c.args.limits.pages frames at_first last 0 faults deck))) shelf.counted
    (subst (λ (faults : ℕ). OnShelf c.args.bytes.now at_first last (λ deck. ToldInPart written written_after (BreaksOff c.args.limits.pages frames at_first last faults shelf.faults deck))) c.new-shelf.ensures.faults
    (subst (λ (first : ShelfState). OnShelf c.args.bytes.now first last (λ deck. ToldInPart written written_after (BreaksOff c.args.limits.pages frames first last c.new-shelf.result.faults shelf.faults deck)))
    (untouched g.D.Disk.unseen (string_bytes c.args.folder) _ _ c.new-shelf.ensures.entered c.requires.unasked) runs)))

pub returns-in-Err-clause-nothing : goal.returns-in-Err-clause-nothing
returns-in-Err-clause-nothing g c =
    let shelf = c.run_on_shelf-shelf.result.0 in
    rw c.into_system-system.ensures.same
    (λ other.
    let nothing = (IfErr-at_err _ c.in-Err.is c.run_on_shelf-shelf.ensures.refused).nothing (λ is. other (c.of_run.ensures ∙ ap told_as is)) in (
      nothing.0,
      left_from_first g.D.Disk.unseen (string_bytes c.args.folder) _ _ c.new-shelf.ensures.entered c.requires.unasked
          (folder_state g.D.Disk.unseen (g.S.System.state shelf.system)) nothing.1,
    ))

pub returns-in-Err-clause-refused : goal.returns-in-Err-clause-refused
returns-in-Err-clause-refused g c =
    λ fault is. no_deck c.args.bytes.now c.in-Err.fault (IfErr-at_err _ c.in-Err.is c.run_on_shelf-shelf.ensures.refused).bytes_are fault (sym c.of_run.ensures ∙ is)

pub returns-in-Err-clause-fault : goal.returns-in-Err-clause-fault
returns-in-Err-clause-fault g c = rw c.of_run.ensures (run_fault c.in-Err.fault)

pub returns-in-Err-clause-sound : goal.returns-in-Err-clause-sound
returns-in-Err-clause-sound g c =
    let shelf = c.run_on_shelf-shelf.result.0 in
    rw c.into_system-system.ensures.same
    (sound_from_first g.D.Disk.unseen (string_bytes c.args.folder) _ _ c.new-shelf.ensures.entered c.requires.unasked
    (folder_state g.D.Disk.unseen (g.S.System.state shelf.system)) c.run_on_shelf-shelf.ensures.sound)
