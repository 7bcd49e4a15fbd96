use Rattle.std.proofs.Common.{Ok, Err, string_bytes, sym, subst}
use Rattle.std.proofs.lemmas.Result.{IfOk-at_ok, IfOk-weaker, IfErr-at_err}
use Rattle.file_control.specs.Description.{FileDesc}
use Rattle.folder_shelf.specs.Replay.{folder_state}
use Rattle.shelf_run.specs.ShelfRun.{LeavesFiles}
use Rattle.record_text.specs.Whole.{IsWholeForm}
use Rattle.command_line.specs.Loaded.{EndsLoadOf, LoadsFolder, load_source}
use Rattle.command_line.proofs.LoadingLemmas.{load_ended, load_failed}
use Rattle.command_line.proofs.loading.load_over_folder.Goals as goal

pub load_keeping-shelf-requires-clause-whole : goal.load_keeping-shelf-requires-clause-whole
load_keeping-shelf-requires-clause-whole g c = subst (λ (file : FileDesc). IsWholeForm c.args.form.now file.schema.greatest) (sym c.file.view_is) c.requires.whole

pub returns-in-Ok-clause-loads : goal.returns-in-Ok-clause-loads
returns-in-Ok-clause-loads g c =
    let shelf = c.load_keeping-shelf.result.0 in
    let system = g.S.System.state shelf.system in
    let first = folder_state g.D.Disk.unseen (g.S.System.state c.new-shelf.result.system) in
    let last = folder_state g.D.Disk.unseen system in
    let ends = IfOk-weaker c.load_keeping-shelf.result.1 _ (λ end. EndsLoadOf c.file.inside.file.bytes c.file.inside.schema c.args.load (load_source c.args.form.now c.args.text.now c.args.options) first end last)
    (λ end is. (is.0, is.2)) c.load_keeping-shelf.ensures.loads.ends in
    rw c.into_system-system.ensures.same
    (subst (λ (file : FileDesc). LoadsFolder g.D.Disk.unseen (string_bytes c.args.folder) file.file file.schema c.args.load (load_source c.args.form.now c.args.text.now c.args.options) system (Ok c.in-Ok.end)) c.file.view_is
    (load_ended g.D.Disk.unseen (string_bytes c.args.folder) _ _ c.new-shelf.ensures.entered c.requires.unasked
    system c.file.inside.file.bytes c.file.inside.schema c.args.load (load_source c.args.form.now c.args.text.now c.args.options) shelf.within c.in-Ok.end
    (IfOk-at_ok (λ end. EndsLoadOf c.file.inside.file.bytes c.file.inside.schema c.args.load (load_source c.args.form.now c.args.text.now c.args.options) first end last) c.in-Ok.is ends) c.load_keeping-shelf.ensures.loads.others c.load_keeping-shelf.ensures.loads.safe))

pub returns-in-Err-clause-loads : goal.returns-in-Err-clause-loads
returns-in-Err-clause-loads g c =
    let shelf = c.load_keeping-shelf.result.0 in
    let system = g.S.System.state shelf.system in
    let first = folder_state g.D.Disk.unseen (g.S.System.state c.new-shelf.result.system) in
    let last = folder_state g.D.Disk.unseen system in
    rw c.into_system-system.ensures.same
    (subst (λ (file : FileDesc). LoadsFolder g.D.Disk.unseen (string_bytes c.args.folder) file.file file.schema c.args.load (load_source c.args.form.now c.args.text.now c.args.options) system (Err c.told_fault.result)) c.file.view_is
    (load_failed g.D.Disk.unseen (string_bytes c.args.folder) _ _ c.new-shelf.ensures.entered c.requires.unasked
    system c.file.inside.file.bytes c.file.inside.schema c.args.load (load_source c.args.form.now c.args.text.now c.args.options) shelf.within c.told_fault.result
    (IfErr-at_err (λ _. LeavesFiles first last) c.in-Err.is c.load_keeping-shelf.ensures.loads.nothing) c.load_keeping-shelf.ensures.loads.others c.load_keeping-shelf.ensures.loads.safe))
