use Rattle.std.proofs.Common.{rules, Some, ◌≡◌, ◌∙◌, sym, ap, Result, Ok, Err, OnOk, OnErr}
use Rattle.page_store.specs.DeviceFile.{DeviceFile, content}
use Rattle.page_store.specs.Images.{Leaves, IsSettled}
use Rattle.page_store.specs.Calls.{Synced}
use Rattle.page_store.specs.Moments.{Throughout}
use Rattle.page_store.specs.Gate.{GateWritten, GateFails, AllRefused, ClosedOrRefused, with_gate}
use Rattle.page_store.proofs.GateImageLemmas.{closing_done, closing_failed, gate_content, gate_settled, content_synced}
use Rattle.page_store.specs.ShelfState.{unit_file}
use Rattle.page_store.proofs.FileLemmas.{there_image}
use Rattle.page_store.proofs.store.Store.finish.Goals as goal

-- done or failed
either : {T E : Type 0} (r : Result T E) (f m h : DeviceFile) → AllRefused f → Leaves f (Some (content f)) → Synced f m → OnOk r (GateWritten 67 m h) → OnErr r (GateFails 67 m h) → Throughout (ClosedOrRefused f) f h
either (Ok v) f m h shut read so done failed = closing_done f shut read m h so done
either (Err e) f m h shut read so done failed = closing_failed f shut read m h so failed

after_close : {T E : Type 0} (r : Result T E) (f m h : DeviceFile) → Synced f m → OnOk r (GateWritten 67 m h) → OnOk r ((content h ≡ with_gate 67 (content f)) × IsSettled h)
after_close (Ok v) f m h so w = (gate_content 67 m h w ∙ ap (with_gate 67) (content_synced f m so), gate_settled 67 m h w)
after_close (Err e) f m h so w = tt

pub returns : goal.returns
returns g c =
    let f = unit_file (g.S.Shelf.state c.args.shelf.now) c.args.self.now.unit in
    let m = unit_file (g.S.Shelf.state c.sync.new.self) c.args.self.now.unit in
    let h = unit_file (g.S.Shelf.state c.write.new.shelf) c.args.self.now.unit in
    record {
      images = λ honest shut.
          let was = sym (c.write.ensures.only.honest ∙ c.sync.ensures.only.honest) ∙ honest in
          let read = there_image 0 f (c.requires.file was) (g.met.S.Shelf.reads_an_image c.args.shelf.now _ was) in
          either c.write.result f m h shut read c.in_ok-sync.ensures.done c.write.ensures.done c.write.ensures.failed;
      closed = after_close c.write.result f m h c.in_ok-sync.ensures.done c.write.ensures.done;
      only = search rules;
      cause = search rules;
    }
