use Rattle.std.proofs.Common.{◌≡◌, refl, Result, Ok, Err, OnErr, inl}
use Rattle.page_store.specs.DeviceFile.{DeviceFile}
use Rattle.page_store.specs.Calls.{SyncFails}
use Rattle.memory_shelf.specs.MemFiles.{device_file_of}
use Rattle.memory_shelf.proofs.MemFilesLemmas.{changed, not_none, done_as, failed_as}
use Rattle.memory_shelf.proofs.memory_shelf.MemShelfShelf.sync.Goals as goal

pub unreachable-requires : goal.unreachable-requires
unreachable-requires c = not_none _ 0 (c.requires.file refl) c.in-None.ensures.found

-- the file is as it was
unchanged : {T E : Type 0} (r : Result T E) (f g : DeviceFile) → OnErr r (g ≡ f) → OnErr r (SyncFails f g)
unchanged (Ok v) f g same = tt
unchanged (Err e) f g same = inl same

pub returns : goal.returns
returns c =
    let f = c.index_mut-file.result.now in
    let d = changed c.args.self.now.files.items _ c.in-Some.place f c.sync-done.new.self c.in-Some.ensures.found c.index_mut-file.ensures.value c.sync-done.ensures.name in
    record {
      done = rw (d.was, d.this) (done_as _ _ _ c.counted.ensures.same c.sync-done.ensures.done);
      failed = rw (d.was, d.this) (failed_as _ _ _ c.counted.ensures.same (unchanged c.sync-done.result (device_file_of f) (device_file_of c.sync-done.new.self) c.sync-done.ensures.failed));
      only = record { names = refl; others = d.others; honest = refl };
      cause = c.counted.ensures.cause;
    }
