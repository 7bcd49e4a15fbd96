use Rattle.std.proofs.Common.{refl, sym}
use Rattle.memory_shelf.proofs.MemFilesLemmas.{changed, not_none, done_as, failed_as}
use Rattle.memory_shelf.proofs.memory_shelf.MemShelfShelf.write_at.Goals as goal

pub write-done-requires : goal.write-done-requires
write-done-requires c =
    let found = c.in-Some.ensures.found in
    rw (sym c.index_mut-file.ensures.value) at (found.within c.index_mut-file.result.now c.args.at (c.requires.file refl))

pub unreachable-requires : goal.unreachable-requires
unreachable-requires c = not_none _ c.args.at (c.requires.file refl) c.in-None.ensures.found

pub returns : goal.returns
returns c =
    let f = c.index_mut-file.result.now in
    let d = changed c.args.self.now.files.items _ c.in-Some.place f c.write-done.new.self c.in-Some.ensures.found c.index_mut-file.ensures.value c.write-done.ensures.name in
    record {
      done = rw (d.was, d.this) (done_as _ _ _ c.counted.ensures.same c.write-done.ensures.done);
      failed = rw (d.was, d.this) (failed_as _ _ _ c.counted.ensures.same c.write-done.ensures.failed);
      only = record { names = refl; others = d.others; honest = refl };
      cause = c.counted.ensures.cause;
    }
