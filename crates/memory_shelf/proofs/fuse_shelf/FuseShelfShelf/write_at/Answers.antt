use Rattle.std.proofs.Common.{rules, List, length, Result, Ok, Err, OnOk, OnErr, ℕ, inr, arith}
use Rattle.page_store.specs.DeviceFile.{DeviceFile, content, overlay}
use Rattle.page_store.specs.Calls.{WrittenAt, WriteFails}
use Rattle.page_store.specs.ShelfState.{unit_file}
use Rattle.page_store.proofs.TornLemmas.{part_torn}
use Rattle.memory_shelf.proofs.fuse_shelf.FuseShelfShelf.write_at.Goals as goal

-- a write, done or failed, counts as one that failed once the fuse fails it
either : {T E T' E' : Type 0} (r : Result T E) (behind : Result T' E') (at : ℕ) (bytes : List ℕ) (f g : DeviceFile)
    → OnOk r (WrittenAt at bytes f g) → OnErr r (WriteFails at (length bytes) f g) → OnErr behind (WriteFails at (length bytes) f g)
either r (Ok v) at bytes f g done failed = tt
either (Ok v) (Err e) at bytes f g done failed =
    inr (overlay (content f) at bytes, part_torn (content f) at bytes bytes (omega arith), done.is)
either (Err d) (Err e) at bytes f g done failed = failed

pub returns-in-PerformAndFail : goal.returns-in-PerformAndFail
returns-in-PerformAndFail g c =
    let f = unit_file (g.S.Shelf.state c.args.self.now.inner) c.args.unit in
    let h = unit_file (g.S.Shelf.state c.write_at-done.new.self) c.args.unit in
    record {
      changes = record {
        done = search rules;
        failed = either c.write_at-done.result c.fail_behind.result c.args.at c.args.bytes.now f h c.write_at-done.ensures.done c.write_at-done.ensures.failed;
        only = search rules;
        cause = search rules;
      };
      fuse = search rules;
    }
