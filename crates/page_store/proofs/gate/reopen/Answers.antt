use Rattle.std.proofs.Common.{rules, ◌≡◌, ◌∙◌, sym, subst, length, arith, inl, inr, ap}
use Rattle.page_store.specs.DeviceFile.{DeviceFile}
use Rattle.page_store.specs.Calls.{Synced, SyncFails}
use Rattle.page_store.specs.Gate.{GateWritten, GateFails, WasOrRefused}
use Rattle.page_store.proofs.GateImageLemmas.{opening_failed, opening_done, sync_failed}
use Rattle.page_store.proofs.StartLemmas.{opens_closed}
use Rattle.page_store.specs.ShelfState.{unit_file}
use Rattle.page_store.proofs.FailedLemmas.{at_err, opening_seen, syncing_seen, only_same, only_synced, only_unsynced, only_gate, only_failed}
use Rattle.page_store.proofs.FileLemmas.{there_image}
use Rattle.page_store.proofs.GateLemmas.{closed_from, opens_from, same_file}
use Rattle.page_store.proofs.gate.reopen.Goals as goal

pub returns-in_err-read_at : goal.returns-in_err-read_at
returns-in_err-read_at g c =
    let same = same_file (g.S.Shelf.state c.args.shelf.now) (g.S.Shelf.state c.read_at.new.self) c.args.unit c.read_at.ensures.only in
    record {
      images = search rules;
      opens = search rules;
      failed = search rules;
      gate = λ honest. only_same _ _ (c.requires.file (c.read_at.ensures.only.honest honest)) (ap (λ (x : DeviceFile). x.seen) same);
      only = search rules;
      cause = search rules;
    }

pub returns-in_err-write : goal.returns-in_err-write
returns-in_err-write g c =
    let f = unit_file (g.S.Shelf.state c.args.shelf.now) c.args.unit in
    let h = unit_file (g.S.Shelf.state c.write.new.shelf) c.args.unit in
    let one : length c.read_at.new.bytes ≡ 1 = search rules in
    let same = same_file (g.S.Shelf.state c.args.shelf.now) (g.S.Shelf.state c.read_at.new.self) c.args.unit c.read_at.ensures.only in
    let fails = subst (λ (x : DeviceFile). GateFails 68 x h) same c.in_err-write.ensures.failed in
    record {
      images = λ honest.
          let then = sym c.write.ensures.only.honest ∙ honest in
          let was = c.read_at.ensures.only.honest then in
          let within = c.requires.file was in
          let closed = closed_from f c.read_at.new.bytes one within (c.in_ok-read_at.ensures.answer then) c.if-first-eq-CLOSED.true in
          opening_failed f closed (there_image 1 f within (g.met.S.Shelf.reads_an_image c.args.shelf.now _ was)) h fails;
      opens = search rules;
      failed = at_err _ _ _ (λ honest.
          let then = sym c.write.ensures.only.honest ∙ honest in
          let within = c.requires.file (c.read_at.ensures.only.honest then) in
          opening_seen f h (closed_from f c.read_at.new.bytes one within (c.in_ok-read_at.ensures.answer then) c.if-first-eq-CLOSED.true) fails);
      gate = λ honest.
          only_failed f h (c.requires.file (c.read_at.ensures.only.honest (sym c.write.ensures.only.honest ∙ honest))) fails;
      only = search rules;
      cause = search rules;
    }

pub returns-in_ok-write : goal.returns-in_ok-write
returns-in_ok-write g c =
    let f = unit_file (g.S.Shelf.state c.args.shelf.now) c.args.unit in
    let h = unit_file (g.S.Shelf.state c.write.new.shelf) c.args.unit in
    let one : length c.read_at.new.bytes ≡ 1 = search rules in
    let same = same_file (g.S.Shelf.state c.args.shelf.now) (g.S.Shelf.state c.read_at.new.self) c.args.unit c.read_at.ensures.only in
    let done = subst (λ (x : DeviceFile). GateWritten 68 x h) same c.in_ok-write.ensures.done in
    record {
      images = λ honest.
          let then = sym c.write.ensures.only.honest ∙ honest in
          let was = c.read_at.ensures.only.honest then in
          let within = c.requires.file was in
          let closed = closed_from f c.read_at.new.bytes one within (c.in_ok-read_at.ensures.answer then) c.if-first-eq-CLOSED.true in
          opening_done f closed (there_image 1 f within (g.met.S.Shelf.reads_an_image c.args.shelf.now _ was)) h done;
      opens = λ honest.
          let then = sym c.write.ensures.only.honest ∙ honest in
          let within = c.requires.file (c.read_at.ensures.only.honest then) in
          opens_closed f h (closed_from f c.read_at.new.bytes one within (c.in_ok-read_at.ensures.answer then) c.if-first-eq-CLOSED.true) done;
      failed = tt;
      gate = λ honest.
          only_gate f h (c.requires.file (c.read_at.ensures.only.honest (sym c.write.ensures.only.honest ∙ honest))) done;
      only = search rules;
      cause = search rules;
    }

pub returns-in_err-sync : goal.returns-in_err-sync
returns-in_err-sync g c =
    let f = unit_file (g.S.Shelf.state c.args.shelf.now) c.args.unit in
    let h = unit_file (g.S.Shelf.state c.sync.new.self) c.args.unit in
    let same = same_file (g.S.Shelf.state c.args.shelf.now) (g.S.Shelf.state c.read_at.new.self) c.args.unit c.read_at.ensures.only in
    let fails = subst (λ (x : DeviceFile). SyncFails x h) same c.in_err-sync.ensures.failed in
    record {
      images = λ honest.
          let was = c.read_at.ensures.only.honest (sym c.sync.ensures.only.honest ∙ honest) in
          sync_failed (WasOrRefused f) f h (λ image may. inl may) (inl (there_image 1 f (c.requires.file was) (g.met.S.Shelf.reads_an_image c.args.shelf.now _ was))) fails;
      opens = search rules;
      failed = at_err _ _ _ (λ honest.
          let within = c.requires.file (c.read_at.ensures.only.honest (sym c.sync.ensures.only.honest ∙ honest)) in
          syncing_seen f h (record { there = within.there; long = omega arith }) fails);
      gate = λ honest.
          only_unsynced f h (c.requires.file (c.read_at.ensures.only.honest (sym c.sync.ensures.only.honest ∙ honest))) fails;
      only = search rules;
      cause = search rules;
    }

pub returns-in_ok-sync : goal.returns-in_ok-sync
returns-in_ok-sync g c =
    let f = unit_file (g.S.Shelf.state c.args.shelf.now) c.args.unit in
    let h = unit_file (g.S.Shelf.state c.sync.new.self) c.args.unit in
    let one : length c.read_at.new.bytes ≡ 1 = search rules in
    let same = same_file (g.S.Shelf.state c.args.shelf.now) (g.S.Shelf.state c.read_at.new.self) c.args.unit c.read_at.ensures.only in
    let done = subst (λ (x : DeviceFile). Synced x h) same c.in_ok-sync.ensures.done in
    record {
      images = λ honest.
          let was = c.read_at.ensures.only.honest (sym c.sync.ensures.only.honest ∙ honest) in
          sync_failed (WasOrRefused f) f h (λ image may. inl may) (inl (there_image 1 f (c.requires.file was) (g.met.S.Shelf.reads_an_image c.args.shelf.now _ was))) (inr done);
      opens = λ honest.
          let then = sym c.sync.ensures.only.honest ∙ honest in
          let within = c.requires.file (c.read_at.ensures.only.honest then) in
          opens_from f h c.read_at.new.bytes one within (c.in_ok-read_at.ensures.answer then) c.if-first-eq-CLOSED.false done;
      failed = tt;
      gate = λ honest.
          only_synced f h (c.requires.file (c.read_at.ensures.only.honest (sym c.sync.ensures.only.honest ∙ honest))) done;
      only = search rules;
      cause = search rules;
    }
