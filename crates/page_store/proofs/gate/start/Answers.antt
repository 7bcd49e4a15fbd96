use Rattle.std.proofs.Common.{rules, ◌∙◌, sym, ap, inr}
use Rattle.page_store.specs.ShelfState.{unit_file}
use Rattle.page_store.proofs.StartLemmas.{starting_failed, starting_done, opens_started}
use Rattle.page_store.specs.DeviceFile.{DeviceFile}
use Rattle.page_store.proofs.FailedLemmas.{at_err, making_seen, beginning_seen}
use Rattle.page_store.proofs.FileLemmas.{absent_image}
use Rattle.page_store.proofs.gate.start.Goals as goal

pub returns-in_err-create : goal.returns-in_err-create
returns-in_err-create g c = record {
  images = search rules;
  opens = search rules;
  failed = at_err _ _ _ (λ honest. making_seen _ _ c.in_err-create.ensures.failed);
  only = search rules;
  cause = search rules;
}

pub returns-in_err-write : goal.returns-in_err-write
returns-in_err-write g c =
    let f = unit_file (g.S.Shelf.state c.args.shelf.now) c.args.unit in
    let same = sym (c.write.ensures.only.honest ∙ c.create.ensures.only.honest) in
    record {
      images = λ honest.
          let none = absent_image f (c.requires.file (same ∙ honest)) (g.met.S.Shelf.reads_an_image c.args.shelf.now _ (same ∙ honest)) in
          starting_failed f none _ _ c.in_ok-create.ensures.done c.in_err-write.ensures.failed;
      opens = search rules;
      failed = at_err _ _ _ (λ honest.
          inr (beginning_seen _ _ (ap (λ (f : DeviceFile). f.seen) c.in_ok-create.ensures.done.is) c.in_err-write.ensures.failed));
      only = search rules;
      cause = search rules;
    }

pub returns : goal.returns
returns g c =
    let f = unit_file (g.S.Shelf.state c.args.shelf.now) c.args.unit in
    let same = sym (c.write.ensures.only.honest ∙ c.create.ensures.only.honest) in
    record {
      images = λ honest.
          let none = absent_image f (c.requires.file (same ∙ honest)) (g.met.S.Shelf.reads_an_image c.args.shelf.now _ (same ∙ honest)) in
          starting_done f none _ _ c.in_ok-create.ensures.done c.in_ok-write.ensures.done;
      opens = λ honest. opens_started f _ _ (c.requires.file (same ∙ honest)) c.in_ok-create.ensures.done c.in_ok-write.ensures.done;
      failed = tt;
      only = search rules;
      cause = search rules;
    }
